-- What is marked at the number is known of its term.
use Rattle.std.proofs.Common.{◌≡◌, ◌<◌, length, nat_eq, sym, ap, ◌∙◌, arith}
use Rattle.std.specs.HashMap.{get}
use Rattle.nz_term.specs.declared.facts.Fact.{Fact}
use Rattle.nz_term.specs.Facts.{fact_at}
use Rattle.nz_term.specs.Marks.{fact_by}
use Rattle.nz_term.proofs.FactMarks.{length-facts, read}
use Rattle.nz_term.proofs.fact_table.Facts.is_linear.Goals as goal

pub index-requires : goal.index-requires
index-requires c =
    omega (arith, ap length c.self.view_is, length-facts (get nat_eq c.self.inside.values) 0 c.self.inside.marks.items, c.self.inside.marks.ok.0)

pub returns : goal.returns
returns c =
    let f = get nat_eq c.self.inside.values in
    let ms = c.self.inside.marks.items in
    let m = c.index.result.now in
    let below : c.args.id < length ms = omega (arith, ap length c.self.view_is, length-facts f 0 ms) in
    let there : fact_at c.args.self.now c.args.id ≡ fact_by (f c.args.id) m =
    ap (λ l. fact_at l c.args.id) (sym c.self.view_is) ∙ read f ms c.args.id m below c.index.ensures in
    record { linear = sym (ap (λ (x : Fact). x.is_linear) there) }
