-- The marks with one more, and its value where it is a constant.
use Rattle.std.proofs.Common.{◌≡◌, [], ◌∷◌, ◌++◌, length, nat_eq, sym, ap, ◌∙◌, arith, rules}
use Rattle.std.specs.Prelude.{is_some}
use Rattle.std.specs.HashMap.{get}
use Rattle.nz_term.specs.Marks.{facts_by}
use Rattle.nz_term.proofs.FactMarks.{agreeing, on_err, put}
use Rattle.nz_term.proofs.fact_table.Facts.push.Goals as goal

pub returns-in_err-keep-clause-unchanged : goal.returns-in_err-keep-clause-unchanged
returns-in_err-keep-clause-unchanged c =
    on_err c.from_residual.result
    (agreeing (get nat_eq c.keep.new.values) (get nat_eq c.self.inside.values) 0 c.self.inside.marks.items (λ i below. c.keep.ensures.others i (omega arith))
    ∙ c.self.view_is)

pub returns-in_err-push-clause-unchanged : goal.returns-in_err-push-clause-unchanged
returns-in_err-push-clause-unchanged c =
    let same : c.push.new.self.items ≡ c.self.inside.marks.items = search rules in
    on_err c.from_residual-in_err-push.result
    (ap (facts_by (get nat_eq c.keep.new.values) 0) same
    ∙ agreeing (get nat_eq c.keep.new.values) (get nat_eq c.self.inside.values) 0 c.self.inside.marks.items (λ i below. c.keep.ensures.others i (omega arith))
    ∙ c.self.view_is)

pub returns-clause-grown : goal.returns-clause-grown
returns-clause-grown c =
    let f = get nat_eq c.self.inside.values in
    let g = get nat_eq c.keep.new.values in
    let ms = c.self.inside.marks.items in
    let fact = c.args.fact in
    let count : c.len.result ≡ length ms = search rules in
    let test : c.is_some.result ≡ is_some fact.constant = search rules in
    ap (facts_by g 0) c.in_ok-push.ensures.items
    ∙ ap (λ b. facts_by g 0 (ms ++ record { is_constant = b; is_linear = fact.is_linear; holds_integer = fact.holds_integer } ∷ [])) test
    ∙ put f g ms fact.constant fact.is_linear fact.holds_integer (λ i below. c.keep.ensures.others i (omega arith)) (λ e. ap g (sym count) ∙ c.in_ok-keep.ensures.kept e)
    ∙ ap (λ l. l ++ fact ∷ []) c.self.view_is
