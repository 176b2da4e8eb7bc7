-- The rows where the condition is true, and those where it is false.
use Rattle.std.proofs.Common.{subst}
use Rattle.nz_spec.specs.terms.FormOf.{number_in}
use Rattle.nz_spec.specs.clauses.Gates.{fails, holds}
use Rattle.nz_spec.specs.terms.Table.{term_in}
use Rattle.nz_term.specs.declared.term_lits.TermLit.{TermLit}
use Rattle.nz_rows.specs.Meanings.{equal_rows}
use Rattle.nz_rows.specs.Rows.{ComeOfRows}
use Rattle.nz_term.specs.TermLits.{literal_of}
use Rattle.nz_rows.proofs.units.choice_rows.Goals as goal

pub returns : goal.returns
returns c =
    let ns = c.args.terms.now in
    let number = number_in ns in
    let t = term_in ns c.args.condition in
    let u = term_in ns c.args.unit in
    let a = term_in ns c.args.left in
    let b = term_in ns c.args.right in
    record {
      rows = c.joined.ensures.rows ns (equal_rows number (fails t) u a) (equal_rows number (holds t) u b)
          (subst (λ (l : TermLit). ComeOfRows ns (equal_rows number (literal_of ns l) u a) c.equal_rows-chosen.result) c.fails.ensures.literal c.equal_rows-chosen.ensures.rows)
          (subst (λ (l : TermLit). ComeOfRows ns (equal_rows number (literal_of ns l) u b) c.equal_rows.result) c.holds.ensures.literal c.equal_rows.ensures.rows);
    }
