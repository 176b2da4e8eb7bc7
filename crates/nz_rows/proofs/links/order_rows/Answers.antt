-- The two rows, over the difference from either side.
use Rattle.std.proofs.Common.{◌∷◌, [], not}
use Rattle.nz_spec.specs.numbers.Computation.{at_once, turned_into}
use Rattle.nz_spec.specs.terms.FormOf.{form_of, number_in}
use Rattle.nz_spec.specs.clauses.Gates.{fails, holds}
use Rattle.nz_spec.specs.clauses.Links.{minus}
use Rattle.nz_spec.specs.terms.Table.{term_in}
use Rattle.nz_rows.specs.Comparisons.{limit_of}
use Rattle.nz_term.specs.TermLits.{no, yes}
use Rattle.nz_rows.proofs.RowLists.{on_term}
use Rattle.nz_rows.proofs.links.order_rows.Goals as goal

pub returns : goal.returns
returns c =
    let ns = c.args.terms.now in
    let number = number_in ns in
    let t = c.args.term in
    let forward = minus number (form_of number (term_in ns c.args.left)) (form_of number (term_in ns c.args.right)) in
    let backward = minus number (form_of number (term_in ns c.args.right)) (form_of number (term_in ns c.args.left)) in
    let first = turned_into (limit_of c.args.strict) forward in
    let second = turned_into (limit_of (not c.args.strict)) backward in
    let differ = c.in_ok-forward.ensures.differ in
    record {
      rows = c.two_rows.ensures.rows ns (at_once (fails (term_in ns t)) ∷ first ∷ []) (at_once (holds (term_in ns t)) ∷ second ∷ [])
          (on_term ns c.fails.result (no t) c.fails.ensures.literal (first ∷ []) c.pair-below.result
          (λ within. c.pair-below.ensures.row ns first within (c.limited.ensures.literal ns forward differ.0)) c.requires.term)
          (on_term ns c.holds.result (yes t) c.holds.ensures.literal (second ∷ []) c.pair-above.result
          (λ within. c.pair-above.ensures.row ns second within (c.limited-2.ensures.literal ns backward differ.1)) c.requires.term);
    }
