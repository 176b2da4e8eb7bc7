-- The three rows, over the difference from either side.
use Rattle.std.proofs.Common.{◌∷◌, []}
use Rattle.nz_spec.specs.numbers.Computation.{at_once}
use Rattle.nz_spec.specs.terms.FormOf.{form_of, number_in}
use Rattle.nz_spec.specs.clauses.Gates.{fails, holds}
use Rattle.nz_spec.specs.clauses.Links.{at_most_literal, below_literal, minus}
use Rattle.nz_spec.specs.terms.Table.{term_in}
use Rattle.nz_rows.specs.Rows.{Row}
use Rattle.nz_term.specs.TermLits.{no, yes}
use Rattle.nz_rows.proofs.RowLists.{on_term}
use Rattle.nz_rows.proofs.links.number_rows.Goals as goal

pub returns : goal.returns
returns c =
    let ns = c.args.terms.now in
    let number = number_in ns in
    let t = c.args.term in
    let a = term_in ns c.args.left in
    let b = term_in ns c.args.right in
    let x = minus number (form_of number a) (form_of number b) in
    let y = minus number (form_of number b) (form_of number a) in
    let most = at_most_literal number a b in
    let least = at_most_literal number b a in
    let below = below_literal number a b in
    let above = below_literal number b a in
    let differ = c.in_ok-forward.ensures.differ in
    let first : Row = at_once (fails (term_in ns t)) ∷ most ∷ [] in
    let second : Row = at_once (fails (term_in ns t)) ∷ least ∷ [] in
    record {
      rows = c.then_row.ensures.rows ns (first ∷ second ∷ []) (at_once (holds (term_in ns t)) ∷ below ∷ above ∷ [])
          (c.two_rows.ensures.rows ns first second
          (on_term ns c.fails-fails.result (no t) c.fails-fails.ensures.literal (most ∷ []) c.pair-first.result
          (λ within. c.pair-first.ensures.row ns most within (c.at_most_zero.ensures.literal ns x (c.copied.ensures.formed ns x differ.0))) c.requires.term)
          (on_term ns c.fails-fails.result (no t) c.fails-fails.ensures.literal (least ∷ []) c.pair-second.result
          (λ within. c.pair-second.ensures.row ns least within (c.at_most_zero-2.ensures.literal ns y (c.copied-2.ensures.formed ns y differ.1))) c.requires.term))
          (on_term ns c.holds.result (yes t) c.holds.ensures.literal (below ∷ above ∷ []) c.triple-third.result
          (λ within. c.triple-third.ensures.row ns below above within (c.below_zero.ensures.literal ns x differ.0) (c.below_zero-2.ensures.literal ns y differ.1)) c.requires.term);
    }
