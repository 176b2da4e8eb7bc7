-- The two rows, over the difference from either side.
use Rattle.std.proofs.Common.{◌∷◌, []}
use Rattle.nz_spec.specs.numbers.Computation.{at_once}
use Rattle.nz_spec.specs.terms.FormOf.{form_of, number_in}
use Rattle.nz_spec.specs.clauses.Links.{at_most_literal, minus}
use Rattle.nz_spec.specs.terms.Table.{term_in}
use Rattle.nz_term.specs.TermLits.{literal_of}
use Rattle.nz_rows.proofs.units.equal_rows.Goals as goal

pub returns : goal.returns
returns c =
    let ns = c.args.terms.now in
    let number = number_in ns in
    let l = literal_of ns c.args.literal in
    let a = term_in ns c.args.left in
    let b = term_in ns c.args.right in
    let f = form_of number a in
    let g = form_of number b in
    let first = at_most_literal number a b in
    let second = at_most_literal number b a in
    let differ = c.in_ok-forward.ensures.differ in
    record {
      rows = c.two_rows.ensures.rows ns (at_once l ∷ first ∷ []) (at_once l ∷ second ∷ [])
          (c.pair-below.ensures.row ns first c.requires.literal (c.at_most_zero.ensures.literal ns (minus number f g) differ.0))
          (c.pair-above.ensures.row ns second c.requires.literal (c.at_most_zero-2.ensures.literal ns (minus number g f) differ.1));
    }
