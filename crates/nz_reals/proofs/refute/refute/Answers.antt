use Rattle.std.proofs.Common.{◌≡◌, List, sym, subst, Some}
use Rattle.std.specs.Prelude.{All, slice_get}
use Rattle.std.proofs.lemmas.List.Elements.{All-from_recursion}
use Rattle.nz_spec.specs.clauses.Steps.{farkas_step}
use Rattle.nz_term.specs.Stops.{IsStopAt}
use Rattle.nz_lin.specs.declared.bound.Bound.{Bound}
use Rattle.nz_log.specs.declared.atoms.Atom.{Atom}
use Rattle.nz_log.specs.declared.atoms.Atom.TheVariants.{AtMost}
use Rattle.nz_log.specs.declared.multiples.LitMultiple.{LitMultiple}
use Rattle.nz_log.specs.Axioms.{AreMultiplesIn, first_wide_in_step, multiples_in}
use Rattle.nz_reals.specs.Tells.{AreBoundsOf}
use Rattle.nz_reals.proofs.Contradictions.{contradict_in}
use Rattle.nz_reals.proofs.RefutationClauses.{all_bounds, all_in, clash_is, sum_stops, told_then}
use Rattle.nz_reals.proofs.SumOrders.{sums_in_order}
use Rattle.nz_reals.proofs.refute.refute.Goals as goal

pub farkas-requires-clause-multiples : goal.farkas-requires-clause-multiples
farkas-requires-clause-multiples c = λ ns table among. (contradict_in c.args.theory.now c.args.log.now.atoms c.requires.of.0 c.args.multiples.now c.stored.ensures.forms c.requires.of.1 c.requires.known c.requires.refutes
    c.contradictions_stay.ensures.stay c.sums_stay.ensures.stay c.term_has_its_number.ensures.number c.tells_literals.ensures.tells ns table among).multiples

pub farkas-requires-clause-contradiction : goal.farkas-requires-clause-contradiction
farkas-requires-clause-contradiction c = λ ns table among. (contradict_in c.args.theory.now c.args.log.now.atoms c.requires.of.0 c.args.multiples.now c.stored.ensures.forms c.requires.of.1 c.requires.known c.requires.refutes
    c.contradictions_stay.ensures.stay c.sums_stay.ensures.stay c.term_has_its_number.ensures.number c.tells_literals.ensures.tells ns table among).contradiction

pub bounds_of-requires : goal.bounds_of-requires
bounds_of-requires c = record {
  bounds =
      subst (λ (atoms : List Atom). All (λ (m : LitMultiple). (b : Bound) × (slice_get atoms m.literal.atom ≡ Some (AtMost b))) c.args.multiples.now) (sym c.farkas.ensures.atoms)
      (All-from_recursion (λ (m : LitMultiple). (b : Bound) × (slice_get c.args.log.now.atoms m.literal.atom ≡ Some (AtMost b))) c.args.multiples.now
      (all_bounds c.args.theory.now c.args.log.now.atoms c.requires.of.0 c.requires.of.1 c.args.multiples.now c.requires.known));
}

pub returns-in-Ok-clause-clash : goal.returns-in-Ok-clause-clash
returns-in-Ok-clause-clash c = λ ls among.
    clash_is c.args.log.now c.farkas.new.self c.in-Ok.clause c.args.multiples.now ls c.tells_lits.ensures.tells c.in-Ok.ensures.made among

pub returns-in-Ok-clause-grows : goal.returns-in-Ok-clause-grows
returns-in-Ok-clause-grows c = λ told.
    c.in-Ok.ensures.grows (told_then c.args.log.now c.farkas.new.self c.args.multiples.now c.tells_lits.ensures.tells c.farkas.ensures.atoms c.in-Ok.ensures.made.told told)

pub returns-in_ok-bounds-in-Err-Wide-clause-place : goal.returns-in_ok-bounds-in-Err-Wide-clause-place
returns-in_ok-bounds-in-Err-Wide-clause-place c = λ ns over.
    let t = c.args.theory.now in
    let ms = c.args.multiples.now in
    let atoms = c.args.log.now.atoms in
    let among = all_in t atoms c.requires.of.0 c.requires.of.1 ns over ms c.requires.known in
    let bounds : AreBoundsOf ns atoms ms c.in_ok-bounds-in-Err-Wide.bounds.items =
    subst (λ (list : List Atom). AreMultiplesIn ns list ms → AreBoundsOf ns list ms c.in_ok-bounds-in-Err-Wide.bounds.items) c.farkas.ensures.atoms (c.in_ok-bounds-in-Err-Wide.ensures.bounds ns) among in
    sum_stops ns t atoms c.requires.of.0 ms c.in-Err-Wide.wide c.in_ok-bounds-in-Err-Wide.bounds c.stopped.result c.requires.of.1 c.requires.known over
    (sums_in_order ns over.table c.term_has_its_number.ensures.number t atoms c.requires.of.0 c.requires.of.1 c.tells_literals.ensures.tells c.sums_stay.ensures.stay ms c.requires.known among)
    (contradict_in c.args.theory.now c.args.log.now.atoms c.requires.of.0 c.args.multiples.now c.stored.ensures.forms c.requires.of.1 c.requires.known c.requires.refutes
    c.contradictions_stay.ensures.stay c.sums_stay.ensures.stay c.term_has_its_number.ensures.number c.tells_literals.ensures.tells ns over.table among) c.stopped.ensures.left c.stopped.ensures.right (subst (IsStopAt (first_wide_in_step ns (farkas_step (multiples_in ns atoms ms)))) c.in-Err-Wide.field-0-is (c.in-Err-Wide.ensures.stop ns over.table among)) bounds c.stopped.ensures.stop
