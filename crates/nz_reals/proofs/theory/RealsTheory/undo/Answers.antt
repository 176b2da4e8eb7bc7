use Rattle.std.proofs.Common.{◌≡◌, List, Some, take, sym, ap, ◌∙◌, subst}
use Rattle.std.specs.Prelude.{slice_get}
use Rattle.std.specs.HashMap.{get}
use Rattle.nz_log.specs.Keys.{are_same_atom}
use Rattle.std.proofs.lemmas.Option.{slice_get-get_or}
use Rattle.nz_reals.specs.declared.reals.MarkedLiteral.{MarkedLiteral}
use Rattle.nz_simplex.specs.State.{State}
use Rattle.nz_reals.specs.Stands.{IsAt, IsOf}
use Rattle.nz_reals.specs.State.{Theory, told_lits}
use Rattle.nz_reals.proofs.FewerBounds.{feasible_undone}
use Rattle.nz_reals.proofs.KnownAtoms.{of_kept, told_then}
use Rattle.nz_reals.proofs.TheoryPositions.{undone_at}
use Rattle.nz_reals.proofs.Tolds.{IsUndone, stored_undone}
use Rattle.nz_reals.proofs.theory.RealsTheory.undo.Goals as goal

abbrev before : goal.After-truncate → Theory
before c = record { simplex = c.self.inside.simplex; known = c.self.inside.bounded; told = c.self.inside.told.items }

abbrev after : goal.After-truncate → Theory
after c = record { simplex = c.undo.new.self; known = c.self.inside.bounded; told = c.truncate.new.self.items }

undone : (c : goal.After-truncate) → IsUndone (before c) (after c) c.args.mark c.in-Some.first.now
undone c =
    let at : slice_get c.self.inside.told.items c.args.mark ≡ Some c.in-Some.first.now =
    (let l = c.in-Some.ensures.lookup in
    subst (λ (ts : List MarkedLiteral). slice_get ts c.args.mark ≡ Some c.in-Some.first.now) c.deref.ensures.value
    (slice_get-get_or c.deref.result.now c.args.mark c.in-Some.first.now l.3.0 ∙ ap Some (sym l.1))) in
    record { at = at; known = λ i. (before c).known; told = c.truncate.ensures.items; simplex = c.undo.ensures.front }

pub invariant_of-self : goal.invariant_of-self
invariant_of-self c = (
  stored_undone (get are_same_atom c.self.inside.forms) (before c) (after c) c.args.mark c.in-Some.first.now c.self.invariant.0 (undone c),
  λ known. feasible_undone c.infinitesimals_are_ordered.ensures.ordered (before c) (after c) c.args.mark c.in-Some.first.now (undone c) (c.self.invariant.1 known),
)

pub returns-in-Some-clause-told : goal.returns-in-Some-clause-told
returns-in-Some-clause-told c = λ ls told less.
    let lits : told_lits (after c) ≡ take c.args.mark (told_lits (before c)) =
    ap (λ ts. told_lits (record (after c) { told = ts })) c.truncate.ensures.items ∙ told_then c.self.inside.told.items c.args.mark in
    lits ∙ ap (take c.args.mark) (ap told_lits c.self.view_is ∙ told)

pub returns-in-Some-clause-of : goal.returns-in-Some-clause-of
returns-in-Some-clause-of c = λ atoms ids of.
    of_kept (before c) (after c) atoms ids (λ i. (before c).known) (ap (λ (s : State). s.forms) c.undo.ensures.front) (subst (λ (t : Theory). IsOf t atoms ids) (sym c.self.view_is) of)

pub returns-in-Some-clause-at : goal.returns-in-Some-clause-at
returns-in-Some-clause-at c = λ ns fs ls x at less.
    undone_at (before c) (after c) c.args.mark c.in-Some.first.now c.self.invariant.0.tolds (undone c) ns fs ls x (subst (λ (t : Theory). IsAt t ns fs ls x) (sym c.self.view_is) at)
