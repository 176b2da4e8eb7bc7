-- A nonbasic form without bounds stands at 0, and the basic forms follow.
use Rattle.std.proofs.Common.{◌≡◌, ℕ, ◌<◌, List, ◌∷◌, [], length, Option, None, sym, ap, ◌∙◌, subst, arith, refl}
use Rattle.std.specs.Prelude.{IsSome, slice_index_or, vec_capacity}
use Rattle.nz_simplex.specs.Moves.{IsSettled}
use Rattle.nz_simplex.specs.State.{State, nonbasic_in}
use Rattle.nz_simplex.specs.Stored.{IsStored, state_of}
use Rattle.nz_simplex.proofs.Exchanges.{written_back}
use Rattle.nz_simplex.proofs.Pointed.{some_at}
use Rattle.nz_simplex.proofs.SettledForms.{marked_inside, settled_shown}
use Rattle.nz_simplex.proofs.StoredStates.{stored_again}
use Rattle.nz_simplex.proofs.simplex.Simplex.settle_one.Goals as goal

pub move_to-requires-clause-known : goal.move_to-requires-clause-known
move_to-requires-clause-known g c =
    subst (λ (n : ℕ). c.args.var < n) c.self.invariant.sound.marked
    (marked_inside c.self.inside.tab.grid.marks c.args.var (ap (λ (s : State). nonbasic_in s c.args.var) c.self.view_is ∙ c.requires.nonbasic))

pub move_to-requires-clause-nonbasic : goal.move_to-requires-clause-nonbasic
move_to-requires-clause-nonbasic g c = ap (λ (s : State). nonbasic_in s c.args.var) c.self.view_is ∙ c.requires.nonbasic

pub move_to-requires-clause-some : goal.move_to-requires-clause-some
move_to-requires-clause-some g c =
    subst (λ (vs : List (Option g.row.S.Denot)). IsSome (slice_index_or vs c.args.var None)) (sym c.as_mut_slice.ensures.value)
    (some_at g.S.Coordinate.stands_for c.self.inside.values.items c.args.var
    (c.self.invariant.sound.known c.args.var (ap (λ (s : State). nonbasic_in s c.args.var) c.self.view_is ∙ c.requires.nonbasic)))

pub invariant_of-self : goal.invariant_of-self
invariant_of-self g c =
    let x = c.self.inside in
    let stored = c.self.invariant in
    let new = c.move_to.new.values in
    let long : length new ≡ length x.values.items = omega (arith, c.move_to.auto.values, c.as_mut_slice.ensures.len, x.values.ok.0) in
    subst (λ (vs : List (Option g.row.S.Denot)). IsStored (state_of g.S.Coordinate.stands_for x.tab x.trail vs x.why.items) x.trail.vars x.basic.items x.nonbasic.items (vec_capacity x.basic) (vec_capacity x.nonbasic) (vec_capacity x.why))
    (sym (written_back x.values.len x.values.items new x.values.ok.0 long))
    (stored_again stored
    (settled_shown g.S.Coordinate.stands_for x.tab x.trail x.values.items c.as_mut_slice.result.now new x.why.items c.args.self.now c.args.var c.zero.result c.self.view_is stored.sound
    c.requires.nonbasic c.requires.lower c.requires.upper (ap g.S.Coordinate.stands_for c.zero.ensures ∙ g.met.S.Coordinate.faithful.zero)
    c.sum_moves.ensures.moves c.positions_have_values.ensures.values c.infinitesimals_move.ensures.moves c.nonbasic_form_is_itself.ensures.itself c.known_tableau.ensures.tableau
    c.as_mut_slice.ensures.value c.move_to.auto.values c.move_to.ensures.moved c.move_to.ensures.stays c.move_to.ensures.follows).sound
    refl stored.basic_listed stored.nonbasic_listed refl refl refl)

pub returns : goal.returns
returns g c =
    let x = c.self.inside in
    let new = c.move_to.new.values in
    let long : length new ≡ length x.values.items = omega (arith, c.move_to.auto.values, c.as_mut_slice.ensures.len, x.values.ok.0) in
    record {
      settled =
          subst (λ (vs : List (Option g.row.S.Denot)). IsSettled c.args.self.now (state_of g.S.Coordinate.stands_for x.tab x.trail vs x.why.items) (c.args.var ∷ []))
          (sym (written_back x.values.len x.values.items new x.values.ok.0 long))
          (settled_shown g.S.Coordinate.stands_for x.tab x.trail x.values.items c.as_mut_slice.result.now new x.why.items c.args.self.now c.args.var c.zero.result c.self.view_is c.self.invariant.sound
          c.requires.nonbasic c.requires.lower c.requires.upper (ap g.S.Coordinate.stands_for c.zero.ensures ∙ g.met.S.Coordinate.faithful.zero)
          c.sum_moves.ensures.moves c.positions_have_values.ensures.values c.infinitesimals_move.ensures.moves c.nonbasic_form_is_itself.ensures.itself c.known_tableau.ensures.tableau
          c.as_mut_slice.ensures.value c.move_to.auto.values c.move_to.ensures.moved c.move_to.ensures.stays c.move_to.ensures.follows).shown;
    }
