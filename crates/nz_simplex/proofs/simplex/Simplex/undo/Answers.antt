-- The bounds at the front are left, and the simplex is as sound as before.
use Rattle.std.proofs.Common.{◌≡◌, ℕ, ◌≤◌, List, map, length, take, sym, ap, ◌∙◌, subst, refl}
use Rattle.std.specs.Prelude.{vec_capacity}
use Rattle.std.proofs.lemmas.List.{length-map, take-map}
use Rattle.nz_trail.specs.Bounds.{TrailState}
use Rattle.nz_simplex.specs.Standing.{Held, told}
use Rattle.nz_simplex.specs.State.{State, IsSound}
use Rattle.nz_simplex.specs.Stored.{IsStored, state_of}
use Rattle.nz_simplex.proofs.LooserBounds.{sound_front}
use Rattle.nz_simplex.proofs.StoredStates.{stored_again}
use Rattle.nz_simplex.proofs.simplex.Simplex.undo.Goals as goal

pub undo-requires : goal.undo-requires
undo-requires g c =
    let stands = g.S.Coordinate.stands_for in
    let long : length c.args.self.now.asserted ≡ length c.self.inside.trail.asserted =
    ap (λ (s : State). length s.asserted) (sym c.self.view_is) ∙ length-map c.self.inside.trail.asserted (told stands) in
    record { reached = subst (λ (n : ℕ). c.args.mark ≤ n) long c.requires.reached }

pub invariant_of-self : goal.invariant_of-self
invariant_of-self g c =
    let stands = g.S.Coordinate.stands_for in
    let x = c.self.inside in
    let stored = c.self.invariant in
    let old : State = state_of stands x.tab x.trail x.values.items x.why.items in
    let cut : IsSound (record old { asserted = take c.args.mark old.asserted }) =
    sound_front c.infinitesimals_move.ensures.moves c.moves_keep_ready.ensures.ready old c.args.mark stored.sound in
    let sound : IsSound (record old { asserted = map (told stands) (take c.args.mark x.trail.asserted) }) =
    subst (λ (bs : List Held). IsSound (record old { asserted = bs })) (take-map (told stands) c.args.mark x.trail.asserted) cut in
    subst
    (λ (t : TrailState g.row.S.Denot). IsStored (state_of stands x.tab t x.values.items x.why.items) t.vars x.basic.items x.nonbasic.items (vec_capacity x.basic) (vec_capacity x.nonbasic) (vec_capacity x.why))
    (sym c.undo.ensures.front)
    (stored_again stored sound refl stored.basic_listed stored.nonbasic_listed refl refl refl)

pub returns : goal.returns
returns g c =
    let stands = g.S.Coordinate.stands_for in
    let x = c.self.inside in
    let old : State = state_of stands x.tab x.trail x.values.items x.why.items in
    record {
      front =
          ap (λ (t : TrailState g.row.S.Denot). state_of stands x.tab t x.values.items x.why.items) c.undo.ensures.front
          ∙ ap (λ (bs : List Held). record old { asserted = bs }) (sym (take-map (told stands) c.args.mark x.trail.asserted))
          ∙ ap (λ (s : State). record s { asserted = take c.args.mark s.asserted }) c.self.view_is;
    }
