-- No form.
use Rattle.std.proofs.Common.{rules, ◌≡◌, sym, ap, subst, arith, length, refl}
use Rattle.nz_spec.specs.simplex.PositionMoves.{MovesKeepReady}
use Rattle.nz_simplex.specs.State.{State, IsSound, empty_state}
use Rattle.nz_simplex.specs.Stored.{state_of}
use Rattle.nz_simplex.proofs.simplex.Simplex.new.Goals as goal

-- everything holds of it
sound_empty : MovesKeepReady → IsSound empty_state
sound_empty moves = record {
  marked = refl;
  valued = refl;
  known = λ k e. absurd (cc);
  ready = λ ns over. moves.empty;
  right = λ ns k x over e. absurd (cc);
}

pub invariant_of-result : goal.invariant_of-result
invariant_of-result g c =
    let s : State = state_of g.S.Coordinate.stands_for c.new.result c.new-2.result c.new-3.result.items c.new-6.result.items in
    let empty : s ≡ empty_state = search rules in
    let none : length s.forms ≡ 0 = ap (λ (t : State). length t.forms) empty in
    record {
      sound = subst (λ (t : State). IsSound t) (sym empty) (sound_empty c.moves_keep_ready.ensures.ready);
      basic_listed = search rules;
      nonbasic_listed = search rules;
      numbered = omega (arith, none);
      room_for_basic = omega (arith, none);
      room_for_nonbasic = omega (arith, none);
      room_for_why = omega (arith, none);
    }
