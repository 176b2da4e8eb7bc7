-- States that are sound, and stored in order.
use Rattle.std.proofs.Common.{◌≡◌, ℕ, List, length, arith}
use Rattle.nz_simplex.specs.State.{State, IsSound}
use Rattle.nz_simplex.specs.Stored.{IsStored, basic_numbers, nonbasic_numbers}

-- what is shown of a state, which is sound
pub record Soundly (R : State → Type 0) (s : State) : Type 0 where
  pub shown : R s
  pub sound : IsSound s

-- What is listed of a state, and its room, stay in order where it has as many forms and what changed of them is listed anew.
pub stored_again : {s t : State} {vars : ℕ} {basic nonbasic others listed : List ℕ} {a b c d e f : ℕ} → IsStored s vars basic nonbasic a b c → IsSound t → length t.forms ≡ length s.forms
    → others ≡ basic_numbers t → listed ≡ nonbasic_numbers t → d ≡ a → e ≡ b → f ≡ c → IsStored t vars others listed d e f
stored_again stored sound same others listed basic_room nonbasic_room why_room = record {
  sound = sound;
  basic_listed = others;
  nonbasic_listed = listed;
  numbered = omega (arith, same, stored.numbered);
  room_for_basic = omega (arith, same, basic_room, stored.room_for_basic);
  room_for_nonbasic = omega (arith, same, nonbasic_room, stored.room_for_nonbasic);
  room_for_why = omega (arith, same, why_room, stored.room_for_why);
}
