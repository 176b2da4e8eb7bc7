-- No atom so far stands twice.
use Rattle.std.proofs.Common.{◌≡◌, ℕ, ◌<◌}
use Rattle.std.specs.Prelude.{Some, slice_get}
use Rattle.nz_sat_tests.proofs.problem.stand_once.Given as goal

abbrev pub invariant-loop-i : goal.invariant-loop-i
invariant-loop-i l = (i j x : ℕ) → i < j → j < l.i → slice_get l.atoms i ≡ Some x → slice_get l.atoms j ≡ Some x → ⊥
