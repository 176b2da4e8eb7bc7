-- A level was told of each term so far, and the atoms stay.
use Rattle.std.proofs.Common.{◌≡◌, ℕ, ◌<◌}
use Rattle.std.specs.Prelude.{IsSome}
use Rattle.nz_log.specs.Logs.{told_of}
use Rattle.nz_reals_tests.proofs.system.place_all.Given as goal

abbrev pub invariant-loop-term : goal.invariant-loop-term
invariant-loop-term l = ((t : ℕ) → t < l.term → IsSome (told_of l.log t)) × (l.log.atoms ≡ l.fn.log.atoms)
