-- Each so far is one.
use Rattle.std.proofs.Common.{ℕ, ◌<◌, get_or}
use Rattle.nz_log.specs.declared.multiples.LitMultiple.{LitMultiple}
use Rattle.nz_log_tests.specs.Sums.{IsMultiple}
use Rattle.nz_log_tests.proofs.rules.are_multiples.Given as goal

abbrev pub invariant-loop-i : goal.invariant-loop-i
invariant-loop-i l = (k : ℕ) (d : LitMultiple) → k < l.i → IsMultiple l.log.atoms (get_or l.multiples k d)
