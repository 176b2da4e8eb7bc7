-- The literals so far are on the atoms.
use Rattle.std.proofs.Common.{ℕ, ◌<◌, get_or}
use Rattle.std.specs.Prelude.{Contains}
use Rattle.nz_log.specs.declared.lits.Lit.{Lit}
use Rattle.nz_sat_tests.proofs.problem.are_on.Given as goal

abbrev pub invariant-loop-i : goal.invariant-loop-i
invariant-loop-i l = (k : ℕ) (d : Lit) → k < l.i → Contains l.atoms (get_or l.literals k d).atom
