use Rattle.nz_reals.proofs.ExclusionClauses.{IsExcluding}
use Rattle.nz_reals.proofs.reals.Reals.exclusions.Given as goal

abbrev pub invariant-loop-i : goal.invariant-loop-i
invariant-loop-i l = IsExcluding l.self l.fn.log l.log l.atoms l.held l.clauses.items l.lowers.items l.i
