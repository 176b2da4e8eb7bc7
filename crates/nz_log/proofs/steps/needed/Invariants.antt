use Rattle.nz_log.proofs.ClauseDependencies.{IsDone}
use Rattle.nz_log.proofs.steps.needed.Given as goal

-- the clauses from this number on are done
abbrev pub invariant-loop-i : goal.invariant-loop-i
invariant-loop-i l = IsDone l.log l.id l.marks.items l.i
