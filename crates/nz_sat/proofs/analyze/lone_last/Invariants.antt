use Rattle.std.proofs.Common.{take}
use Rattle.nz_sat.proofs.LearnedClauses.{IsLone}
use Rattle.nz_sat.proofs.analyze.lone_last.Given as goal

abbrev pub invariant-loop-literal : goal.invariant-loop-literal
invariant-loop-literal l = IsLone l.trail.entries (take l.literal-index l.literals) l.lone
