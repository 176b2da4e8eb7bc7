use Rattle.std.proofs.Common.{take}
use Rattle.nz_sat.proofs.LearnedClauses.{IsDeepest}
use Rattle.nz_sat.proofs.analyze.deepest_but.Given as goal

abbrev pub invariant-loop-literal : goal.invariant-loop-literal
invariant-loop-literal l = IsDeepest l.trail.entries l.but (take l.literal-index l.literals) l.deepest l.level
