use Rattle.std.proofs.Common.{take}
use Rattle.nz_sat.specs.Conflicts.{IsGreatest}
use Rattle.nz_sat.proofs.analyze.greatest_level.Given as goal

abbrev pub invariant-loop-literal : goal.invariant-loop-literal
invariant-loop-literal l = IsGreatest l.trail.entries (take l.literal-index l.literals) l.level
