use Rattle.std.proofs.Common.{take}
use Rattle.nz_sat.specs.Clauses.{AreFalseBut}
use Rattle.nz_sat.proofs.propagate.another.Given as goal

-- what was looked at is false, but maybe this literal
abbrev pub invariant-loop-literal : goal.invariant-loop-literal
invariant-loop-literal l = AreFalseBut l.trail.entries l.but (take l.literal-index l.literals)
