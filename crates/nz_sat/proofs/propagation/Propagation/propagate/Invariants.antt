use Rattle.std.proofs.Common.{◌-◌}
use Rattle.nz_sat.proofs.Visiting.{IsOnWay}
use Rattle.nz_sat.proofs.propagation.Propagation.propagate.Given as goal

-- what is watched stays in order
abbrev pub invariant-loop-self : goal.invariant-loop-self
invariant-loop-self l = IsOnWay l.log l.fn.self l.self l.fn.trail l.trail

abbrev pub decreases-loop-self : goal.decreases-loop-self
decreases-loop-self l = l.trail.size - l.self.head
