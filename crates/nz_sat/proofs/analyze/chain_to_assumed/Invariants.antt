use Rattle.nz_sat.specs.Conflicts.{IsOnWayToAssumed}
use Rattle.nz_sat.proofs.analyze.chain_to_assumed.Given as goal

abbrev pub invariant-loop-i : goal.invariant-loop-i
invariant-loop-i l = IsOnWayToAssumed l.log l.trail.entries l.falsified l.i l.seen l.links.items
