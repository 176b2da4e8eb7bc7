use Rattle.nz_sat.specs.Conflicts.{IsOnWayBack}
use Rattle.nz_sat.proofs.analyze.chain_back.Given as goal

abbrev pub invariant-loop-i : goal.invariant-loop-i
invariant-loop-i l = IsOnWayBack l.log l.trail.entries l.falsified l.i l.seen l.links.items l.left
