use Rattle.std.specs.Prelude.{length}
use Rattle.nz_sat.specs.Conflicts.{IsChain}
use Rattle.nz_sat.proofs.analyze.shorten.Given as goal

-- the chain so far comes to a clause of which just the atoms are marked
abbrev pub invariant-loop-atom : goal.invariant-loop-atom
invariant-loop-atom l = IsChain l.log l.trail.entries l.falsified l.seen (record { links = l.links; literal = l.literal })

-- fewer redundant ones are left
abbrev pub decreases-loop-atom : goal.decreases-loop-atom
decreases-loop-atom l = length l.redundancy.redundant.items
