use Rattle.std.specs.Prelude.{length}
use Rattle.nz_sat.proofs.redundancy.Redundancy.forget.Given as goal

-- fewer are known
abbrev pub decreases-loop-atom : goal.decreases-loop-atom
decreases-loop-atom l = length l.self.known.items
