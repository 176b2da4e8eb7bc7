use Rattle.std.proofs.Common.{◌≡◌}
use Rattle.nz_sat.proofs.heap.Heap.rise.Given as goal

abbrev pub invariant-loop-place : goal.invariant-loop-place
invariant-loop-place l = l.self.count ≡ l.fn.self.count

abbrev pub decreases-loop-place : goal.decreases-loop-place
decreases-loop-place l = l.place
