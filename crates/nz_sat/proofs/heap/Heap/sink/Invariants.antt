use Rattle.std.proofs.Common.{◌≡◌, ◌-◌}
use Rattle.nz_sat.proofs.heap.Heap.sink.Given as goal

abbrev pub invariant-loop-below : goal.invariant-loop-below
invariant-loop-below l = l.self.count ≡ l.fn.self.count

abbrev pub decreases-loop-below : goal.decreases-loop-below
decreases-loop-below l = l.self.count - l.place
