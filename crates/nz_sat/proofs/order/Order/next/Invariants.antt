use Rattle.nz_sat.proofs.order.Order.next.Given as goal

-- the heap shrinks
abbrev pub decreases-loop-atom : goal.decreases-loop-atom
decreases-loop-atom l = l.self.heap.count
