use Rattle.std.proofs.Common.{length}
use Rattle.nz_sat.proofs.order.Order.go_back.Given as goal

-- an unwanted atom goes in each turn
abbrev pub decreases-loop-last : goal.decreases-loop-last
decreases-loop-last l = length l.self.unwanted.items
