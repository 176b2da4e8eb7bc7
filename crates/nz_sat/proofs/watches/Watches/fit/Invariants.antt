use Rattle.std.proofs.Common.{◌≡◌, ℕ, ◌-◌, ◌≤◌, length}
use Rattle.nz_sat.specs.Lists.{list_at}
use Rattle.nz_sat.proofs.watches.Watches.fit.Given as goal

-- each list is as it was
abbrev pub invariant-loop-alloc : goal.invariant-loop-alloc
invariant-loop-alloc l =
    record {
      more : length l.fn.self.lists.items ≤ length l.self.lists.items;
      same : (t : ℕ) → list_at l.self.lists.items t ≡ list_at l.fn.self.lists.items t;
    }

abbrev pub decreases-loop-alloc : goal.decreases-loop-alloc
decreases-loop-alloc l = l.literals - length l.self.lists.items
