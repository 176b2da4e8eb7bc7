use Rattle.std.proofs.Common.{◌≡◌, ℕ, ◌<◌, ◌≤◌, get_or, None}
use Rattle.nz_log.specs.Logs.{told_below}
use Rattle.nz_log.proofs.log.dropping.drop_told.Given as goal

-- what is behind is done, and what is ahead is as it was
abbrev pub invariant-loop-slot : goal.invariant-loop-slot
invariant-loop-slot l =
    record {
      behind : (k : ℕ) → k < l.slot-index → get_or l.slot-items k None ≡ told_below l.level (get_or l.fn.told.items k None);
      ahead : (k : ℕ) → l.slot-index ≤ k → get_or l.slot-items k None ≡ get_or l.fn.told.items k None;
    }
