use Rattle.std.proofs.Common.{◌≡◌, ℕ, ◌<◌, ◌⊎◌, get_or, length, None}
use Rattle.nz_log.specs.Logs.{told_below}
use Rattle.nz_cform.proofs.listing.take_off_above.Given as goal

-- the numbers so far are done, and the others are as they were, or done too
abbrev pub invariant-loop-id : goal.invariant-loop-id
invariant-loop-id l =
    record {
      long : length l.levels.items ≡ length l.fn.levels.items;
      done : (k : ℕ) → k < l.id-index
          → get_or l.levels.items (get_or l.ids k 0) None ≡ told_below l.level (get_or l.fn.levels.items (get_or l.ids k 0) None);
      others : (i : ℕ) → (get_or l.levels.items i None ≡ get_or l.fn.levels.items i None)
          ⊎ (get_or l.levels.items i None ≡ told_below l.level (get_or l.fn.levels.items i None));
    }
