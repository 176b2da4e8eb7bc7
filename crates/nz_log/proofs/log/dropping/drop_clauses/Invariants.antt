use Rattle.std.proofs.Common.{◌≡◌, ℕ, ◌<◌, ◌≤◌, get_or, None}
use Rattle.std.specs.Prelude.{option_map}
use Rattle.nz_log.specs.Logs.{kept_below}
use Rattle.nz_log.specs.Stored.{entry_of}
use Rattle.nz_log.proofs.log.dropping.drop_clauses.Given as goal

-- what is behind is done, and what is ahead is as it was
abbrev pub invariant-loop-slot : goal.invariant-loop-slot
invariant-loop-slot l =
    record {
      behind : (k : ℕ) → k < l.slot-index
          → option_map entry_of (get_or l.slot-items k None) ≡ kept_below l.level (option_map entry_of (get_or l.fn.clauses.items k None));
      ahead : (k : ℕ) → l.slot-index ≤ k → get_or l.slot-items k None ≡ get_or l.fn.clauses.items k None;
    }
