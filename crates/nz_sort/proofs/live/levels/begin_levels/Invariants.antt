use Rattle.std.proofs.Common.{◌≡◌, ◌+◌, ◌≤◌, ℕ, List, length, vec_len, vec_capacity}
use Rattle.nz_elaborate.specs.declared.names.Named.{Named}
use Rattle.nz_sort.specs.Live.{standing_of}
use Rattle.nz_sort.specs.Changes.{with_levels}
use Rattle.nz_sort.proofs.live.levels.begin_levels.Given as goal

-- so many levels were put, and there is room for the others
abbrev pub invariant-loop : goal.invariant-loop
invariant-loop l = record {
  begun : (names : List (List ℕ × Named)) (next : ℕ) → length names ≡ l.names_before → standing_of names l.top l.below.items next ≡ with_levels l.counter (standing_of names l.fn.top l.fn.below.items next);
  room : vec_len l.below + l.count ≤ vec_capacity l.below + l.counter;
}
