use Rattle.std.proofs.Common.{◌≡◌, ℕ, ◌≤◌, get_or, None, vec_len}
use Rattle.nz_log.proofs.log.dropping.trim.Given as goal

-- behind what is kept there are gaps alone
abbrev pub invariant-loop-kept : goal.invariant-loop-kept
invariant-loop-kept l = (l.kept ≤ vec_len l.clauses) × ((k : ℕ) → l.kept ≤ k → get_or l.clauses.items k None ≡ None)

abbrev pub decreases-loop-kept : goal.decreases-loop-kept
decreases-loop-kept l = l.kept
