-- How a log grows.
use Rattle.std.specs.Prelude.{◌≡◌, ℕ, Some, IsSome}
use Rattle.nz_log.specs.Atoms.{Stay}
use Rattle.nz_log.specs.Leveled.{IsLeveled}
use Rattle.nz_log.specs.Logs.{Entry, LogState, IsLive, entry_at, row_term}

-- The log keeps each of its clauses and atoms, and what was told. What it has more is no clause of a table, and each clause stays at or above the levels told of what
-- it names.
pub record Grows (old new : LogState) : Type 0 where
  pub live : (i : ℕ) → IsLive old i → IsLive new i
  pub kept : (i : ℕ) → IsLive old i → entry_at new i ≡ entry_at old i
  pub told : new.told ≡ old.told
  pub atoms : Stay old.atoms new.atoms
  pub rows : (i : ℕ) (e : Entry) → entry_at new i ≡ Some e → IsSome (row_term e.origin) → IsLive old i
  pub leveled : IsLeveled old → IsLeveled new
