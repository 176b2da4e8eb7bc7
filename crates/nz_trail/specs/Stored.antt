-- What the fields of a trail are.
use Rattle.std.specs.Prelude.{◌≡◌, ℕ, ◌<◌, List, map, take, length, slice_get, Some, All}
use Rattle.std.specs.declared.cmp.Ordering.{Ordering}
use Rattle.nz_trail.specs.Bounds.{Asserted, TrailState, Stands, IsConsistent}
use Rattle.nz_trail.specs.Pairs.{limit_on}
use Rattle.nz_trail.specs.declared.limits.Limits.{Limits}
use Rattle.nz_trail.specs.declared.limits.Side.{Side}
use Rattle.nz_trail.specs.declared.trail.Entry.{Entry}

module _ {S : Type 0} where
  -- the bound of an entry
  abbrev pub asserted_of : Entry S → Asserted S
  asserted_of e = record { var = e.var; side = e.side; value = e.limit.value; reason = e.limit.reason }

  abbrev pub state_of : List (Limits S) → List (Entry S) → TrailState S
  state_of limits entries = record { vars = length limits; asserted = map asserted_of entries }

module _ {S : Type 0} (order : S → S → Ordering) where
  -- what stands of each variable on each side
  abbrev pub IsTable : List (Limits S) → List (Asserted S) → Type 0
  IsTable limits list = (v : ℕ) (side : Side) (l : Limits S) → slice_get limits v ≡ Some l → Stands order list v side (limit_on side l)

  -- each entry has what stood of its variable and side before it
  abbrev pub KeepReplaced : List (Entry S) → Type 0
  KeepReplaced entries = (i : ℕ) (e : Entry S) → slice_get entries i ≡ Some e
      → Stands order (map asserted_of (take i entries)) e.var e.side e.replaced

  -- The table has what stands, each entry what it replaced, each bound is of a variable, and no two are apart.
  pub record IsTabled (limits : List (Limits S)) (entries : List (Entry S)) : Type 0 where
    pub table : IsTable limits (map asserted_of entries)
    pub replaced : KeepReplaced entries
    pub known : All (λ (e : Entry S). e.var < length limits) entries
    pub consistent : IsConsistent order (map asserted_of entries)
