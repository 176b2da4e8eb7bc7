-- Bounds that were asserted: which is the tightest, which one more would tell nothing, and which leave no value.
use Rattle.std.specs.Prelude.{◌≡◌, ℕ, List, [], ◌∷◌, ◌++◌, All, Any, Contains, Option, Some, None}
use Rattle.std.specs.declared.cmp.Ordering.{Ordering}
use Rattle.std.specs.declared.cmp.Ordering.TheVariants.{Less, Greater}
use Rattle.nz_trail.specs.declared.limits.Limit.{Limit}
use Rattle.nz_trail.specs.declared.limits.Side.{Side}
use Rattle.nz_trail.specs.declared.limits.Side.TheVariants.{Lower, Upper}

-- A bound of a variable, and the reason that the caller gave for it.
pub record Asserted (S : Type 0) : Type 0 where
  pub var : ℕ
  pub side : Side
  pub value : S
  pub reason : ℕ

-- How many variables there are, and the bounds that were asserted, the oldest first: those that were tighter than the ones before
-- them, clashed with none and were not undone.
pub record TrailState (S : Type 0) : Type 0 where
  pub vars : ℕ
  pub asserted : List (Asserted S)

abbrev pub other_side : Side → Side
other_side Lower = Upper
other_side Upper = Lower

module _ {S : Type 0} where
  abbrev pub empty_trail : TrailState S
  empty_trail = record { vars = 0; asserted = [] }

  abbrev pub asserted : ℕ → Side → S → ℕ → Asserted S
  asserted v side x r = record { var = v; side = side; value = x; reason = r }

  -- one bound more
  abbrev pub with_bound : TrailState S → Asserted S → TrailState S
  with_bound s b = record s { asserted = s.asserted ++ b ∷ [] }

  -- a bound of this variable, on this side
  pub record IsOn (number : ℕ) (half : Side) (b : Asserted S) : Type 0 where
    pub var : b.var ≡ number
    pub side : b.side ≡ half

module _ {S : Type 0} (order : S → S → Ordering) where
  -- x is tighter than y, both as bounds of this side: greater as a lower one, less as an upper one
  abbrev pub IsTighter : Side → S → S → Type 0
  IsTighter Lower x y = order x y ≡ Greater
  IsTighter Upper x y = order x y ≡ Less

  -- x as a bound of this side and y as one of the other leave no value: the lower one is above the upper one
  abbrev pub AreApart : Side → S → S → Type 0
  AreApart Lower x y = order x y ≡ Greater
  AreApart Upper x y = order y x ≡ Greater

  -- It is in the list, none of its variable and side is tighter, and it is tighter than those before it.
  pub record IsTightest (list : List (Asserted S)) (b : Asserted S) : Type 0 where
    pub before : List (Asserted S)
    pub after : List (Asserted S)
    pub parts : list ≡ before ++ b ∷ after
    pub tightest : All (λ e. IsOn b.var b.side e → ¬ IsTighter b.side e.value b.value) list
    pub first : All (λ e. IsOn b.var b.side e → IsTighter b.side b.value e.value) before

  -- what stands of a variable on a side: nothing where the list has no bound of them, else the tightest, the first one of its value
  abbrev pub Stands : List (Asserted S) → ℕ → Side → Option (Limit S) → Type 0
  Stands list v side None = All (λ e. ¬ IsOn v side e) list
  Stands list v side (Some l) = IsTightest list (asserted v side l.value l.reason)

  -- one of its variable and side is at least as tight
  abbrev pub IsImplied : List (Asserted S) → Asserted S → Type 0
  IsImplied list b = Any (λ e. IsOn b.var b.side e × (¬ IsTighter b.side b.value e.value)) list

  -- one of its variable on the other side excludes it
  abbrev pub IsExcluded : List (Asserted S) → Asserted S → Type 0
  IsExcluded list b = Any (λ e. IsOn b.var (other_side b.side) e × AreApart b.side b.value e.value) list

  -- The tightest of its variable on the other side excludes it, and has this reason.
  pub record ClashesWith (list : List (Asserted S)) (b : Asserted S) (other : ℕ) : Type 0 where
    pub value : S
    pub tightest : IsTightest list (asserted b.var (other_side b.side) value other)
    pub apart : AreApart b.side b.value value

  -- no lower bound of a variable is above an upper one of it
  abbrev pub IsConsistent : List (Asserted S) → Type 0
  IsConsistent list = (v : ℕ) (l u : Asserted S) → Contains list l → Contains list u → IsOn v Lower l → IsOn v Upper u
      → ¬ AreApart Lower l.value u.value
