-- What the engine was told of the assertions, by level.
use Rattle.std.specs.Prelude.{◌≡◌, ℕ, ◌+◌, ◌≤◌, List, [], ◌∷◌, ◌++◌, length, map, take, ◌⊎◌}
use Rattle.nz_search.specs.Levels.{Level, empty_level}
use Rattle.nz_session.specs.declared.told.ToldExtent.{ToldExtent}

-- a level of assertions alone
abbrev pub only_asserted : List ℕ → Level
only_asserted ids = record { asserted = ids; numbers = [] }

-- Nothing.
pub record IsToldNothing (levels : List Level) (t : ToldExtent) : Type 0 where
  pub none : levels ≡ []
  pub count : t.levels ≡ 0

-- The first levels, and of the last of these the first so many assertions.
pub record IsToldFirst (levels : List Level) (t : ToldExtent) (asserted : List (List ℕ)) : Type 0 where
  pub before : List (List ℕ)
  pub newest : List ℕ
  pub later : List (List ℕ)
  pub are : asserted ≡ before ++ newest ∷ later
  pub has : levels ≡ map only_asserted (before ++ take t.last newest ∷ [])
  pub within : t.last ≤ length newest
  pub count : t.levels ≡ length before + 1

-- What the engine has is a front of what is asserted, level by level.
abbrev pub IsTold : List Level → ToldExtent → List (List ℕ) → Type 0
IsTold levels t asserted = IsToldNothing levels t ⊎ IsToldFirst levels t asserted

-- The engine has a level more, of which nothing was told yet.
pub record IsBegun (levels : List Level) (t : ToldExtent) (more : List Level) (u : ToldExtent) : Type 0 where
  pub has : more ≡ levels ++ empty_level ∷ []
  pub count : u.levels ≡ t.levels + 1
  pub last : u.last ≡ 0
