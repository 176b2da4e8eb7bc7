-- Terms that were added by level, as the code keeps them, and where each of them stands.
use Rattle.std.specs.Prelude.{◌≡◌, ℕ, ◌≤◌, List, length, map, take, Some, slice_get}
use Rattle.nz_spec.specs.search.Decide.{asserted_numbers}
use Rattle.nz_search.specs.Levels.{Level}
use Rattle.nz_log.specs.Sound.{live_at}
use Rattle.nz_engine.specs.declared.levels.AddedTerms.{AddedTerms}
use Rattle.nz_engine.specs.declared.levels.Kind.{Kind}
use Rattle.nz_engine.specs.declared.levels.Kind.TheVariants.{Asserted, Number}

-- the levels that the code keeps
abbrev pub level_of : AddedTerms → Level
level_of a = record { asserted = a.asserted.items; numbers = a.numbers.items }

abbrev pub levels_of : List AddedTerms → List Level
levels_of levels = map level_of levels

-- the terms of a kind, in a level and by level
abbrev pub of_kind : Kind → Level → List ℕ
of_kind Asserted l = l.asserted
of_kind Number l = l.numbers

abbrev pub by_level : Kind → List Level → List (List ℕ)
by_level kind levels = map (of_kind kind) levels

-- how many of these terms stand in the first levels, so many of them
abbrev pub count_in : List (List ℕ) → ℕ → ℕ
count_in levels n = length (asserted_numbers (take n levels))

-- how many there are
abbrev pub count_of : List (List ℕ) → ℕ
count_of levels = length (asserted_numbers levels)

-- The term of a place, in the order of the levels, is this one, and stands in the level of this number.
pub record IsPlaced (levels : List (List ℕ)) (k t n : ℕ) : Type 0 where
  pub live : slice_get (live_at levels n) k ≡ Some t
  pub behind : count_in levels n ≤ k
