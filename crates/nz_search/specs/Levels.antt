-- What was added to a search, by level: terms that are asserted, and numbers, whose clauses are wanted though nothing is asserted of them.
use Rattle.std.specs.Prelude.{ℕ, List, [], ◌∷◌, ◌++◌, map, if◌then◌else◌}
use Rattle.nz_spec.specs.clauses.Gates.{is_boolean_term}
use Rattle.nz_spec.specs.terms.Table.{Node, term_in}

-- What was added in a level, by its numbers in a table: terms of sort Bool, which are asserted, and terms of the sorts Int and Real.
pub record Level : Type 0 where
  pub asserted : List ℕ
  pub numbers : List ℕ

abbrev pub empty_level : Level
empty_level = record { asserted = []; numbers = [] }

-- the level with a term more, by its sort
abbrev pub with_term : List Node → ℕ → Level → Level
with_term ns i l = if is_boolean_term (term_in ns i) then record l { asserted = l.asserted ++ i ∷ [] } else record l { numbers = l.numbers ++ i ∷ [] }

-- the levels with a term more, in the last
abbrev pub with_added : List Node → List Level → ℕ → List Level
with_added ns [] i = []
with_added ns (l ∷ []) i = with_term ns i l ∷ []
with_added ns (l ∷ next ∷ more) i = l ∷ with_added ns (next ∷ more) i

-- by level, what is asserted, the numbers, and all that was added
abbrev pub asserted_by_level : List Level → List (List ℕ)
asserted_by_level levels = map (λ (l : Level). l.asserted) levels

abbrev pub numbers_by_level : List Level → List (List ℕ)
numbers_by_level levels = map (λ (l : Level). l.numbers) levels

abbrev pub added_by_level : List Level → List (List ℕ)
added_by_level levels = map (λ (l : Level). l.asserted ++ l.numbers) levels
