-- What a search answers to a check, by numbers: over a table of terms, and the terms that are asserted by level.
use Rattle.std.specs.Prelude.{◌≡◌, ℕ, ◌<◌, List, [], ◌∷◌, ◌++◌, length, map, flat_map, take, Some, None, All, slice_get}
use Rattle.std.specs.List.{AllByRecursion}
use Rattle.nz_spec.specs.terms.Term.{Constant, Head, constant, constant_of, Term, Value, IsOfSort, ValueFits}
use Rattle.nz_spec.specs.terms.Table.{Node, term_in, assignment_by}
use Rattle.nz_spec.specs.clauses.Literal.{Literal}
use Rattle.nz_spec.specs.terms.Model.{IsModel}

-- ---- Constants and asserted terms

-- the constant that a head is, if it is one
abbrev pub constants_of_head : Head → List Constant
constants_of_head h = elim (constant_of h) [ Some c ↦ c ∷ [] | None ↦ [] ]

-- the numbers of the asserted terms, the oldest level first
abbrev pub asserted_numbers : List (List ℕ) → List ℕ
asserted_numbers levels = flat_map (λ (level : List ℕ). level) levels

-- the levels with one number more, in the last
abbrev pub with_number : List (List ℕ) → ℕ → List (List ℕ)
with_number [] i = []
with_number (level ∷ []) i = (level ++ i ∷ []) ∷ []
with_number (level ∷ next ∷ more) i = level ∷ with_number (next ∷ more) i

-- each of them is a number of the table
abbrev pub AreInTable : List Node → List (List ℕ) → Type 0
AreInTable ns levels = All (λ (i : ℕ). i < length ns) (asserted_numbers levels)

-- the asserted terms
abbrev pub asserted_terms : List Node → List (List ℕ) → List Term
asserted_terms ns levels = map (term_in ns) (asserted_numbers levels)

-- a table that another begins with
abbrev pub IsFrontOfTable : List Node → List Node → Type 0
IsFrontOfTable front ns = take (length front) ns ≡ front

-- ---- Models

-- each number is that of a constant, and its value is one of the constant's sort, and fits
pub record IsValueOf (ns : List Node) (p : ℕ × Value) : Type 0 where
  pub of : Constant
  pub kids : List ℕ
  pub node : slice_get ns p.0 ≡ Some (record { head = constant of; kids = kids })
  pub sort : IsOfSort of.sort p.1
  pub fits : ValueFits p.1

-- The values are those of constants, and under them the asserted terms and the assumed literals are true.
pub record AreModelValues (ns : List Node) (asserted : List Term) (assumed : List Literal) (ps : List (ℕ × Value)) : Type 0 where
  pub values : AllByRecursion (IsValueOf ns) ps
  pub makes : IsModel asserted assumed (assignment_by ns ps)
