-- Literals and clauses. A clause is a set of literals, written as a list that has each of them once.
-- Sources: SMT-LIB 2.6, theories Core and Reals_Ints (<=, <); Dutertre and de Moura, A Fast Linear-Arithmetic Solver for DPLL(T),
-- CAV 2006, sections 3 and 5 (bounds on sums of variables, strict ones too).
use Rattle.std.specs.Prelude.{◌≡◌, ℕ, Bool, true, false, not, ◌&&◌, IsTrue, List, [], ◌∷◌, ◌++◌, map, Contains, ◌↔◌, filter, fold, if◌then◌else◌, Some, slice_get}
use Rattle.std.specs.List.{list_any, AllByRecursion}
use Rattle.nz_fractions.specs.Fraction.{Fraction, neg_ℚ, fraction_le, fraction_lt}
use Rattle.nz_spec.specs.terms.Term.{Term, Assignment, is_true, value_of}
unfoldable pub use Rattle.nz_spec.specs.terms.Same.{sort_number, head_kind, head_digits, head_place, head_name, head_numbers, are_same_head, are_same_term, are_same_terms, TellsHeads}
use Rattle.nz_spec.specs.terms.Same.{are_same_fraction}
use Rattle.nz_spec.specs.terms.Form.{Part, AreSameSum, negated_part, parts_value}

-- ---- Literals

-- A term is true, or with the sign `false` it is false; a sum of units is at most a bound, or below it.
pub data Literal : Type 0 where
  term_literal : (term : Term) (sign : Bool) → Literal
  is_at_most : (parts : List Part) (bound : Fraction) → Literal
  is_below : (parts : List Part) (bound : Fraction) → Literal

-- A sum is above a bound where the sum with the other signs is below the other bound.
abbrev pub negation_of : Literal → Literal
negation_of (term_literal t sign) = term_literal t (not sign)
negation_of (is_at_most ps b) = is_below (map negated_part ps) (neg_ℚ b)
negation_of (is_below ps b) = is_at_most (map negated_part ps) (neg_ℚ b)

abbrev pub are_same_sign : Bool → Bool → Bool
are_same_sign true sign = sign
are_same_sign false sign = not sign

-- the same units with the same coefficients, in the same order
abbrev pub are_same_parts : List Part → List Part → Bool
are_same_parts [] [] = true
are_same_parts [] (q ∷ qs) = false
are_same_parts (p ∷ ps) [] = false
are_same_parts (p ∷ ps) (q ∷ qs) = are_same_fraction p.coefficient q.coefficient && are_same_term p.unit q.unit && are_same_parts ps qs

abbrev pub are_same_literal : Literal → Literal → Bool
are_same_literal (term_literal t p) (term_literal u q) = are_same_term t u && are_same_sign p q
are_same_literal (is_at_most ps b) (is_at_most qs c) = are_same_parts ps qs && are_same_fraction b c
are_same_literal (is_below ps b) (is_below qs c) = are_same_parts ps qs && are_same_fraction b c
are_same_literal l m = false

-- Two literals say the same where they are one but for the order of the units in their sums.
abbrev pub SayTheSame : Literal → Literal → Type 0
SayTheSame (term_literal t p) (term_literal u q) = (t ≡ u) × (p ≡ q)
SayTheSame (is_at_most ps b) (is_at_most qs c) = AreSameSum ps qs × (b ≡ c)
SayTheSame (is_below ps b) (is_below qs c) = AreSameSum ps qs × (b ≡ c)
SayTheSame l m = ⊥

abbrev pub is_literal_true : Assignment → Literal → Bool
is_literal_true a (term_literal t sign) = are_same_sign sign (is_true (value_of a t))
is_literal_true a (is_at_most ps b) = fraction_le (parts_value a ps) b
is_literal_true a (is_below ps b) = fraction_lt (parts_value a ps) b

-- each of them is true
abbrev pub AreTrueLiterals : Assignment → List Literal → Type 0
AreTrueLiterals a ls = AllByRecursion (λ (l : Literal). IsTrue (is_literal_true a l)) ls

-- ---- Sets as lists, by a test of what is the same

module _ {A : Type 0} where
  -- the list with one more at its end, if it hasn't it
  abbrev pub with_one : (A → A → Bool) → List A → A → List A
  with_one same xs x = if list_any (same x) xs then xs else xs ++ x ∷ []

  -- each of these once, where it stands first
  abbrev pub once : (A → A → Bool) → List A → List A
  once same xs = fold (with_one same) [] xs

  -- all but this one
  abbrev pub without : (A → A → Bool) → A → List A → List A
  without same x xs = filter (λ y. not (same x y)) xs

  -- the lists hold the same
  abbrev pub AreSameSet : List A → List A → Type 0
  AreSameSet xs ys = (x : A) → Contains xs x ↔ Contains ys x

  -- nothing stands twice in the list
  abbrev pub StandOnce : List A → Type 0
  StandOnce xs = (i j : ℕ) (x : A) → slice_get xs i ≡ Some x → slice_get xs j ≡ Some x → i ≡ j

-- ---- Clauses

abbrev pub Clause : Type 0
Clause = List Literal

-- A clause is true where one of its literals is.
abbrev pub is_clause_true : Assignment → Clause → Bool
is_clause_true a c = list_any (is_literal_true a) c

abbrev pub IsClauseTrue : Assignment → Clause → Type 0
IsClauseTrue a c = IsTrue (is_clause_true a c)

-- the clause of these literals
abbrev pub clause_of : List Literal → Clause
clause_of ls = once are_same_literal ls

-- the first clause without the literal, and the second one without its negation
abbrev pub resolvent : Literal → Clause → Clause → Clause
resolvent l c d = clause_of (without are_same_literal l c ++ without are_same_literal (negation_of l) d)

-- ---- Laws

-- The test says which literals are one.
pub record TellsLiterals : Type 0 where
  pub same : (l m : Literal) → IsTrue (are_same_literal l m) → l ≡ m
  pub one : (l : Literal) → IsTrue (are_same_literal l l)

-- Of a literal and its negation just one is true.
abbrev pub NegationIsOther : Type 0
NegationIsOther = (a : Assignment) (l : Literal) → is_literal_true a (negation_of l) ≡ not (is_literal_true a l)

-- A list of literals and its clause are true together.
abbrev pub ClauseIsTrueTogether : Type 0
ClauseIsTrueTogether = (a : Assignment) (ls : List Literal) → is_clause_true a (clause_of ls) ≡ list_any (is_literal_true a) ls

-- A resolvent is true wherever both clauses are.
abbrev pub ResolventIsTrue : Type 0
ResolventIsTrue = (a : Assignment) (l : Literal) (c d : Clause) → IsClauseTrue a c → IsClauseTrue a d → IsClauseTrue a (resolvent l c d)
