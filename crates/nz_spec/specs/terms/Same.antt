-- Which terms and numbers are one: the same as they are written, and not only of one value.
use Rattle.std.specs.Prelude.{◌≡◌, ℕ, ◌==◌, bytes_eq, Bool, true, false, ◌&&◌, IsTrue, List, [], ◌∷◌}
use Rattle.std.specs.Ordering.{int_eq}
use Rattle.nz_fractions.specs.Fraction.{Fraction}
use Rattle.nz_spec.specs.terms.Term.{Sort, bool_sort, int_sort, real_sort, head_sort, Head, constant, parameter, integer, decimal_number, verum, falsum, negation, conjunction, disjunction, implication, exclusion, equality, distinction, choice, less, at_most, greater, at_least, sum, difference, product, quotient, integer_quotient, modulus, magnitude, to_real, to_int, is_int, Term, apply, Terms, no_terms, terms}

-- the same numerator and the same denominator
abbrev pub are_same_fraction : Fraction → Fraction → Bool
are_same_fraction p q = int_eq p.numerator q.numerator && p.below == q.below

-- ---- Heads

abbrev pub sort_number : Sort → ℕ
sort_number bool_sort = 0
sort_number int_sort = 1
sort_number real_sort = 2

-- which head it is, whatever it holds
abbrev pub head_kind : Head → ℕ
head_kind (constant c) = 0
head_kind (parameter i s) = 1
head_kind (integer n) = 2
head_kind (decimal_number n places) = 3
head_kind verum = 4
head_kind falsum = 5
head_kind negation = 6
head_kind conjunction = 7
head_kind disjunction = 8
head_kind exclusion = 9
head_kind equality = 10
head_kind (choice s) = 11
head_kind less = 12
head_kind at_most = 13
head_kind (sum s) = 14
head_kind (difference s) = 15
head_kind (product s) = 16
head_kind quotient = 17
head_kind integer_quotient = 18
head_kind modulus = 19
head_kind magnitude = 20
head_kind to_real = 21
head_kind to_int = 22
head_kind is_int = 23
head_kind implication = 24
head_kind distinction = 25
head_kind greater = 26
head_kind at_least = 27

-- the digits of a number; 0 of another head
abbrev pub head_digits : Head → ℕ
head_digits (integer n) = n
head_digits (decimal_number n places) = n
head_digits h = 0

-- the place of a parameter, or how many digits of a decimal stand after the point; 0 of another head
abbrev pub head_place : Head → ℕ
head_place (parameter i s) = i
head_place (decimal_number n places) = places
head_place h = 0

-- the name of a constant; none of another head
abbrev pub head_name : Head → List ℕ
head_name (constant c) = c.name
head_name h = []

-- Two heads are one where they are of one kind and of one sort, and hold the same (`TellsHeads`).
abbrev pub head_numbers : Head → List ℕ
head_numbers h = head_kind h ∷ sort_number (head_sort h) ∷ head_digits h ∷ head_place h ∷ head_name h

abbrev pub are_same_head : Head → Head → Bool
are_same_head g h = bytes_eq (head_numbers g) (head_numbers h)

-- ---- Terms

abbrev mutual
  pub are_same_term : Term → Term → Bool
  are_same_term (apply g ts) (apply h us) = are_same_head g h && are_same_terms ts us

  pub are_same_terms : Terms → Terms → Bool
  are_same_terms no_terms no_terms = true
  are_same_terms no_terms (terms u us) = false
  are_same_terms (terms t ts) no_terms = false
  are_same_terms (terms t ts) (terms u us) = are_same_term t u && are_same_terms ts us

-- ---- Laws

-- The test says which heads are one.
abbrev pub TellsHeads : Type 0
TellsHeads = (g h : Head) → IsTrue (are_same_head g h) → g ≡ h

-- The test says which terms are one.
pub record TellsTerms : Type 0 where
  pub same : (t u : Term) → IsTrue (are_same_term t u) → t ≡ u
  pub one : (t : Term) → IsTrue (are_same_term t t)
