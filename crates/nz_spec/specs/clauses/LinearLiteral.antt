-- Linear literals over integers: which sums are integers, and the bounds that say as much of them as any other.
-- Sources: SMT-LIB 2.6, theory Reals_Ints (<=, <); Gomory, Outline of an algorithm for integer solutions to linear programs,
-- 1958 (a bound on a sum of integers may be rounded). When a literal is tight is this solver's own.
use Rattle.std.specs.Prelude.{◌≡◌, ℕ, Bool, true, false, not, ◌&&◌, List, [], ◌∷◌, pos, unsigned_abs, if◌then◌else◌}
use Rattle.std.specs.List.{list_all, AllByRecursion}
use Rattle.nz_fractions.specs.Fraction.{Fraction, whole, neg_ℚ, fraction_eq, floor, ceiling, gcd, over, Difference, Product}
use Rattle.nz_spec.specs.numbers.Computation.{Computation, operated, at_once, turned_into, and_then}
use Rattle.nz_spec.specs.terms.Term.{int_sort, are_same_sort, sort_of, Assignment}
use Rattle.nz_spec.specs.terms.Model.{IsAssignment, HasSort}
use Rattle.nz_spec.specs.terms.Form.{Part, Form, parts_scaled}
use Rattle.nz_spec.specs.clauses.Literal.{Literal, term_literal, is_at_most, is_below, is_literal_true}

-- a form is at most 0, or below it: what it adds goes to the other side
abbrev pub is_at_most_zero : Form → Literal
is_at_most_zero f = is_at_most f.parts (neg_ℚ f.offset)

abbrev pub is_below_zero : Form → Literal
is_below_zero f = is_below f.parts (neg_ℚ f.offset)

-- what the literal is a bound on; a term has none
abbrev pub parts_of : Literal → List Part
parts_of (term_literal t sign) = []
parts_of (is_at_most ps b) = ps
parts_of (is_below ps b) = ps

-- ---- Integers

abbrev pub is_whole : Fraction → Bool
is_whole q = fraction_eq q (whole (floor q))

-- the coefficient is an integer, and the unit of sort Int
abbrev pub is_integral_part : Part → Bool
is_integral_part p = is_whole p.coefficient && are_same_sort (sort_of p.unit) int_sort

abbrev pub are_integral : List Part → Bool
are_integral ps = list_all is_integral_part ps

-- the greatest common divisor of the coefficients, where they are integers
abbrev pub common_divisor : List Part → ℕ
common_divisor [] = 0
common_divisor (p ∷ ps) = gcd (unsigned_abs (floor p.coefficient)) (common_divisor ps)

-- what makes the coefficients integers without a common divisor above 1
abbrev pub tight_multiplier : List Part → Fraction
tight_multiplier ps = over (pos 1) (common_divisor ps)

-- what integers may be where they are below a number: at most the greatest integer that is below it
abbrev pub greatest_below : Fraction → Computation Fraction
greatest_below b = operated Difference (whole (ceiling b)) (whole (pos 1))

-- the parts times a number, and how the bound goes over then
abbrev pub rounded : Fraction → List Part → Fraction → (Fraction → Computation Fraction) → Computation Literal
rounded m ps b round =
    and_then (parts_scaled (λ c. operated Product m c) ps)
    (λ qs. and_then (operated Product m b) (λ c. turned_into (λ d. is_at_most qs d) (round c)))

abbrev pub is_without_units : List Part → Bool
is_without_units [] = true
is_without_units (p ∷ ps) = false

-- A literal over integers says as much with a bound that is an integer; another stays as it is.
abbrev pub tight_form : Literal → Computation Literal
tight_form (term_literal t sign) = at_once (term_literal t sign)
tight_form (is_at_most ps b) =
    if are_integral ps && not (is_without_units ps) then rounded (tight_multiplier ps) ps b (λ c. at_once (whole (floor c)))
    else at_once (is_at_most ps b)
tight_form (is_below ps b) =
    if are_integral ps && not (is_without_units ps) then rounded (tight_multiplier ps) ps b greatest_below
    else at_once (is_below ps b)

-- ---- Laws

-- Each unit has a value of its sort.
abbrev pub HaveSortedUnits : List Part → Type 0
HaveSortedUnits ps = AllByRecursion (λ (p : Part). HasSort (sort_of p.unit) p.unit) ps

-- A tight literal says as much as the literal that it is made of.
abbrev pub TightSaysAsMuch : Type 0
TightSaysAsMuch = (a : Assignment) → IsAssignment a → (l : Literal) → HaveSortedUnits (parts_of l)
    → is_literal_true a (tight_form l).result ≡ is_literal_true a l
