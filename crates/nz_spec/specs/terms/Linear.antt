-- Linear terms: which terms are constant, and which products and divisions are by constants alone.
-- Source: SMT-LIB 2.6, logics LIRA and QF_LRA (linear arithmetic: products and quotients with a constant). That a constant
-- term is one whose value, folded from the left, stays among the numbers is this solver's own.
use Rattle.std.specs.Prelude.{ℕ, suc, ◌&&◌, ◌||◌, nat_lt, not, Bool, true, false, List, [], ◌∷◌, Option, Some, None, option_map, pos, if◌then◌else◌}
use Rattle.nz_fractions.specs.Fraction.{Fraction, whole, neg_ℚ, Arithmetic, Sum, Difference, Product, Quotient, outcome, is_wide}
use Rattle.nz_spec.specs.terms.Term.{Head, integer, decimal_number, sum, difference, product, quotient, integer_quotient, modulus, to_real, Term, apply, Terms, no_terms, terms, decimal_value, is_zero, is_undefined}

-- an operation on two constants, where it has a value among the numbers
abbrev pub folded_step : Arithmetic → Option Fraction → Option Fraction → Option Fraction
folded_step op (Some p) (Some q) = if is_undefined op q || is_wide op p q then None else Some (outcome op p q)
folded_step op (Some p) None = None
folded_step op None q = None

abbrev pub folded : Arithmetic → Option Fraction → List (Option Fraction) → Option Fraction
folded op c [] = c
folded op c (d ∷ ds) = folded op (folded_step op c d) ds

-- the value of an operator over arguments that are constant where they have a value
abbrev pub head_constant : Head → List (Option Fraction) → Option Fraction
head_constant (integer n) cs = Some (whole (pos n))
head_constant (decimal_number n places) cs = Some (decimal_value n places)
head_constant to_real (c ∷ []) = c
head_constant (sum s) (c ∷ cs) = folded Sum c cs
head_constant (difference s) (c ∷ []) = option_map neg_ℚ c
head_constant (difference s) (c ∷ d ∷ cs) = folded Difference c (d ∷ cs)
head_constant (product s) (c ∷ cs) = folded Product c cs
head_constant quotient (c ∷ cs) = folded Quotient c cs
head_constant h cs = None

-- The value of a constant term: a numeral, a decimal, or to_real, +, -, * and / of constant terms by divisors that aren't
-- zero; none where an operation leaves the numbers, and where the term isn't constant.
abbrev mutual
  pub constant_value : Term → Option Fraction
  constant_value (apply h ts) = head_constant h (constant_values ts)

  pub constant_values : Terms → List (Option Fraction)
  constant_values no_terms = []
  constant_values (terms t ts) = constant_value t ∷ constant_values ts

-- how many of the arguments aren't constant
abbrev pub variable_count : List (Option Fraction) → ℕ
variable_count [] = 0
variable_count (None ∷ cs) = suc (variable_count cs)
variable_count (Some q ∷ cs) = variable_count cs

abbrev pub are_divisors : List (Option Fraction) → Bool
are_divisors [] = true
are_divisors (None ∷ cs) = false
are_divisors (Some q ∷ cs) = not (is_zero q) && are_divisors cs

abbrev pub divides_by_constants : List (Option Fraction) → Bool
divides_by_constants [] = true
divides_by_constants (c ∷ cs) = are_divisors cs

-- A product has at most one argument that isn't constant, and each divisor is a constant other than zero.
abbrev pub is_linear_node : Head → List (Option Fraction) → Bool
is_linear_node (product s) cs = nat_lt (variable_count cs) 2
is_linear_node quotient cs = divides_by_constants cs
is_linear_node integer_quotient cs = divides_by_constants cs
is_linear_node modulus cs = divides_by_constants cs
is_linear_node h cs = true

abbrev mutual
  pub is_linear : Term → Bool
  is_linear (apply h ts) = is_linear_node h (constant_values ts) && are_linear ts

  pub are_linear : Terms → Bool
  are_linear no_terms = true
  are_linear (terms t ts) = is_linear t && are_linear ts
