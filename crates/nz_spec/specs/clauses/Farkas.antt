-- Sums of multiples of linear literals, and the literals that can't all be true because such a sum is a false bound on 0.
-- Sources: Farkas, Theorie der einfachen Ungleichungen, 1902; Dutertre and de Moura, A Fast Linear-Arithmetic Solver for DPLL(T),
-- CAV 2006, section 3 (explanations). The order of the operations is this solver's own.
use Rattle.std.specs.Prelude.{◌≡◌, Bool, true, false, ◌&&◌, ◌||◌, List, [], ◌∷◌, map, Option, Some, None, pos, if◌then◌else◌}
use Rattle.std.specs.List.{list_all}
use Rattle.nz_fractions.specs.Fraction.{Fraction, whole, fraction_lt, Sum, Product}
use Rattle.nz_spec.specs.numbers.Computation.{Computation, operated, at_once, turned_into, and_then}
use Rattle.nz_spec.specs.terms.Term.{Assignment, is_zero}
use Rattle.nz_spec.specs.terms.Form.{Numbering, Part, parts_joined, parts_scaled}
use Rattle.nz_spec.specs.clauses.Literal.{Literal, term_literal, is_at_most, is_below, negation_of, Clause, clause_of, IsClauseTrue}
use Rattle.nz_spec.specs.clauses.LinearLiteral.{is_without_units}

-- a literal, and by what it is multiplied
pub record Multiple : Type 0 where
  pub literal : Literal
  pub multiplier : Fraction

-- A sum of units is at most a limit, or below it where it is strict.
pub record Bound : Type 0 where
  pub parts : List Part
  pub limit : Fraction
  pub is_strict : Bool

-- 0 is at most 0
abbrev pub empty_bound : Bound
empty_bound = record { parts = []; limit = whole (pos 0); is_strict = false }

-- what a linear literal says; one on a term says nothing of a sum
abbrev pub bound_of : Literal → Bound
bound_of (term_literal t sign) = empty_bound
bound_of (is_at_most ps b) = record { parts = ps; limit = b; is_strict = false }
bound_of (is_below ps b) = record { parts = ps; limit = b; is_strict = true }

-- A linear literal, and a multiplier above 0.
abbrev pub is_linear_literal : Literal → Bool
is_linear_literal (term_literal t sign) = false
is_linear_literal (is_at_most ps b) = true
is_linear_literal (is_below ps b) = true

abbrev pub is_multiple : Multiple → Bool
is_multiple m = is_linear_literal m.literal && fraction_lt (whole (pos 0)) m.multiplier

-- ---- Sums

-- a bound times a number
abbrev pub bound_scaled : Fraction → Bound → Computation Bound
bound_scaled m x =
    and_then (parts_scaled (operated Product m) x.parts)
    (λ ps. turned_into (λ b. record { parts = ps; limit = b; is_strict = x.is_strict }) (operated Product m x.limit))

-- the sum of two bounds, which is strict where one of them is
abbrev pub bounds_joined : Numbering → Bound → Bound → Computation Bound
bounds_joined number x y =
    and_then (parts_joined number Sum x.parts y.parts)
    (λ ps. turned_into (λ b. record { parts = ps; limit = b; is_strict = x.is_strict || y.is_strict }) (operated Sum x.limit y.limit))

-- a bound, and then one multiple after another
abbrev pub multiples_onto : Numbering → Bound → List Multiple → Computation Bound
multiples_onto number x [] = at_once x
multiples_onto number x (m ∷ ms) =
    and_then (bound_scaled m.multiplier (bound_of m.literal)) (λ y. and_then (bounds_joined number x y) (λ z. multiples_onto number z ms))

abbrev pub sum_of_multiples : Numbering → List Multiple → Computation Bound
sum_of_multiples number ms = multiples_onto number empty_bound ms

-- the sums that these literals bound
abbrev pub sums_of : List Multiple → List (List Part)
sums_of ms = map (λ (m : Multiple). (bound_of m.literal).parts) ms

-- ---- The clause

-- No unit is left, and 0 isn't within the limit.
abbrev pub is_contradiction : Bound → Bool
is_contradiction x = is_without_units x.parts && (fraction_lt x.limit (whole (pos 0)) || is_zero x.limit && x.is_strict)

abbrev pub negations_of : List Multiple → List Literal
negations_of ms = map (λ (m : Multiple). negation_of m.literal) ms

-- Where the sum of the multiples is a contradiction, one of the literals is false.
abbrev pub farkas_clause : Numbering → List Multiple → Computation (Option Clause)
farkas_clause number ms =
    if list_all is_multiple ms
    then turned_into (λ x. if is_contradiction x then Some (clause_of (negations_of ms)) else None) (sum_of_multiples number ms)
    else at_once None

-- ---- Laws

-- The clause is true under each assignment.
abbrev pub FarkasClausesAreTrue : Type 0
FarkasClausesAreTrue = (number : Numbering) (ms : List Multiple) (c : Clause) → (farkas_clause number ms).result ≡ Some c
    → (a : Assignment) → IsClauseTrue a c
