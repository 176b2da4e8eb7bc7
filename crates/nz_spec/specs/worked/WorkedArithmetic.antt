-- Worked steps of linear arithmetic: links and units of each kind, sums, cuts and a refutation, computed from the definitions.
use Rattle.std.specs.Prelude.{◌≡◌, List, [], ◌∷◌, ◌++◌, map, Option, Some, None, ℤ, pos, negsuc}
use Rattle.nz_fractions.specs.Fraction.{Fraction, whole, over, largest, Product, Difference, first_wide}
use Rattle.nz_spec.specs.terms.Term.{int_sort, over_int, less, at_most, equality, choice, integer_quotient, modulus, magnitude, product, difference, to_int, is_int, Term}
use Rattle.nz_spec.specs.terms.Normal.{paired}
use Rattle.nz_spec.specs.worked.TermSamples.{a_term, x_term, y_term, u_term, over_one, numeral_term}
use Rattle.nz_spec.specs.worked.TruthTables.{of_three}
use Rattle.nz_spec.specs.numbers.Computation.{Computation}
use Rattle.nz_spec.specs.terms.Form.{Numbering, Part}
use Rattle.nz_spec.specs.terms.FormOf.{place_of}
use Rattle.nz_spec.specs.clauses.Literal.{Literal, is_at_most, is_below, Clause}
use Rattle.nz_spec.specs.clauses.LinearLiteral.{tight_form}
use Rattle.nz_spec.specs.clauses.Gates.{holds, fails}
use Rattle.nz_spec.specs.clauses.Links.{link_clauses}
use Rattle.nz_spec.specs.clauses.Units.{unit_clauses}
use Rattle.nz_spec.specs.clauses.Farkas.{Multiple}
use Rattle.nz_spec.specs.clauses.Steps.{asserting, Step, given_step, link_step, farkas_step, branch_step, cut_step, resolve_step, step_clause, step_operations, IsDerivation}

-- x comes first, then y, then u, and then every other unit
abbrev pub sample_order : Numbering
sample_order = place_of (x_term ∷ y_term ∷ u_term ∷ [])

abbrev pub part : ℤ → Term → Part
part n u = record { coefficient = whole n; unit = u }

-- the sum is at most this integer, and below it
abbrev pub up_to : List Part → ℤ → Literal
up_to ps n = is_at_most ps (whole n)

abbrev pub under : List Part → ℤ → Literal
under ps n = is_below ps (whole n)

abbrev pub times : Literal → Fraction → Multiple
times l m = record { literal = l; multiplier = m }

-- ---- The tables

abbrev pub HasLinks : Term → (Literal → Literal → List Clause) → Type 0
HasLinks t clauses = map (λ (c : Computation Clause). c.result) (link_clauses sample_order t) ≡ clauses (holds t) (fails t)

abbrev pub HasUnits : Term → (Term → List Clause) → Type 0
HasUnits u clauses = map (λ (c : Computation Clause). c.result) (unit_clauses sample_order u) ≡ clauses u

-- (+ x (- 5)) as (- x 5)
abbrev pub x_less_five : Term
x_less_five = paired (difference over_int) x_term (numeral_term 5)

-- A link of each kind, and terms outside the table.
pub record HasLinkTable : Type 0 where
  pub below : HasLinks (paired less x_less_five y_term)
      (λ t n. (n ∷ under (part (pos 1) x_term ∷ part (negsuc 0) y_term ∷ []) (pos 5) ∷ []) ∷ (t ∷ up_to (part (negsuc 0) x_term ∷ part (pos 1) y_term ∷ []) (negsuc 4) ∷ []) ∷ [])
  pub most : HasLinks (paired at_most x_less_five y_term)
      (λ t n. (n ∷ up_to (part (pos 1) x_term ∷ part (negsuc 0) y_term ∷ []) (pos 5) ∷ []) ∷ (t ∷ under (part (negsuc 0) x_term ∷ part (pos 1) y_term ∷ []) (negsuc 4) ∷ []) ∷ [])
  pub equations : HasLinks (paired equality x_term y_term)
      (λ t n. let low = part (pos 1) x_term ∷ part (negsuc 0) y_term ∷ [] in let high = part (negsuc 0) x_term ∷ part (pos 1) y_term ∷ [] in
      (n ∷ up_to low (pos 0) ∷ []) ∷ (n ∷ up_to high (pos 0) ∷ []) ∷ (t ∷ under low (pos 0) ∷ under high (pos 0) ∷ []) ∷ [])
  pub integers : HasLinks (over_one is_int u_term)
      (λ t n. (n ∷ up_to (part (pos 1) u_term ∷ part (negsuc 0) (over_one to_int u_term) ∷ []) (pos 0) ∷ []) ∷ (t ∷ under (part (negsuc 0) u_term ∷ part (pos 1) (over_one to_int u_term) ∷ []) (pos 0) ∷ []) ∷ [])
  pub truths : HasLinks (paired equality a_term a_term) (λ t n. [])
  pub numbers : HasLinks x_less_five (λ t n. [])

-- A unit of each kind, and terms outside the table.
pub record HasUnitTable : Type 0 where
  pub choices : HasUnits (of_three (choice int_sort) a_term x_term y_term)
      (λ u. (fails a_term ∷ up_to (part (negsuc 0) x_term ∷ part (pos 1) u ∷ []) (pos 0) ∷ []) ∷ (fails a_term ∷ up_to (part (pos 1) x_term ∷ part (negsuc 0) u ∷ []) (pos 0) ∷ [])
      ∷ (holds a_term ∷ up_to (part (negsuc 0) y_term ∷ part (pos 1) u ∷ []) (pos 0) ∷ []) ∷ (holds a_term ∷ up_to (part (pos 1) y_term ∷ part (negsuc 0) u ∷ []) (pos 0) ∷ []) ∷ [])
  pub quotients : HasUnits (paired integer_quotient x_term (numeral_term 3))
      (λ u. (up_to (part (negsuc 0) x_term ∷ part (pos 3) u ∷ []) (pos 0) ∷ []) ∷ (up_to (part (pos 1) x_term ∷ part (negsuc 2) u ∷ []) (pos 2) ∷ []) ∷ [])
  pub negative_divisors : HasUnits (paired integer_quotient x_less_five (over_one (difference over_int) (numeral_term 3)))
      (λ u. (up_to (part (negsuc 0) x_term ∷ part (negsuc 2) u ∷ []) (negsuc 4) ∷ []) ∷ (up_to (part (pos 1) x_term ∷ part (pos 3) u ∷ []) (pos 7) ∷ []) ∷ [])
  pub remainders : HasUnits (paired modulus x_term (numeral_term 3))
      (λ u. let q = paired integer_quotient x_term (numeral_term 3) in
      (up_to (part (pos 1) x_term ∷ part (negsuc 2) q ∷ part (negsuc 0) u ∷ []) (pos 0) ∷ []) ∷ (up_to (part (negsuc 0) x_term ∷ part (pos 1) u ∷ part (pos 3) q ∷ []) (pos 0) ∷ [])
      ∷ (up_to (part (negsuc 0) u ∷ []) (pos 0) ∷ []) ∷ (up_to (part (pos 1) u ∷ []) (pos 2) ∷ []) ∷ [])
  pub magnitudes : HasUnits (over_one magnitude x_less_five)
      (λ u. (up_to (part (pos 1) x_term ∷ part (negsuc 0) u ∷ []) (pos 5) ∷ []) ∷ (up_to (part (negsuc 0) x_term ∷ part (negsuc 0) u ∷ []) (negsuc 4) ∷ [])
      ∷ (up_to (part (negsuc 0) x_term ∷ part (pos 1) u ∷ []) (negsuc 4) ∷ up_to (part (pos 1) x_term ∷ part (pos 1) u ∷ []) (pos 5) ∷ []) ∷ [])
  pub floors : HasUnits (over_one to_int u_term)
      (λ u. (up_to (part (negsuc 0) u_term ∷ part (pos 1) u ∷ []) (pos 0) ∷ []) ∷ (under (part (pos 1) u_term ∷ part (negsuc 0) u ∷ []) (pos 1) ∷ []) ∷ [])
  pub constants : HasUnits x_term (λ u. [])

-- ---- Sums and cuts

-- 2*x is above 1, and below 2
abbrev pub above_one : Literal
above_one = under (part (negsuc 1) x_term ∷ []) (negsuc 0)

abbrev pub below_two : Literal
below_two = under (part (pos 2) x_term ∷ []) (pos 2)

-- and what x is then
abbrev pub x_up_to_zero : Literal
x_up_to_zero = up_to (part (pos 1) x_term ∷ []) (pos 0)

abbrev pub x_from_one : Literal
x_from_one = up_to (part (negsuc 0) x_term ∷ []) (negsuc 0)

-- x below 0, and at least 0
abbrev pub x_negative : Literal
x_negative = under (part (pos 1) x_term ∷ []) (pos 0)

abbrev pub x_not_negative : Literal
x_not_negative = up_to (part (negsuc 0) x_term ∷ []) (pos 0)

abbrev pub one_half : Fraction
one_half = over (pos 1) 2

abbrev pub clause_of_step : Step → Option Clause
clause_of_step s = step_clause sample_order (asserting []) [] s

-- A sum is a contradiction where no unit is left and the limit is below 0, or 0 with a strict bound among the literals.
pub record HasSums : Type 0 where
  pub lower : clause_of_step (farkas_step (times x_up_to_zero (whole (pos 1)) ∷ times x_from_one (whole (pos 1)) ∷ []))
      ≡ Some (under (part (negsuc 0) x_term ∷ []) (pos 0) ∷ under (part (pos 1) x_term ∷ []) (pos 1) ∷ [])
  pub strict : clause_of_step (farkas_step (times x_negative (whole (pos 2)) ∷ times x_not_negative (whole (pos 2)) ∷ []))
      ≡ Some (x_not_negative ∷ x_negative ∷ [])
  pub met : clause_of_step (farkas_step (times x_up_to_zero (whole (pos 1)) ∷ times x_not_negative (whole (pos 1)) ∷ [])) ≡ None
  pub unit_left : clause_of_step (farkas_step (times x_up_to_zero (whole (pos 1)) ∷ times x_from_one (whole (pos 2)) ∷ [])) ≡ None
  pub not_positive : clause_of_step (farkas_step (times x_up_to_zero (whole (negsuc 0)) ∷ times x_from_one (whole (negsuc 0)) ∷ [])) ≡ None
  pub no_sum : clause_of_step (farkas_step (times (holds a_term) (whole (pos 1)) ∷ [])) ≡ None

-- A limit goes down to an integer, and a strict one to the integer below it.
pub record HasCuts : Type 0 where
  pub floors : clause_of_step (cut_step (times (up_to (part (pos 2) x_term ∷ []) (pos 3)) one_half ∷ []))
      ≡ Some (under (part (negsuc 1) x_term ∷ []) (negsuc 2) ∷ up_to (part (pos 1) x_term ∷ []) (pos 1) ∷ [])
  pub below : clause_of_step (cut_step (times below_two one_half ∷ [])) ≡ Some (up_to (part (negsuc 1) x_term ∷ []) (negsuc 1) ∷ x_up_to_zero ∷ [])
  pub fractions : clause_of_step (cut_step (times (up_to (part (pos 1) x_term ∷ []) (pos 3)) one_half ∷ [])) ≡ None
  pub real_units : clause_of_step (cut_step (times (up_to (part (pos 1) u_term ∷ []) (pos 3)) (whole (pos 1)) ∷ [])) ≡ None
  pub branches : clause_of_step (branch_step (part (pos 1) x_term ∷ []) (whole (pos 0))) ≡ Some (x_up_to_zero ∷ x_from_one ∷ [])
  pub halves : clause_of_step (branch_step (part (pos 1) x_term ∷ []) one_half) ≡ None
  pub tight : (tight_form below_two).result ≡ x_up_to_zero
  pub tight_already : (tight_form x_from_one).result ≡ x_from_one

-- The first operation of a step that leaves the numbers is where it stops.
pub record HasWideSteps : Type 0 where
  pub product : first_wide (step_operations sample_order (asserting []) (farkas_step (times below_two (whole (pos largest)) ∷ [])))
      ≡ Some (record { operator = Product; left = whole (pos largest); right = whole (pos 2) })
  pub next : first_wide (step_operations sample_order (asserting []) (branch_step (part (pos 1) x_term ∷ []) (whole (pos largest))))
      ≡ Some (record { operator = Difference; left = whole (negsuc 170141183460469231731687303715884105726); right = whole (pos 1) })
  pub none : first_wide (step_operations sample_order (asserting []) (cut_step (times below_two one_half ∷ []))) ≡ None

-- ---- A refutation

abbrev pub twice_x : Term
twice_x = paired (product over_int) (numeral_term 2) x_term

-- (< 1 (* 2 x)) and (< (* 2 x) 2)
abbrev pub low_term : Term
low_term = paired less (numeral_term 1) twice_x

abbrev pub high_term : Term
high_term = paired less twice_x (numeral_term 2)

-- No integer is above 1/2 and below 1.
abbrev pub gap_steps : List Step
gap_steps =
    given_step 0 ∷ given_step 1 ∷ link_step low_term 0 ∷ link_step high_term 0
    ∷ resolve_step 0 2 (holds low_term) ∷ resolve_step 1 3 (holds high_term)
    ∷ cut_step (times above_one one_half ∷ []) ∷ cut_step (times below_two one_half ∷ [])
    ∷ resolve_step 4 6 above_one ∷ resolve_step 5 7 below_two
    ∷ farkas_step (times x_from_one (whole (pos 1)) ∷ times x_up_to_zero (whole (pos 1)) ∷ [])
    ∷ resolve_step 8 10 x_from_one ∷ resolve_step 9 11 x_up_to_zero ∷ []

-- its clauses before the last
abbrev pub gap_clauses : List Clause
gap_clauses =
    (holds low_term ∷ []) ∷ (holds high_term ∷ []) ∷ (fails low_term ∷ above_one ∷ []) ∷ (fails high_term ∷ below_two ∷ [])
    ∷ (above_one ∷ []) ∷ (below_two ∷ [])
    ∷ (up_to (part (pos 2) x_term ∷ []) (pos 1) ∷ x_from_one ∷ []) ∷ (up_to (part (negsuc 1) x_term ∷ []) (negsuc 1) ∷ x_up_to_zero ∷ [])
    ∷ (x_from_one ∷ []) ∷ (x_up_to_zero ∷ [])
    ∷ (under (part (pos 1) x_term ∷ []) (pos 1) ∷ under (part (negsuc 0) x_term ∷ []) (pos 0) ∷ [])
    ∷ (under (part (negsuc 0) x_term ∷ []) (pos 0) ∷ []) ∷ []

-- The last step gives the empty clause.
abbrev pub HasGap : Type 0
HasGap = IsDerivation sample_order (asserting (low_term ∷ high_term ∷ [])) gap_steps (gap_clauses ++ [] ∷ [])
