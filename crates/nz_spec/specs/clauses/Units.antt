-- The unit table: the clauses that say what a unit with arguments stands for, as a function of the term.
-- Sources: SMT-LIB 2.6, theories Core (ite) and Ints (div, mod and abs) and Reals_Ints (to_int). The clauses' order is this solver's own.
use Rattle.std.specs.Prelude.{List, [], ◌∷◌, map, Option, Some, None, pos, negsuc, ◌+ℤ◌, unsigned_abs}
use Rattle.std.specs.List.{AllByRecursion}
use Rattle.nz_fractions.specs.Fraction.{Fraction, whole, floor, Difference}
use Rattle.nz_spec.specs.numbers.Computation.{Computation, operated, at_once, turned_into, and_then, in_turn}
use Rattle.nz_spec.specs.terms.Term.{bool_sort, Head, choice, integer_quotient, modulus, magnitude, to_int, Term, apply, no_terms, terms, Assignment}
use Rattle.nz_spec.specs.terms.Linear.{constant_value}
use Rattle.nz_spec.specs.terms.Model.{IsAssignment}
use Rattle.nz_spec.specs.terms.Form.{Numbering, Form, unit_form, negated_form}
use Rattle.nz_spec.specs.terms.FormOf.{form_of}
use Rattle.nz_spec.specs.clauses.Literal.{Literal, is_at_most, is_below, Clause, IsClauseTrue}
use Rattle.nz_spec.specs.clauses.LinearLiteral.{is_at_most_zero}
use Rattle.nz_spec.specs.clauses.Gates.{holds, fails, list_of}
use Rattle.nz_spec.specs.clauses.Links.{plus, minus, at_most_literal, IsArithmetic}

-- a form is at most 0, at most a number, or below it: what it adds goes to the other side
abbrev pub at_most_zero : Computation Form → Computation Literal
at_most_zero c = turned_into is_at_most_zero c

abbrev pub at_most_number : Fraction → Computation Form → Computation Literal
at_most_number b c = and_then c (λ f. turned_into (λ l. is_at_most f.parts l) (operated Difference b f.offset))

abbrev pub below_number : Fraction → Computation Form → Computation Literal
below_number b c = and_then c (λ f. turned_into (λ l. is_below f.parts l) (operated Difference b f.offset))

-- a number of times a unit
abbrev pub times_unit : Fraction → Term → Form
times_unit k u = record { parts = record { coefficient = k; unit = u } ∷ []; offset = whole (pos 0) }

-- the greatest remainder of a division by k: abs(k) - 1
abbrev pub greatest_remainder : Fraction → Fraction
greatest_remainder k = whole (pos (unsigned_abs (floor k)) +ℤ negsuc 0)

module _ (number : Numbering) where
  -- the rows of a quotient u of a by k
  abbrev pub quotient_rows : Term → Term → Option Fraction → List (List (Computation Literal))
  quotient_rows u a None = []
  quotient_rows u a (Some k) =
      let f = form_of number a in
      let multiple = at_once (times_unit k u) in
      (at_most_zero (minus number multiple f) ∷ [])
      ∷ (at_most_number (greatest_remainder k) (minus number f multiple) ∷ [])
      ∷ []

  -- the rows of a remainder u of a by k, where q is the quotient
  abbrev pub remainder_rows : Term → Term → Term → Option Fraction → List (List (Computation Literal))
  remainder_rows u q a None = []
  remainder_rows u q a (Some k) =
      let f = form_of number a in
      let own = at_once (unit_form u) in
      let multiple = at_once (times_unit k q) in
      (at_most_zero (minus number (minus number f multiple) own) ∷ [])
      ∷ (at_most_zero (minus number (plus number own multiple) f) ∷ [])
      ∷ (at_most_zero (turned_into negated_form own) ∷ [])
      ∷ (at_once (is_at_most (unit_form u).parts (greatest_remainder k)) ∷ [])
      ∷ []

  -- the rows of the size u of a
  abbrev pub magnitude_rows : Term → Term → List (List (Computation Literal))
  magnitude_rows u a =
      let f = form_of number a in
      let own = at_once (unit_form u) in
      (at_most_literal number a u ∷ [])
      ∷ (at_most_zero (minus number (turned_into negated_form f) own) ∷ [])
      ∷ (at_most_literal number u a ∷ at_most_zero (plus number own f) ∷ [])
      ∷ []

  -- the rows of a unit u of this head over these arguments
  abbrev pub units_over : Term → Head → List Term → List (List (Computation Literal))
  units_over u (choice bool_sort) args = []
  units_over u (choice s) (c ∷ a ∷ b ∷ []) =
      (at_once (fails c) ∷ at_most_literal number u a ∷ []) ∷ (at_once (fails c) ∷ at_most_literal number a u ∷ [])
      ∷ (at_once (holds c) ∷ at_most_literal number u b ∷ []) ∷ (at_once (holds c) ∷ at_most_literal number b u ∷ []) ∷ []
  units_over u integer_quotient (a ∷ k ∷ []) = quotient_rows u a (constant_value k)
  units_over u modulus (a ∷ k ∷ []) =
      remainder_rows u (apply integer_quotient (terms a (terms k no_terms))) a (constant_value k)
  units_over u magnitude (a ∷ []) = magnitude_rows u a
  units_over u to_int (a ∷ []) =
      (at_most_literal number u a ∷ [])
      ∷ (below_number (whole (pos 1)) (minus number (form_of number a) (at_once (unit_form u))) ∷ [])
      ∷ []
  units_over u h args = []

  -- the clauses of a term, in the order of the table; a term outside the table has none
  abbrev pub unit_clauses : Term → List (Computation Clause)
  unit_clauses (apply h ts) = map in_turn (units_over (apply h ts) h (list_of ts))

-- ---- Laws

-- The clauses of a linear unit are true under each assignment of the sorts.
abbrev pub UnitsAreTrue : Type 0
UnitsAreTrue = (number : Numbering) (a : Assignment) → IsAssignment a → (t : Term) → IsArithmetic t
    → AllByRecursion (λ (c : Computation Clause). IsClauseTrue a c.result) (unit_clauses number t)
