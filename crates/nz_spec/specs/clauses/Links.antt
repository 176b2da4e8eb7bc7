-- The link table: the clauses that tie a comparison of numbers to literals on a sum, as a function of the term.
-- Sources: SMT-LIB 2.6, theory Reals_Ints (<, <=, = and is_int); Dutertre and de Moura, A Fast Linear-Arithmetic Solver for
-- DPLL(T), CAV 2006, section 3 (an atom is a bound on a sum of variables). The clauses' order is this solver's own.
use Rattle.std.specs.Prelude.{List, [], ◌∷◌, map, if◌then◌else◌, IsTrue, ⊤}
use Rattle.std.specs.List.{AllByRecursion}
use Rattle.nz_fractions.specs.Fraction.{Sum, Difference}
use Rattle.nz_spec.specs.numbers.Computation.{Computation, at_once, turned_into, and_then, in_turn}
use Rattle.nz_spec.specs.terms.Term.{int_sort, sort_of, Head, equality, less, at_most, integer_quotient, modulus, magnitude, to_int, is_int, Term, apply, no_terms, terms, Assignment}
use Rattle.nz_spec.specs.terms.Linear.{is_linear}
use Rattle.nz_spec.specs.terms.Model.{IsAssignment, HasSort}
use Rattle.nz_spec.specs.terms.Form.{Numbering, Form, joined}
use Rattle.nz_spec.specs.terms.FormOf.{form_of}
use Rattle.nz_spec.specs.clauses.Literal.{Literal, Clause, IsClauseTrue}
use Rattle.nz_spec.specs.clauses.LinearLiteral.{is_at_most_zero, is_below_zero}
use Rattle.nz_spec.specs.clauses.Gates.{holds, fails, list_of, is_boolean_term}

module _ (number : Numbering) where
  -- a form, another, and then their sum, or the first less the second
  abbrev pub plus : Computation Form → Computation Form → Computation Form
  plus c d = and_then c (λ f. and_then d (λ g. joined number Sum f g))

  abbrev pub minus : Computation Form → Computation Form → Computation Form
  minus c d = and_then c (λ f. and_then d (λ g. joined number Difference f g))

  -- the first is at most the second, and below it
  abbrev pub at_most_literal : Term → Term → Computation Literal
  at_most_literal t u = turned_into is_at_most_zero (minus (form_of number t) (form_of number u))

  abbrev pub below_literal : Term → Term → Computation Literal
  below_literal t u = turned_into is_below_zero (minus (form_of number t) (form_of number u))

  -- the rows of a term t of this head over these arguments
  abbrev pub links_over : Term → Head → List Term → List (List (Computation Literal))
  links_over t less (a ∷ b ∷ []) =
      (at_once (fails t) ∷ below_literal a b ∷ []) ∷ (at_once (holds t) ∷ at_most_literal b a ∷ []) ∷ []
  links_over t at_most (a ∷ b ∷ []) =
      (at_once (fails t) ∷ at_most_literal a b ∷ []) ∷ (at_once (holds t) ∷ below_literal b a ∷ []) ∷ []
  links_over t equality (a ∷ b ∷ []) =
      if is_boolean_term a then []
      else
      (at_once (fails t) ∷ at_most_literal a b ∷ []) ∷ (at_once (fails t) ∷ at_most_literal b a ∷ [])
      ∷ (at_once (holds t) ∷ below_literal a b ∷ below_literal b a ∷ []) ∷ []
  links_over t is_int (a ∷ []) =
      let u = apply to_int (terms a no_terms) in
      (at_once (fails t) ∷ at_most_literal a u ∷ []) ∷ (at_once (holds t) ∷ below_literal u a ∷ []) ∷ []
  links_over t h args = []

  -- the clauses of a term, in the order of the table; a term outside the table has none
  abbrev pub link_clauses : Term → List (Computation Clause)
  link_clauses (apply h ts) = map in_turn (links_over (apply h ts) h (list_of ts))

-- ---- Laws

-- Under each assignment of the sorts, arguments of `=` have values of their sorts, and those of `div`, `mod` and `abs` are integers.
abbrev pub HasSortedArguments : Term → Type 0
HasSortedArguments (apply equality ts) = AllByRecursion (λ (u : Term). HasSort (sort_of u) u) (list_of ts)
HasSortedArguments (apply integer_quotient ts) = AllByRecursion (HasSort int_sort) (list_of ts)
HasSortedArguments (apply modulus ts) = AllByRecursion (HasSort int_sort) (list_of ts)
HasSortedArguments (apply magnitude ts) = AllByRecursion (HasSort int_sort) (list_of ts)
HasSortedArguments t = ⊤

-- a linear term over such arguments
pub record IsArithmetic (t : Term) : Type 0 where
  pub linear : IsTrue (is_linear t)
  pub arguments : HasSortedArguments t

-- The clauses of such a term are true under each assignment of the sorts.
abbrev pub LinksAreTrue : Type 0
LinksAreTrue = (number : Numbering) (a : Assignment) → IsAssignment a → (t : Term) → IsArithmetic t
    → AllByRecursion (λ (c : Computation Clause). IsClauseTrue a c.result) (link_clauses number t)
