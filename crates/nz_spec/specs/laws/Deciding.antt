-- Truths for Boolean terms and numbers for units that meet the clauses of the tables are the values of the terms.
-- Sources: Tseitin 1968 (clauses that define truths); Dutertre and de Moura, A Fast Linear-Arithmetic Solver for DPLL(T), CAV 2006, section 3
-- (bounds that define comparisons).
use Rattle.std.specs.Prelude.{◌≡◌, Bool, false, true, List, Option, Some, Contains}
use Rattle.nz_fractions.specs.Fraction.{◌=ℚ◌, ◌+ℚ◌}
use Rattle.nz_spec.specs.terms.Term.{Constant, constant, Term, apply, no_terms, truth, Assignment, value_of}
use Rattle.nz_spec.specs.terms.Model.{IsAssignment}
use Rattle.nz_spec.specs.terms.Order.{listing_order}
use Rattle.nz_spec.specs.terms.Form.{Numbering, unit_value}
use Rattle.nz_spec.specs.terms.FormOf.{form_of}
use Rattle.nz_spec.specs.clauses.LinearLiteral.{is_whole}
use Rattle.nz_spec.specs.clauses.Gates.{is_boolean_term}
use Rattle.nz_spec.specs.clauses.Met.{MeetsClauses}
use Rattle.nz_spec.specs.simplex.Basis.{Valuation, worth}
use Rattle.nz_spec.specs.search.Branches.{is_integer_of}
use Rattle.nz_spec.specs.terms.Taken.{IsTaken}

module _ (truths : Term → Option Bool) (v : Valuation) where
  -- The clauses of these terms are met. Units of sort Int are worth integers, and the assignment gives the constants among the terms their truths and numbers.
  pub record MeetsTables (number : Numbering) (a : Assignment) (parts : List Term) : Type 0 where
    pub clauses : MeetsClauses truths v number parts
    pub constants : (c : Constant) (sign : Bool) → Contains parts (apply (constant c) no_terms) → truths (apply (constant c) no_terms) ≡ Some sign → a c ≡ truth sign
    pub numbers : (c : Constant) → Contains parts (apply (constant c) no_terms) → is_boolean_term (apply (constant c) no_terms) ≡ false
        → unit_value a (apply (constant c) no_terms) =ℚ v (apply (constant c) no_terms)
    pub integral : (u : Term) → is_integer_of parts u ≡ true → is_whole (v u) ≡ true

-- ---- Laws

-- The value of a Boolean term is its truth, and that of a number is what its form is worth. What is listed with a taken term has no unit of sort Int.
pub record TablesDecide : Type 0 where
  pub truths : (number : Numbering) (a : Assignment) (truths : Term → Option Bool) (v : Valuation) (t : Term) (sign : Bool) → IsTaken t → IsAssignment a
      → MeetsTables truths v number a (listing_order t) → is_boolean_term t ≡ true → truths t ≡ Some sign → value_of a t ≡ truth sign
  pub numbers : (number : Numbering) (a : Assignment) (truths : Term → Option Bool) (v : Valuation) (t : Term) → IsTaken t → IsAssignment a
      → MeetsTables truths v number a (listing_order t) → is_boolean_term t ≡ false
      → unit_value a t =ℚ (worth v (form_of number t).result.parts +ℚ (form_of number t).result.offset)
  pub integers : (t u : Term) → IsTaken t → is_integer_of (listing_order t) u ≡ true → ⊥
