-- What is met by truths of terms and worths of units: literals, clauses, and the clauses of the tables.
-- Sources: Tseitin 1968 (clauses that define truths); Dutertre and de Moura, A Fast Linear-Arithmetic Solver for DPLL(T), CAV 2006, section 3
-- (bounds that define comparisons).
use Rattle.std.specs.Prelude.{◌≡◌, Bool, List, Option, Some, Contains}
use Rattle.std.specs.List.{AllByRecursion}
use Rattle.nz_fractions.specs.Fraction.{◌≤ℚ◌, ◌<ℚ◌}
use Rattle.nz_spec.specs.numbers.Computation.{Computation}
use Rattle.nz_spec.specs.terms.Term.{Term}
use Rattle.nz_spec.specs.terms.Form.{Numbering}
use Rattle.nz_spec.specs.clauses.Literal.{Literal, term_literal, is_at_most, is_below, Clause}
use Rattle.nz_spec.specs.clauses.Gates.{gate_clauses}
use Rattle.nz_spec.specs.clauses.Links.{link_clauses}
use Rattle.nz_spec.specs.clauses.Units.{unit_clauses}
use Rattle.nz_spec.specs.simplex.Basis.{Valuation, worth}

module _ (truths : Term → Option Bool) (v : Valuation) where
  -- a literal on a term has its truth, and a bound holds of what the units are worth
  abbrev pub IsMet : Literal → Type 0
  IsMet (term_literal t sign) = truths t ≡ Some sign
  IsMet (is_at_most ps b) = worth v ps ≤ℚ b
  IsMet (is_below ps b) = worth v ps <ℚ b

  -- one of the literals is met
  abbrev pub HasMetLiteral : Clause → Type 0
  HasMetLiteral c = (l : Literal) × Contains c l × IsMet l

  -- Of these terms each that has a truth meets its gates and links: each of these clauses has a literal that is met; and so do the clauses of all units.
  pub record MeetsClauses (number : Numbering) (parts : List Term) : Type 0 where
    pub gates : (u : Term) (sign : Bool) → Contains parts u → truths u ≡ Some sign → AllByRecursion HasMetLiteral (gate_clauses u)
    pub links : (u : Term) (sign : Bool) → Contains parts u → truths u ≡ Some sign → AllByRecursion (λ (c : Computation Clause). HasMetLiteral c.result) (link_clauses number u)
    pub units : (u : Term) → Contains parts u → AllByRecursion (λ (c : Computation Clause). HasMetLiteral c.result) (unit_clauses number u)
