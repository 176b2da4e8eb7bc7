-- Clauses that hold by arithmetic alone, and what the log says of each: the step that gives it.
use Rattle.std.specs.Prelude.{◌≡◌, ℕ, ◌<◌, ◌++◌, IsTrue, List, [], length, map, Option, Some, None, pos}
use Rattle.std.specs.List.{list_all, AllByRecursion}
use Rattle.nz_fractions.specs.Fraction.{Fraction, whole, neg_ℚ, Difference, Operation, first_wide}
use Rattle.nz_spec.specs.numbers.Computation.{Computation, operated, turned_into}
use Rattle.nz_spec.specs.clauses.Farkas as farkas
use Rattle.nz_spec.specs.clauses.Farkas.{bound_of, is_multiple}
use Rattle.nz_spec.specs.terms.Form.{negated_part}
use Rattle.nz_spec.specs.terms.FormOf.{number_in}
use Rattle.nz_spec.specs.clauses.Literal.{Literal, is_at_most}
use Rattle.nz_spec.specs.terms.Table.{Node, IsTable, term_in}
use Rattle.nz_spec.specs.clauses.Steps.{Step, link_step, unit_step, farkas_step, branch_step, cut_step, step_clause, step_operations, IsSortedStep, asserting}
use Rattle.nz_lin.specs.declared.bound.Bound.{Bound}
use Rattle.nz_lin.specs.Forms.{parts_over}
use Rattle.nz_log.specs.declared.atoms.Atom.{Atom}
use Rattle.nz_log.specs.declared.lits.Lit.{Lit}
use Rattle.nz_log.specs.declared.multiples.LitMultiple.{LitMultiple}
use Rattle.nz_log.specs.Lits.{negated_lit}
use Rattle.nz_log.specs.Atoms.{Stay, literal_in, clause_in, IsLitIn, AreWithin}

pub data Axiom : Type 0 where
  link_of : (term j : ℕ) → Axiom  -- a clause of the link table
  unit_of : (term j : ℕ) → Axiom  -- a clause of the unit table
  farkas_of : (multiples : List LitMultiple) → Axiom  -- literals whose sum is a contradiction
  branch_of : (first : Lit) → Axiom  -- a sum of integers is at most an integer, or at least the next one
  cut_of : (multiples : List LitMultiple) → Axiom  -- a bound on a sum of integers, rounded

-- ---- Over a table of terms

abbrev pub multiple_in : List Node → List Atom → LitMultiple → farkas.Multiple
multiple_in ns atoms m = record { literal = literal_in ns atoms m.literal; multiplier = m.multiplier }

abbrev pub multiples_in : List Node → List Atom → List LitMultiple → List farkas.Multiple
multiples_in ns atoms ms = map (multiple_in ns atoms) ms

abbrev pub AreMultiplesIn : List Node → List Atom → List LitMultiple → Type 0
AreMultiplesIn ns atoms ms = AllByRecursion (λ (m : LitMultiple). IsLitIn ns atoms m.literal) ms

-- the step that gives the clause
abbrev pub axiom_step : List Node → List Atom → Axiom → Step
axiom_step ns atoms (link_of t j) = link_step (term_in ns t) j
axiom_step ns atoms (unit_of t j) = unit_step (term_in ns t) j
axiom_step ns atoms (farkas_of ms) = farkas_step (multiples_in ns atoms ms)
axiom_step ns atoms (branch_of l) = let b = bound_of (literal_in ns atoms l) in branch_step b.parts b.limit
axiom_step ns atoms (cut_of ms) = cut_step (multiples_in ns atoms ms)

-- the table has what the step names
abbrev pub IsAxiomIn : List Node → List Atom → Axiom → Type 0
IsAxiomIn ns atoms (link_of t j) = t < length ns
IsAxiomIn ns atoms (unit_of t j) = t < length ns
IsAxiomIn ns atoms (farkas_of ms) = AreMultiplesIn ns atoms ms
IsAxiomIn ns atoms (branch_of l) = IsLitIn ns atoms l
IsAxiomIn ns atoms (cut_of ms) = AreMultiplesIn ns atoms ms

-- the first operation of a step that leaves the numbers
abbrev pub first_wide_in_step : List Node → Step → Option Operation
first_wide_in_step ns s = first_wide (step_operations (number_in ns) (asserting []) s)

-- the literals are the clause of the step, over a table, and none of its operations leaves the numbers
pub record IsClauseOf (ns : List Node) (atoms : List Atom) (a : Axiom) (c : List Lit) : Type 0 where
  pub within : AreWithin ns atoms c
  pub clause : step_clause (number_in ns) (asserting []) [] (axiom_step ns atoms a) ≡ Some (clause_in ns atoms c)
  pub fits : first_wide_in_step ns (axiom_step ns atoms a) ≡ None

-- The step of the clause is in order over a table, and gives the clause over that table and each that goes on from it, whatever atoms join.
pub record IsAxiom (ns : List Node) (atoms : List Atom) (a : Axiom) (c : List Lit) : Type 0 where
  pub within : IsAxiomIn ns atoms a
  pub sorted : IsSortedStep (axiom_step ns atoms a)
  pub taken : (more : List Node) (later : List Atom) → IsTable (ns ++ more) → Stay atoms later → IsClauseOf (ns ++ more) later a c

-- ---- What the rules ask and answer

-- each is a multiple of a bound, by a number above 0
abbrev pub AreMultiples : List Node → List Atom → List LitMultiple → Type 0
AreMultiples ns atoms ms = IsTrue (list_all is_multiple (multiples_in ns atoms ms))

-- the sum of multiples
abbrev pub sum_in : List Node → List Atom → List LitMultiple → Computation farkas.Bound
sum_in ns atoms ms = farkas.sum_of_multiples (number_in ns) (multiples_in ns atoms ms)

-- the negations of the literals
abbrev pub negated_lits : List LitMultiple → List Lit
negated_lits ms = map (λ (m : LitMultiple). negated_lit m.literal) ms

-- what the negative of an integer is at most where the integer is above this one
abbrev pub next_limit : Fraction → Computation Fraction
next_limit k = operated Difference (neg_ℚ k) (whole (pos 1))

-- a sum is at least the next integer
abbrev pub above_literal : List Node → Bound → Computation Literal
above_literal ns b = turned_into (λ c. is_at_most (map negated_part (parts_over ns b.sides.parts)) c) (next_limit b.sides.offset)
