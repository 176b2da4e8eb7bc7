-- Steps of the proof kernel, and derivations: lists of steps, each of which gives a clause.
-- Sources: Robinson, A Machine-Oriented Logic Based on the Resolution Principle, 1965; Tseitin 1968 (gates); of linear arithmetic
-- Dutertre and de Moura 2006, Farkas 1902 and Gomory 1958; of goals Bjørner, Phan and Fleckenstein 2015.
use Rattle.std.specs.Prelude.{◌≡◌, ℕ, Bool, false, List, [], ◌∷◌, ◌++◌, flat_map, Contains, Option, Some, None, option_map, slice_get}
use Rattle.std.specs.List.{AllByRecursion}
use Rattle.std.specs.Bool.{⊤}
use Rattle.nz_fractions.specs.Fraction.{Fraction, ◌=ℚ◌, Operation, first_wide}
use Rattle.nz_spec.specs.numbers.Computation.{Computation, at_once, turned_into}
use Rattle.nz_spec.specs.terms.Term.{Term, Assignment, IsTrueUnder}
use Rattle.nz_spec.specs.terms.Model.{IsAssignment, IsUnsatisfiable}
use Rattle.nz_spec.specs.terms.Form.{Numbering, Part}
use Rattle.nz_spec.specs.clauses.Literal.{Literal, negation_of, AreTrueLiterals, Clause, clause_of, resolvent, IsClauseTrue}
use Rattle.nz_spec.specs.clauses.Goals.{Goal, goal_value, compared, beats, Beats}
use Rattle.nz_spec.specs.clauses.LinearLiteral.{parts_of, HaveSortedUnits}
use Rattle.nz_spec.specs.clauses.Gates.{holds, gate_clauses, HasBooleanArguments}
use Rattle.nz_spec.specs.clauses.Links.{link_clauses, IsArithmetic}
use Rattle.nz_spec.specs.clauses.Units.{unit_clauses}
use Rattle.nz_spec.specs.clauses.Farkas.{Multiple, farkas_clause}
use Rattle.nz_spec.specs.clauses.Cuts.{branch_clause, cut_clause}

-- ---- What a derivation rests on

-- a goal that is held at a value
pub record Held : Type 0 where
  pub goal : Goal
  pub value : Fraction

-- that a goal is better than a value, or as good where it isn't strict
pub record Claim : Type 0 where
  pub goal : Goal
  pub strict : Bool
  pub value : Fraction

-- live assertions, goals that are held, and a claim, if there is one
pub record Premises : Type 0 where
  pub asserted : List Term
  pub held : List Held
  pub claim : Option Claim

-- assertions alone
abbrev pub asserting : List Term → Premises
asserting ts = record { asserted = ts; held = []; claim = None }

abbrev pub IsClaimed : Option Claim → Assignment → Type 0
IsClaimed None a = ⊤
IsClaimed (Some c) a = Beats c.goal.up c.strict (goal_value a c.goal) c.value

-- The assertions are true, the goals have their values, and the claim is true.
pub record AreMet (p : Premises) (a : Assignment) : Type 0 where
  pub asserted : AllByRecursion (IsTrueUnder a) p.asserted
  pub held : AllByRecursion (λ (h : Held). goal_value a h.goal =ℚ h.value) p.held
  pub claimed : IsClaimed p.claim a

-- ---- Steps

pub data Step : Type 0 where
  given_step : (k : ℕ) → Step  -- a live assertion
  hold_step : (goal : ℕ) (from_above : Bool) → Step  -- a goal that is held is at most its value, or at least
  beat_step : Step  -- what is claimed of a goal
  gate_step : (term : Term) (j : ℕ) → Step  -- a clause of the gate table
  link_step : (term : Term) (j : ℕ) → Step  -- a clause of the link table
  unit_step : (term : Term) (j : ℕ) → Step  -- a clause of the unit table
  farkas_step : (multiples : List Multiple) → Step  -- literals whose sum is a contradiction
  branch_step : (parts : List Part) (k : Fraction) → Step  -- a sum of integers is at most k, or at least k + 1
  cut_step : (multiples : List Multiple) → Step  -- a bound on a sum of integers, rounded
  resolve_step : (i j : ℕ) (l : Literal) → Step  -- the resolvent of the clauses of two earlier steps

-- the clause at a place of a table
abbrev pub clause_at : List (Computation Clause) → ℕ → Computation (Option Clause)
clause_at cs j = elim (slice_get cs j) [ None ↦ at_once None | Some c ↦ turned_into (λ d. Some (clause_of d)) c ]

-- a literal alone
abbrev pub alone_in_clause : Computation Literal → Computation (Option Clause)
alone_in_clause l = turned_into (λ m. Some (m ∷ [])) l

-- a goal that is held is at most its value, or at least
abbrev pub hold_clause : (from_above : Bool) → Option Held → Computation (Option Clause)
hold_clause from_above None = at_once None
hold_clause from_above (Some h) = alone_in_clause (compared h.goal from_above false h.value)

-- what is claimed, if anything is
abbrev pub claim_clause : Option Claim → Computation (Option Clause)
claim_clause None = at_once None
claim_clause (Some c) = alone_in_clause (beats c.goal c.strict c.value)

-- The clause that a step gives over the premises, behind steps of these clauses, and the operations that it takes. A step
-- that isn't in order gives none.
abbrev pub step_taken : Numbering → Premises → List Clause → Step → Computation (Option Clause)
step_taken number premises earlier (given_step k) = at_once (option_map (λ t. holds t ∷ []) (slice_get premises.asserted k))
step_taken number premises earlier (hold_step i from_above) = hold_clause from_above (slice_get premises.held i)
step_taken number premises earlier beat_step = claim_clause premises.claim
step_taken number premises earlier (gate_step t j) = at_once (option_map clause_of (slice_get (gate_clauses t) j))
step_taken number premises earlier (link_step t j) = clause_at (link_clauses number t) j
step_taken number premises earlier (unit_step t j) = clause_at (unit_clauses number t) j
step_taken number premises earlier (farkas_step ms) = farkas_clause number ms
step_taken number premises earlier (branch_step ps k) = branch_clause ps k
step_taken number premises earlier (cut_step ms) = cut_clause number ms
step_taken number premises earlier (resolve_step i j l) =
    at_once (elim (slice_get earlier i) [ None ↦ None | Some c ↦ option_map (resolvent l c) (slice_get earlier j) ])

abbrev pub step_clause : Numbering → Premises → List Clause → Step → Option Clause
step_clause number premises earlier s = (step_taken number premises earlier s).result

-- the operations of a step; the first of them that leaves the numbers is where it stops
abbrev pub step_operations : Numbering → Premises → Step → List Operation
step_operations number premises s = (step_taken number premises [] s).operations

-- these clauses, and then those of the steps, where each step is in order
abbrev pub clauses_behind : Numbering → Premises → List Clause → List Step → Option (List Clause)
clauses_behind number premises earlier [] = Some earlier
clauses_behind number premises earlier (s ∷ ss) =
    elim (step_clause number premises earlier s) [ None ↦ None | Some c ↦ clauses_behind number premises (earlier ++ c ∷ []) ss ]

-- Where units stand in this order, the steps are in order, and these are their clauses.
abbrev pub IsDerivation : Numbering → Premises → List Step → List Clause → Type 0
IsDerivation number premises steps clauses = clauses_behind number premises [] steps ≡ Some clauses

-- No operation of the steps leaves the numbers.
abbrev pub StepsFit : Numbering → Premises → List Step → Type 0
StepsFit number premises steps = first_wide (flat_map (step_operations number premises) steps) ≡ None

-- The steps are in order and fit, and the last one gives this clause.
pub record Derives (number : Numbering) (premises : Premises) (steps : List Step) (c : Clause) : Type 0 where
  pub front : List Clause
  pub derivation : IsDerivation number premises steps (front ++ c ∷ [])
  pub fits : StepsFit number premises steps

-- ---- Laws

-- What a step asks of the terms that it names: a gate has Boolean arguments, a link and a unit are linear over arguments that have
-- values of their sorts, and so have the units of a sum that counts as one of integers.
abbrev pub IsSortedStep : Step → Type 0
IsSortedStep (given_step k) = ⊤
IsSortedStep (hold_step i from_above) = ⊤
IsSortedStep beat_step = ⊤
IsSortedStep (gate_step t j) = HasBooleanArguments t
IsSortedStep (link_step t j) = IsArithmetic t
IsSortedStep (unit_step t j) = IsArithmetic t
IsSortedStep (farkas_step ms) = ⊤
IsSortedStep (branch_step ps k) = HaveSortedUnits ps
IsSortedStep (cut_step ms) = AllByRecursion (λ (m : Multiple). HaveSortedUnits (parts_of m.literal)) ms
IsSortedStep (resolve_step i j l) = ⊤

-- Each clause of a derivation is true wherever the premises are met.
abbrev pub DerivedClausesAreTrue : Type 0
DerivedClausesAreTrue = (number : Numbering) (premises : Premises) (steps : List Step) (clauses : List Clause)
    → AllByRecursion IsSortedStep steps → IsDerivation number premises steps clauses
    → (a : Assignment) → IsAssignment a → AreMet premises a → AllByRecursion (IsClauseTrue a) clauses

-- So what derives a clause that holds only negations of assumed literals, or nothing, refutes the premises under these.
pub record EmptyClauseRefutes : Type 0 where
  pub asserted : (number : Numbering) (asserted : List Term) (steps : List Step) → AllByRecursion IsSortedStep steps → Derives number (asserting asserted) steps []
      → IsUnsatisfiable asserted []
  pub premises : (number : Numbering) (premises : Premises) (assumed : List Literal) (steps : List Step) (c : Clause) → AllByRecursion IsSortedStep steps → Derives number premises steps c
      → AllByRecursion (λ (l : Literal). (m : Literal) × Contains assumed m × (l ≡ negation_of m)) c
      → (a : Assignment) → IsAssignment a → AreMet premises a → AreTrueLiterals a assumed → ⊥

-- A derivation goes on by a step that is in order, and stays one when more is asserted.
pub record DerivationsGrow : Type 0 where
  pub step : (number : Numbering) (premises : Premises) (steps : List Step) (clauses : List Clause) (s : Step) (c : Clause)
      → IsDerivation number premises steps clauses → step_clause number premises clauses s ≡ Some c → IsDerivation number premises (steps ++ s ∷ []) (clauses ++ c ∷ [])
  pub asserted : (number : Numbering) (premises : Premises) (more : List Term) (steps : List Step) (clauses : List Clause)
      → IsDerivation number premises steps clauses → IsDerivation number (record premises { asserted = premises.asserted ++ more }) steps clauses
