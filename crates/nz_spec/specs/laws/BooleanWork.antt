-- How much work a check takes that is over Booleans alone and asks of no goal.
-- Source: Marques-Silva and Sakallah 1999 (a search by clause learning ends, since it learns no clause twice).
use Rattle.std.specs.Prelude.{◌≡◌, ℕ, ◌≤◌, ◌+◌, ◌*◌, ◌^◌, ⊤, Bool, true, List, [], length, All, Contains}
use Rattle.std.specs.List.{AllByRecursion}
use Rattle.nz_spec.specs.terms.Term.{Constant, constant, Term, apply, no_terms}
use Rattle.nz_spec.specs.terms.Normal.{normal_of}
use Rattle.nz_spec.specs.terms.Order.{listing_order}
use Rattle.nz_spec.specs.terms.Taken.{IsTaken}
use Rattle.nz_spec.specs.terms.WellSorted.{IsWellSorted}
use Rattle.nz_spec.specs.clauses.Literal.{Literal, term_literal}
use Rattle.nz_spec.specs.clauses.Gates.{is_boolean_term, IsGated}
use Rattle.nz_spec.specs.simplex.Bland.{Point}
use Rattle.nz_spec.specs.search.Work.{PivotEntry, BranchEntry, FoundEntry, WorkLine, UnitLine, NoteLine, WorkList, unit_count}
use Rattle.nz_spec.specs.search.Notes.{Note, form_note, goal_note, Place}
use Rattle.nz_spec.specs.search.Search.{Task, literals_asked, IsUnderAll, at_first, no_point}
use Rattle.nz_spec.specs.search.Legal.{after_lines, Lead, AreLegal, IsSpentLegally}
use Rattle.nz_spec.specs.search.Places.{IsStoppedLegally}

-- the term is a constant
abbrev pub IsConstantTerm : Term → Type 0
IsConstantTerm t = (c : Constant) × (t ≡ apply (constant c) no_terms)

-- The literal is that a listed term is true, or that it is false.
abbrev pub IsOfListed : Task → Literal → Type 0
IsOfListed q l = (t : Term) × (sign : Bool) × Contains q.listed t × (l ≡ term_literal t sign)

-- No goal is asked of, and each listed term is a Boolean constant, or a Boolean operator over such terms. What is asserted and what is assumed is listed.
-- Where that is nothing, only constants are listed: a script lists what it declares, and what its assertions and assumed literals are made of.
pub record IsBooleanTask (q : Task) : Type 0 where
  pub goals : q.goals ≡ []
  pub gated : All IsGated q.listed
  pub asked : All (IsOfListed q) (literals_asked q)
  pub constants : literals_asked q ≡ [] → All IsConstantTerm q.listed

-- each listed term is one of these
abbrev pub AreAllListed : Task → List Term → Type 0
AreAllListed q ts = (t : Term) → Contains q.listed t → Contains ts t

-- As much work as n terms may take. There are at most 3 ^ n clauses. One is learned only where a term is asserted or assumed, which is never decided where the
-- search goes under all that is assumed: so at most n - 1 decisions stand before each of them, and behind the last.
abbrev pub work_over : List Term → ℕ
work_over ts = length ts * (3 ^ length ts + 1)

-- a decision, a clause that is learned, or a note on what isn't a form that joins
abbrev pub IsOfClauses : WorkLine Note → Type 0
IsOfClauses (NoteLine (form_note atom)) = ⊥
IsOfClauses (NoteLine (goal_note sum)) = ⊥
IsOfClauses (UnitLine (PivotEntry i j)) = ⊥
IsOfClauses (UnitLine (BranchEntry atom)) = ⊥
IsOfClauses (UnitLine (FoundEntry goal value)) = ⊥
IsOfClauses line = ⊤

-- A list of such a check has no other lines: no forms join, and none are exchanged, also of those that earlier checks left. Where it is legal and goes under all
-- that is assumed it has at most so many units, so a check that used each of them had no higher limit.
pub record BooleanWorkIsBounded : Type 0 where
  pub lines : (q : Task) (lines : List (WorkLine Note)) (y : Point) → IsBooleanTask q → Lead q at_first no_point lines y → AllByRecursion IsOfClauses lines
  pub units : (q : Task) (ts : List Term) (lines : List (WorkLine Note)) → IsBooleanTask q → AreAllListed q ts → AreLegal q lines → IsUnderAll q (after_lines at_first lines)
      → unit_count lines ≤ work_over ts
  pub spent : (q : Task) (ts : List Term) (work : WorkList Note) → IsBooleanTask q → AreAllListed q ts → IsSpentLegally q work → work.limit ≤ work_over ts

-- Where the checks before were over such terms too, and asked of no goal, no operation leaves the numbers.
abbrev pub BooleanWorkIsNeverStopped : Type 0
BooleanWorkIsNeverStopped = (q : Task) (work : WorkList Note) (place : Place) → IsBooleanTask q → All IsGated q.earlier → q.earlier_goals ≡ [] → IsStoppedLegally q work place → ⊥

-- ---- Listed terms

-- the term and all that is listed with it are Boolean
abbrev pub ListsBooleans : Term → Type 0
ListsBooleans t = All (λ (u : Term). is_boolean_term u ≡ true) (listing_order t)

-- Such a term is of the gate table where it is normal and well sorted, or taken. What is listed with a term of that table is of it.
pub record BooleanListingsAreGated : Type 0 where
  pub normal : (t : Term) → IsWellSorted [] t → ListsBooleans (normal_of t) → IsGated (normal_of t)
  pub taken : (t : Term) → IsTaken t → ListsBooleans t → IsGated t
  pub parts : (t u : Term) → IsGated t → Contains (listing_order t) u → IsGated u
