-- Worked lists of work: each is legal line by line, and lines that may not follow.
use Rattle.std.specs.Prelude.{ℕ, true, false, List, [], ◌∷◌, ◌++◌, Contains, Some, None, pos, negsuc}
use Rattle.nz_fractions.specs.Fraction.{whole, over}
use Rattle.nz_spec.specs.terms.Term.{over_int, at_most, decimal_number, sum, Term}
use Rattle.nz_spec.specs.terms.Normal.{negated, paired}
use Rattle.nz_spec.specs.terms.Form.{Part, unit_form}
use Rattle.nz_spec.specs.terms.Order.{listing_order}
use Rattle.nz_spec.specs.clauses.Literal.{Literal, is_at_most}
use Rattle.nz_spec.specs.clauses.Gates.{holds}
use Rattle.nz_spec.specs.simplex.Bland.{Point, zero_infinitesimal, standing}
use Rattle.nz_spec.specs.search.Work.{DecisionEntry, LearnedEntry, PivotEntry, BranchEntry, FoundEntry, WorkLine, UnitLine, NoteLine}
use Rattle.nz_spec.specs.search.Notes.{told_atom, told_under, Note, start_note, atom_note, form_note, goal_note, under_note, told_note}
use Rattle.nz_spec.specs.clauses.Goals.{Goal}
use Rattle.nz_spec.specs.search.Search.{Task, Search, at_first, no_point}
use Rattle.nz_spec.specs.search.Atoms.{IsBoundOf, MayName}
use Rattle.nz_spec.specs.search.Legal.{after_lines, MayFollow, Lead, AreLegal, IsSpentLegally}
use Rattle.nz_spec.specs.worked.TermSamples.{a_term, x_term, y_term, alone, numeral_term, real_of}
use Rattle.nz_spec.specs.worked.WorkedArithmetic.{sample_order, part, up_to, x_up_to_zero, x_from_one}
use Rattle.nz_spec.specs.worked.WorkedSteps.{a_true}

-- terms are asserted, of those that are listed
abbrev pub task_of : (asserted listed : List Term) → Task
task_of asserted listed =
    record { asserted = asserted; assumed = []; goals = []; groups = []; listed = listed; numbering = sample_order; earlier = []; earlier_goals = [] }

-- A search begins under nothing, names a bound, joins its sum to the forms, and tells the bound.
abbrev pub opening : Literal → List (WorkLine Note)
opening l = NoteLine (under_note []) ∷ NoteLine (atom_note l) ∷ NoteLine (form_note 0) ∷ NoteLine (told_note (told_atom 0 true false)) ∷ []

-- ---- Two searches over a Boolean constant

-- x is to become great
abbrev pub x_goal : Goal
x_goal = record { form = unit_form x_term; up = true }

-- that `(not a)` is true
abbrev pub not_a_true : Literal
not_a_true = holds (negated a_term)

-- `(not a)` is asserted, and it is assumed
abbrev pub boolean_task : Task
boolean_task = record (task_of (negated a_term ∷ []) (a_term ∷ negated a_term ∷ x_term ∷ [])) { assumed = not_a_true ∷ []; goals = x_goal ∷ [] }

-- A search under what is assumed comes to a dead end where it decides that `a` is true. It learns that `a` is false, and a search under nothing follows.
abbrev pub boolean_lines : List (WorkLine Note)
boolean_lines =
    NoteLine (under_note (not_a_true ∷ [])) ∷ NoteLine (atom_note a_true) ∷ UnitLine (DecisionEntry 0 true) ∷ UnitLine (LearnedEntry 0 ((0, false) ∷ []))
    ∷ NoteLine (under_note []) ∷ []

abbrev pub HasSearches : Type 0
HasSearches = AreLegal boolean_task boolean_lines

-- Its two units may be all that a check has.
abbrev pub HasSpentUnits : Type 0
HasSpentUnits = IsSpentLegally boolean_task (record { lines = boolean_lines; limit = 2 })

-- ---- A branch

-- (<= 0.5 (to_real x))
abbrev pub half_term : Term
half_term = paired at_most (alone (decimal_number 5 1)) (real_of x_term)

-- x is at least 1/2
abbrev pub x_from_half : Literal
x_from_half = is_at_most (part (negsuc 0) x_term ∷ []) (over (negsuc 0) 2)

-- (<= x 1)
abbrev pub one_term : Term
one_term = paired at_most x_term (numeral_term 1)

-- x is at most 1
abbrev pub x_up_to_one : Literal
x_up_to_one = up_to (part (pos 1) x_term ∷ []) (pos 1)

-- the first of them is asserted, and the other one listed alone
abbrev pub branch_task : Task
branch_task = task_of (half_term ∷ []) (listing_order half_term ++ listing_order one_term)

-- x joins, and is told to be at least 1/2
abbrev pub lines_to_half : List (WorkLine Note)
lines_to_half = opening x_from_half

-- the search branches: x is at most 0, or at least 1
abbrev pub branching_lines : List (WorkLine Note)
branching_lines = NoteLine (atom_note x_up_to_zero) ∷ UnitLine (BranchEntry 1) ∷ NoteLine (atom_note x_from_one) ∷ []

abbrev pub HasBranch : Type 0
HasBranch = AreLegal branch_task (lines_to_half ++ branching_lines)

-- ---- A climb

abbrev pub climb_task : Task
climb_task = record (task_of (one_term ∷ []) (listing_order one_term)) { goals = x_goal ∷ [] }

-- The value 0 is found, and a climb keeps that x is at most 1. It moves x there, of which no line tells, and 1 is found.
abbrev pub climb_lines : List (WorkLine Note)
climb_lines =
    NoteLine (under_note []) ∷ UnitLine (FoundEntry 0 (whole (pos 0))) ∷ NoteLine (atom_note x_up_to_one) ∷ NoteLine (goal_note x_goal.form.parts)
    ∷ NoteLine (under_note (x_up_to_one ∷ [])) ∷ NoteLine (told_note (told_under 0)) ∷ UnitLine (FoundEntry 0 (whole (pos 1))) ∷ []

abbrev pub HasClimb : Type 0
HasClimb = AreLegal climb_task climb_lines

-- ---- An exchange

-- (<= 1 (+ x y))
abbrev pub sum_term : Term
sum_term = paired at_most (numeral_term 1) (paired (sum over_int) x_term y_term)

-- x + y is at least 1
abbrev pub sum_from_one : Literal
sum_from_one = up_to (part (negsuc 0) x_term ∷ part (negsuc 0) y_term ∷ []) (negsuc 0)

abbrev pub pivot_task : Task
pivot_task = task_of (sum_term ∷ []) (listing_order sum_term)

-- x and y join at 0 with the numbers 0 and 1, and their sum with the number 2, which breaks its bound then and is exchanged with x.
abbrev pub pivot_lines : List (WorkLine Note)
pivot_lines = opening sum_from_one ++ UnitLine (PivotEntry 2 0) ∷ []

abbrev pub HasPivot : Type 0
HasPivot = AreLegal pivot_task pivot_lines

-- x, y and their sum
abbrev pub three_forms : List (List Part)
three_forms = (unit_form x_term).parts ∷ (unit_form y_term).parts ∷ (part (pos 1) x_term ∷ part (pos 1) y_term ∷ []) ∷ []

-- A later check of the same begins where that one ended: y is 0 and the sum is 1. It has nothing to exchange.
abbrev pub later_task : Task
later_task = record pivot_task { earlier = pivot_task.listed }

abbrev pub later_lines : List (WorkLine Note)
later_lines =
    NoteLine (start_note three_forms (None ∷ Some zero_infinitesimal ∷ Some (standing (whole (pos 1))) ∷ []))
    ∷ NoteLine (under_note []) ∷ NoteLine (atom_note sum_from_one) ∷ NoteLine (told_note (told_atom 0 true false)) ∷ []

abbrev pub HasLaterCheck : Type 0
HasLaterCheck = AreLegal later_task later_lines

-- ---- What may not follow

-- x is 1/2, and an atom is named that x is at most 1
abbrev pub refusing_lines : List (WorkLine Note)
refusing_lines = lines_to_half ++ NoteLine (atom_note x_up_to_one) ∷ []

-- No bound is broken, so that no forms are exchanged; and x doesn't lie between 1 and 2, so that the search doesn't branch there.
pub record HasRefusals : Type 0 where
  pub point : Point
  pub lead : Lead branch_task at_first no_point refusing_lines point
  pub pivot : (i j : ℕ) (y : Point) → MayFollow branch_task (after_lines at_first refusing_lines) point (UnitLine (PivotEntry i j)) y → ⊥
  pub branch : (y : Point) → MayFollow branch_task (after_lines at_first refusing_lines) point (UnitLine (BranchEntry 1)) y → ⊥

-- ---- Orders of units

-- the same with y before x
abbrev pub sum_turned_round : Literal
sum_turned_round = up_to (part (negsuc 0) y_term ∷ part (negsuc 0) x_term ∷ []) (negsuc 0)

-- Either order may be named, and the other one then not.
pub record HasEitherOrder : Type 0 where
  pub known : IsBoundOf sample_order pivot_task.listed sum_turned_round
  pub refused : (s : Search) (x : Point) → Contains s.atoms sum_from_one → MayName pivot_task s x sum_turned_round → ⊥
