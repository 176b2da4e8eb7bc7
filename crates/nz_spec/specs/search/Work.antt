-- The work list of one check: what the search did, step by step, and how many of its steps count.
use Rattle.std.specs.Prelude.{◌≡◌, ℕ, Bool, true, false, List, [], ◌∷◌, ◌++◌, count_by}
use Rattle.nz_fractions.specs.Fraction.{Fraction}

-- A step that counts as one unit of work. Atoms and forms are named by their numbers.
pub data WorkEntry : Type 0 where
  -- an undecided atom is decided with this sign
  DecisionEntry : (atom : ℕ) (sign : Bool) → WorkEntry
  -- a new clause is learned, and so many of the decisions are kept
  LearnedEntry : (keep : ℕ) (lits : List (ℕ × Bool)) → WorkEntry
  -- a basic form leaves the basis, and a nonbasic one enters it
  PivotEntry : (leaves enters : ℕ) → WorkEntry
  -- the search branches on this atom: a sum of integers is at most an integer, or at least the next one
  BranchEntry : (atom : ℕ) → WorkEntry
  -- a goal has this value, which is better than those before
  FoundEntry : (goal : ℕ) (value : Fraction) → WorkEntry

-- A line of the list: a step that counts, or a note that doesn't.
pub data WorkLine (T : Type 0) : Type 0 where
  UnitLine : (entry : WorkEntry) → WorkLine T
  NoteLine : (note : T) → WorkLine T

-- The lines so far, the first one first, and the most units that the list may have.
pub record WorkList (T : Type 0) : Type 0 where
  pub lines : List (WorkLine T)
  pub limit : ℕ

module _ {T : Type 0} where
  -- whether a line counts
  abbrev pub is_unit : WorkLine T → Bool
  is_unit (UnitLine entry) = true
  is_unit (NoteLine note) = false

  -- how many units these lines have
  abbrev pub unit_count : List (WorkLine T) → ℕ
  unit_count lines = count_by is_unit lines

  -- every unit of the list is used
  abbrev pub IsSpent : WorkList T → Type 0
  IsSpent work = unit_count work.lines ≡ work.limit

  -- the list with no line yet
  abbrev pub empty_work : ℕ → WorkList T
  empty_work limit = record { lines = []; limit = limit }

  -- the list with one more line
  abbrev pub with_line : WorkList T → WorkLine T → WorkList T
  with_line work line = record work { lines = work.lines ++ line ∷ [] }
