-- How a check begins, and how its searches do: the forms and the point of its simplex, forms that join, and the literals under which a search or a climb
-- goes.
-- Sources: Dutertre and de Moura, A Fast Linear-Arithmetic Solver for DPLL(T), CAV 2006, sections 3 and 4; Bjørner, Phan and Fleckenstein, νZ - An
-- Optimizing SMT Solver, TACAS 2015.
use Rattle.std.specs.Prelude.{◌≡◌, ℕ, Bool, true, ◌⊎◌, List, [], All, Contains, Option, Some, None, IsTrue, slice_get}
use Rattle.nz_fractions.specs.Fraction.{Fraction, ◌-ℚ◌, neg_ℚ}
use Rattle.nz_spec.specs.numbers.Infinitesimal.{Infinitesimal}
use Rattle.nz_spec.specs.terms.Term.{Term, Assignment, int_sort, sort_of}
use Rattle.nz_spec.specs.terms.Form.{Numbering, Part, unit_form}
use Rattle.nz_spec.specs.clauses.Literal.{Literal, AreTrueLiterals}
use Rattle.nz_spec.specs.clauses.LinearLiteral.{parts_of}
use Rattle.nz_spec.specs.clauses.Farkas.{is_linear_literal}
use Rattle.nz_spec.specs.simplex.Basis.{IsBasis}
use Rattle.nz_spec.specs.simplex.Bland.{Point, Side, is_nonbasic, zero_infinitesimal}
use Rattle.nz_spec.specs.simplex.LiteralBounds.{turned, bounded_from, bound_said}
use Rattle.nz_spec.specs.clauses.Goals.{Goal, compared}
use Rattle.nz_spec.specs.search.Search.{Task, terms_known, goals_known, Search, at_first, point_at, signed_literal, literal_by, position_of, HasWorth, last_value, IsMember}
use Rattle.nz_spec.specs.search.Atoms.{IsTabled, IsBoundOf}

-- ---- Forms and points

-- the form is the sum, turned, or a unit of it
abbrev pub IsSumOf : List Part → List Part → Type 0
IsSumOf ps f = (f ≡ turned ps) ⊎ ((p : Part) × Contains ps p × (f ≡ (unit_form p.unit).parts))

-- The form is the sum of a bound of these terms' tables, or of one of these goals, or a unit of such a sum.
pub data IsKnownForm (ts : List Term) (gs : List Goal) (f : List Part) : Type 0 where
  of_bound : (number : Numbering) (l : Literal) → IsTabled number ts l → IsSumOf (parts_of l) f → IsKnownForm ts gs f
  of_goal : (g : Goal) → Contains gs g → IsSumOf g.form.parts f → IsKnownForm ts gs f

-- A form stands at 0, or at its bound by a literal of these terms' tables, as it is or tight.
pub data IsKnownPlace (ts : List Term) (fs : List (List Part)) (k : ℕ) (v : Infinitesimal) : Type 0 where
  at_zero : v ≡ zero_infinitesimal → IsKnownPlace ts fs k v
  at_bound : (number : Numbering) (l : Literal) (side : Side) → IsBoundOf number ts l → bound_said fs l ≡ Some (record { form = k; side = side; bound = v })
      → IsKnownPlace ts fs k v

-- These forms and this point may be those of a simplex that begins: they have a basis, and no form stands twice. An empty form, which stands where
-- a form was taken out, is basic.
pub record MayBegin (ts : List Term) (gs : List Goal) (fs : List (List Part)) (x : Point) : Type 0 where
  pub known : All (λ (f : List Part). (f ≡ []) ⊎ IsKnownForm ts gs f) fs
  pub once : (i j : ℕ) (f : List Part) → slice_get fs i ≡ Some f → slice_get fs j ≡ Some f → (f ≡ [] → ⊥) → i ≡ j
  pub basis : IsBasis fs (is_nonbasic x)
  pub places : (k : ℕ) (v : Infinitesimal) → x k ≡ Some v → IsKnownPlace ts fs k v

-- Only the first line gives forms and places.
pub record MayStart (q : Task) (s : Search) (fs : List (List Part)) (places : List (Option Infinitesimal)) : Type 0 where
  pub first : s ≡ at_first
  pub may_begin : MayBegin (terms_known q) (goals_known q) fs (point_at places)

-- the turned sum that an atom bounds
abbrev pub sum_of_atom : Search → ℕ → List Part
sum_of_atom s atom = turned (parts_of (literal_by s.atoms (atom, true)))

-- A form joins that isn't there, with these signs or the others.
abbrev pub IsNewForm : Search → List Part → Type 0
IsNewForm s f = bounded_from 0 s.forms f ≡ None

pub record MayJoin (s : Search) (atom : ℕ) : Type 0 where
  pub bound : Literal
  pub named : slice_get s.atoms atom ≡ Some bound
  pub linear : IsTrue (is_linear_literal bound)
  pub new : IsNewForm s (turned (parts_of bound))

pub record MayJoinGoal (q : Task) (s : Search) (f : List Part) : Type 0 where
  pub goal : Goal
  pub listed : Contains q.goals goal
  pub is : f ≡ turned goal.form.parts
  pub new : IsNewForm s f

-- ---- What a search goes under

-- A goal with the value that was found last, or with what it is worth at the point without the infinitesimal part.
pub record IsComparison (q : Task) (s : Search) (x : Point) (l : Literal) : Type 0 where
  pub goal : ℕ
  pub which : Goal
  pub listed : slice_get q.goals goal ≡ Some which
  pub value : Fraction
  pub known : (last_value goal s.found ≡ Some value)
      ⊎ ((v : Infinitesimal) × HasWorth (position_of s x) which.form.parts v × (value ≡ which.form.offset -ℚ neg_ℚ v.standard))
  pub from_above : Bool
  pub strict : Bool
  pub is : l ≡ (compared which from_above strict value).result

-- A search goes under assumed literals and comparisons.
abbrev pub MaySearchUnder : Task → Search → Point → List Literal → Type 0
MaySearchUnder q s x ls = All (λ (l : Literal). Contains q.assumed l ⊎ IsComparison q s x l) ls

-- A climb keeps an atom with a sign, or a bound on an integer unit of those listed.
abbrev pub MayKeep : Task → Search → Literal → Type 0
MayKeep q s l = ((m : Literal) × (sign : Bool) × Contains s.atoms m × (l ≡ signed_literal m sign))
    ⊎ ((u : Term) × Contains q.listed u × (sort_of u ≡ int_sort) × (turned (parts_of l) ≡ (unit_form u).parts))

-- It goes under literals that are all true at one model at which the goal has the value that was found last.
pub record MayClimbUnder (q : Task) (s : Search) (ls : List Literal) : Type 0 where
  pub goal : Goal
  pub value : Fraction
  pub member : Assignment
  pub is_member : IsMember q s goal value member
  pub hold : AreTrueLiterals member ls
  pub kept : All (MayKeep q s) ls

-- The first search stands before a decision, a learned clause, and before the simplex is told anything.
pub record MayGoUnder (q : Task) (s : Search) (x : Point) (ls : List Literal) : Type 0 where
  pub literals : MaySearchUnder q s x ls ⊎ MayClimbUnder q s ls
  pub first : s.begun ≡ 0 → (s.decided ≡ []) × (s.learned ≡ []) × (s.told ≡ [])
