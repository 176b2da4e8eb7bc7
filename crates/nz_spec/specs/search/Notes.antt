-- What stands in a work list beside its units, and the places at which an operation can leave the numbers.
use Rattle.std.specs.Prelude.{ℕ, Bool, List, Option}
use Rattle.nz_fractions.specs.Fraction.{Operation}
use Rattle.nz_spec.specs.numbers.Infinitesimal.{Infinitesimal}
use Rattle.nz_spec.specs.terms.Term.{Term}
use Rattle.nz_spec.specs.terms.Model.{Binding}
use Rattle.nz_spec.specs.terms.Form.{Part}
use Rattle.nz_spec.specs.clauses.Literal.{Literal}
use Rattle.nz_spec.specs.clauses.Farkas.{Multiple}
use Rattle.nz_spec.specs.simplex.Bland.{Side}
use Rattle.nz_spec.specs.simplex.Climb.{Family}

-- What a simplex is told: an atom with a sign, as it is or in its tight form; or a literal under which a search goes, by its place.
pub data Telling : Type 0 where
  told_atom : (atom : ℕ) (sign is_tight : Bool) → Telling
  told_under : (place : ℕ) → Telling

-- A line of a work list that is no unit. Atoms are named by their numbers.
pub data Note : Type 0 where
  -- the simplex begins with these forms: each nonbasic one stands at its place, a basic one has none
  start_note : (forms : List (List Part)) (places : List (Option Infinitesimal)) → Note
  -- the next atom is this literal
  atom_note : Literal → Note
  -- the sum that an atom bounds joins the forms of the simplex
  form_note : (atom : ℕ) → Note
  -- this sum, which is that of a goal, joins them
  goal_note : (sum : List Part) → Note
  -- a search or a climb begins, which goes under these literals
  under_note : List Literal → Note
  -- the simplex is told a literal
  told_note : Telling → Note

-- A computation of a check. Forms are named by their numbers.
pub data Site : Type 0 where
  -- the form of a term, or a literal of its tables
  term_site : Term → Site
  -- the sum of a goal compared with a number
  goal_site : (goal : ℕ) → Site
  -- the row of the form that joined last
  joining_site : Site
  -- the rows after an exchange of two forms
  exchange_site : (leaves enters : ℕ) → Site
  -- the value of a form
  value_site : (form : ℕ) → Site
  -- the sum of multiples of literals, which is a contradiction
  sum_site : List Multiple → Site
  -- the sum of multiples of literals, and its bound rounded
  cut_site : List Multiple → Site
  -- the tight form of a literal
  tight_site : Literal → Site
  -- the integers beside the value of a unit
  split_site : (unit : Term) → Site
  -- how far a form may move until another one comes to its bound of a side
  move_site : (form moves : ℕ) (side : Side) → Site
  -- how far δ may grow, for a form and its bound of a side
  limit_site : (form : ℕ) (side : Side) → Site
  -- the value of a form where a fraction stands for δ
  model_site : (form : ℕ) → Site
  -- the value of a term at a model
  worth_site : (term : Term) (model : List Binding) → Site
  -- the line of a term along a steady family
  line_site : (term : Term) (family : Family) → Site
  -- the line of a goal's form along such a family
  goal_line_site : (goal : ℕ) (family : Family) → Site
  -- the coefficients of some forms at one that moves, scaled to integers
  scaling_site : (forms : List ℕ) (moves : ℕ) → Site

-- An operation that leaves the numbers, and where.
pub record Place : Type 0 where
  pub operation : Operation
  pub site : Site
