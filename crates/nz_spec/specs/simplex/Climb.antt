-- Climbs: from a model towards better values of a goal, along lines on which the literals that are true at the model stay true.
-- Sources: Bjørner, Phan and Fleckenstein, νZ - An Optimizing SMT Solver, TACAS 2015 (objectives); Dutertre and de Moura, A Fast
-- Linear-Arithmetic Solver for DPLL(T), CAV 2006, section 5 (what is strict, by a number above 0 that is as small as need be).
use Rattle.std.specs.Prelude.{◌≡◌, ℕ, Bool, true, IsTrue, List, [], ◌∷◌, ◌++◌, map, flat_map, filter, Contains, pos, if◌then◌else◌}
use Rattle.std.specs.List.{AllByRecursion}
use Rattle.nz_fractions.specs.Fraction.{Fraction, whole, ◌=ℚ◌, ◌≤ℚ◌, ◌<ℚ◌, fraction_le, fraction_lt, ◌+ℚ◌, ◌*ℚ◌, reduce}
use Rattle.nz_spec.specs.numbers.Computation.{Computation}
use Rattle.nz_spec.specs.terms.Term.{int_sort, are_same_sort, sort_of, Constant, constant, Term, apply, no_terms, Value, truth, number, Assignment}
use Rattle.nz_spec.specs.terms.Model.{assignment_of}
use Rattle.nz_spec.specs.terms.Order.{listing_order}
use Rattle.nz_spec.specs.terms.Form.{Numbering, Part, Form, unit_value, form_value}
use Rattle.nz_spec.specs.simplex.Basis.{Valuation, worth}
use Rattle.nz_spec.specs.clauses.Literal.{Literal, term_literal, is_at_most, is_below, Clause, is_literal_true, AreTrueLiterals}
use Rattle.nz_spec.specs.clauses.LinearLiteral.{parts_of}
use Rattle.nz_spec.specs.clauses.Farkas.{is_linear_literal}
use Rattle.nz_spec.specs.clauses.Goals.{IsBetter, IsAsGood}
use Rattle.nz_spec.specs.clauses.Links.{link_clauses}
use Rattle.nz_spec.specs.clauses.Units.{unit_clauses}

-- ---- Lines and families

-- start + slope * s, where s runs over a range
pub record Line : Type 0 where
  pub start : Fraction
  pub slope : Fraction

abbrev pub line_at : Line → Fraction → Fraction
line_at l s = l.start +ℚ l.slope *ℚ s

-- all fractions above 0 up to a limit, or the natural numbers
pub data Range : Type 0 where
  up_to : (limit : Fraction) → Range
  naturals : Range

abbrev pub IsInRange : Range → Fraction → Type 0
IsInRange (up_to limit) s = (whole (pos 0) <ℚ s) × (s ≤ℚ limit)
IsInRange naturals s = (n : ℕ) × (s ≡ whole (pos n))

-- a truth, which stays, or a number along a line
pub data Course : Type 0 where
  steady : Bool → Course
  along : Line → Course

abbrev pub course_value : Fraction → Course → Value
course_value s (steady b) = truth b
course_value s (along l) = number (reduce (line_at l s))

-- an assignment for each s of a range
pub record Family : Type 0 where
  pub courses : List (Constant × Course)
  pub range : Range

-- the assignment for s; a constant without a course has the default of its sort
abbrev pub member : Family → Fraction → Assignment
member f s = assignment_of (map (λ (p : Constant × Course). record { constant = p.0; value = course_value s p.1 }) f.courses)

-- ---- Literals where the units are worth so much

-- a bound on a sum; a term literal is none, and says nothing of units
abbrev pub is_met : Valuation → Literal → Bool
is_met v (term_literal t sign) = true
is_met v (is_at_most ps b) = fraction_le (worth v ps) b
is_met v (is_below ps b) = fraction_lt (worth v ps) b

-- the linear literals in the clauses that the link and unit tables give of these terms
abbrev pub linear_literals : Numbering → List Term → List Literal
linear_literals numbering ts =
    filter is_linear_literal (flat_map (λ (c : Computation Clause). c.result) (flat_map (λ (t : Term). link_clauses numbering t ++ unit_clauses numbering t) ts))

-- ---- What a climb is asked

-- From a model, to make a goal greater, or smaller where `up` is false. With `hold_ints` integer units keep their values.
pub record Route : Type 0 where
  pub numbering : Numbering
  pub asserted : List Term
  pub assumed : List Literal
  pub model : Assignment
  pub goal : Form
  pub up : Bool
  pub hold_ints : Bool

abbrev pub units_in : List Part → List Term
units_in ps = map (λ (p : Part). p.unit) ps

-- the term of a literal, or the units of its sum
abbrev pub terms_in : Literal → List Term
terms_in (term_literal t sign) = t ∷ []
terms_in l = units_in (parts_of l)

-- all that what is asserted, what is assumed and the goal are made of
abbrev pub terms_on : Route → List Term
terms_on r = flat_map listing_order (r.asserted ++ flat_map terms_in r.assumed ++ units_in r.goal.parts)

-- the linear literals of these terms, and the assumed literals
abbrev pub literals_on : Route → List Literal
literals_on r = linear_literals r.numbering (terms_on r) ++ r.assumed

-- the units of these literals and of the goal
abbrev pub units_on : Route → List Term
units_on r = units_in (flat_map parts_of (literals_on r) ++ r.goal.parts)

-- the literals and the units that a climb keeps as they are at the model
abbrev pub kept_literals : Route → List Literal
kept_literals r = filter (is_literal_true r.model) (literals_on r)

abbrev pub kept_units : Route → List Term
kept_units r = if r.hold_ints then filter (λ (u : Term). are_same_sort (sort_of u) int_sort) (units_on r) else []

-- where units are worth so much, they are kept
pub record Keeps (r : Route) (v : Valuation) : Type 0 where
  pub literals : AllByRecursion (λ (l : Literal). IsTrue (is_met v l)) (kept_literals r)
  pub units : AllByRecursion (λ (u : Term). v u =ℚ unit_value r.model u) (kept_units r)

-- ---- What a climb finds

abbrev pub goal_at : Route → Valuation → Fraction
goal_at r v = worth v r.goal.parts +ℚ r.goal.offset

-- what units are worth at s, with a line for each of them
abbrev pub point_at : (Term → Line) → Fraction → Valuation
point_at lines s u = line_at (lines u) s

abbrev pub unit_of : Constant → Term
unit_of c = apply (constant c) no_terms

-- The lines keep what the climb keeps. Each member gives a constant that is a unit its number, and any other what the model gives it.
pub record GoesAlong (r : Route) (f : Family) (lines : Term → Line) : Type 0 where
  pub keeps : (s : Fraction) → IsInRange f.range s → Keeps r (point_at lines s)
  pub units : (s : Fraction) → IsInRange f.range s → (c : Constant) → Contains (units_on r) (unit_of c) → member f s c ≡ number (reduce (line_at (lines (unit_of c)) s))
  pub others : (s : Fraction) → IsInRange f.range s → (c : Constant) → (Contains (units_on r) (unit_of c) → ⊥) → member f s c ≡ r.model c

-- Lines up to a limit above 0, where no point that keeps as much is better for the goal than each of them: some member is as good.
pub record IsVertex (r : Route) (f : Family) : Type 0 where
  pub lines : Term → Line
  pub limit : Fraction
  pub range : f.range ≡ up_to limit
  pub above_zero : whole (pos 0) <ℚ limit
  pub goes : GoesAlong r f lines
  pub best : (v : Valuation) → Keeps r v → (s : Fraction) × IsInRange f.range s × IsAsGood r.up (goal_at r (point_at lines s)) (goal_at r v)

-- Lines for all natural numbers, along which the goal gets better without end.
pub record IsRay (r : Route) (f : Family) : Type 0 where
  pub lines : Term → Line
  pub range : f.range ≡ naturals
  pub goes : GoesAlong r f lines
  pub slope : IsBetter r.up (worth (λ (u : Term). (lines u).slope) r.goal.parts) (whole (pos 0))

-- ---- Laws

-- Whatever keeps as much as the climb does, some member of a vertex has as good a goal.
abbrev pub VerticesBoundGoal : Type 0
VerticesBoundGoal = (r : Route) (f : Family) → (vertex : IsVertex r f) → (a : Assignment) → AreTrueLiterals a (kept_literals r)
    → AllByRecursion (λ (u : Term). unit_value a u =ℚ unit_value r.model u) (kept_units r)
    → (s : Fraction) × IsInRange f.range s × IsAsGood r.up (goal_at r (point_at vertex.lines s)) (form_value a r.goal)

-- Along a ray the goal passes every number.
abbrev pub RaysPassAll : Type 0
RaysPassAll = (r : Route) (f : Family) → (ray : IsRay r f) → (b : Fraction) → (s : Fraction) × IsInRange f.range s × IsBetter r.up (goal_at r (point_at ray.lines s)) b
