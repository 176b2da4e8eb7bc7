-- Points over a basis, bounds of forms, and the check steps and climb steps of the simplex: which forms are exchanged, by Bland's
-- rule. Where a check finds no form to exchange, the bounds contradict.
-- Sources: Dutertre and de Moura, A Fast Linear-Arithmetic Solver for DPLL(T), CAV 2006, sections 3 to 5 (checking, conflicts,
-- strict bounds); Bland, New Finite Pivoting Rules for the Simplex Method, 1977 (climbs). The order of a value's operations is this
-- solver's own.
use Rattle.std.specs.Prelude.{◌≡◌, ℕ, ◌<◌, ◌≤◌, ◌==◌, Bool, true, false, ◌&&◌, ◌⊎◌, List, [], ◌∷◌, length, Option, Some, None, option_map, unwrap_or, is_some, pos, negsuc, ◌↔◌, if◌then◌else◌}
use Rattle.std.specs.declared.cmp.Ordering.TheVariants.{Less}
use Rattle.nz_fractions.specs.Fraction.{Fraction, whole, ◌≤ℚ◌, ◌<ℚ◌, fraction_eq, Sum, Product}
use Rattle.nz_spec.specs.numbers.Infinitesimal.{Infinitesimal, ◌=δ◌, infinitesimal_cmp, ◌+δ◌, ◌-δ◌, scaled, at}
use Rattle.nz_spec.specs.numbers.Computation.{Computation, operated, at_once, turned_into, and_then}
use Rattle.nz_spec.specs.terms.Term.{Assignment}
use Rattle.nz_spec.specs.terms.Form.{Part, parts_value}
use Rattle.nz_spec.specs.simplex.Basis.{form_at, Coefficients, weighted, IsZeroAtBasic, IsRow, IsBasis, IsCoefficient, IsSolution}
use Rattle.nz_spec.specs.simplex.BasisMoves.{numbers, Rows, AreRows, exchange}

-- ---- Points

-- a value for each nonbasic form; a form without one is basic
abbrev pub Point : Type 0
Point = ℕ → Option Infinitesimal

abbrev pub is_nonbasic : Point → ℕ → Bool
is_nonbasic x k = is_some (x k)

abbrev pub zero_infinitesimal : Infinitesimal
zero_infinitesimal = record { standard = whole (pos 0); coefficient = whole (pos 0) }

-- the value of a nonbasic form
abbrev pub value_in : Point → ℕ → Infinitesimal
value_in x k = unwrap_or (x k) zero_infinitesimal

-- the first n values, with these coefficients, in one sum, part by part
abbrev pub sum_at : ℕ → Coefficients → (ℕ → Infinitesimal) → Infinitesimal
sum_at n c x = record { standard = weighted n c (λ k. (x k).standard); coefficient = weighted n c (λ k. (x k).coefficient) }

-- ---- The operations of a value

-- the first part, and then the other
abbrev pub both_parts : Computation Fraction → Computation Fraction → Computation Infinitesimal
both_parts p q = and_then p (λ a. turned_into (λ b. let x : Infinitesimal = record { standard = a; coefficient = b } in x) q)

abbrev pub times : Infinitesimal → Fraction → Computation Infinitesimal
times x q = both_parts (operated Product x.standard q) (operated Product x.coefficient q)

abbrev pub plus : Infinitesimal → Infinitesimal → Computation Infinitesimal
plus x y = both_parts (operated Sum x.standard y.standard) (operated Sum x.coefficient y.coefficient)

-- onto a sum, at each of these numbers: the value times the coefficient, and then the sum with it
abbrev pub value_onto : Coefficients → (ℕ → Infinitesimal) → Infinitesimal → List ℕ → Computation Infinitesimal
value_onto c x t [] = at_once t
value_onto c x t (k ∷ ks) = and_then (times (x k) (c k)) (λ p. and_then (plus t p) (λ u. value_onto c x u ks))

-- the value of a form with this row, by rising numbers of the nonbasic forms
abbrev pub row_value : ℕ → Coefficients → Point → Computation Infinitesimal
row_value n c x = value_onto c (value_in x) zero_infinitesimal (numbers n (is_nonbasic x))

-- ---- Positions

-- where a simplex is: its forms, the point, and the bounds of the forms
pub record Position : Type 0 where
  pub forms : List (List Part)
  pub point : Point
  pub lower : ℕ → Option Infinitesimal
  pub upper : ℕ → Option Infinitesimal

-- each form is just one sum of the nonbasic ones
abbrev pub HasBasis : Position → Type 0
HasBasis s = IsBasis s.forms (is_nonbasic s.point)

-- the value of a form, basic or not
pub record HasValue (s : Position) (i : ℕ) (x : Infinitesimal) : Type 0 where
  pub row : Coefficients
  pub is_row : IsRow s.forms (is_nonbasic s.point) i row
  pub at : x =δ sum_at (length s.forms) row (value_in s.point)

pub data Side : Type 0 where
  lower_side : Side
  upper_side : Side

abbrev pub other_side : Side → Side
other_side lower_side = upper_side
other_side upper_side = lower_side

abbrev pub bound_on : Side → Position → ℕ → Option Infinitesimal
bound_on lower_side s i = s.lower i
bound_on upper_side s i = s.upper i

-- the order of values, without equality
abbrev pub ◌<δ◌ : Infinitesimal → Infinitesimal → Type 0
x <δ y = infinitesimal_cmp x y ≡ Less

infix 4 ◌<δ◌
-- a value breaks a bound of this side: it is below a lower one, or above an upper one
abbrev pub IsOutside : Side → Infinitesimal → Infinitesimal → Type 0
IsOutside lower_side bound x = x <δ bound
IsOutside upper_side bound x = bound <δ x

-- a value may still move towards a bound of this side
abbrev pub IsInside : Side → Infinitesimal → Infinitesimal → Type 0
IsInside lower_side bound x = bound <δ x
IsInside upper_side bound x = x <δ bound

-- the nonbasic forms break no bound
abbrev pub NonbasicFormsFit : Position → Type 0
NonbasicFormsFit s = (side : Side) (k : ℕ) (bound : Infinitesimal) → is_nonbasic s.point k ≡ true → bound_on side s k ≡ Some bound → IsOutside side bound (value_in s.point k) → ⊥

-- ---- Where nonbasic forms stand

pub data Stand : Type 0 where
  at_lower : Stand
  at_upper : Stand
  at_neither : Stand

abbrev pub is_at : Option Infinitesimal → Infinitesimal → Bool
is_at None x = false
is_at (Some bound) x = fraction_eq bound.standard x.standard && fraction_eq bound.coefficient x.coefficient

-- whether each nonbasic form stands at its lower bound, its upper bound or neither; a form without a stand is basic
abbrev pub posture_of : Position → ℕ → Option Stand
posture_of s k =
    option_map (λ x. if is_at (s.lower k) x then at_lower else if is_at (s.upper k) x then at_upper else at_neither) (s.point k)

-- ---- Check steps

-- A basic form breaks its bound of this side.
pub record Breaks (s : Position) (side : Side) (bound : Infinitesimal) (i : ℕ) : Type 0 where
  pub listed : i < length s.forms
  pub basic : is_nonbasic s.point i ≡ false
  pub bounded : bound_on side s i ≡ Some bound
  pub value : Infinitesimal
  pub has : HasValue s i value
  pub outside : IsOutside side bound value

-- No basic form breaks a bound.
abbrev pub IsWithinBounds : Position → Type 0
IsWithinBounds s = (side : Side) (bound : Infinitesimal) (i : ℕ) → Breaks s side bound i → ⊥

-- A form doesn't stand at its bound of this side, or has none.
abbrev pub HasRoom : Position → Side → ℕ → Type 0
HasRoom s side j = (bound : Infinitesimal) → bound_on side s j ≡ Some bound → IsInside side bound (value_in s.point j)

-- A nonbasic form can take form i towards this side: it has room there and a coefficient above 0, or room on the other side and
-- a coefficient below 0.
pub record CanHelp (s : Position) (i : ℕ) (side : Side) (j : ℕ) : Type 0 where
  pub nonbasic : is_nonbasic s.point j ≡ true
  pub coefficient : Fraction
  pub at : IsCoefficient s.forms (is_nonbasic s.point) i j coefficient
  pub way : ((whole (pos 0) <ℚ coefficient) × HasRoom s side j) ⊎ ((coefficient <ℚ whole (pos 0)) × HasRoom s (other_side side) j)

-- i stands at a bound, and j is basic
abbrev pub exchanged_point : Point → ℕ → ℕ → Infinitesimal → Point
exchanged_point x i j bound k = if k == i then Some bound else if k == j then None else x k

-- The least-numbered basic form that breaks a bound is exchanged with the least-numbered nonbasic form that can help, and then
-- stands at that bound.
pub record IsCheckStep (s t : Position) (i j : ℕ) : Type 0 where
  pub side : Side
  pub bound : Infinitesimal
  pub breaks : Breaks s side bound i
  pub least_broken : (k : ℕ) → k < i → (half : Side) (other : Infinitesimal) → Breaks s half other k → ⊥
  pub helps : CanHelp s i (other_side side) j
  pub least_helper : (k : ℕ) → k < j → CanHelp s i (other_side side) k → ⊥
  pub after : t ≡ record s { point = exchanged_point s.point i j bound }

-- ---- Climb steps

-- A form with this coefficient at another is led to a side where the other one goes this way.
abbrev pub IsLed : (way : Side) → Fraction → (side : Side) → Type 0
IsLed way q side = ((whole (pos 0) <ℚ q) × (side ≡ way)) ⊎ ((q <ℚ whole (pos 0)) × (side ≡ other_side way))

-- Where form j goes this way by so much, form k comes to its bound on the side that it is led to. Form k may be j itself.
pub record Blocks (s : Position) (j : ℕ) (way : Side) (k : ℕ) (move : Infinitesimal) : Type 0 where
  pub listed : k < length s.forms
  pub coefficient : Fraction
  pub at : IsCoefficient s.forms (is_nonbasic s.point) k j coefficient
  pub side : Side
  pub led : IsLed way coefficient side
  pub bound : Infinitesimal
  pub bounded : bound_on side s k ≡ Some bound
  pub value : Infinitesimal
  pub has : HasValue s k value
  pub reaches : (value +δ scaled move coefficient) =δ bound

-- The least-numbered nonbasic form that can take the goal up, or down, goes that way until a form blocks it: of those that block it
-- first, i is the least-numbered one. They are exchanged, and i stands at its bound. Where i is the form that goes, it moves there
-- and stays nonbasic.
pub record IsClimbStep (s t : Position) (goal : ℕ) (up : Side) (i j : ℕ) : Type 0 where
  pub helps : CanHelp s goal up j
  pub least_helper : (k : ℕ) → k < j → CanHelp s goal up k → ⊥
  pub way : Side
  pub led : IsLed way helps.coefficient up
  pub move : Infinitesimal
  pub blocks : Blocks s j way i move
  pub first : (k : ℕ) (other : Infinitesimal) → Blocks s j way k other → IsInside way move other → ⊥
  pub least_first : (k : ℕ) (other : Infinitesimal) → k < i → Blocks s j way k other → other =δ move → ⊥
  pub after : t ≡ record s { point = exchanged_point s.point i j blocks.bound }

-- ---- Contradictions

-- these values of all forms break no bound
abbrev pub MeetsBounds : Position → (ℕ → Infinitesimal) → Type 0
MeetsBounds s y = (side : Side) (k : ℕ) (bound : Infinitesimal) → k < length s.forms → bound_on side s k ≡ Some bound → IsOutside side bound (y k) → ⊥

-- Form i can't meet its bound of this side: the bounds that hold back the nonbasic forms, with the coefficients of its row for
-- multipliers, fall short of that bound.
pub record IsRefutation (s : Position) (i : ℕ) (side : Side) (bound : Infinitesimal) (row : Coefficients) (bounds : ℕ → Infinitesimal) : Type 0 where
  pub listed : i < length s.forms
  pub is_row : IsRow s.forms (is_nonbasic s.point) i row
  pub bounded : bound_on side s i ≡ Some bound
  pub above_zero : (k : ℕ) → whole (pos 0) <ℚ row k → bound_on (other_side side) s k ≡ Some (bounds k)
  pub below_zero : (k : ℕ) → row k <ℚ whole (pos 0) → bound_on side s k ≡ Some (bounds k)
  pub short : IsOutside side bound (sum_at (length s.forms) row bounds)

-- ---- Bounds of fractions

abbrev pub standing : Fraction → Infinitesimal
standing q = record { standard = q; coefficient = whole (pos 0) }

-- at most q, or below it: what is below is at most q less an infinitesimal
abbrev pub at_most_bound : Bool → Fraction → Infinitesimal
at_most_bound strict q = record { standard = q; coefficient = if strict then whole (negsuc 0) else whole (pos 0) }

-- at least q, or above it
abbrev pub at_least_bound : Bool → Fraction → Infinitesimal
at_least_bound strict q = record { standard = q; coefficient = if strict then whole (pos 1) else whole (pos 0) }

-- ---- Laws

-- What a bound says of a fraction: it breaks the bound just where it isn't at most q, below q, at least q, or above q.
pub record BoundsSayWhatTheyMean : Type 0 where
  pub at_most : (p q : Fraction) → IsOutside upper_side (at_most_bound false q) (standing p) ↔ (q <ℚ p)
  pub below : (p q : Fraction) → IsOutside upper_side (at_most_bound true q) (standing p) ↔ (q ≤ℚ p)
  pub at_least : (p q : Fraction) → IsOutside lower_side (at_least_bound false q) (standing p) ↔ (p <ℚ q)
  pub above : (p q : Fraction) → IsOutside lower_side (at_least_bound true q) (standing p) ↔ (p ≤ℚ q)

-- A value that is computed has the value of the sum.
abbrev pub ValueIsComputed : Type 0
ValueIsComputed = (n : ℕ) (c : Coefficients) (x : Point) → IsZeroAtBasic (is_nonbasic x) c → (row_value n c x).result =δ sum_at n c (value_in x)

-- Rows tell what breaks a bound, by the values that are computed from them, and what can help.
pub record RowsTell : Type 0 where
  pub breaks : (s : Position) (rows : Rows) (side : Side) (bound : Infinitesimal) (i : ℕ) → HasBasis s → AreRows s.forms (is_nonbasic s.point) rows
      → i < length s.forms → is_nonbasic s.point i ≡ false → bound_on side s i ≡ Some bound
      → IsOutside side bound (row_value (length s.forms) (rows i) s.point).result ↔ Breaks s side bound i
  pub helps : (s : Position) (rows : Rows) (side : Side) (i j : ℕ) → HasBasis s → AreRows s.forms (is_nonbasic s.point) rows
      → i < length s.forms → is_nonbasic s.point i ≡ false → is_nonbasic s.point j ≡ true
      → (((whole (pos 0) <ℚ rows i j) × HasRoom s side j) ⊎ ((rows i j <ℚ whole (pos 0)) × HasRoom s (other_side side) j)) ↔ CanHelp s i side j

-- Each form has one value at a position. The values of all forms fit the basis, with any fraction for δ. Where no form breaks a
-- bound, these values meet the bounds. A sum stays the same over more forms, where the others have the value 0.
pub record PositionsHaveValues : Type 0 where
  pub some : (s : Position) → HasBasis s → (y : ℕ → Infinitesimal) × ((k : ℕ) → k < length s.forms → HasValue s k (y k))
  pub one : (s : Position) (k : ℕ) (x y : Infinitesimal) → HasBasis s → k < length s.forms → HasValue s k x → HasValue s k y → x =δ y
  pub fit : (s : Position) (y : ℕ → Infinitesimal) (e : Fraction) → HasBasis s → ((k : ℕ) → k < length s.forms → HasValue s k (y k)) → IsSolution s.forms (is_nonbasic s.point) (λ k. at (y k) e)
  pub feasible : (s : Position) (y : ℕ → Infinitesimal) → HasBasis s → ((k : ℕ) → k < length s.forms → HasValue s k (y k)) → NonbasicFormsFit s
      → IsWithinBounds s → MeetsBounds s y
  pub longer : (n m : ℕ) (c : Coefficients) (x y : ℕ → Infinitesimal) → n ≤ m → ((k : ℕ) → k < n → y k ≡ x k) → ((k : ℕ) → n ≤ k → y k ≡ zero_infinitesimal)
      → sum_at m c y =δ sum_at n c x

-- Where one value moves, a sum moves by its coefficient there.
abbrev pub SumMoves : Type 0
SumMoves = (n : ℕ) (c : Coefficients) (x y : ℕ → Infinitesimal) (j : ℕ) → j < n → ((k : ℕ) → (k ≡ j → ⊥) → y k =δ x k)
    → sum_at n c y =δ (sum_at n c x +δ scaled (y j -δ x j) (c j))

-- A check step leads from basis to basis, and its rows are those that are computed. The form that left stands at its bound, and each
-- other form moves by its coefficient there.
pub record CheckStepsKeepBasis : Type 0 where
  pub basis : (s t : Position) (i j : ℕ) → HasBasis s → IsCheckStep s t i j → HasBasis t
  pub rows : (s t : Position) (i j : ℕ) (rows : Rows) → HasBasis s → IsCheckStep s t i j → AreRows s.forms (is_nonbasic s.point) rows
      → AreRows t.forms (is_nonbasic t.point) (exchange (length s.forms) (is_nonbasic s.point) rows i j).result
  pub stands : (s t : Position) (i j : ℕ) → HasBasis s → (step : IsCheckStep s t i j) → HasValue t i step.bound
  pub moves : (s t : Position) (i j r : ℕ) (v w : Infinitesimal) (q : Fraction) → HasBasis s → (step : IsCheckStep s t i j) → r < length s.forms
      → HasValue s r v → HasValue s i w → IsCoefficient t.forms (is_nonbasic t.point) r i q → HasValue t r (v +δ scaled (step.bound -δ w) q)

-- A climb step leads from basis to basis, and the form that blocked it stands at its bound.
pub record ClimbStepsKeepBasis : Type 0 where
  pub basis : (s t : Position) (goal : ℕ) (up : Side) (i j : ℕ) → HasBasis s → IsClimbStep s t goal up i j → HasBasis t
  pub stands : (s t : Position) (goal : ℕ) (up : Side) (i j : ℕ) → HasBasis s → (step : IsClimbStep s t goal up i j) → HasValue t i step.blocks.bound

-- Where a basic form breaks a bound and no nonbasic form can help, the row by which it breaks it refutes the bounds: no values that fit the
-- forms meet them, and so none of an assignment.
pub record NoHelpRefutes : Type 0 where
  pub found : (s : Position) (side : Side) (bound : Infinitesimal) (i : ℕ) (breaks : Breaks s side bound i) → ((j : ℕ) → CanHelp s i (other_side side) j → ⊥)
      → (bounds : ℕ → Infinitesimal) × IsRefutation s i side bound breaks.has.row bounds
  pub refutes : (s : Position) (i : ℕ) (side : Side) (bound : Infinitesimal) (row : Coefficients) (bounds : ℕ → Infinitesimal) → IsRefutation s i side bound row bounds
      → (y : ℕ → Infinitesimal) → y i =δ sum_at (length s.forms) row y → MeetsBounds s y → ⊥
  pub assignments : (s : Position) (i : ℕ) (side : Side) (bound : Infinitesimal) (row : Coefficients) (bounds : ℕ → Infinitesimal) → IsRefutation s i side bound row bounds
      → (a : Assignment) → MeetsBounds s (λ k. standing (parts_value a (form_at s.forms k))) → ⊥
