-- How a position changes outside of check steps: units and forms join, and bounds are set and taken back.
-- Source: Dutertre and de Moura, A Fast Linear-Arithmetic Solver for DPLL(T), CAV 2006, section 4 (asserting bounds, backtracking).
use Rattle.std.specs.Prelude.{◌≡◌, ℕ, ◌<◌, ◌==◌, Bool, List, [], ◌∷◌, ◌++◌, length, Option, Some, None, option_map, Contains, if◌then◌else◌}
use Rattle.std.specs.Ordering.{is_lt}
use Rattle.nz_spec.specs.numbers.Infinitesimal.{Infinitesimal, infinitesimal_cmp}
use Rattle.nz_spec.specs.terms.Term.{Term}
use Rattle.nz_spec.specs.terms.Form.{Part, unit_form}
use Rattle.nz_spec.specs.simplex.Basis.{HasItsUnits}
use Rattle.nz_spec.specs.simplex.Bland.{zero_infinitesimal, Position, HasBasis, Side, lower_side, upper_side, other_side, bound_on, ◌<δ◌, IsOutside, NonbasicFormsFit, IsCheckStep}

-- ---- What a check takes for granted

-- only forms of the list have bounds
abbrev pub AreListedBounds : Position → Type 0
AreListedBounds s = (side : Side) (k : ℕ) (bound : Infinitesimal) → bound_on side s k ≡ Some bound → k < length s.forms

-- no lower bound is above an upper one of the same form
abbrev pub AreConsistent : Position → Type 0
AreConsistent s = (k : ℕ) (low high : Infinitesimal) → s.lower k ≡ Some low → s.upper k ≡ Some high → high <δ low → ⊥

-- It has a basis, bounds of its forms alone that leave each form a value, and nonbasic forms that break none.
pub record IsReadyToCheck (s : Position) : Type 0 where
  pub basis : HasBasis s
  pub listed : AreListedBounds s
  pub fit : NonbasicFormsFit s
  pub consistent : AreConsistent s

-- ---- Forms that join

-- no form yet
abbrev pub empty_position : Position
empty_position = record { forms = []; point = λ k. None; lower = λ k. None; upper = λ k. None }

-- a unit joins as nonbasic, at 0
abbrev pub with_unit : Position → Term → Position
with_unit s u = record s {
  forms = s.forms ++ (unit_form u).parts ∷ [];
  point = λ k. if k == length s.forms then Some zero_infinitesimal else s.point k;
}

-- a form joins as basic
abbrev pub with_form : Position → List Part → Position
with_form s f = record s { forms = s.forms ++ f ∷ [] }

-- ---- Bounds

abbrev pub is_outside : Side → Infinitesimal → Infinitesimal → Bool
is_outside lower_side bound x = is_lt (infinitesimal_cmp x bound)
is_outside upper_side bound x = is_lt (infinitesimal_cmp bound x)

-- a value outside of a bound moves to it
abbrev pub moved_within : Side → Infinitesimal → Infinitesimal → Infinitesimal
moved_within side bound x = if is_outside side bound x then bound else x

abbrev pub with_one_bound : (ℕ → Option Infinitesimal) → ℕ → Infinitesimal → ℕ → Option Infinitesimal
with_one_bound bounds i bound k = if k == i then Some bound else bounds k

-- the bounds of the first side, where form i has this bound on the second
abbrev pub bounds_with : Side → Side → Position → ℕ → Infinitesimal → ℕ → Option Infinitesimal
bounds_with lower_side lower_side s i bound = with_one_bound s.lower i bound
bounds_with upper_side upper_side s i bound = with_one_bound s.upper i bound
bounds_with half side s i bound = bound_on half s

-- A form has this bound; where it is nonbasic and outside, it moves there.
abbrev pub with_bound : Position → Side → ℕ → Infinitesimal → Position
with_bound s side i bound = record s {
  point = λ k. if k == i then option_map (moved_within side bound) (s.point k) else s.point k;
  lower = bounds_with lower_side side s i bound;
  upper = bounds_with upper_side side s i bound;
}

-- Each bound of the one position is at least as loose as that of the other.
abbrev pub AreLooser : Position → Position → Type 0
AreLooser t s = (side : Side) (k : ℕ) (bound x : Infinitesimal) → bound_on side t k ≡ Some bound → IsOutside side bound x
    → (tighter : Infinitesimal) × (bound_on side s k ≡ Some tighter) × IsOutside side tighter x

-- ---- Laws

-- What a check takes for granted holds of the empty position, and stays when a new unit or a form joins, when a bound is set that
-- leaves the form a value, by a check step, and when bounds become looser while the point stays.
pub record MovesKeepReady : Type 0 where
  pub empty : IsReadyToCheck empty_position
  pub unit : (s : Position) (u : Term) → IsReadyToCheck s → (Contains s.forms (unit_form u).parts → ⊥) → IsReadyToCheck (with_unit s u)
  pub form : (s : Position) (f : List Part) → IsReadyToCheck s → HasItsUnits s.forms f → IsReadyToCheck (with_form s f)
  pub bound : (s : Position) (side : Side) (i : ℕ) (bound : Infinitesimal) → IsReadyToCheck s → i < length s.forms
      → ((other : Infinitesimal) → bound_on (other_side side) s i ≡ Some other → IsOutside (other_side side) other bound → ⊥) → IsReadyToCheck (with_bound s side i bound)
  pub step : (s t : Position) (i j : ℕ) → IsReadyToCheck s → IsCheckStep s t i j → IsReadyToCheck t
  pub looser : (s t : Position) → IsReadyToCheck s → t.forms ≡ s.forms → ((k : ℕ) → t.point k ≡ s.point k) → AreLooser t s → AreListedBounds t → AreConsistent t → IsReadyToCheck t
