-- A fraction for the infinitesimal: what the values of forms and their bounds allow, and where an operation leaves the numbers there.
use Rattle.std.specs.Prelude.{◌≡◌, ℕ, zero, suc, ◌<◌, ◌⊎◌, Bool, true, List, [], ◌∷◌, ◌++◌, length, Option, Some, None, IsSome, option_map, unwrap_or}
use Rattle.nz_fractions.specs.Fraction.{Fraction, IsNumber, first_wide}
use Rattle.nz_spec.specs.simplex.Bland.{Point, zero_infinitesimal}
use Rattle.nz_spec.specs.numbers.Infinitesimal.{Infinitesimal, Pair, ◌≤δ◌, is_limiting, limit_operations}
use Rattle.nz_spec.specs.terms.Form.{Part}
use Rattle.nz_spec.specs.terms.Table.{Node}
use Rattle.nz_spec.specs.terms.Term.{Term}
use Rattle.nz_spec.specs.clauses.Literal.{Literal}
use Rattle.nz_spec.specs.simplex.LiteralBounds.{position_under}
use Rattle.nz_spec.specs.search.Places.{IsOfModel, LeavesNumbers, in_order, value_operations}
use Rattle.nz_frac.specs.Operations.{operation_of}
use Rattle.nz_trail.specs.declared.limits.Side.{Side}
use Rattle.nz_trail.specs.declared.limits.Side.TheVariants.{Lower, Upper}
use Rattle.nz_place.specs.declared.place.Place.{Place}
use Rattle.nz_place.specs.declared.place.Site.TheVariants.{Limit, Model}
use Rattle.nz_place.specs.Places.{IsPlaceIn}
use Rattle.nz_simplex.specs.Standing.{bound_in, half}
use Rattle.nz_simplex.specs.State.{value_in}
use Rattle.nz_reals.specs.Constants.{IsAlone}
use Rattle.nz_reals.specs.State.{Theory, sum_at}

-- ---- Values and bounds

-- the value of a form
abbrev pub value_of : Theory → ℕ → Infinitesimal
value_of t k = unwrap_or (value_in t.simplex k) zero_infinitesimal

-- its bound of a side and its value, in their order
abbrev pub pair_on : Theory → ℕ → Side → Option Pair
pair_on t k side = option_map (λ (b : Infinitesimal). in_order (half side) b (value_of t k)) (bound_in t.simplex.asserted side k)

abbrev pub listed : Option Pair → List Pair
listed None = []
listed (Some pair) = pair ∷ []

abbrev pub pairs_of : Theory → ℕ → List Pair
pairs_of t k = listed (pair_on t k Lower) ++ listed (pair_on t k Upper)

-- those of the first forms
abbrev pub pairs_below : Theory → ℕ → List Pair
pairs_below t zero = []
pairs_below t (suc n) = pairs_below t n ++ pairs_of t n

-- Each form has a value, in order with its bounds.
pub record HasValues (t : Theory) : Type 0 where
  pub known : (k : ℕ) → k < length t.simplex.forms → IsSome (value_in t.simplex k)
  pub ordered : (k : ℕ) (side : Side) (pair : Pair) → k < length t.simplex.forms → pair_on t k side ≡ Some pair → pair.0 ≤δ pair.1

-- ---- Places

-- An operation of the limit that a form's value and its bound of a side set, where they set one, leaves the numbers.
pub record IsLimitPlace (t : Theory) (place : Place) : Type 0 where
  pub form : ℕ
  pub side : Side
  pub site : place.site ≡ Limit form side
  pub inside : form < length t.simplex.forms
  pub pair : Pair
  pub is : pair_on t form side ≡ Some pair
  pub numbers : IsNumber (value_of t form).standard × IsNumber (value_of t form).coefficient
  pub limits : is_limiting pair ≡ true
  pub first : first_wide (limit_operations pair) ≡ Some (operation_of place.wide)
  pub leaves : LeavesNumbers (operation_of place.wide)

-- One of the value of a form, which is a marked constant alone, leaves the numbers.
pub record IsModelPlace (t : Theory) (ns : List Node) (marks : List Bool) (e : Fraction) (place : Place) : Type 0 where
  pub form : ℕ
  pub site : place.site ≡ Model form
  pub inside : form < length t.simplex.forms
  pub unit : ℕ
  pub alone : IsAlone ns marks (sum_at t form) unit
  pub first : first_wide (value_operations (value_of t form) e) ≡ Some (operation_of place.wide)
  pub leaves : LeavesNumbers (operation_of place.wide)

-- ---- Places of the definitions

-- The place is that of a limit.
pub record IsLimitPlaceIn (ns : List Node) (fs : List (List Part)) (ls : List Literal) (x : Point) (place : Place) : Type 0 where
  pub form : ℕ
  pub side : Side
  pub site : place.site ≡ Limit form side
  pub leaves : IsPlaceIn ns fs ls x place

-- The place is that of the value of a form, which is a constant among these terms alone.
pub record IsModelPlaceIn (listed : List Term) (fs : List (List Part)) (ls : List Literal) (x : Point) (place : Place) : Type 0 where
  pub form : ℕ
  pub site : place.site ≡ Model form
  pub at : IsOfModel listed (position_under fs x ls) form (operation_of place.wide)
  pub leaves : LeavesNumbers (operation_of place.wide)

-- the one or the other
abbrev pub IsPlaceOfValues : List Node → List Term → List (List Part) → List Literal → Point → Place → Type 0
IsPlaceOfValues ns listed fs ls x place = IsLimitPlaceIn ns fs ls x place ⊎ IsModelPlaceIn listed fs ls x place
