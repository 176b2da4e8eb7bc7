-- What the fields of a simplex are.
use Rattle.std.specs.Prelude.{◌≡◌, ℕ, ◌≤◌, Bool, true, false, not, ◌||◌, List, [], ◌∷◌, map, length, Option, Some, None, option_map, unwrap_or, if◌then◌else◌}
use Rattle.nz_fractions.specs.Fraction.{Fraction}
use Rattle.nz_spec.specs.numbers.Infinitesimal.{Infinitesimal}
use Rattle.nz_spec.specs.simplex.BasisMoves.{numbers}
use Rattle.nz_spec.specs.simplex.Bland.{zero_infinitesimal}
use Rattle.nz_tab.specs.Tables.{Table}
use Rattle.nz_spec.specs.simplex.PositionMoves.{is_outside}
use Rattle.nz_trail.specs.Bounds.{Asserted, TrailState, other_side}
use Rattle.nz_spec.specs.simplex.Basis.{Coefficients}
use Rattle.nz_trail.specs.declared.limits.Limit.{Limit}
use Rattle.nz_trail.specs.declared.limits.Side.{Side}
use Rattle.nz_trail.specs.declared.limits.Side.TheVariants.{Lower, Upper}
use Rattle.nz_spec.specs.terms.Term.{is_zero}
use Rattle.nz_simplex.specs.Checks.{holding_side}
use Rattle.nz_simplex.specs.Choices.{numbers_in, size_of, way_of}
use Rattle.nz_simplex.specs.Standing.{Held, half, standing, told, told_on}
use Rattle.nz_simplex.specs.State.{State, nonbasic_in, value_in, IsSound}
use Rattle.nz_simplex.specs.Tabled.{marks_in}

module _ {S : Type 0} (stands_for : S → Infinitesimal) where
  abbrev pub state_of : Table → TrailState S → List (Option S) → List (ℕ × Fraction) → State
  state_of tab trail values why = record {
    forms = tab.forms;
    marks = marks_in tab;
    values = map (option_map stands_for) values;
    asserted = map (told stands_for) trail.asserted;
    why = why;
  }

-- the numbers of the basic forms, in order
abbrev pub basic_numbers : State → List ℕ
basic_numbers s = numbers (length s.forms) (λ k. not (nonbasic_in s k))

abbrev pub nonbasic_numbers : State → List ℕ
nonbasic_numbers s = numbers (length s.forms) (nonbasic_in s)

-- The basic forms and the others are listed, each form is a variable of the trail, and what a check wants has its room.
pub record IsStored (s : State) (vars : ℕ) (basic nonbasic : List ℕ) (basic_room nonbasic_room why_room : ℕ) : Type 0 where
  pub sound : IsSound s
  pub basic_listed : basic ≡ basic_numbers s
  pub nonbasic_listed : nonbasic ≡ nonbasic_numbers s
  pub numbered : length s.forms ≤ vars
  pub room_for_basic : length s.forms ≤ basic_room
  pub room_for_nonbasic : length s.forms ≤ nonbasic_room
  pub room_for_why : length s.forms ≤ why_room

-- so many forms are variables of the trail, and what is kept of each has its room
pub record HasRoomFor (count vars values basic nonbasic why : ℕ) : Type 0 where
  pub for_bounds : count ≤ vars
  pub for_values : count ≤ values
  pub for_basic : count ≤ basic
  pub for_nonbasic : count ≤ nonbasic
  pub for_why : count ≤ why

-- the reason and the multiplier of a nonbasic form with this coefficient, where it isn't 0 and a bound holds the form back
abbrev pub held_by : List Held → Side → ℕ → Fraction → Option (ℕ × Fraction)
held_by bs side k c = if is_zero c then None else option_map (λ (b : Held). (b.reason, size_of c)) (standing bs k (holding_side side c))

-- the same of a form of a row, as a list
abbrev pub one_or_none : {A : Type 0} → Option A → List A
one_or_none None = []
one_or_none (Some x) = x ∷ []

abbrev pub held_back : List Held → Side → Coefficients → ℕ → List (ℕ × Fraction)
held_back bs side row k = one_or_none (held_by bs side k (row k))

-- whether a nonbasic form with this coefficient can take the form of a row towards a side, by a trail and the values
abbrev pub has_room_in : Option Held → Side → Infinitesimal → Bool
has_room_in None side x = true
has_room_in (Some b) side x = is_outside (half (other_side side)) b.value x

abbrev pub is_helping : {S : Type 0} → (S → Infinitesimal) → List (Asserted S) → List (Option S) → Side → ℕ → Fraction → Bool
is_helping stands_for bounds values side k c =
    elim (way_of side c) [ None ↦ false | Some way ↦ has_room_in (standing (map (told stands_for) bounds) k way) way (numbers_in stands_for values k) ]

-- the first of these numbers that passes a test
abbrev pub first_passing : (ℕ → Bool) → List ℕ → Option ℕ
first_passing test [] = None
first_passing test (k ∷ ks) = if test k then Some k else first_passing test ks

-- ---- Bounds that are broken

-- whether a value breaks what stands
abbrev pub breaks_held : Side → Option Held → Infinitesimal → Bool
breaks_held side None x = false
breaks_held side (Some b) x = is_outside (half side) b.value x

-- whether the value of a form breaks a bound
abbrev pub is_broken : State → ℕ → Infinitesimal → Bool
is_broken s k x = breaks_held Lower (standing s.asserted k Lower) x || breaks_held Upper (standing s.asserted k Upper) x

abbrev pub is_breaking : State → ℕ → Bool
is_breaking s k = is_broken s k (unwrap_or (value_in s k) zero_infinitesimal)

-- The value of a form is past the bound that stands of it on a side.
pub record IsPastBound {S : Type 0} (stands_for : S → Infinitesimal) (s : State) (var : ℕ) (side : Side) (limit : Limit S) : Type 0 where
  pub stands : standing s.asserted var side ≡ Some (told_on stands_for var side limit)
  pub value : Infinitesimal
  pub valued : value_in s var ≡ Some value
  pub past : is_outside (half side) (stands_for limit.value) value ≡ true
