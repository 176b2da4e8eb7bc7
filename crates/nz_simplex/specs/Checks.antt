-- What a check does and answers.
use Rattle.std.specs.Prelude.{◌≡◌, ℕ, ◌<◌, false, List, [], ◌∷◌, length, flat_map, fold, pos, Option, Some, None, IsSome, Result, Ok, Err, if◌then◌else◌}
use Rattle.nz_fractions.specs.Fraction.{Fraction, IsNumber, whole, first_wide, Operation}
use Rattle.nz_spec.specs.numbers.Infinitesimal.{Infinitesimal}
use Rattle.nz_spec.specs.terms.Term.{is_zero}
use Rattle.nz_spec.specs.simplex.Basis.{Coefficients}
use Rattle.nz_spec.specs.simplex.BasisMoves.{Rows, AreRows, numbers, exchange}
use Rattle.nz_spec.specs.simplex.Bland as bland
use Rattle.nz_spec.specs.simplex.Bland.{Position, is_nonbasic, HasValue, Breaks, MeetsBounds, IsRefutation, row_value}
use Rattle.nz_spec.specs.simplex.Pivots.{Pivot, pivot, MayPivot, Lead}
use Rattle.nz_spec.specs.terms.Table.{Node}
use Rattle.nz_frac.specs.Operations.{operation_of}
use Rattle.nz_place.specs.declared.place.Place.{Place}
use Rattle.nz_place.specs.declared.place.Site.{Site}
use Rattle.nz_place.specs.declared.place.Site.TheVariants.{Exchange, Value}
use Rattle.nz_trail.specs.Bounds.{other_side}
use Rattle.nz_trail.specs.declared.limits.Side.{Side}
use Rattle.nz_simplex.specs.declared.answer.Check.{Check}
use Rattle.nz_simplex.specs.declared.answer.Check.TheVariants.{Feasible, Clash}
use Rattle.nz_simplex.specs.declared.answer.SimplexStop.{SimplexStop}
use Rattle.nz_simplex.specs.declared.answer.SimplexStop.TheVariants.{Wide, Spent}
use Rattle.nz_simplex.specs.Choices.{is_below_zero, size_of}
use Rattle.nz_simplex.specs.Standing.{Held, half, reason_in}
use Rattle.nz_simplex.specs.State.{State, nonbasic_in, value_in, point_in, IsOver, position_over}

-- ---- Steps

-- The form i breaks its bound, and no lesser basic form breaks one.
pub record IsFirstBroken (p : Position) (side : bland.Side) (bound : Infinitesimal) (i : ℕ) : Type 0 where
  pub breaks : Breaks p side bound i
  pub least : (k : ℕ) → k < i → (half : bland.Side) (other : Infinitesimal) → Breaks p half other k → ⊥

-- Check steps lead from the one state to the other, and each is noted. The forms and the bounds stay.
pub record IsStepped {W : Type 0} (with_step : W → ℕ → ℕ → W) (old_work new_work : W) (old new : State) : Type 0 where
  pub pivots : List Pivot
  pub noted : new_work ≡ fold (λ (w : W) (p : Pivot). with_step w p.leaves p.enters) old_work pivots
  pub lead : (ns : List Node) → IsOver ns old → Lead (position_over ns old) pivots (position_over ns new)
  pub forms : new.forms ≡ old.forms
  pub asserted : new.asserted ≡ old.asserted

-- ---- Feasible

-- The value of each form is known, no form breaks a bound, and so the values of all meet the bounds.
pub record IsFeasible (ns : List Node) (s : State) : Type 0 where
  pub known : (k : ℕ) → k < length s.forms → IsSome (value_in s k)
  pub within : (side : bland.Side) (bound : Infinitesimal) (i : ℕ) → Breaks (position_over ns s) side bound i → ⊥
  pub meets : (y : ℕ → Infinitesimal) → ((k : ℕ) → k < length s.forms → HasValue (position_over ns s) k (y k)) → MeetsBounds (position_over ns s) y

-- ---- Clash

-- a nonbasic form with this coefficient is held back by its bound of this side, where the form of the row is to leave its bound of a side
abbrev pub holding_side : Side → Fraction → Side
holding_side side c = if is_below_zero c then side else other_side side

-- the reason and the multiplier of a nonbasic form, where its coefficient isn't 0
abbrev pub multiplier : List Held → Side → Coefficients → ℕ → List (ℕ × Fraction)
multiplier bs side row k =
    if is_zero (row k) then [] else (reason_in bs (holding_side side (row k)) k, size_of (row k)) ∷ []

-- those of the broken bound, with 1, and of the bounds that hold back the nonbasic forms, by rising numbers
abbrev pub multipliers : State → ℕ → Side → Coefficients → List (ℕ × Fraction)
multipliers s i side row =
    (reason_in s.asserted side i, whole (pos 1)) ∷ flat_map (multiplier s.asserted side row) (numbers (length s.forms) (nonbasic_in s))

-- The row of a basic form refutes the bounds, and its multipliers are told.
pub record IsRefuted (ns : List Node) (s : State) : Type 0 where
  pub broken : ℕ
  pub basic : is_nonbasic (position_over ns s).point broken ≡ false
  pub side : Side
  pub bound : Infinitesimal
  pub row : Coefficients
  pub bounds : ℕ → Infinitesimal
  pub refutes : IsRefutation (position_over ns s) broken (half side) bound row bounds
  pub why : s.why ≡ multipliers s broken side row

-- ---- Wide

-- the operations of the computation at a place: an exchange, or the value of a form
abbrev pub site_operations : State → Rows → Site → List Operation
site_operations s rows (Exchange leaves enters) = (exchange (length s.forms) (nonbasic_in s) rows leaves enters).operations
site_operations s rows (Value form) = (row_value (length s.forms) (rows form) (point_in s)).operations
site_operations s rows site = []

-- an exchange is that of the step that may be next; a value is that of a basic form, and isn't known yet
abbrev pub IsSite : List Node → State → Site → Type 0
IsSite ns s (Exchange leaves enters) = MayPivot (position_over ns s) (pivot leaves enters)
IsSite ns s (Value form) = (form < length s.forms) × (nonbasic_in s form ≡ false) × (value_in s form ≡ None)
IsSite ns s site = ⊥

-- The operation is the first of the computation that leaves the numbers, and its operands are numbers.
pub record IsPlace (ns : List Node) (s : State) (place : Place) : Type 0 where
  pub site : IsSite ns s place.site
  pub left : IsNumber place.wide.a
  pub right : IsNumber place.wide.b
  pub rows : Rows
  pub are_rows : AreRows (position_over ns s).forms (is_nonbasic (position_over ns s).point) rows
  pub first : first_wide (site_operations s rows place.site) ≡ Some (operation_of place.wide)

-- the stop of a call that notes no step
abbrev pub StopsAt : List Node → State → SimplexStop → Type 0
StopsAt ns s (Wide place) = IsPlace ns s place
StopsAt ns s Spent = ⊥

-- ---- Answers

-- what a check tells of where it ended, where so many units are left
abbrev pub Answers : List Node → State → ℕ → Result Check SimplexStop → Type 0
Answers ns s left (Ok Feasible) = IsFeasible ns s
Answers ns s left (Ok Clash) = IsRefuted ns s
Answers ns s left (Err (Wide place)) = IsPlace ns s place
Answers ns s left (Err Spent) = (left ≡ 0) × ((p : Pivot) × MayPivot (position_over ns s) p)

-- the position is as it was, and so is what was known
pub record IsRenewed (old new : State) : Type 0 where
  pub values : List (Option Infinitesimal)
  pub rest : new ≡ record old { values = values }
  pub point : (k : ℕ) → point_in new k ≡ point_in old k
  pub kept : (k : ℕ) (x : Infinitesimal) → value_in old k ≡ Some x → value_in new k ≡ Some x

-- what a call that only computes values tells
abbrev pub Renews : {A : Type 0} → List Node → State → Result A SimplexStop → Type 0
Renews ns s (Ok x) = (k : ℕ) → k < length s.forms → IsSome (value_in s k)
Renews ns s (Err e) = StopsAt ns s e
