-- What the calls outside of a check leave.
use Rattle.std.specs.Prelude.{◌≡◌, ℕ, ◌<◌, ◌==◌, ◌||◌, Bool, true, false, List, [], ◌∷◌, ◌++◌, length, nat_lt, Some, None, fold, if◌then◌else◌}
use Rattle.nz_spec.specs.simplex.Bland.{zero_infinitesimal, is_nonbasic, Position}
use Rattle.nz_spec.specs.numbers.Infinitesimal.{Infinitesimal}
use Rattle.nz_spec.specs.simplex.PositionMoves.{with_unit, with_form, with_bound}
use Rattle.nz_spec.specs.terms.Table.{Node, term_in}
use Rattle.nz_spec.specs.terms.Term.{Term}
use Rattle.nz_lin.specs.declared.form.Part.{Part}
use Rattle.nz_lin.specs.Forms.{parts_over}
use Rattle.nz_spec.specs.simplex.Basis.{Coefficients}
use Rattle.nz_spec.specs.simplex.BasisMoves.{Rows, AreRows, exchanged, joining_row}
use Rattle.nz_spec.specs.numbers.Computation.{Computation}
use Rattle.nz_fractions.specs.Fraction.{first_wide}
use Rattle.nz_frac.specs.Operations.{operation_of}
use Rattle.nz_tab.specs.Joins.{number_by}
use Rattle.nz_tab.specs.Units.{is_unit_form, new_units, with_units, unit_number}
use Rattle.nz_term.specs.declared.stops.ArithmeticStop.{ArithmeticStop}
use Rattle.nz_term.specs.declared.stops.ArithmeticStop.TheVariants.{Wide, Memory}
use Rattle.nz_simplex.specs.Standing.{Held, half}
use Rattle.nz_simplex.specs.State.{State, nonbasic_in, value_in, IsOver, position_over}

-- ---- Forms that join

-- the terms of units that join
abbrev pub unit_terms : List Node → List (List Part) → List Term
unit_terms ns [] = []
unit_terms ns ([] ∷ fs) = unit_terms ns fs
unit_terms ns ((p ∷ ps) ∷ fs) = term_in ns p.unit ∷ unit_terms ns fs

-- units join one after another
abbrev pub with_all_units : Position → List Term → Position
with_all_units s us = fold with_unit s us

-- The units that aren't there join as nonbasic, at 0. A form that is no unit alone joins behind them as basic, and its value isn't known. All else stays.
pub record IsJoined (old new : State) (f : List Part) (v : ℕ) : Type 0 where
  pub forms : new.forms ≡ (if is_unit_form f then with_units old.forms f else with_units old.forms f ++ f ∷ [])
  pub unit : (p : Part) → is_unit_form f ≡ true → f ≡ p ∷ [] → unit_number new.forms p.unit ≡ Some v
  pub number : is_unit_form f ≡ false → v ≡ length (with_units old.forms f)
  pub old_marks : (k : ℕ) → k < length old.forms → nonbasic_in new k ≡ nonbasic_in old k
  pub new_marks : (k : ℕ) → (k < length old.forms → ⊥) → nonbasic_in new k ≡ nat_lt k (length (with_units old.forms f))
  pub old_values : (k : ℕ) → k < length old.forms → value_in new k ≡ value_in old k
  pub new_values : (k : ℕ) → (k < length old.forms → ⊥) → value_in new k ≡ (if nat_lt k (length (with_units old.forms f)) then Some zero_infinitesimal else None)
  pub asserted : new.asserted ≡ old.asserted
  pub why : new.why ≡ old.why

-- whether units of a form are nonbasic when they have joined
abbrev pub joining_marks : State → List Part → ℕ → Bool
joining_marks s f k = if nat_lt k (length s.forms) then nonbasic_in s k else nat_lt k (length (with_units s.forms f))

-- the row of a form that joins
abbrev pub joining : List Node → State → Rows → List Part → Computation Coefficients
joining ns s rows f =
    let fs = with_units s.forms f in
    joining_row (length fs) (joining_marks s f) rows (number_by ns fs) (parts_over ns f)

-- The first operation on the row of the form that leaves the numbers, or want of memory.
abbrev pub JoinStops : List Node → State → List Part → ArithmeticStop → Type 0
JoinStops ns s f (Wide w) =
    (rows : Rows) × AreRows (position_over ns s).forms (is_nonbasic (position_over ns s).point) rows × (first_wide (joining ns s rows f).operations ≡ Some (operation_of w))
JoinStops ns s f Memory = Unit {0}

-- what that is of positions
abbrev pub joined_over : List Node → State → List Part → Position
joined_over ns old f =
    let units = with_all_units (position_over ns old) (unit_terms ns (new_units old.forms f)) in
    if is_unit_form f then units else with_form units (parts_over ns f)

-- ---- Bounds

-- One bound more stands: a nonbasic form outside of it moves to it, and all other nonbasic forms stay. The forms stay, and which of them are basic.
pub record IsBounded (old new : State) (b : Held) : Type 0 where
  pub forms : new.forms ≡ old.forms
  pub marks : new.marks ≡ old.marks
  pub asserted : new.asserted ≡ old.asserted ++ b ∷ []
  pub why : new.why ≡ old.why
  pub position : (ns : List Node) → IsOver ns old → position_over ns new ≡ with_bound (position_over ns old) (half b.side) b.var b.value

-- ---- Forms that settle

abbrev pub is_among : ℕ → List ℕ → Bool
is_among k [] = false
is_among k (v ∷ vs) = (k == v) || is_among k vs

-- These nonbasic forms stand at 0, and all others where they stood.
pub record IsSettled (old new : State) (vars : List ℕ) : Type 0 where
  pub forms : new.forms ≡ old.forms
  pub marks : new.marks ≡ old.marks
  pub asserted : new.asserted ≡ old.asserted
  pub why : new.why ≡ old.why
  pub point : (k : ℕ) → nonbasic_in old k ≡ true → value_in new k ≡ (if is_among k vars then Some zero_infinitesimal else value_in old k)

-- ---- Another basis, before any bound

-- of basic forms no value is known
abbrev pub KnowsNonbasicAlone : State → Type 0
KnowsNonbasicAlone s = (k : ℕ) → nonbasic_in s k ≡ false → value_in s k ≡ None

-- A basic form is nonbasic, at 0, and a nonbasic one is basic. All else stays.
pub record IsExchanged (old new : State) (i j : ℕ) : Type 0 where
  pub forms : new.forms ≡ old.forms
  pub marks : (k : ℕ) → nonbasic_in new k ≡ exchanged (nonbasic_in old) i j k
  pub values : (k : ℕ) → value_in new k ≡ (if k == i then Some zero_infinitesimal else if k == j then None else value_in old k)
  pub asserted : new.asserted ≡ old.asserted
  pub why : new.why ≡ old.why

-- A nonbasic form stands at a value. All else stays.
pub record StandsAt (old new : State) (var : ℕ) (x : Infinitesimal) : Type 0 where
  pub forms : new.forms ≡ old.forms
  pub marks : new.marks ≡ old.marks
  pub values : (k : ℕ) → value_in new k ≡ (if k == var then Some x else value_in old k)
  pub asserted : new.asserted ≡ old.asserted
  pub why : new.why ≡ old.why
