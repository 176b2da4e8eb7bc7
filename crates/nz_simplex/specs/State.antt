-- What a contract sees of a simplex, and the position that it is over a table of terms.
use Rattle.std.specs.Prelude.{◌≡◌, ℕ, Bool, true, false, List, [], map, length, slice_index_or, Option, Some, None, IsSome, if◌then◌else◌}
use Rattle.std.specs.List.{AllByRecursion}
use Rattle.nz_fractions.specs.Fraction.{Fraction}
use Rattle.nz_spec.specs.numbers.Infinitesimal.{Infinitesimal}
use Rattle.nz_spec.specs.simplex.Bland.{Point, Position, HasValue}
use Rattle.nz_spec.specs.simplex.PositionMoves.{IsReadyToCheck}
use Rattle.nz_spec.specs.terms.Table.{Node, IsTable}
use Rattle.nz_lin.specs.declared.form.Part.{Part}
use Rattle.nz_lin.specs.Forms.{AreUnits, parts_over}
use Rattle.nz_trail.specs.declared.limits.Side.TheVariants.{Lower, Upper}
use Rattle.nz_simplex.specs.Standing.{Held, bound_in}

-- The forms by the numbers of their units, which of them are nonbasic, the values that are known, the bounds that were asserted and not undone, the oldest
-- first, and the reasons and multipliers of the last clash.
pub record State : Type 0 where
  pub forms : List (List Part)
  pub marks : List Bool
  pub values : List (Option Infinitesimal)
  pub asserted : List Held
  pub why : List (ℕ × Fraction)

abbrev pub empty_state : State
empty_state = record { forms = []; marks = []; values = []; asserted = []; why = [] }

abbrev pub nonbasic_in : State → ℕ → Bool
nonbasic_in s k = slice_index_or s.marks k false

abbrev pub value_in : State → ℕ → Option Infinitesimal
value_in s k = slice_index_or s.values k None

-- the point: the values of the nonbasic forms
abbrev pub point_in : State → Point
point_in s k = if nonbasic_in s k then value_in s k else None

-- ---- Over a table of terms

-- the units of all forms are of this table
pub record IsOver (ns : List Node) (s : State) : Type 0 where
  pub table : IsTable ns
  pub units : AllByRecursion (AreUnits ns) s.forms

abbrev pub position_over : List Node → State → Position
position_over ns s = record {
  forms = map (parts_over ns) s.forms;
  point = point_in s;
  lower = bound_in s.asserted Lower;
  upper = bound_in s.asserted Upper;
}

-- ---- What holds of every simplex

-- Each form is nonbasic or basic, and has a value or none. A nonbasic form has one, and what is known is the value at the position. What a check takes for
-- granted holds.
pub record IsSound (s : State) : Type 0 where
  pub marked : length s.marks ≡ length s.forms
  pub valued : length s.values ≡ length s.forms
  pub known : (k : ℕ) → nonbasic_in s k ≡ true → IsSome (value_in s k)
  pub ready : (ns : List Node) → IsOver ns s → IsReadyToCheck (position_over ns s)
  pub right : (ns : List Node) (k : ℕ) (x : Infinitesimal) → IsOver ns s → value_in s k ≡ Some x → HasValue (position_over ns s) k x
