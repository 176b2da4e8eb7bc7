-- Forms that join a table: units that aren't there first, as nonbasic forms, and then the form itself as a basic one.
use Rattle.std.specs.Prelude.{◌≡◌, ℕ, ◌<◌, Bool, true, List, [], ◌∷◌, ◌++◌, length, Some, None, unwrap_or, if◌then◌else◌, nat_lt, ⊤, Result, Ok, Err}
use Rattle.nz_fractions.specs.Fraction.{first_wide}
use Rattle.nz_spec.specs.numbers.Computation.{Computation}
use Rattle.nz_spec.specs.terms.FormOf.{number_in}
use Rattle.nz_spec.specs.terms.Table.{Node}
use Rattle.nz_spec.specs.terms.Term.{Term}
use Rattle.nz_spec.specs.simplex.Basis.{Coefficients}
use Rattle.nz_spec.specs.simplex.BasisMoves.{joining_row}
use Rattle.nz_frac.specs.Operations.{operation_of}
use Rattle.nz_lin.specs.declared.form.Part.{Part}
use Rattle.nz_lin.specs.Forms.{parts_over}
use Rattle.nz_term.specs.declared.stops.ArithmeticStop.{ArithmeticStop}
use Rattle.nz_term.specs.declared.stops.ArithmeticStop.TheVariants.{Wide, Memory}
use Rattle.nz_tab.specs.Rows.{is_nonbasic, rows_of}
use Rattle.nz_tab.specs.Tables.{Table}
use Rattle.nz_tab.specs.Units.{unit_number, with_units}

-- ---- Joins

-- the units that have joined are nonbasic
abbrev pub with_nonbasic_units : Table → List Part → ℕ → Bool
with_nonbasic_units t f k = if nat_lt k (length t.forms) then is_nonbasic t.grid k else nat_lt k (length (with_units t.forms f))

-- the number of a unit in a table of terms
abbrev pub number_by : List Node → List (List Part) → Term → ℕ
number_by ns fs t = unwrap_or (unit_number fs (number_in ns t)) 0

-- the row of a form, when its units have joined
abbrev pub joining : List Node → Table → List Part → Computation Coefficients
joining ns t f =
    let fs = with_units t.forms f in
    joining_row (length fs) (with_nonbasic_units t f) (rows_of t.grid) (number_by ns fs) (parts_over ns f)

-- A unit alone has its own number among the forms, and joins where it has none.
pub record IsUnitJoined (old new : Table) (f : List Part) (v : ℕ) : Type 0 where
  pub forms : new.forms ≡ with_units old.forms f
  pub nonbasic : (k : ℕ) → is_nonbasic new.grid k ≡ with_nonbasic_units old f k
  pub rows : (r : ℕ) → r < length old.forms → rows_of new.grid r ≡ rows_of old.grid r
  pub number : (p : Part) → f ≡ p ∷ [] → unit_number new.forms p.unit ≡ Some v

-- Any other form joins behind its units, as basic. The rows that were there stay.
pub record IsFormJoined (old new : Table) (f : List Part) (v : ℕ) : Type 0 where
  pub forms : new.forms ≡ with_units old.forms f ++ f ∷ []
  pub number : v ≡ length (with_units old.forms f)
  pub nonbasic : (k : ℕ) → is_nonbasic new.grid k ≡ with_nonbasic_units old f k
  pub rows : (r : ℕ) → r < length old.forms → rows_of new.grid r ≡ rows_of old.grid r

-- At the nonbasic forms its own row is the one that is computed, and none of the operations leaves the numbers.
pub record HasOwnRow (ns : List Node) (old new : Table) (f : List Part) (v : ℕ) : Type 0 where
  pub row : (k : ℕ) → is_nonbasic new.grid k ≡ true → rows_of new.grid v k ≡ (joining ns old f).result k
  pub fits : first_wide (joining ns old f).operations ≡ None

-- what comes of a form that joins: its row, or the first operation on it that leaves the numbers, or want of memory
abbrev pub Joins : List Node → Table → Table → List Part → Result ℕ ArithmeticStop → Type 0
Joins ns old new f (Ok v) = HasOwnRow ns old new f v
Joins ns old new f (Err (Wide w)) = first_wide (joining ns old f).operations ≡ Some (operation_of w)
Joins ns old new f (Err Memory) = ⊤

-- a unit alone takes no operation
abbrev pub UnitJoins : Table → Table → List Part → Result ℕ ArithmeticStop → Type 0
UnitJoins old new f (Ok v) = IsUnitJoined old new f v
UnitJoins old new f (Err s) = s ≡ Memory
