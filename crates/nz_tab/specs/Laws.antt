-- Units among forms, over every table of terms.
use Rattle.std.specs.Prelude.{◌≡◌, ℕ, ◌<◌, Bool, true, List, length, Contains, Some, None, if◌then◌else◌, nat_lt}
use Rattle.std.specs.List.{AllByRecursion}
use Rattle.nz_spec.specs.simplex.Basis.{IsBasis, form_at}
use Rattle.nz_spec.specs.simplex.BasisMoves.{AreNumbered, AreRows, Rows}
use Rattle.nz_spec.specs.terms.Form as spec
use Rattle.nz_spec.specs.terms.Form.{unit_form}
use Rattle.nz_spec.specs.terms.Table.{Node, IsTable, term_in}
use Rattle.nz_lin.specs.declared.form.Part.{Part}
use Rattle.nz_lin.specs.Forms.{AreUnits, parts_over}
use Rattle.nz_tab.specs.Joins.{number_by}
use Rattle.nz_tab.specs.Tables.{forms_over}
use Rattle.nz_tab.specs.Units.{is_form_of, unit_number, with_units}

-- the parts of a unit alone
abbrev pub unit_parts : List Node → ℕ → List spec.Part
unit_parts ns u = (unit_form (term_in ns u)).parts

-- A form is that of a unit just where it is said to be, and each unit has one form. The form with a unit's number is that of the unit, and a unit without a number has no form.
pub record UnitsAreForms : Type 0 where
  pub form : (ns : List Node) (u : ℕ) (f : List Part) → is_form_of u f ≡ true → parts_over ns f ≡ unit_parts ns u
  pub told : (ns : List Node) (u : ℕ) (f : List Part) → IsTable ns → u < length ns → AreUnits ns f → parts_over ns f ≡ unit_parts ns u → is_form_of u f ≡ true
  pub one : (ns : List Node) (u : ℕ) (f g : List Part) → AreUnits ns f → AreUnits ns g → is_form_of u f ≡ true → is_form_of u g ≡ true → f ≡ g
  pub numbered : (ns : List Node) (fs : List (List Part)) (u k : ℕ) → unit_number fs u ≡ Some k → (k < length fs) × (form_at (forms_over ns fs) k ≡ unit_parts ns u)
  pub missing : (ns : List Node) (fs : List (List Part)) (u : ℕ) → IsTable ns → AllByRecursion (AreUnits ns) fs → u < length ns → unit_number fs u ≡ None
      → Contains (forms_over ns fs) (unit_parts ns u) → ⊥

-- the nonbasic forms, when those from n to m have joined them
abbrev pub joined_to : (ℕ → Bool) → ℕ → ℕ → ℕ → Bool
joined_to f n m k = if nat_lt k n then f k else nat_lt k m

-- When the units of a form have joined, the rows of the basic forms are still theirs, and the form's parts have the numbers of their units.
pub record UnitsJoin : Type 0 where
  pub rows : (ns : List Node) (fs : List (List Part)) (f : ℕ → Bool) (rows : Rows) (ps : List Part) → IsTable ns → AllByRecursion (AreUnits ns) fs → AreUnits ns ps
      → IsBasis (forms_over ns fs) f → AreRows (forms_over ns fs) f rows
      → AreRows (forms_over ns (with_units fs ps)) (joined_to f (length fs) (length (with_units fs ps))) rows
  pub numbers : (ns : List Node) (fs : List (List Part)) (ps : List Part) → IsTable ns → AreUnits ns ps
      → AreNumbered (forms_over ns (with_units fs ps)) (number_by ns (with_units fs ps)) (parts_over ns ps)
