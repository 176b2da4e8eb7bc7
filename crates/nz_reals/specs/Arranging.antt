-- Units and sums that join before a search, where no form is there yet.
use Rattle.std.specs.Prelude.{◌≡◌, ◌⊎◌, ◌≤◌, ℕ, suc, Bool, true, List, [], ◌∷◌, All, Contains, Some, map, slice_get, if◌then◌else◌}
use Rattle.std.specs.List.{AllByRecursion}
use Rattle.nz_fractions.specs.Fraction.{Fraction}
use Rattle.nz_spec.specs.simplex.Bland.{zero_infinitesimal}
use Rattle.nz_spec.specs.terms.Form as spec
use Rattle.nz_spec.specs.terms.Form.{Numbering}
use Rattle.nz_spec.specs.numbers.Infinitesimal.{Infinitesimal}
use Rattle.nz_spec.specs.clauses.LinearLiteral.{parts_of}
use Rattle.nz_spec.specs.search.Atoms.{IsTabled}
use Rattle.nz_spec.specs.search.Beginnings.{IsSumOf}
use Rattle.nz_spec.specs.terms.Table.{IsTable, Node}
use Rattle.nz_spec.specs.terms.Term.{Term}
use Rattle.nz_lin.specs.declared.bound.Bound.{Bound}
use Rattle.nz_lin.specs.declared.form.Part.{Part}
use Rattle.nz_lin.specs.Forms.{AreUnits, parts_over}
use Rattle.nz_tab.specs.Units.{is_unit_form, unit_of}
use Rattle.nz_log.specs.declared.atoms.Atom.{Atom}
use Rattle.nz_log.specs.declared.atoms.Atom.TheVariants.{AtMost}
use Rattle.nz_log.specs.Atoms.{IsLitIn, literal_in}
use Rattle.nz_simplex.specs.Moves.{KnowsNonbasicAlone, joined_over}
use Rattle.nz_simplex.specs.State.{point_in, position_over}
use Rattle.nz_reals.specs.Stands.{IsOver}
use Rattle.nz_reals.specs.Known.{SideBound, said_at}
use Rattle.nz_reals.specs.State.{Theory}
use Rattle.nz_reals.specs.Sums.{AreNonzero, turned_sum}

-- ---- Atoms

-- these atoms are there, over the table
abbrev pub AreAtomsIn : List Node → List Atom → List ℕ → Type 0
AreAtomsIn ns all ids = All (λ (id : ℕ). IsLitIn ns all (record { atom = id; sign = true })) ids

-- Some table has what these atoms name, and no coefficient of their bounds is 0.
pub record MayArrange (all : List Atom) (ids : List ℕ) : Type 0 where
  pub table : List Node
  pub is_table : IsTable table
  pub within : AreAtomsIn table all ids
  pub nonzero : All (λ (id : ℕ). (b : Bound) → slice_get all id ≡ Some (AtMost b) → AreNonzero b.sides.parts) ids

-- an atom that is a bound is one of the tables of these terms
abbrev pub IsTabledAtom : List Node → List Term → List Atom → ℕ → Type 0
IsTabledAtom ns ts all id = (b : Bound) → slice_get all id ≡ Some (AtMost b) → (number : Numbering) × IsTabled number ts (literal_in ns all (record { atom = id; sign = true }))

-- the bound is that of one of these atoms
pub record IsBoundAmong (all : List Atom) (ids : List ℕ) (b : Bound) : Type 0 where
  pub id : ℕ
  pub listed : Contains ids id
  pub at : slice_get all id ≡ Some (AtMost b)

-- ---- Forms

-- the form is the sum of a bound, with a first coefficient above 0, or a unit of it
abbrev pub IsFormOfBound : Bound → List Part → Type 0
IsFormOfBound b f = (f ≡ turned_sum b.sides.parts) ⊎ ((p : Part) × Contains b.sides.parts p × (f ≡ unit_of p))

-- Over a table, the form is the sum of a bound among these atoms, or a unit of it.
pub record IsSumAmong (ns : List Node) (all : List Atom) (ids : List ℕ) (f : List spec.Part) : Type 0 where
  pub bound : Bound
  pub among : IsBoundAmong all ids bound
  pub is : IsSumOf (parts_of (literal_in ns all (record { atom = among.id; sign = true }))) f

-- ---- Where forms stand

-- what a bound on a sum, or its negation, says
abbrev pub IsSaidAt : List Part → Fraction → SideBound → Type 0
IsSaidAt ps b s = (sign : Bool) × (s ≡ said_at ps b sign)

-- a form stands at what a bound among these atoms, or its negation, says of it
pub record IsAtBound (all : List Atom) (ids : List ℕ) (fs : List (List Part)) (k : ℕ) (v : Infinitesimal) : Type 0 where
  pub bound : Bound
  pub among : IsBoundAmong all ids bound
  pub form : slice_get fs k ≡ Some (turned_sum bound.sides.parts)
  pub sign : Bool
  pub value : v ≡ (said_at bound.sides.parts bound.sides.offset sign).value

-- or at 0
abbrev pub IsAtZero : ℕ → Infinitesimal → Type 0
IsAtZero k v = v ≡ zero_infinitesimal

abbrev pub StandsAmong : List Atom → List ℕ → List (List Part) → ℕ → Infinitesimal → Type 0
StandsAmong all ids fs k v = IsAtZero k v ⊎ IsAtBound all ids fs k v

-- Over each table that has these atoms, the forms are their sums, or units of these; each nonbasic form stands at 0 or at such a bound; and no bound was
-- told yet, nor is the value of a basic form known.
pub record IsArranged (all : List Atom) (ids : List ℕ) (t : Theory) : Type 0 where
  pub over : (ns : List Node) → IsTable ns → AreAtomsIn ns all ids → IsOver t ns
  pub sums : (ns : List Node) → IsTable ns → AreAtomsIn ns all ids → AllByRecursion (IsSumAmong ns all ids) (map (parts_over ns) t.simplex.forms)
  pub places : (k : ℕ) (v : Infinitesimal) → point_in t.simplex k ≡ Some v → StandsAmong all ids t.simplex.forms k v
  pub unbounded : t.simplex.asserted ≡ []
  pub unknown : KnowsNonbasicAlone t.simplex

-- ---- How that changes

-- Forms stay, and what stays of values and bounds; nonbasic forms stand where they stood, or are moved so.
pub record HasMoved (old new : Theory) (moved : ℕ → Infinitesimal → Type 0) : Type 0 where
  pub kept : (k : ℕ) (f : List Part) → slice_get old.simplex.forms k ≡ Some f → slice_get new.simplex.forms k ≡ Some f
  pub unbounded : old.simplex.asserted ≡ [] → new.simplex.asserted ≡ []
  pub unknown : KnowsNonbasicAlone old.simplex → KnowsNonbasicAlone new.simplex
  pub points : (k : ℕ) (v : Infinitesimal) → point_in new.simplex k ≡ Some v → moved k v ⊎ (point_in old.simplex k ≡ Some v)

-- a form has joined
pub record HasJoined (old new : Theory) (f : List Part) : Type 0 where
  pub over : (ns : List Node) → AreUnits ns f → IsOver old ns → IsOver new ns
  pub position : (ns : List Node) → IsOver old ns → AreUnits ns f → position_over ns new.simplex ≡ joined_over ns old.simplex f
  pub moves : HasMoved old new IsAtZero

-- a form has joined, or all is as before
abbrev pub MayHaveJoined : Theory → Theory → List Part → Type 0
MayHaveJoined old new f = (new ≡ old) ⊎ HasJoined old new f

-- the same forms have moved
pub record HasTurned (old new : Theory) (moved : ℕ → Infinitesimal → Type 0) : Type 0 where
  pub forms : new.simplex.forms ≡ old.simplex.forms
  pub moves : HasMoved old new moved

-- two forms are exchanged, of which the one that is nonbasic then stands at 0, or all is as before
abbrev pub MayHaveExchanged : Theory → Theory → Type 0
MayHaveExchanged old new = (new ≡ old) ⊎ HasTurned old new IsAtZero

-- a form stands at this value, or all is as before
abbrev pub MayHaveStood : Theory → Theory → ℕ → Infinitesimal → Type 0
MayHaveStood old new k v = (new ≡ old) ⊎ HasTurned old new (λ j w. (j ≡ k) × (w ≡ v))

-- ---- How many exchanges

-- how many of these forms are no unit alone
abbrev pub sum_count : List (List Part) → ℕ
sum_count [] = 0
sum_count (f ∷ fs) = if is_unit_form f then sum_count fs else suc (sum_count fs)

-- each form stays
abbrev pub KeepsForms : Theory → Theory → Type 0
KeepsForms old new = (k : ℕ) (f : List Part) → slice_get old.simplex.forms k ≡ Some f → slice_get new.simplex.forms k ≡ Some f

-- The forms stay. Where two were exchanged, a sum has joined.
pub record MayExchangeOne (old new : Theory) (exchanged : Bool) : Type 0 where
  pub kept : KeepsForms old new
  pub joined : exchanged ≡ true → suc (sum_count old.simplex.forms) ≤ sum_count new.simplex.forms
