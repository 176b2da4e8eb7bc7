-- What the fields of the theory are.
use Rattle.std.specs.Prelude.{◌≡◌, ◌==◌, ℕ, ◌<◌, ◌≤◌, Bool, true, false, List, length, None, Option, Some, if◌then◌else◌, slice_get}
use Rattle.std.specs.List.{AllByRecursion}
use Rattle.nz_spec.specs.clauses.Literal.{StandOnce}
use Rattle.nz_spec.specs.terms.Table.{Node}
use Rattle.nz_lin.specs.declared.bound.Bound.{Bound}
use Rattle.nz_lin.specs.declared.form.Part.{Part}
use Rattle.nz_log.specs.declared.atoms.Atom.{Atom}
use Rattle.nz_log.specs.declared.atoms.Atom.TheVariants.{AtMost}
use Rattle.nz_simplex.specs.Standing.{Held}
use Rattle.nz_simplex.specs.State.{State, IsOver}
use Rattle.nz_tab.specs.Units.{is_unit_form}
use Rattle.nz_reals.specs.declared.atoms.BoundedAtom.{BoundedAtom}
use Rattle.nz_reals.specs.declared.reals.MarkedLiteral.{MarkedLiteral}
use Rattle.nz_reals.specs.Known.{Known, known_of, said_by}
use Rattle.nz_reals.specs.Stands.{IsFeasible}
use Rattle.nz_reals.specs.State.{Theory, known_among, known_at, known_list}
use Rattle.nz_reals.specs.Sums.{IsFormSum, zero_bound}

-- ---- Forms

-- The forms are of some table; each is a sum with a first coefficient above 0, and stands once.
pub record AreForms (s : State) : Type 0 where
  pub table : List Node
  pub over : IsOver table s
  pub sums : AllByRecursion IsFormSum s.forms
  pub once : StandOnce s.forms

-- A look-up by the atoms that sums are at most 0 finds forms, each but a unit alone.
pub record FindsForms (find : Atom → Option ℕ) (fs : List (List Part)) : Type 0 where
  pub found : (b : Bound) (v : ℕ) → find (AtMost b) ≡ Some v → slice_get fs v ≡ Some b.sides.parts
  pub all : (v : ℕ) (f : List Part) → slice_get fs v ≡ Some f → is_unit_form f ≡ false → find (AtMost (zero_bound f)) ≡ Some v

-- ---- Bounds

-- A bound of the simplex is what a literal that was told says, whose place is its reason.
pub record IsBacked (t : Theory) (b : Held) : Type 0 where
  pub told : MarkedLiteral
  pub at : slice_get t.told b.reason ≡ Some told
  pub known : Known
  pub knows : known_at t told.literal.atom ≡ Some known
  pub form : b.var ≡ known.form
  pub side : b.side ≡ (said_by known told.literal.sign).side
  pub value : b.value ≡ (said_by known told.literal.sign).value

-- The bounds that stood before a literal was told are those with lesser reasons.
pub record IsMark (bs : List Held) (r mark : ℕ) : Type 0 where
  pub within : mark ≤ length bs
  pub before : (i : ℕ) (b : Held) → slice_get bs i ≡ Some b → i < mark → b.reason < r
  pub behind : (i : ℕ) (b : Held) → slice_get bs i ≡ Some b → mark ≤ i → r ≤ b.reason

-- What is known is known of forms; each bound is one that was told, and the marks are right.
pub record AreTolds (t : Theory) : Type 0 where
  pub listed : (i : ℕ) (k : Known) → known_at t i ≡ Some k → k.form < length t.simplex.forms
  pub backed : AllByRecursion (IsBacked t) t.simplex.asserted
  pub knows : (r : ℕ) (x : MarkedLiteral) → slice_get t.told r ≡ Some x → (k : Known) × (known_at t x.literal.atom ≡ Some k)
  pub marks : (r : ℕ) (x : MarkedLiteral) → slice_get t.told r ≡ Some x → IsMark t.simplex.asserted r x.mark

pub record IsStored (find : Atom → Option ℕ) (t : Theory) : Type 0 where
  pub forms : AreForms t.simplex
  pub finds : FindsForms find t.simplex.forms
  pub tolds : AreTolds t

-- where it is known to be feasible, it is
abbrev pub KnowsFeasible : Bool → Theory → Type 0
KnowsFeasible known t = known ≡ true → IsFeasible t

-- ---- What is known of atoms

-- what the entry at its place says of an atom, if it is its own
abbrev pub known_by : ℕ → Option BoundedAtom → Option Known
known_by i None = None
known_by i (Some e) = if e.atom == i then Some (known_of e.bounded) else None

abbrev pub known_from : List BoundedAtom → ℕ → Option ℕ → Option Known
known_from es i None = None
known_from es i (Some p) = known_by i (slice_get es p)

-- what is known of an atom by the list of places
abbrev pub known_in : List BoundedAtom → List ℕ → ℕ → Option Known
known_in es ps i = known_from es i (slice_get ps i)

-- at the place of an atom is the last entry of it, and none of its own where it has none
abbrev pub AreInPlace : List BoundedAtom → List ℕ → Type 0
AreInPlace es ps = (i : ℕ) → known_in es ps i ≡ known_among (known_list es) i
