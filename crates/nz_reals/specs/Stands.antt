-- What the theory was told, what it knows, and where it stands.
use Rattle.std.specs.Prelude.{◌≡◌, ℕ, List, map, take, All, Some, IsSome, slice_get, false, ⊤}
use Rattle.nz_spec.specs.simplex.Bland.{Point, lower_side, upper_side}
use Rattle.nz_spec.specs.terms.Form.{Part}
use Rattle.nz_spec.specs.clauses.Literal as spec
use Rattle.nz_spec.specs.simplex.LiteralBounds.{tightest}
use Rattle.nz_spec.specs.terms.Table.{Node}
use Rattle.nz_lin.specs.declared.bound.Bound.{Bound}
use Rattle.nz_lin.specs.Forms.{parts_over}
use Rattle.nz_trail.specs.declared.limits.Side.TheVariants.{Lower, Upper}
use Rattle.nz_log.specs.declared.atoms.Atom.{Atom}
use Rattle.nz_log.specs.declared.atoms.Atom.TheVariants.{Term, AtMost}
use Rattle.nz_log.specs.declared.lits.Lit.{Lit}
use Rattle.nz_simplex.specs.Checks as checks
use Rattle.nz_simplex.specs.Standing.{Held, bound_in}
use Rattle.nz_simplex.specs.State as simplex
use Rattle.nz_simplex.specs.State.{point_in}
use Rattle.nz_reals.specs.declared.reals.MarkedLiteral.{MarkedLiteral}
use Rattle.nz_reals.specs.Known.{Known, IsSaidOf}
use Rattle.nz_reals.specs.State.{Theory, known_at, told_lits, literal_over}
use Rattle.nz_reals.specs.Sums.{AreNonzero, turned_sum}

-- it was told these literals, the oldest first
abbrev pub HasTold : Theory → List Lit → Type 0
HasTold t ls = told_lits t ≡ ls

-- the units of its forms are of this table
abbrev pub IsOver : Theory → List Node → Type 0
IsOver t ns = simplex.IsOver ns t.simplex

-- some values meet all that it was told
abbrev pub IsFeasible : Theory → Type 0
IsFeasible t = (ns : List Node) → IsOver t ns → checks.IsFeasible ns t.simplex

-- ---- Atoms

-- What is known of a bound is what its sum says of a form, which is the sum, or the sum with the other signs.
pub record IsKnown (t : Theory) (b : Bound) (k : Known) : Type 0 where
  pub normal : b.strict ≡ false
  pub sum : AreNonzero b.sides.parts
  pub form : slice_get t.simplex.forms k.form ≡ Some (turned_sum b.sides.parts)
  pub says : IsSaidOf b.sides.parts b.sides.offset k

-- something is known of an atom that is a bound
abbrev pub IsKnownAtom : Theory → ℕ → Atom → Type 0
IsKnownAtom t id (Term term) = ⊤
IsKnownAtom t id (AtMost b) = IsSome (known_at t id)

-- Those of these atoms that are bounds are known, and what is known of any is so.
pub record IsOf (t : Theory) (atoms : List Atom) (ids : List ℕ) : Type 0 where
  pub all : All (λ (id : ℕ). (a : Atom) × (slice_get atoms id ≡ Some a) × IsKnownAtom t id a) ids
  pub right : (id : ℕ) (k : Known) → known_at t id ≡ Some k → (b : Bound) × (slice_get atoms id ≡ Some (AtMost b)) × IsKnown t b k

-- ---- Where it stands

-- these bounds are those that these literals say of these forms
pub record AreBounds (fs : List (List Part)) (ls : List spec.Literal) (bs : List Held) : Type 0 where
  pub lower : tightest fs ls lower_side ≡ bound_in bs Lower
  pub upper : tightest fs ls upper_side ≡ bound_in bs Upper

-- Over a table, these are its forms, the literals that it was told, and its point; the bounds are what the literals say, and those that stood before a literal
-- was told are what the ones before it say.
pub record IsAt (t : Theory) (ns : List Node) (fs : List (List Part)) (ls : List spec.Literal) (x : Point) : Type 0 where
  pub over : IsOver t ns
  pub forms : fs ≡ map (parts_over ns) t.simplex.forms
  pub literals : ls ≡ map (literal_over ns t) (told_lits t)
  pub point : x ≡ point_in t.simplex
  pub bounds : AreBounds fs ls t.simplex.asserted
  pub marks : (r : ℕ) (told : MarkedLiteral) → slice_get t.told r ≡ Some told → AreBounds fs (take r ls) (take told.mark t.simplex.asserted)
