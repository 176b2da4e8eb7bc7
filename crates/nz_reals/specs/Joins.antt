-- What comes of an atom that the theory learns of.
use Rattle.std.specs.Prelude.{◌≡◌, ℕ, ◌<◌, ◌⊎◌, true, false, IsTrue, List, length, ⊤, Result, Ok, Err, Some, slice_get}
use Rattle.nz_fractions.specs.Fraction.{IsNumber}
use Rattle.nz_spec.specs.clauses.Farkas.{is_linear_literal}
use Rattle.nz_spec.specs.clauses.LinearLiteral.{parts_of}
use Rattle.nz_spec.specs.clauses.Literal.{Literal}
use Rattle.nz_spec.specs.search.Legal.{Lead}
use Rattle.nz_spec.specs.search.Places.{EndWithForm}
use Rattle.nz_spec.specs.search.Search.{Task, at_first, literal_by, no_point, told_literals}
use Rattle.nz_spec.specs.simplex.Bland.{Point}
use Rattle.nz_spec.specs.simplex.LiteralBounds.{turned}
use Rattle.nz_spec.specs.terms.Table.{Node}
use Rattle.nz_spec.specs.search.Work.{WorkList, NoteLine, with_line}
use Rattle.nz_lin.specs.declared.bound.Bound.{Bound}
use Rattle.nz_lin.specs.Bounds.{HasUnits}
use Rattle.nz_lin.specs.declared.form.Part.{Part}
use Rattle.nz_lin.specs.Forms.{AreUnits, parts_over}
use Rattle.nz_tab.specs.Units.{is_unit_form}
use Rattle.nz_term.specs.declared.stops.ArithmeticStop.TheVariants as arithmetic
use Rattle.nz_simplex.specs.Moves.{JoinStops}
use Rattle.nz_log.specs.declared.atoms.Atom.{Atom}
use Rattle.nz_log.specs.declared.atoms.Atom.TheVariants.{Term, AtMost}
use Rattle.nz_search.specs.declared.note.Note.{Note}
use Rattle.nz_search.specs.declared.note.Note.TheVariants.{Form}
use Rattle.nz_place.specs.declared.place.Place.{Place}
use Rattle.nz_place.specs.declared.place.Site.TheVariants.{Joining}
use Rattle.nz_place.specs.Places.{IsPlaceIn}
use Rattle.nz_search.specs.declared.stop.Stop.{Stop}
use Rattle.nz_search.specs.declared.stop.Stop.TheVariants.{Wide, Spent, Memory}
use Rattle.nz_log.specs.Atoms.{literal_in}
use Rattle.nz_search.specs.Notes.{noted_list}
use Rattle.nz_search.specs.Standing.{Standing, Stands, search_after}
use Rattle.nz_reals.specs.Stands.{IsOver}
use Rattle.nz_reals.specs.State.{Theory}
use Rattle.nz_reals.specs.Sums.{AreNonzero, IsFormSum}

-- Some table has the units of the forms and of the bound, which is a sum in order.
pub record MayJoinBound (t : Theory) (b : Bound) : Type 0 where
  pub table : List Node
  pub over : IsOver t table
  pub units : HasUnits table b
  pub nonzero : AreNonzero b.sides.parts

-- an atom that the theory may learn of
abbrev pub MayLearn : Theory → Atom → Type 0
MayLearn t (Term term) = ⊤
MayLearn t (AtMost b) = MayJoinBound t b

-- the atom of this number is there, and the theory may learn of it
pub record IsAtomFor (t : Theory) (atoms : List Atom) (id : ℕ) : Type 0 where
  pub atom : Atom
  pub at : slice_get atoms id ≡ Some atom
  pub may : MayLearn t atom

-- the list is as before, or notes the form of an atom
abbrev pub NotesForm : ℕ → WorkList Note → WorkList Note → Type 0
NotesForm number old new = (new ≡ old) ⊎ (new ≡ with_line old (NoteLine (Form number)))

-- the list knows an atom of a log by this number
pub record IsNumberIn (ns : List Node) (atoms : List Atom) (id number : ℕ) (work : WorkList Note) : Type 0 where
  pub named : number < length (search_after ns work).atoms
  pub says : literal_by (search_after ns work).atoms (number, true) ≡ literal_in ns atoms (record { atom = id; sign = true })

-- ---- Sums that join

-- Some table has the units of the forms and of a sum, whose first coefficient is above 0.
pub record MayAddSum (t : Theory) (f : List Part) : Type 0 where
  pub table : List Node
  pub over : IsOver t table
  pub units : AreUnits table f
  pub sum : IsFormSum f

-- the sum is no form, but for a unit alone
abbrev pub IsFree : Theory → List Part → Type 0
IsFree t f = is_unit_form f ≡ false → (v : ℕ) → slice_get t.simplex.forms v ≡ Some f → ⊥

-- Forms may join, over each table that has the units; nothing else changes.
pub record AddsForm (old new : Theory) (f : List Part) : Type 0 where
  pub known : new.known ≡ old.known
  pub told : new.told ≡ old.told
  pub asserted : new.simplex.asserted ≡ old.simplex.asserted
  pub kept : (v : ℕ) (g : List Part) → slice_get old.simplex.forms v ≡ Some g → slice_get new.simplex.forms v ≡ Some g
  pub over : (ns : List Node) → AreUnits ns f → IsOver old ns → IsOver new ns

-- the list knows by this number an atom that bounds the sum, or the sum with the other signs
pub record IsNamedSum (ns : List Node) (f : List Part) (number : ℕ) (work : WorkList Note) : Type 0 where
  pub bound : Literal
  pub named : slice_get (search_after ns work).atoms number ≡ Some bound
  pub linear : IsTrue (is_linear_literal bound)
  pub sum : turned (parts_of bound) ≡ parts_over ns f

-- why a sum doesn't join: want of memory, or the first operation on its row that leaves the numbers; a unit alone has no row
abbrev pub StopsJoining : Theory → List Part → Stop → Type 0
StopsJoining t f (Wide place) = (place.site ≡ Joining) × (is_unit_form f ≡ false) × IsNumber place.wide.a × IsNumber place.wide.b
    × ((ns : List Node) → IsOver t ns → AreUnits ns f → JoinStops ns t.simplex f (arithmetic.Wide place.wide))
StopsJoining t f Spent = ⊥
StopsJoining t f Memory = ⊤

-- ---- Where it ends

-- The lines are legal and lead to a point; the last one is that of a form, in whose row an operation leaves the numbers.
pub record IsStoppedJoining (ns : List Node) (q : Task) (work : WorkList Note) (place : Place) : Type 0 where
  pub point : Point
  pub legal : Lead q at_first no_point (noted_list ns work).lines point
  pub joining : place.site ≡ Joining
  pub last : EndWithForm (noted_list ns work).lines
  pub at : IsPlaceIn ns (search_after ns work).forms (told_literals (search_after ns work)) point place

-- what is known of a list where a form was to join, with which a theory stands
abbrev pub EndsJoining : {A : Type 0} → Standing → List Node → Task → WorkList Note → Result A Stop → Type 0
EndsJoining IsThere ns q work (Ok answer) = Stands IsThere ns q work
EndsJoining IsThere ns q work (Err (Wide place)) = IsStoppedJoining ns q work place
EndsJoining IsThere ns q work (Err Spent) = ⊥
EndsJoining IsThere ns q work (Err Memory) = (point : Point) × Lead q at_first no_point (noted_list ns work).lines point
