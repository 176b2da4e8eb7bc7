-- How a theory begins anew, over the forms that are there.
use Rattle.std.specs.Prelude.{◌≡◌, ◌⊎◌, ◌++◌, ℕ, All, Contains, List, [], None, map, slice_index_or}
use Rattle.std.specs.declared.vec.Vec.{Vec}
use Rattle.std.specs.declared.alloc.Global.{Global}
use Rattle.nz_spec.specs.laws.LegalWork.{IsOnTerm}
use Rattle.nz_spec.specs.search.Atoms.{IsTabled, IsTruth}
use Rattle.nz_spec.specs.search.Beginnings.{MayBegin}
use Rattle.nz_spec.specs.search.Search.{Task, terms_known}
use Rattle.nz_spec.specs.clauses.Literal.{Literal}
use Rattle.nz_spec.specs.terms.Table.{IsTable, Node}
use Rattle.nz_spec.specs.terms.Term.{Term}
use Rattle.nz_spec.specs.search.Work.{NoteLine, WorkList, with_line}
use Rattle.nz_lin.specs.declared.form.Part.{Part}
use Rattle.nz_lin.specs.Forms.{parts_over}
use Rattle.nz_search.specs.declared.note.Note.{Note}
use Rattle.nz_search.specs.declared.note.Note.TheVariants as notes
use Rattle.nz_search.specs.declared.note.StartNote.{StartNote}
use Rattle.nz_search.specs.Notes.{AreFormsWithin, places_of}
use Rattle.nz_search.specs.Standing.{Stands, search_after}
use Rattle.nz_simplex.specs.State.{State, point_in}
use Rattle.nz_reals.specs.Stands.{IsAt, IsOver}
use Rattle.nz_reals.specs.State.{Theory, empty_theory}

-- Over a table, a search that knows these terms may begin with the forms of the theory, where they stand.
abbrev pub MayRestart : Theory → List Node → List Term → Type 0
MayRestart t ns ts = MayBegin ts [] (map (parts_over ns) t.simplex.forms) (point_in t.simplex)

-- These are the forms of a simplex, and the places at which the nonbasic ones stand.
pub record IsStart (s : State) (start : StartNote) : Type 0 where
  pub forms : map (λ (f : Vec Part Global). f.items) start.forms.items ≡ s.forms
  pub places : (k : ℕ) → slice_index_or (places_of start.places.items) k None ≡ point_in s k

-- One line more notes the forms of a theory, whose units are of each table of which the theory's are, and their places.
pub record NotesStart (t : Theory) (old new : WorkList Note) : Type 0 where
  pub start : StartNote
  pub is : IsStart t.simplex start
  pub line : new ≡ with_line old (NoteLine (notes.Start start))
  pub within : (ns : List Node) → IsOver t ns → AreFormsWithin ns start.forms.items

-- ---- Laws

-- When a search may begin with a theory, where it stands.
pub record TheoriesRestart : Type 0 where
  -- over no sum
  pub empty : (ns : List Node) (ts : List Term) → MayRestart empty_theory ns ts
  -- where a legal work list led to it, on which no goal was asked of, what was assumed is on terms, and all atoms are of the tables
  pub after : (t : Theory) (ns : List Node) (q : Task) (work : WorkList Note) → Stands (IsAt t ns) ns q work → q.goals ≡ [] → q.earlier_goals ≡ [] → All IsOnTerm q.assumed
      → All (λ (l : Literal). IsTruth q.listed l ⊎ IsTabled q.numbering q.listed l) (search_after ns work).atoms → MayRestart t ns (terms_known q)
  -- after searches that were asked of more terms
  pub more : (t : Theory) (ns : List Node) (ts us : List Term) → ((u : Term) → Contains ts u → Contains us u) → MayRestart t ns ts → MayRestart t ns us
  -- over a table that has grown, of which its forms are too
  pub over : (t : Theory) (ns more : List Node) → IsTable (ns ++ more) → IsOver t ns → IsOver t (ns ++ more)
  pub grown : (t : Theory) (ns more : List Node) (ts : List Term) → IsOver t ns → MayRestart t ns ts → MayRestart t (ns ++ more) ts
