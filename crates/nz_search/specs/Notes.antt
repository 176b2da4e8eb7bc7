-- What a work list of the code is, with its notes as the definitions have them: by the terms that a table has under their numbers.
use Rattle.std.specs.Prelude.{◌<◌, false, List, [], ◌∷◌, length, map, option_map, Option, ⊤}
use Rattle.std.specs.List.{AllByRecursion}
use Rattle.std.specs.declared.vec.Vec.{Vec}
use Rattle.std.specs.declared.alloc.Global.{Global}
use Rattle.nz_spec.specs.terms.Form as form
use Rattle.nz_spec.specs.clauses.Gates.{holds}
use Rattle.nz_spec.specs.numbers.Infinitesimal.{Infinitesimal}
use Rattle.nz_spec.specs.search.Notes as spec
use Rattle.nz_spec.specs.search.Notes.{told_atom, start_note, atom_note, form_note, under_note, told_note}
use Rattle.nz_spec.specs.terms.Table.{Node, term_in}
use Rattle.nz_spec.specs.search.Work.{WorkLine, UnitLine, NoteLine, WorkList}
use Rattle.nz_delta.specs.declared.delta.Delta.{Delta}
use Rattle.nz_delta.specs.DeltaSpace.{infinitesimal_of}
use Rattle.nz_lin.specs.declared.form.Part.{Part}
use Rattle.nz_lin.specs.Bounds.{HasUnits, literal_over}
use Rattle.nz_lin.specs.Forms.{AreUnits, parts_over}
use Rattle.nz_term.specs.TermLits.{literal_of, AreOfTerms}
use Rattle.nz_search.specs.declared.note.Note.{Note}
use Rattle.nz_search.specs.declared.note.Note.TheVariants.{Start, Atom, Bound, Form, Under, Told}

-- the forms, over a table
abbrev pub forms_over : List Node → List (Vec Part Global) → List (List form.Part)
forms_over ns fs = map (λ (f : Vec Part Global). parts_over ns f.items) fs

-- the places, by the numbers that they stand for
abbrev pub places_of : List (Option Delta) → List (Option Infinitesimal)
places_of xs = map (option_map infinitesimal_of) xs

abbrev pub note_of : List Node → Note → spec.Note
note_of ns (Start start) = start_note (forms_over ns start.forms.items) (places_of start.places.items)
note_of ns (Atom term) = atom_note (holds (term_in ns term))
note_of ns (Bound bound) = atom_note (literal_over ns bound)
note_of ns (Form atom) = form_note atom
note_of ns (Under literals) = under_note (map (literal_of ns) literals.items)
note_of ns (Told atom sign) = told_note (told_atom atom sign false)

-- a line
abbrev pub noted_line : List Node → WorkLine Note → WorkLine spec.Note
noted_line ns (UnitLine entry) = UnitLine entry
noted_line ns (NoteLine note) = NoteLine (note_of ns note)

-- a list of lines
abbrev pub noted_list : List Node → WorkList Note → WorkList spec.Note
noted_list ns work = record { lines = map (noted_line ns) work.lines; limit = work.limit }

-- the parts of forms are units of the table
abbrev pub AreFormsWithin : List Node → List (Vec Part Global) → Type 0
AreFormsWithin ns fs = AllByRecursion (λ (f : Vec Part Global). AreUnits ns f.items) fs

-- what a note names is in the table
abbrev pub IsNoteWithin : List Node → Note → Type 0
IsNoteWithin ns (Start start) = AreFormsWithin ns start.forms.items
IsNoteWithin ns (Atom term) = term < length ns
IsNoteWithin ns (Bound bound) = HasUnits ns bound
IsNoteWithin ns (Form atom) = ⊤
IsNoteWithin ns (Under literals) = AreOfTerms ns literals.items
IsNoteWithin ns (Told atom sign) = ⊤

abbrev pub AreNotedWithin : List Node → List (WorkLine Note) → Type 0
AreNotedWithin ns [] = ⊤
AreNotedWithin ns (NoteLine note ∷ lines) = IsNoteWithin ns note × AreNotedWithin ns lines
AreNotedWithin ns (UnitLine entry ∷ lines) = AreNotedWithin ns lines
