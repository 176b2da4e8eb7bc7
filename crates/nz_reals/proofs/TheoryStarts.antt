-- A theory that begins anew, and the note of its forms and places.
use Rattle.std.proofs.Common.{◌≡◌, ◌<◌, ℕ, List, [], ◌∷◌, ◌++◌, length, map, Option, None, refl, sym, ap, ◌∙◌, subst}
use Rattle.std.specs.Prelude.{slice_index_or}
use Rattle.std.specs.List.{AllByRecursion}
use Rattle.std.specs.declared.vec.Vec.{Vec}
use Rattle.std.specs.declared.alloc.Global.{Global}
use Rattle.std.proofs.Math.Path.{fun_ext}
use Rattle.nz_lists.proofs.Members.{has_none}
use Rattle.nz_spec.specs.terms.Form as spec
use Rattle.nz_spec.specs.numbers.Infinitesimal.{Infinitesimal}
use Rattle.nz_spec.specs.laws.LegalWork.{MoreTermsMayBegin}
use Rattle.nz_spec.specs.search.Beginnings.{MayBegin}
use Rattle.nz_spec.specs.search.Legal.{Lead, after_lines}
use Rattle.nz_spec.specs.search.Search.{Task, Search, at_first, goals_known, no_point, point_at, terms_known, told_literals}
use Rattle.nz_spec.specs.clauses.Goals.{Goal}
use Rattle.nz_spec.specs.search.Notes as noted
use Rattle.nz_spec.specs.search.Notes.{start_note}
use Rattle.nz_spec.specs.terms.Table.{Node}
use Rattle.nz_spec.specs.search.Work.{WorkLine, NoteLine, WorkList}
use Rattle.nz_lin.specs.declared.form.Part.{Part}
use Rattle.nz_lin.specs.Forms.{AreUnits, parts_over}
use Rattle.nz_search.specs.declared.note.Note.{Note}
use Rattle.nz_search.specs.declared.note.Note.TheVariants as notes
use Rattle.nz_search.specs.declared.note.StartNote.{StartNote}
use Rattle.nz_search.specs.Notes.{forms_over, noted_line, noted_list, places_of}
use Rattle.nz_search.specs.Standing.{Stands, search_after}
use Rattle.nz_simplex.specs.State.{State, point_in}
use Rattle.nz_reals.specs.Stands.{IsAt, IsOver}
use Rattle.nz_reals.specs.Starts.{IsStart, MayRestart, NotesStart}
use Rattle.nz_reals.specs.State.{Theory, empty_theory}

-- ---- Places

-- the places of the first forms, so many of them
pub record HasPlaces (s : State) (n : ℕ) (ps : List (Option Infinitesimal)) : Type 0 where
  pub long : length ps ≡ n
  pub each : (k : ℕ) → k < n → slice_index_or ps k None ≡ point_in s k

-- ---- Forms

abbrev pub lists_of : List (Vec Part Global) → List (List Part)
lists_of fs = map (λ (f : Vec Part Global). f.items) fs

over_lists : (ns : List Node) (fs : List (Vec Part Global)) → forms_over ns fs ≡ map (parts_over ns) (lists_of fs)
over_lists ns [] = refl
over_lists ns (f ∷ fs) = λ i. parts_over ns f.items ∷ over_lists ns fs i

of_lists : (ns : List Node) (fs : List (Vec Part Global)) → AllByRecursion (AreUnits ns) (lists_of fs) → AllByRecursion (λ (f : Vec Part Global). AreUnits ns f.items) fs
of_lists ns [] h = tt
of_lists ns (f ∷ fs) h = (h.0, of_lists ns fs h.1)

-- ---- Nothing is told, and no atom is known

-- the theory with its forms and its point alone
abbrev pub forgotten : Theory → Theory
forgotten t = record empty_theory { simplex = record t.simplex { asserted = [] } }

pub over_forgotten : (t : Theory) (ns : List Node) → IsOver t ns → IsOver (forgotten t) ns
over_forgotten t ns over = record { table = over.table; units = over.units }

-- ---- Where it stands

pub notes_start : (t : Theory) (old new : WorkList Note) (start : StartNote) → IsStart t.simplex start → new ≡ record old { lines = old.lines ++ NoteLine (notes.Start start) ∷ [] } → NotesStart t old new
notes_start t old new start is line =
    record {
      start = start;
      is = is;
      line = line;
      within = λ ns over. of_lists ns start.forms.items (subst (AllByRecursion (AreUnits ns)) (sym is.forms) over.units);
    }

module _ (more : MoreTermsMayBegin) (ns : List Node) (q : Task) (t : Theory) (old new : WorkList Note) (none : old.lines ≡ []) (n : NotesStart t old new) (over : IsOver t ns) (may : MayRestart t ns (terms_known q)) where
  abbrev fs : List (List spec.Part)
  fs = forms_over ns n.start.forms.items

  abbrev places : List (Option Infinitesimal)
  places = places_of n.start.places.items

  same_forms : fs ≡ map (parts_over ns) t.simplex.forms
  same_forms = over_lists ns n.start.forms.items ∙ ap (map (parts_over ns)) n.is.forms

  same_point : point_at places ≡ point_in t.simplex
  same_point = fun_ext n.is.places

  one_line : (noted_list ns new).lines ≡ NoteLine (start_note fs places) ∷ []
  one_line =
      ap (λ (w : WorkList Note). map (noted_line ns) w.lines) n.line ∙ ap (λ (ls : List (WorkLine Note)). map (noted_line ns) (ls ++ NoteLine (notes.Start n.start) ∷ [])) none

  may_begin : MayBegin (terms_known q) (goals_known q) fs (point_at places)
  may_begin =
      more.begin (terms_known q) (terms_known q) [] (goals_known q) fs (point_at places) (λ u has. has) (λ (g : Goal) has. absurd (has_none g has))
      (subst (λ (gs : List (List spec.Part)). MayBegin (terms_known q) [] gs (point_at places)) (sym same_forms)
      (subst (MayBegin (terms_known q) [] (map (parts_over ns) t.simplex.forms)) (sym same_point) may))

  stood : search_after ns new ≡ record at_first { forms = fs }
  stood = ap (after_lines at_first) one_line

  pub starts_there : Stands (IsAt (forgotten t) ns) ns q new
  starts_there =
      record {
        point = point_in t.simplex;
        legal = subst (λ (ls : List (WorkLine noted.Note)). Lead q at_first no_point ls (point_in t.simplex)) (sym one_line)
            (no_point, point_at places, ([], refl), (record { first = refl; may_begin = may_begin }, refl), ([], sym same_point));
        at = subst (λ (s : Search). IsAt (forgotten t) ns s.forms (told_literals s) (point_in t.simplex)) (sym stood)
            (record {
              over = over_forgotten t ns over;
              forms = same_forms;
              literals = refl;
              point = refl;
              bounds = record { lower = refl; upper = refl };
              marks = λ r told at. absurd cc;
            });
      }
