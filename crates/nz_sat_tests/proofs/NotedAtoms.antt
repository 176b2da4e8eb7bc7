-- Atoms of terms, as they are noted.
use Rattle.std.proofs.Common.{◌≡◌, ℕ, Bool, List, [], ◌∷◌, ◌++◌, map, Some, refl, sym, ap, subst, ◌∙◌}
use Rattle.std.specs.Prelude.{All, Contains, slice_get}
use Rattle.std.proofs.lemmas.List.{map-append}
use Rattle.std.proofs.lemmas.List.Elements.{All-nil}
use Rattle.std.proofs.lemmas.List.Sums.{fold-append}
use Rattle.nz_spec.specs.clauses.Gates.{holds}
use Rattle.nz_spec.specs.search.Legal.{after_line, after_lines}
use Rattle.nz_spec.specs.search.Search.{Search, at_first}
use Rattle.nz_spec.specs.search.Work.{WorkLine, WorkList, UnitLine, NoteLine, with_line}
use Rattle.nz_spec.specs.terms.Table.{term_in}
use Rattle.nz_log.specs.declared.atoms.Atom as log
use Rattle.nz_search.specs.declared.note.Note as note
use Rattle.nz_search.specs.declared.note.Note.{Note}
use Rattle.nz_log.specs.Logs.{LogState, literals_at}
use Rattle.nz_search.specs.Notes.{noted_line}
use Rattle.nz_search.specs.Standing.{search_after}
use Rattle.nz_sat.specs.declared.clauses.Held.{Held}
use Rattle.nz_sat.specs.Numbers.{AreNotedIn, noted_atoms, numbered}
use Rattle.nz_sat.specs.Sats.{HasBegun, ids}
use Rattle.nz_sat_tests.specs.Problems.{NamesAlone}

-- the note that the atom of a term is next
abbrev pub term_note : ℕ → WorkLine Note
term_note t = NoteLine (note.TheVariants.Atom t)

noted_push : (lines : List (WorkLine Note)) (t : ℕ) → noted_atoms (lines ++ term_note t ∷ []) ≡ noted_atoms lines ++ log.TheVariants.Term t ∷ []
noted_push [] t = refl
noted_push (NoteLine (note.TheVariants.Start start) ∷ lines) t = noted_push lines t
noted_push (NoteLine (note.TheVariants.Atom u) ∷ lines) t = ap (λ (us : List log.Atom). log.TheVariants.Term u ∷ us) (noted_push lines t)
noted_push (NoteLine (note.TheVariants.Bound b) ∷ lines) t = ap (λ (us : List log.Atom). log.TheVariants.AtMost b ∷ us) (noted_push lines t)
noted_push (NoteLine (note.TheVariants.Form atom) ∷ lines) t = noted_push lines t
noted_push (NoteLine (note.TheVariants.Under literals) ∷ lines) t = noted_push lines t
noted_push (NoteLine (note.TheVariants.Told atom sign) ∷ lines) t = noted_push lines t
noted_push (UnitLine entry ∷ lines) t = noted_push lines t

-- ---- Nothing else is told

pub names_none : (work : WorkList Note) → work.lines ≡ [] → NamesAlone work
names_none work none ns = subst (λ (lines : List (WorkLine Note)). NamesAlone (record work { lines = lines })) (sym none) (λ ms. refl) ns

pub names_push : (work : WorkList Note) (t : ℕ) → NamesAlone work → NamesAlone (with_line work (term_note t))
names_push work t h ns =
    let s = search_after ns work in
    let new = s.atoms ++ holds (term_in ns t) ∷ [] in
    let step : search_after ns (with_line work (term_note t)) ≡ record s { atoms = new } =
    ap (after_lines at_first) (map-append (noted_line ns) work.lines (term_note t ∷ []))
    ∙ fold-append after_line at_first (map (noted_line ns) work.lines) (noted_line ns (term_note t) ∷ []) in
    step ∙ ap (λ (r : Search). record r { atoms = new }) (h ns) ∙ sym (ap (λ (r : Search). record at_first { atoms = r.atoms }) step)

pub names_begun : (log : LogState) (atoms : List ℕ) (held : List Held) (work : WorkList Note) → NamesAlone work → HasBegun log atoms held work
names_begun log atoms held work h =
    let L : List (ℕ × Bool) → Type 0 = λ c. (i : ℕ) × Contains (ids held) i × (map (numbered atoms) (literals_at log i) ≡ c) in
    record {
      decided = λ ns. ap (λ (r : Search). r.decided) (h ns);
      told = λ ns. ap (λ (r : Search). r.told) (h ns);
      learned = λ ns. subst (λ (r : Search). All L r.learned) (sym (h ns)) (All-nil L);
    }

-- ---- The atoms

-- one more of them
pub noted_one : (all : List log.Atom) (lines : List (WorkLine Note)) (before : List ℕ) (i t : ℕ) → slice_get all i ≡ Some (log.TheVariants.Term t) → AreNotedIn all lines before
    → AreNotedIn all (lines ++ term_note t ∷ []) (before ++ i ∷ [])
noted_one all lines before i t at so_far =
    map-append (slice_get all) before (i ∷ []) ∙ ap (λ xs. xs ++ slice_get all i ∷ []) so_far ∙ ap (λ x. map Some (noted_atoms lines) ++ x ∷ []) at
    ∙ sym (map-append Some (noted_atoms lines) (log.TheVariants.Term t ∷ [])) ∙ sym (ap (map Some) (noted_push lines t))
