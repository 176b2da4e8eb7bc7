-- Notes of atoms are legal: each is of what is asked, and none is named twice. Behind the note of a start they lead to where the theory stands that began so.
use Rattle.std.proofs.Common.{◌≡◌, inl, inr, ℕ, zero, suc, ◌+◌, ◌<◌, Bool, true, false, List, [], ◌∷◌, ◌++◌, append-nil, length, get_or, take, map, Option, Some, None, option_map, Err, refl, sym, ap, ◌∙◌, subst, arith, append_assoc, ◌⊎◌, Vec, Global}
use Rattle.std.specs.Prelude.{All, Contains, flat_map, if◌then◌else◌, slice_get, slice_index_or}
use Rattle.std.specs.List.{AllByRecursion}
use Rattle.std.proofs.lemmas.List.{length-map, map-append, take_more}
use Rattle.std.proofs.lemmas.List.Sums.{sum_by-append}
use Rattle.std.proofs.lemmas.Option.{get_or_from_slice_get, slice_get-get_or, slice_get_within}
use Rattle.std.proofs.lemmas.List.Elements.{All-contains, All-from_recursion, All-map, All-take, All-weaker, Contains-append_left, Contains-append_right, recursion_from_All}
use Rattle.nz_lists.proofs.Elements.{AllByRecursion-append, AllByRecursion-weaker}
use Rattle.nz_lists.proofs.Places.{slice_get_kept}
use Rattle.nz_spec.specs.simplex.Bland.{Point}
use Rattle.nz_spec.specs.search.Decide.{asserted_numbers, asserted_terms}
use Rattle.nz_spec.specs.terms.Form as spec_form
use Rattle.nz_spec.specs.search.Search.{Task, Search, at_first, no_point, literal_by, never, told_literals}
use Rattle.nz_spec.specs.search.Atoms.{IsAtom, MayName, of_table, of_term}
use Rattle.nz_spec.specs.search.Beginnings.{IsComparison, MayGoUnder}
use Rattle.nz_spec.specs.search.Legal.{Lead, after_line, after_lines}
use Rattle.nz_spec.specs.laws.LegalWork.{LegalWorkGoesOn}
use Rattle.nz_spec.specs.laws.Renumbering.{SumsRenumber}
use Rattle.nz_spec.specs.terms.FormOf.{TermHasItsNumber}
use Rattle.nz_spec.specs.clauses.Literal.{Literal, term_literal, negation_of, are_same_literal, SayTheSame, StandOnce, TellsLiterals}
use Rattle.nz_spec.specs.search.Notes as spec
use Rattle.nz_spec.specs.search.Notes.{atom_note, form_note, under_note}
use Rattle.nz_spec.specs.terms.Order.{listing_order}
use Rattle.nz_spec.specs.terms.Table.{Node, IsTable, term_in}
use Rattle.nz_spec.specs.terms.Term.{Term}
use Rattle.nz_spec.specs.search.Work.{WorkLine, UnitLine, NoteLine, WorkList, is_unit, unit_count, with_line}
use Rattle.nz_lin.specs.Bounds.{bounded}
use Rattle.nz_lin.specs.Forms.{parts_over}
use Rattle.nz_log.specs.declared.atoms.Atom as log
use Rattle.nz_log.specs.declared.atoms.Atom.TheVariants as atoms
use Rattle.nz_log.specs.declared.lits.Lit.{Lit}
use Rattle.nz_term.specs.declared.term_lits.TermLit.{TermLit}
use Rattle.nz_term.specs.TermLits.{literal_of}
use Rattle.nz_search.specs.declared.note.Note.{Note}
use Rattle.nz_search.specs.declared.note.Note.TheVariants as notes
use Rattle.nz_search.specs.declared.note.Note.TheVariants.{Start}
use Rattle.nz_search.specs.declared.note.StartNote as code
use Rattle.nz_search.specs.declared.stop.Stop.{Stop}
use Rattle.nz_search.specs.declared.stop.Stop.TheVariants.{Wide, Spent, Memory}
use Rattle.nz_log.specs.Atoms.{AreAtoms, IsAtomIn, IsNormal, TellsLits, atom_in, with_sign}
use Rattle.nz_log.specs.Lits.{are_same_lit}
use Rattle.nz_search.specs.Notes.{forms_over, noted_line, noted_list, AreNotedWithin, IsNoteWithin}
use Rattle.nz_search.specs.Standing.{Standing, Ends, Stands, search_after}
use Rattle.nz_search.specs.Verdicts.{task_in}
use Rattle.nz_log.specs.Logs.{LogState, literals_at}
use Rattle.nz_reals.specs.Joins.{IsNumberIn, EndsJoining}
use Rattle.nz_reals.specs.Stands.{IsAt, IsOver}
use Rattle.nz_reals.specs.Starts.{NotesStart}
use Rattle.nz_reals.specs.State.{Theory}
use Rattle.nz_sat.specs.declared.clauses.Held.{Held}
use Rattle.nz_sat.specs.Numbers.{AreNotedIn, IsAtomAt, atom_literal, noted_atoms, numbered}
use Rattle.nz_sat.specs.Sats as sat
use Rattle.nz_sat.specs.Sats.{HoldsLearned}
use Rattle.nz_search.specs.Levels.{Level, added_by_level}
use Rattle.nz_engine.specs.Checking.{AreNumbered, EndsWith, GoesUnder, HasBegun, HasGoneUnder, IsPlain, IsPlainAtom, IsUnbegun, MayBegin, NotesAll, NotesForms, NotesUnder, atom_at, atom_lines, form_lines, note_of, terms_named}
use Rattle.nz_engine.proofs.AssertionPlaces.{in_second}
use Rattle.nz_engine.proofs.SaidAtoms.{IsPositive, negated, positive_said, same_atoms, says_itself}

-- ---- Lists of lines

-- where the search stands after lines and then others
pub after_both : (s : Search) (xs ys : List (WorkLine spec.Note)) → after_lines s (xs ++ ys) ≡ after_lines (after_lines s xs) ys
after_both s [] ys = refl
after_both s (x ∷ xs) ys = after_both (after_line s x) xs ys

pub lines_both : (ns : List Node) (xs ys : List (WorkLine Note)) → map (noted_line ns) (xs ++ ys) ≡ map (noted_line ns) xs ++ map (noted_line ns) ys
lines_both ns xs ys = map-append (noted_line ns) xs ys

-- forms that join name no atom
forms_name_none : (ns : List Node) (s : Search) (ks : List ℕ) → (after_lines s (map (noted_line ns) (form_lines ks))).atoms ≡ s.atoms
forms_name_none ns s [] = refl
forms_name_none ns s (k ∷ ks) = forms_name_none ns (after_line s (NoteLine (form_note k))) ks

pub forms_same : (ns : List Node) (old new : WorkList Note) → NotesForms old new → (search_after ns new).atoms ≡ (search_after ns old).atoms
forms_same ns old new forms =
    ap (λ (w : WorkList Note). (search_after ns w).atoms) forms.noted
    ∙ ap (λ (ls : List (WorkLine spec.Note)). (after_lines at_first ls).atoms) (lines_both ns old.lines (form_lines forms.forms))
    ∙ ap (λ (s : Search). s.atoms) (after_both at_first (map (noted_line ns) old.lines) (map (noted_line ns) (form_lines forms.forms)))
    ∙ forms_name_none ns (search_after ns old) forms.forms

-- so the list knows an atom by its number still
pub numbered_still : (ns : List Node) (all : List log.Atom) (i k : ℕ) (old new : WorkList Note) → NotesForms old new → IsNumberIn ns all i k old → IsNumberIn ns all i k new
numbered_still ns all i k old new forms h =
    let same = forms_same ns old new forms in
    record {
      named = subst (λ (ls : List Literal). k < length ls) (sym same) h.named;
      says = ap (λ (ls : List Literal). literal_by ls (k, true)) same ∙ h.says;
    }

-- ---- Atoms that are named

-- an atom of what is listed may be named wherever a check stands
plain_atom : (q : Task) (s : Search) (x : Point) (l : Literal) → IsPlainAtom q l → IsAtom q s x l
plain_atom q s x l (inl truth) = of_term truth
plain_atom q s x l (inr tabled) = of_table (record { plain = l; tabled = tabled; written = l; same = says_itself l; is_tight = false; is = refl })

module _ (goes_on : LegalWorkGoesOn) (tells : TellsLits) (tells_spec : TellsLiterals) (sums : SumsRenumber) (numbers : TermHasItsNumber) (ns : List Node) (table : IsTable ns) (all : List log.Atom) (are : AreAtoms all) where
  abbrev lit : ℕ → Literal
  lit i = atom_literal ns all i

  abbrev own : ℕ → Lit
  own i = record { atom = i; sign = true }

  -- what an atom says
  says : (i : ℕ) (a : log.Atom) → slice_get all i ≡ Some a → lit i ≡ atom_in ns a
  says i a at = ap (λ (o : Option log.Atom). elim o [ None ↦ term_literal (term_in ns 0) true | Some x ↦ with_sign true (atom_in ns x) ]) at

  note_says : (a : log.Atom) → noted_line ns (NoteLine (note_of a)) ≡ NoteLine (atom_note (atom_in ns a))
  note_says (atoms.Term t) = refl
  note_says (atoms.AtMost b) = refl

  line_says : (i : ℕ) → IsAtomAt ns all i → noted_line ns (NoteLine (note_of (atom_at all i))) ≡ NoteLine (atom_note (lit i))
  line_says i h =
      ap (λ (a : log.Atom). noted_line ns (NoteLine (note_of a))) (get_or_from_slice_get all i h.atom (atoms.Term 0) h.at) ∙ note_says h.atom
      ∙ ap (λ (l : Literal). NoteLine (atom_note l)) (sym (says i h.atom h.at))

  -- two atoms that say the same are one
  one_atom : (i j : ℕ) → IsAtomAt ns all i → IsAtomAt ns all j → lit j ≡ lit i → j ≡ i
  one_atom i j h k same =
      let alike : are_same_literal (lit j) (lit i) ≡ true = subst (λ (l : Literal). are_same_literal (lit j) l ≡ true) same (tells_spec.one (lit j)) in
      let test : are_same_lit (own j) (own i) ≡ true = sym (tells.agree ns table all are (own j) (own i) k h) ∙ alike in
      ap (λ (l : Lit). l.atom) (tells.same (own j) (own i) test)

  -- in whatever order their units stand
  one_said : (i j : ℕ) → IsAtomAt ns all i → IsAtomAt ns all j → SayTheSame (lit j) (lit i) → j ≡ i
  one_said i j h k same =
      let left = says j k.atom k.at in
      let right = says i h.atom h.at in
      let plain : SayTheSame (atom_in ns k.atom) (atom_in ns h.atom) = subst (λ (l : Literal). SayTheSame l (atom_in ns h.atom)) left (subst (SayTheSame (lit j)) right same) in
      one_atom i j h k (left ∙ same_atoms sums numbers ns table k.atom h.atom k.within h.within plain ∙ sym right)

  -- no atom says what the negation of one does
  positive_atom : (a : log.Atom) → IsNormal a → IsPositive (atom_in ns a)
  positive_atom (atoms.Term t) normal = tt
  positive_atom (atoms.AtMost b) normal =
      subst (λ (s : Bool). IsPositive (bounded s (parts_over ns b.sides.parts) b.sides.offset)) (sym normal) tt

  normal_at : (xs : List log.Atom) (i : ℕ) (a : log.Atom) → AllByRecursion IsNormal xs → slice_get xs i ≡ Some a → IsNormal a
  normal_at xs i a h at =
      All-contains IsNormal xs a (All-from_recursion IsNormal xs h) (i, slice_get_within xs i a at, get_or_from_slice_get xs i a a at)

  positive : (i : ℕ) → IsAtomAt ns all i → IsPositive (lit i)
  positive i h = subst IsPositive (sym (says i h.atom h.at)) (positive_atom h.atom (normal_at all i h.atom are.normal h.at))

  -- each may be named after those before it
  pub lead_names : (q : Task) (x : Point) (seen ids : List ℕ) (s : Search) → s.atoms ≡ map lit seen → StandOnce (seen ++ ids) → AllByRecursion (IsAtomAt ns all) seen → AllByRecursion (IsAtomAt ns all) ids
      → AllByRecursion (λ i. IsPlainAtom q (lit i)) ids → Lead q s x (map (noted_line ns) (atom_lines all ids)) x
  lead_names q x seen [] s same once before within each = ([], refl)
  lead_names q x seen (i ∷ ids) s same once before within each =
      let joined : (seen ++ i ∷ []) ++ ids ≡ seen ++ i ∷ ids = append_assoc seen (i ∷ []) ids in
      let inside = All-from_recursion (IsAtomAt ns all) seen before in
      let IsOther : Literal → Literal → Type 0 = λ l m. SayTheSame m l → ⊥ in
      let fresh : All (IsOther (lit i)) s.atoms =
      subst (All (IsOther (lit i))) (sym same)
      (All-map (IsOther (lit i)) lit seen
      (λ k d below alike.
      let was = get_or seen k d in
      let at : slice_get seen k ≡ Some was = slice_get-get_or seen k d below in
      let number : was ≡ i = one_said i was within.0 (inside k d below) alike in
      let first : slice_get (seen ++ i ∷ ids) k ≡ Some i = slice_get_kept seen (i ∷ ids) k was at ∙ ap Some number in
      let second : slice_get (seen ++ i ∷ ids) (length seen) ≡ Some i = in_second seen (i ∷ ids) (length seen) 0 (omega arith) in
      let meet : k ≡ length seen = once k (length seen) i first second in
      omega (arith, meet, below))) in
      let other : All (IsOther (negation_of (lit i))) s.atoms =
      subst (All (IsOther (negation_of (lit i)))) (sym same)
      (All-map (IsOther (negation_of (lit i))) lit seen
      (λ k d below alike.
      let was = get_or seen k d in
      negated (lit i) (positive i within.0) (positive_said (lit was) (negation_of (lit i)) alike (positive was (inside k d below))))) in
      let may : MayName q s x (lit i) = record { atom = plain_atom q s x (lit i) each.0; fresh = fresh; negation_fresh = other } in
      let rest : Lead q (after_line s (NoteLine (atom_note (lit i)))) x (map (noted_line ns) (atom_lines all ids)) x =
      lead_names q x (seen ++ i ∷ []) ids (record s { atoms = s.atoms ++ lit i ∷ [] })
      (ap (λ (ls : List Literal). ls ++ lit i ∷ []) same ∙ sym (map-append lit seen (i ∷ [])))
      (subst StandOnce (sym joined) once)
      (AllByRecursion-append (IsAtomAt ns all) seen (i ∷ []) before (within.0, tt)) within.1 each.1 in
      subst (λ (line : WorkLine spec.Note). Lead q s x (line ∷ map (noted_line ns) (atom_lines all ids)) x) (sym (line_says i within.0)) (x, x, ([], refl), (may, refl), rest)

  -- where the search stands then
  pub after_names : (ids : List ℕ) (s : Search) → AllByRecursion (IsAtomAt ns all) ids → after_lines s (map (noted_line ns) (atom_lines all ids)) ≡ record s { atoms = s.atoms ++ map lit ids }
  after_names [] s within = ap (λ (ls : List Literal). record s { atoms = ls }) (sym (append-nil s.atoms))
  after_names (i ∷ ids) s within =
      ap (λ (line : WorkLine spec.Note). after_lines (after_line s line) (map (noted_line ns) (atom_lines all ids))) (line_says i within.0)
      ∙ after_names ids (record s { atoms = s.atoms ++ lit i ∷ [] }) within.1
      ∙ ap (λ (ls : List Literal). record s { atoms = ls }) (append_assoc s.atoms (lit i ∷ []) (map lit ids))

  -- Lines of atoms come behind a list that tells of forms alone.
  module _ (mid : WorkList Note) (fs : List (List spec_form.Part)) (first : search_after ns mid ≡ record at_first { forms = fs }) where
    stood : (names : List ℕ) → AllByRecursion (IsAtomAt ns all) names → (work : WorkList Note) → work.lines ≡ mid.lines ++ atom_lines all names
        → search_after ns work ≡ record at_first { forms = fs; atoms = map lit names }
    stood names within work lines =
        ap (λ (ls : List (WorkLine Note)). after_lines at_first (map (noted_line ns) ls)) lines
        ∙ ap (after_lines at_first) (lines_both ns mid.lines (atom_lines all names))
        ∙ after_both at_first (map (noted_line ns) mid.lines) (map (noted_line ns) (atom_lines all names))
        ∙ ap (λ (s : Search). after_lines s (map (noted_line ns) (atom_lines all names))) first
        ∙ after_names names (record at_first { forms = fs }) within

    leads : (q : Task) (names : List ℕ) → StandOnce names → AllByRecursion (IsAtomAt ns all) names → AllByRecursion (λ i. IsPlainAtom q (lit i)) names → (work : WorkList Note)
        → work.lines ≡ mid.lines ++ atom_lines all names → (y : Point) → Lead q at_first no_point (noted_list ns mid).lines y → Lead q at_first no_point (noted_list ns work).lines y
    leads q names once within each work lines y lead =
        let before = map (noted_line ns) mid.lines in
        let behind = map (noted_line ns) (atom_lines all names) in
        let more : Lead q (after_lines at_first before) y behind y =
        subst (λ (s : Search). Lead q s y behind y) (sym first) (lead_names q y [] names (record at_first { forms = fs }) refl once tt within each) in
        subst (λ (ls : List (WorkLine Note)). Lead q at_first no_point (map (noted_line ns) ls) y) (sym lines)
        (subst (λ (ls : List (WorkLine spec.Note)). Lead q at_first no_point ls y) (sym (lines_both ns mid.lines (atom_lines all names)))
        (goes_on.lines q at_first no_point y y before behind lead more))

    module _ (t : Theory) (q : Task) (ids : List ℕ) (may : MayBegin t ns q all ids) (work : WorkList Note) where
      each_within : AllByRecursion (IsAtomAt ns all) ids
      each_within = recursion_from_All (IsAtomAt ns all) ids may.within

      -- a theory stands there still
      pub stands_named : (new : Theory) → work.lines ≡ mid.lines ++ atom_lines all ids → Stands (IsAt new ns) ns q mid → Stands (IsAt new ns) ns q work
      stands_named new lines h =
          record {
            point = h.point;
            legal = leads q ids may.once each_within (recursion_from_All (λ i. IsPlainAtom q (lit i)) ids may.nameable) work lines h.point h.legal;
            at = subst (λ (s : Search). IsAt new ns s.forms (told_literals s) h.point) (sym (stood ids each_within work lines))
                (subst (λ (s : Search). IsAt new ns s.forms (told_literals s) h.point) first h.at);
          }

      -- and the list knows each atom by its place
      pub numbered_first : work.lines ≡ mid.lines ++ atom_lines all ids → AreNumbered ns all ids work
      numbered_first lines k i at =
          let atoms_are : (search_after ns work).atoms ≡ map lit ids = ap (λ (s : Search). s.atoms) (stood ids each_within work lines) in
          let inside = slice_get_within ids k i at in
          let long = length-map ids lit in
          record {
            named = subst (λ (ls : List Literal). k < length ls) (sym atoms_are) (omega (arith, inside, long));
            says = ap (λ (ls : List Literal). slice_index_or ls k never) atoms_are ∙ get_or_from_slice_get (map lit ids) k (lit i) never (mapped ids k at);
          }
        where
          mapped : (xs : List ℕ) (j : ℕ) → slice_get xs j ≡ Some i → slice_get (map lit xs) j ≡ Some (lit i)
          mapped [] j e = cc
          mapped (x ∷ xs) zero e = ap (option_map lit) e
          mapped (x ∷ xs) (suc j) e = mapped xs j e

      -- a front of the notes leads there, and is plain
      pub leads_first : (n : ℕ) → work.lines ≡ mid.lines ++ atom_lines all (take n ids) → (y : Point) → Lead q at_first no_point (noted_list ns mid).lines y
          → Lead q at_first no_point (noted_list ns work).lines y
      leads_first n lines y lead =
          leads q (take n ids) (once_front n ids may.once)
          (recursion_from_All (IsAtomAt ns all) (take n ids) (All-take (IsAtomAt ns all) n ids may.within))
          (recursion_from_All (λ i. IsPlainAtom q (lit i)) (take n ids) (All-take (λ i. IsPlainAtom q (lit i)) n ids may.nameable)) work lines y lead
        where
          in_front : (k n : ℕ) (xs : List ℕ) (x : ℕ) → slice_get (take n xs) k ≡ Some x → slice_get xs k ≡ Some x
          in_front k zero xs x e = cc
          in_front k (suc n) [] x e = cc
          in_front zero (suc n) (y ∷ xs) x e = e
          in_front (suc k) (suc n) (y ∷ xs) x e = in_front k n xs x e

          once_front : (n : ℕ) (xs : List ℕ) → StandOnce xs → StandOnce (take n xs)
          once_front n xs h i j x a b = h i j x (in_front i n xs x a) (in_front j n xs x b)

      pub plain_first : (n : ℕ) → work.lines ≡ mid.lines ++ atom_lines all (take n ids) → IsPlain q at_first (search_after ns work)
      plain_first n lines =
          let names = take n ids in
          subst (IsPlain q at_first) (sym (stood names (recursion_from_All (IsAtomAt ns all) names (All-take (IsAtomAt ns all) n ids may.within)) work lines))
          (record { atoms = All-map (IsPlainAtom q) lit names (All-take (λ i. IsPlainAtom q (lit i)) n ids may.nameable); begun = omega arith; found = refl; branches = refl })

      pub plain_all : work.lines ≡ mid.lines ++ atom_lines all ids → IsPlain q at_first (search_after ns work)
      plain_all lines =
          subst (IsPlain q at_first) (sym (stood ids each_within work lines))
          (record { atoms = All-map (IsPlainAtom q) lit ids may.nameable; begun = omega arith; found = refl; branches = refl })

-- where the note of a start leads
pub started : (ns : List Node) (t : Theory) (old new : WorkList Note) → old.lines ≡ [] → (n : NotesStart t old new) → search_after ns new ≡ record at_first { forms = forms_over ns n.start.forms.items }
started ns t old new none n =
    ap (λ (w : WorkList Note). after_lines at_first (map (noted_line ns) w.lines)) n.line
    ∙ ap (λ (ls : List (WorkLine Note)). after_lines at_first (map (noted_line ns) (ls ++ NoteLine (Start n.start) ∷ []))) none

-- forms that join leave a search plain
forms_plain : (ns : List Node) (q : Task) (first s : Search) (ks : List ℕ) → IsPlain q first s → IsPlain q first (after_lines s (map (noted_line ns) (form_lines ks)))
forms_plain ns q first s [] h = h
forms_plain ns q first s (k ∷ ks) h =
    forms_plain ns q first (after_line s (NoteLine (form_note k))) ks (record { atoms = h.atoms; begun = h.begun; found = h.found; branches = h.branches })

pub plain_still : (ns : List Node) (q : Task) (first : Search) (old new : WorkList Note) → NotesForms old new → IsPlain q first (search_after ns old) → IsPlain q first (search_after ns new)
plain_still ns q first old new forms h =
    let behind = map (noted_line ns) (form_lines forms.forms) in
    let same : search_after ns new ≡ after_lines (search_after ns old) behind =
    ap (search_after ns) forms.noted ∙ ap (after_lines at_first) (lines_both ns old.lines (form_lines forms.forms)) ∙ after_both at_first (map (noted_line ns) old.lines) behind in
    subst (IsPlain q first) (sym same) (forms_plain ns q first (search_after ns old) forms.forms h)

-- ---- What lines note

pub within_append : (ns : List Node) (xs ys : List (WorkLine Note)) → AreNotedWithin ns xs → AreNotedWithin ns ys → AreNotedWithin ns (xs ++ ys)
within_append ns [] ys h k = k
within_append ns (UnitLine entry ∷ xs) ys h k = within_append ns xs ys h k
within_append ns (NoteLine note ∷ xs) ys h k = (h.0, within_append ns xs ys h.1 k)

-- what is noted is of the table where each atom is
atom_within : (ns : List Node) (a : log.Atom) → IsAtomIn ns a → IsNoteWithin ns (note_of a)
atom_within ns (atoms.Term t) h = h
atom_within ns (atoms.AtMost b) h = h

pub atoms_within : (ns : List Node) (all : List log.Atom) (ids : List ℕ) → AllByRecursion (IsAtomAt ns all) ids → AreNotedWithin ns (atom_lines all ids)
atoms_within ns all [] h = tt
atoms_within ns all (i ∷ ids) h =
    (atom_within ns (atom_at all i) (subst (IsAtomIn ns) (sym (get_or_from_slice_get all i h.0.atom (atoms.Term 0) h.0.at)) h.0.within), atoms_within ns all ids h.1)

pub forms_within : (ns : List Node) (ks : List ℕ) → AreNotedWithin ns (form_lines ks)
forms_within ns [] = tt
forms_within ns (k ∷ ks) = (tt, forms_within ns ks)

-- no unit is among them
pub atoms_no_unit : (all : List log.Atom) (ids : List ℕ) → unit_count (atom_lines all ids) ≡ 0
atoms_no_unit all [] = refl
atoms_no_unit all (i ∷ ids) = atoms_no_unit all ids

pub forms_no_unit : (ks : List ℕ) → unit_count (form_lines ks) ≡ 0
forms_no_unit [] = refl
forms_no_unit (k ∷ ks) = forms_no_unit ks

-- nothing is noted
pub begun_none : (t : Theory) (all : List log.Atom) (ids : List ℕ) (old : WorkList Note) → old.lines ≡ [] → HasBegun t all ids old old
begun_none t all ids old none = record { within = λ ns over within. subst (AreNotedWithin ns) (sym none) tt; units = ap unit_count none; limit = refl }

-- and then more is
pub begun_more : (t : Theory) (all : List log.Atom) (ids : List ℕ) (old mid new : WorkList Note) (more : List (WorkLine Note)) → HasBegun t all ids old mid → new ≡ record mid { lines = mid.lines ++ more }
    → ((ns : List Node) → IsOver t ns → All (IsAtomAt ns all) ids → AreNotedWithin ns more) → unit_count more ≡ 0 → HasBegun t all ids old new
begun_more t all ids old mid new more h is named none =
    let both = sum_by-append (λ (x : WorkLine Note). if is_unit x then 1 else 0) mid.lines more in
    let units = h.units in
    let count : unit_count (mid.lines ++ more) ≡ 0 = omega (arith, both, units, none) in
    record {
      within = λ ns over within. subst (λ (w : WorkList Note). AreNotedWithin ns w.lines) (sym is) (within_append ns mid.lines more (h.within ns over within) (named ns over within));
      units = ap (λ (w : WorkList Note). unit_count w.lines) is ∙ count;
      limit = ap (λ (w : WorkList Note). w.limit) is ∙ h.limit;
    }

forms_noted : (ks : List ℕ) → noted_atoms (form_lines ks) ≡ []
forms_noted [] = refl
forms_noted (k ∷ ks) = forms_noted ks

named_by : (a : log.Atom) (lines : List (WorkLine Note)) → noted_atoms (NoteLine (note_of a) ∷ lines) ≡ a ∷ noted_atoms lines
named_by (atoms.Term t) lines = refl
named_by (atoms.AtMost b) lines = refl

pub begun_noted : (all : List log.Atom) (ids ks : List ℕ) → noted_atoms (atom_lines all ids ++ form_lines ks) ≡ map (atom_at all) ids
begun_noted all [] ks = forms_noted ks
begun_noted all (i ∷ ids) ks = named_by (atom_at all i) (atom_lines all ids ++ form_lines ks) ∙ ap (λ (xs : List log.Atom). atom_at all i ∷ xs) (begun_noted all ids ks)

-- no search begins, and nothing is decided, learned or told
atom_unbegun : (ns : List Node) (a : log.Atom) (s : Search) → IsUnbegun s → IsUnbegun (after_line s (noted_line ns (NoteLine (note_of a))))
atom_unbegun ns (atoms.Term t) s h = record { begun = h.begun; decided = h.decided; learned = h.learned; told = h.told }
atom_unbegun ns (atoms.AtMost b) s h = record { begun = h.begun; decided = h.decided; learned = h.learned; told = h.told }

lines_unbegun : (ns : List Node) (all : List log.Atom) (ids ks : List ℕ) (s : Search) → IsUnbegun s → IsUnbegun (after_lines s (map (noted_line ns) (atom_lines all ids ++ form_lines ks)))
lines_unbegun ns all [] [] s h = h
lines_unbegun ns all [] (k ∷ ks) s h =
    lines_unbegun ns all [] ks (after_line s (NoteLine (form_note k))) (record { begun = h.begun; decided = h.decided; learned = h.learned; told = h.told })
lines_unbegun ns all (i ∷ ids) ks s h =
    lines_unbegun ns all ids ks (after_line s (noted_line ns (NoteLine (note_of (atom_at all i))))) (atom_unbegun ns (atom_at all i) s h)

pub there_all : (all : List log.Atom) (ids : List ℕ) → AllByRecursion (λ i. i < length all) ids → map (slice_get all) ids ≡ map Some (map (atom_at all) ids)
there_all all [] h = refl
there_all all (i ∷ ids) h =
    let first : slice_get all i ≡ Some (atom_at all i) = slice_get-get_or all i (atoms.Term 0) h.0 in
    let rest = there_all all ids h.1 in
    λ k. first k ∷ rest k

-- a start, the atoms, and then forms
pub notes_all : (all : List log.Atom) (ids ks : List ℕ) (start : code.StartNote) (work : WorkList Note) → All (λ i. i < length all) ids
    → work.lines ≡ NoteLine (Start start) ∷ (atom_lines all ids ++ form_lines ks) → NotesAll all ids work
notes_all all ids ks start work within lines =
    record {
      noted = there_all all ids (recursion_from_All (λ i. i < length all) ids within) ∙ ap (map Some) (sym (ap noted_atoms lines ∙ begun_noted all ids ks));
      unbegun = λ ns.
          subst (λ (ls : List (WorkLine Note)). IsUnbegun (after_lines at_first (map (noted_line ns) ls))) (sym lines)
          (lines_unbegun ns all ids ks (after_line at_first (noted_line ns (NoteLine (Start start)))) (record { begun = refl; decided = refl; learned = refl; told = refl }));
    }

-- ---- Lines of a search that begins

-- one atom more is noted
pub notes_more : (all : List log.Atom) (ids : List ℕ) (n d : ℕ) (old work new : WorkList Note) (note : Note) → n < length ids
    → work ≡ record old { lines = old.lines ++ atom_lines all (take n ids) } → note ≡ note_of (atom_at all (get_or ids n d)) → new ≡ with_line work (NoteLine note)
    → new ≡ record old { lines = old.lines ++ atom_lines all (take (n + 1) ids) }
notes_more all ids n d old work new note below before is step =
    let line = λ (i : ℕ). NoteLine (note_of (atom_at all i)) in
    step ∙ ap (λ (w : WorkList Note). with_line w (NoteLine note)) before
    ∙ ap (λ (ls : List (WorkLine Note)). record old { lines = ls })
    (append_assoc old.lines (atom_lines all (take n ids)) (NoteLine note ∷ [])
    ∙ ap (λ (ls : List (WorkLine Note)). old.lines ++ ls)
    (ap (λ (m : Note). atom_lines all (take n ids) ++ NoteLine m ∷ []) is ∙ sym (map-append line (take n ids) (get_or ids n d ∷ [])) ∙ ap (atom_lines all) (sym (take_more ids n d below))))

-- ---- What a search goes under

-- one note more begins a search, which goes under what is assumed
pub under_after : (ns : List Node) (assumed : List TermLit) (old new : WorkList Note) → NotesUnder assumed old new → search_after ns new ≡ after_line (search_after ns old) (NoteLine (under_note (map (literal_of ns) assumed)))
under_after ns assumed old new n =
    ap (search_after ns) n.line ∙ ap (after_lines at_first) (lines_both ns old.lines (NoteLine (notes.Under n.literals) ∷ []))
    ∙ after_both at_first (map (noted_line ns) old.lines) (NoteLine (under_note (map (literal_of ns) n.literals.items)) ∷ [])
    ∙ ap (λ (ls : List TermLit). after_line (search_after ns old) (NoteLine (under_note (map (literal_of ns) ls)))) n.items

noted_under : (lines : List (WorkLine Note)) (literals : Vec TermLit Global) → noted_atoms (lines ++ NoteLine (notes.Under literals) ∷ []) ≡ noted_atoms lines
noted_under [] literals = refl
noted_under (UnitLine entry ∷ lines) literals = noted_under lines literals
noted_under (NoteLine (notes.Start start) ∷ lines) literals = noted_under lines literals
noted_under (NoteLine (notes.Atom t) ∷ lines) literals = ap (λ (xs : List log.Atom). atoms.Term t ∷ xs) (noted_under lines literals)
noted_under (NoteLine (notes.Bound b) ∷ lines) literals = ap (λ (xs : List log.Atom). atoms.AtMost b ∷ xs) (noted_under lines literals)
noted_under (NoteLine (notes.Form atom) ∷ lines) literals = noted_under lines literals
noted_under (NoteLine (notes.Under ls) ∷ lines) literals = noted_under lines literals
noted_under (NoteLine (notes.Told atom sign) ∷ lines) literals = noted_under lines literals

module _ (assumed : List TermLit) (old new : WorkList Note) (n : NotesUnder assumed old new) where
  -- the list names the same atoms
  pub noted_still : (all : List log.Atom) (ids : List ℕ) → AreNotedIn all old.lines ids → AreNotedIn all new.lines ids
  noted_still all ids h = h ∙ ap (map Some) (sym (ap (λ (w : WorkList Note). noted_atoms w.lines) n.line ∙ noted_under old.lines n.literals))

  pub has_gone : (ns : List Node) → HasGoneUnder (map (literal_of ns) assumed) (search_after ns new)
  has_gone ns = subst (HasGoneUnder (map (literal_of ns) assumed)) (sym (under_after ns assumed old new n)) (record { begun = omega arith; under = refl; decided = refl; told = refl })

  pub goes_under : (all : List log.Atom) (ids : List ℕ) → AreNotedIn all old.lines ids → GoesUnder all ids assumed new
  goes_under all ids h = record { noted = noted_still all ids h; under = has_gone }

  pub plain_under : (ns : List Node) (q : Task) (first : Search) → (search_after ns old).begun ≡ first.begun → IsPlain q first (search_after ns old) → IsPlain q first (search_after ns new)
  plain_under ns q first count h =
      subst (IsPlain q first) (sym (under_after ns assumed old new n))
      (record { atoms = h.atoms; begun = omega (arith, count); found = h.found; branches = h.branches })

  -- what was learned is the same
  pub learned_under : (all : LogState) (ids : List ℕ) (held : List Held) → HoldsLearned all ids held old → HoldsLearned all ids held new
  learned_under all ids held h ns =
      subst (λ (s : Search). All (λ (c : List (ℕ × Bool)). (i : ℕ) × Contains (sat.ids held) i × (map (numbered ids) (literals_at all i) ≡ c)) s.learned) (sym (under_after ns assumed old new n)) (h ns)

  -- a theory that was told nothing stands there
  pub stands_under : LegalWorkGoesOn → (ns : List Node) (q : Task) (t : Theory) → All (Contains q.assumed) (map (literal_of ns) assumed)
      → ((search_after ns old).begun ≡ 0 → ((search_after ns old).decided ≡ []) × ((search_after ns old).learned ≡ []) × ((search_after ns old).told ≡ []))
      → (x : Point) → Lead q at_first no_point (noted_list ns old).lines x → IsAt t ns (search_after ns old).forms [] x → Stands (IsAt t ns) ns q new
  stands_under goes_on ns q t each first x lead at =
      let ls = map (literal_of ns) assumed in
      let s = search_after ns old in
      let may : MayGoUnder q s x ls = record {
        literals = inl (All-weaker (Contains q.assumed) (λ (l : Literal). Contains q.assumed l ⊎ IsComparison q s x l) (λ l has. inl has) ls each);
        first = first;
      } in
      let line : WorkLine spec.Note = NoteLine (under_note ls) in
      let lines : (noted_list ns new).lines ≡ (noted_list ns old).lines ++ line ∷ [] =
      ap (λ (w : WorkList Note). (noted_list ns w).lines) n.line ∙ lines_both ns old.lines (NoteLine (notes.Under n.literals) ∷ [])
      ∙ ap (λ (ms : List TermLit). (noted_list ns old).lines ++ NoteLine (under_note (map (literal_of ns) ms)) ∷ []) n.items in
      record {
        point = x;
        legal = subst (λ (ms : List (WorkLine spec.Note)). Lead q at_first no_point ms x) (sym lines)
            (goes_on.line q at_first no_point x x (noted_list ns old).lines line lead (may, refl));
        at = subst (λ (r : Search). IsAt t ns r.forms (told_literals r) x) (sym (under_after ns assumed old new n)) at;
      }

-- ---- Stops

pub joins_stopped : (A : Type 0) (IsThere : Standing) (ns : List Node) (q : Task) (work : WorkList Note) (e : Stop) → EndsJoining {A = A} IsThere ns q work (Err e) → EndsWith ns q work e
joins_stopped A IsThere ns q work (Wide place) h = inl h
joins_stopped A IsThere ns q work Spent h = absurd h
joins_stopped A IsThere ns q work Memory h = h

pub ends_stopped : (A : Type 0) (IsThere : Standing) (ns : List Node) (q : Task) (work : WorkList Note) (e : Stop) → Ends {A = A} IsThere ns q work (Err e) → EndsWith ns q work e
ends_stopped A IsThere ns q work (Wide place) h = inr h
ends_stopped A IsThere ns q work Spent h = h
ends_stopped A IsThere ns q work Memory h = h

-- the lines lead somewhere
pub stopped_lead : (ns : List Node) (q : Task) (work : WorkList Note) (e : Stop) → EndsWith ns q work e → (point : Point) × Lead q at_first no_point (noted_list ns work).lines point
stopped_lead ns q work (Wide place) (inl h) = (h.point, h.legal)
stopped_lead ns q work (Wide place) (inr h) = (h.point, h.legal)
stopped_lead ns q work Spent h = (h.point, h.legal)
stopped_lead ns q work Memory h = h

-- ---- What a search is asked lists what the atoms are

named_terms : (ns : List Node) (ls : List TermLit) → map (term_in ns) (terms_named ls) ≡ map (λ (l : TermLit). term_in ns l.term) ls
named_terms ns [] = refl
named_terms ns (l ∷ ls) = ap (λ ts. term_in ns l.term ∷ ts) (named_terms ns ls)

-- what is listed with one of the roots is listed with all
each_root : (f : ℕ → Term) (rs : List ℕ) → AllByRecursion (λ r. (u : Term) → Contains (listing_order (f r)) u → Contains (flat_map listing_order (map f rs)) u) rs
each_root f [] = tt
each_root f (r ∷ rs) =
    let rest = flat_map listing_order (map f rs) in (
      (λ u c. Contains-append_left (listing_order (f r)) rest u c),
      AllByRecursion-weaker (λ s. (u : Term) → Contains (listing_order (f s)) u → Contains rest u) (λ s. (u : Term) → Contains (listing_order (f s)) u → Contains (listing_order (f r) ++ rest) u)
          (λ s h u c. Contains-append_right (listing_order (f r)) rest u (h u c)) rs (each_root f rs),
    )

part_of_roots : (f : ℕ → Term) (rs : List ℕ) (r : ℕ) → Contains rs r → (u : Term) → Contains (listing_order (f r)) u → Contains (flat_map listing_order (map f rs)) u
part_of_roots f rs r has =
    let P : ℕ → Type 0 = λ s. (u : Term) → Contains (listing_order (f s)) u → Contains (flat_map listing_order (map f rs)) u in
    All-contains P rs r (All-from_recursion P rs (each_root f rs)) has

-- what is listed with a root is listed in what is asked
pub listed_part : (ns : List Node) (levels : List Level) (assumed : List TermLit) (r : ℕ) → Contains (asserted_numbers (added_by_level levels) ++ terms_named assumed) r → (u : Term)
    → Contains (listing_order (term_in ns r)) u → Contains (task_in ns levels assumed []).listed u
listed_part ns levels assumed r has u part =
    let roots = asserted_numbers (added_by_level levels) ++ terms_named assumed in
    let same : map (term_in ns) roots ≡ asserted_terms ns (added_by_level levels) ++ map (λ (l : TermLit). term_in ns l.term) assumed =
    map-append (term_in ns) (asserted_numbers (added_by_level levels)) (terms_named assumed) ∙ ap (λ us. asserted_terms ns (added_by_level levels) ++ us) (named_terms ns assumed) in
    subst (λ (us : List Term). Contains (flat_map listing_order us) u) same
    (part_of_roots (term_in ns) roots r has u part)
