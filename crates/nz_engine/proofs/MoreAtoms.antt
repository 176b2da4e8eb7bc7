-- A list that goes on: atoms are named behind those that it has, and the sums that they bound join.
use Rattle.std.proofs.Common.{◌≡◌, ℕ, zero, suc, ◌-◌, ◌<◌, List, [], ◌∷◌, ◌++◌, append-nil, append_assoc, length, drop, take, map, true, Option, Some, None, option_map, Result, Ok, Err, IfErr, OnOk, refl, sym, ap, subst, ◌∙◌, arith}
use Rattle.std.specs.Prelude.{All, if◌then◌else◌, slice_get}
use Rattle.std.specs.List.{AllByRecursion}
use Rattle.std.proofs.lemmas.List.{length-drop, length-map, map-append, take-append-drop, take_all}
use Rattle.std.proofs.lemmas.List.Sums.{sum_by-append}
use Rattle.std.proofs.lemmas.Option.{get_or_from_slice_get, slice_get_within}
use Rattle.std.proofs.lemmas.List.Elements.{All-append, All-drop, All-map, All-take, recursion_from_All}
use Rattle.nz_spec.specs.clauses.Literal.{Literal, StandOnce, TellsLiterals}
use Rattle.nz_spec.specs.laws.LegalWork.{LegalWorkGoesOn}
use Rattle.nz_spec.specs.laws.Renumbering.{SumsRenumber}
use Rattle.nz_spec.specs.terms.FormOf.{TermHasItsNumber}
use Rattle.nz_spec.specs.search.Legal.{Lead, after_line, after_lines}
use Rattle.nz_spec.specs.search.Notes as spec
use Rattle.nz_spec.specs.search.Notes.{form_note}
use Rattle.nz_spec.specs.search.Search.{Search, Task, at_first, literal_by, never, no_point, told_literals}
use Rattle.nz_spec.specs.search.Work.{BranchEntry, DecisionEntry, FoundEntry, LearnedEntry, NoteLine, PivotEntry, UnitLine, WorkLine, WorkList, is_unit, unit_count}
use Rattle.nz_spec.specs.simplex.Bland.{Point}
use Rattle.nz_spec.specs.terms.Table.{Node}
use Rattle.nz_log.specs.declared.atoms.Atom as log
use Rattle.nz_log.specs.declared.atoms.Atom.TheVariants as atoms
use Rattle.nz_log.specs.Atoms.{TellsLits, atom_in, literal_in, with_sign}
use Rattle.nz_search.specs.declared.note.Note.{Note}
use Rattle.nz_search.specs.declared.note.Note.TheVariants as notes
use Rattle.nz_search.specs.declared.stop.Stop.{Stop}
use Rattle.nz_search.specs.declared.stop.Stop.TheVariants.{Memory, Spent}
use Rattle.nz_search.specs.Notes.{AreNotedWithin, noted_line, noted_list}
use Rattle.nz_search.specs.Standing.{Stands, search_after}
use Rattle.nz_reals.specs.Stands.{HasTold, IsAt, IsOf, IsOver}
use Rattle.nz_reals.specs.State.{Theory}
use Rattle.nz_sat.specs.Numbers.{AreNotedIn, IsAtomAt, atom_literal, noted_atoms}
use Rattle.nz_engine.specs.Checking.{AreLearnable, AreNumbered, EndsWith, IsPlainAtom, IsSameBut, LearnsMore, MayLearnMore, NotesFirst, NotesForms, atom_at, atom_lines, form_lines, note_of}
use Rattle.nz_engine.proofs.AtomNotes.{after_both, after_names, atoms_no_unit, atoms_within, begun_noted, forms_no_unit, forms_same, forms_within, lead_names, lines_both, there_all, within_append}

-- ---- What a list names

-- all behind a front
pub rest_is : (from : ℕ) (ids : List ℕ) → take (length ids - from) (drop from ids) ≡ drop from ids
rest_is from ids = let long = length-drop from ids in take_all (length ids - from) (drop from ids) (omega (arith, long))

named_lines : (ns : List Node) (lines : List (WorkLine Note)) (r : Search) → (after_lines r (map (noted_line ns) lines)).atoms ≡ r.atoms ++ map (atom_in ns) (noted_atoms lines)
named_lines ns [] r = sym (append-nil r.atoms)
named_lines ns (NoteLine (notes.Start start) ∷ lines) r = named_lines ns lines (after_line r (noted_line ns (NoteLine (notes.Start start))))
named_lines ns (NoteLine (notes.Form atom) ∷ lines) r = named_lines ns lines (after_line r (noted_line ns (NoteLine (notes.Form atom))))
named_lines ns (NoteLine (notes.Under literals) ∷ lines) r = named_lines ns lines (after_line r (noted_line ns (NoteLine (notes.Under literals))))
named_lines ns (NoteLine (notes.Told atom sign) ∷ lines) r = named_lines ns lines (after_line r (noted_line ns (NoteLine (notes.Told atom sign))))
named_lines ns (UnitLine (DecisionEntry atom sign) ∷ lines) r = named_lines ns lines (after_line r (UnitLine (DecisionEntry atom sign)))
named_lines ns (UnitLine (LearnedEntry keep clause) ∷ lines) r = named_lines ns lines (after_line r (UnitLine (LearnedEntry keep clause)))
named_lines ns (UnitLine (PivotEntry leaves enters) ∷ lines) r = named_lines ns lines (after_line r (UnitLine (PivotEntry leaves enters)))
named_lines ns (UnitLine (BranchEntry atom) ∷ lines) r = named_lines ns lines (after_line r (UnitLine (BranchEntry atom)))
named_lines ns (UnitLine (FoundEntry goal value) ∷ lines) r = named_lines ns lines (after_line r (UnitLine (FoundEntry goal value)))
named_lines ns (NoteLine (notes.Atom t) ∷ lines) r =
    named_lines ns lines (after_line r (noted_line ns (NoteLine (notes.Atom t)))) ∙ append_assoc r.atoms (atom_in ns (atoms.Term t) ∷ []) (map (atom_in ns) (noted_atoms lines))
named_lines ns (NoteLine (notes.Bound b) ∷ lines) r =
    named_lines ns lines (after_line r (noted_line ns (NoteLine (notes.Bound b)))) ∙ append_assoc r.atoms (atom_in ns (atoms.AtMost b) ∷ []) (map (atom_in ns) (noted_atoms lines))

-- what atoms say that are noted
noted_says : (ns : List Node) (all xs : List log.Atom) (us : List ℕ) → map (slice_get all) us ≡ map Some xs → map (atom_literal ns all) us ≡ map (atom_in ns) xs
noted_says ns all [] [] same = refl
noted_says ns all [] (u ∷ us) same = cc
noted_says ns all (x ∷ xs) [] same = cc
noted_says ns all (x ∷ xs) (u ∷ us) same =
    let head : slice_get all u ≡ Some x = cc in
    let tail : map (slice_get all) us ≡ map Some xs = cc in
    let first : atom_literal ns all u ≡ atom_in ns x = ap (λ (o : Option log.Atom). elim o [ None ↦ literal_in ns [] (record { atom = u; sign = true }) | Some a ↦ with_sign true (atom_in ns a) ]) head in
    let rest = noted_says ns all xs us tail in
    λ k. first k ∷ rest k

pub named_as : (ns : List Node) (all : List log.Atom) (work : WorkList Note) (us : List ℕ) → AreNotedIn all work.lines us → (search_after ns work).atoms ≡ map (atom_literal ns all) us
named_as ns all work us noted = named_lines ns work.lines at_first ∙ sym (noted_says ns all (noted_atoms work.lines) us noted)

noted_both : (xs ys : List (WorkLine Note)) → noted_atoms (xs ++ ys) ≡ noted_atoms xs ++ noted_atoms ys
noted_both [] ys = refl
noted_both (UnitLine entry ∷ xs) ys = noted_both xs ys
noted_both (NoteLine (notes.Start start) ∷ xs) ys = noted_both xs ys
noted_both (NoteLine (notes.Atom t) ∷ xs) ys = ap (λ (rest : List log.Atom). atoms.Term t ∷ rest) (noted_both xs ys)
noted_both (NoteLine (notes.Bound b) ∷ xs) ys = ap (λ (rest : List log.Atom). atoms.AtMost b ∷ rest) (noted_both xs ys)
noted_both (NoteLine (notes.Form atom) ∷ xs) ys = noted_both xs ys
noted_both (NoteLine (notes.Under ls) ∷ xs) ys = noted_both xs ys
noted_both (NoteLine (notes.Told atom sign) ∷ xs) ys = noted_both xs ys

-- ---- What stays

same_itself : (s : Search) → IsSameBut s s
same_itself s = record { learned = refl; begun = refl; branches = refl; found = refl; under = refl; decided = refl; told = refl }

same_atom : (ns : List Node) (a : log.Atom) (s r : Search) → IsSameBut s r → IsSameBut s (after_line r (noted_line ns (NoteLine (note_of a))))
same_atom ns (atoms.Term t) s r h = record { learned = h.learned; begun = h.begun; branches = h.branches; found = h.found; under = h.under; decided = h.decided; told = h.told }
same_atom ns (atoms.AtMost b) s r h = record { learned = h.learned; begun = h.begun; branches = h.branches; found = h.found; under = h.under; decided = h.decided; told = h.told }

same_lines : (ns : List Node) (all : List log.Atom) (names ks : List ℕ) (s r : Search) → IsSameBut s r → IsSameBut s (after_lines r (map (noted_line ns) (atom_lines all names ++ form_lines ks)))
same_lines ns all [] [] s r h = h
same_lines ns all [] (k ∷ ks) s r h =
    same_lines ns all [] ks s (after_line r (NoteLine (form_note k)))
    (record { learned = h.learned; begun = h.begun; branches = h.branches; found = h.found; under = h.under; decided = h.decided; told = h.told })
same_lines ns all (i ∷ names) ks s r h = same_lines ns all names ks s (after_line r (noted_line ns (NoteLine (note_of (atom_at all i))))) (same_atom ns (atom_at all i) s r h)

-- what is told of a list to which such lines were added
module _ (all : List log.Atom) (names ks : List ℕ) (before after : WorkList Note) (is : after ≡ record before { lines = before.lines ++ (atom_lines all names ++ form_lines ks) }) where
  abbrev more : List (WorkLine Note)
  more = atom_lines all names ++ form_lines ks

  gone : (ns : List Node) → search_after ns after ≡ after_lines (search_after ns before) (map (noted_line ns) more)
  gone ns = ap (search_after ns) is ∙ ap (after_lines at_first) (lines_both ns before.lines more) ∙ after_both at_first (map (noted_line ns) before.lines) (map (noted_line ns) more)

  pub same_more : (ns : List Node) → IsSameBut (search_after ns before) (search_after ns after)
  same_more ns = subst (IsSameBut (search_after ns before)) (sym (gone ns)) (same_lines ns all names ks (search_after ns before) (search_after ns before) (same_itself (search_after ns before)))

  pub within_more : (ns : List Node) → AllByRecursion (IsAtomAt ns all) names → AreNotedWithin ns before.lines → AreNotedWithin ns after.lines
  within_more ns within h =
      subst (λ (w : WorkList Note). AreNotedWithin ns w.lines) (sym is)
      (within_append ns before.lines more h (within_append ns (atom_lines all names) (form_lines ks) (atoms_within ns all names within) (forms_within ns ks)))

  pub units_more : unit_count after.lines ≡ unit_count before.lines
  units_more =
      let counted = λ (x : WorkLine Note). if is_unit x then 1 else 0 in
      let both = sum_by-append counted before.lines more in
      let inner = sum_by-append counted (atom_lines all names) (form_lines ks) in
      let first = atoms_no_unit all names in
      let second = forms_no_unit ks in
      let count : unit_count (before.lines ++ more) ≡ unit_count before.lines = omega (arith, both, inner, first, second) in
      ap (λ (w : WorkList Note). unit_count w.lines) is ∙ count

  pub noted_more : AllByRecursion (λ i. i < length all) names → (seen : List ℕ) → AreNotedIn all before.lines seen → AreNotedIn all after.lines (seen ++ names)
  noted_more there seen h =
      map-append (slice_get all) seen names ∙ ap (λ (os : List (Option log.Atom)). os ++ map (slice_get all) names) h
      ∙ ap (λ (os : List (Option log.Atom)). map Some (noted_atoms before.lines) ++ os) (there_all all names there ∙ ap (map Some) (sym (begun_noted all names ks)))
      ∙ sym (map-append Some (noted_atoms before.lines) (noted_atoms more))
      ∙ ap (map Some) (sym (noted_both before.lines more))
      ∙ ap (λ (w : WorkList Note). map Some (noted_atoms w.lines)) (sym is)

-- ---- Where it leads

in_both : (xs ys : List ℕ) (n i x : ℕ) → slice_get (xs ++ take n ys) i ≡ Some x → slice_get (xs ++ ys) i ≡ Some x
in_both [] ys n i x e = front n ys i x e where
  front : (n : ℕ) (ys : List ℕ) (i x : ℕ) → slice_get (take n ys) i ≡ Some x → slice_get ys i ≡ Some x
  front zero ys i x e = cc
  front (suc n) [] i x e = cc
  front (suc n) (y ∷ ys) zero x e = e
  front (suc n) (y ∷ ys) (suc i) x e = front n ys i x e
in_both (y ∷ xs) ys n zero x e = e
in_both (y ∷ xs) ys n (suc i) x e = in_both xs ys n i x e

once_both : (xs ys : List ℕ) (n : ℕ) → StandOnce (xs ++ ys) → StandOnce (xs ++ take n ys)
once_both xs ys n h i j x a b = h i j x (in_both xs ys n i x a) (in_both xs ys n j x b)

module _ (goes_on : LegalWorkGoesOn) (tells : TellsLits) (tells_spec : TellsLiterals) (sums : SumsRenumber) (numbers : TermHasItsNumber) (all : List log.Atom) (ids : List ℕ) (from : ℕ) (ns : List Node) (q : Task) (before : WorkList Note)
    (may : MayLearnMore ns q all ids from before) where
  abbrev lit : ℕ → Literal
  lit i = atom_literal ns all i

  abbrev seen : List ℕ
  seen = take from ids

  abbrev others : List ℕ
  others = drop from ids

  was : (search_after ns before).atoms ≡ map lit seen
  was = named_as ns all before seen may.named

  once : StandOnce (seen ++ others)
  once = subst StandOnce (sym (take-append-drop from ids)) may.once

  -- the first of the others are named
  module _ (n : ℕ) (work : WorkList Note) (lines : work.lines ≡ before.lines ++ atom_lines all (take n others)) where
    names : List ℕ
    names = take n others

    within_names : All (IsAtomAt ns all) (take n others)
    within_names = All-take (IsAtomAt ns all) n others (All-drop (IsAtomAt ns all) from ids may.within)

    nameable_names : All (λ i. IsPlainAtom q (lit i)) (take n others)
    nameable_names = All-take (λ i. IsPlainAtom q (lit i)) n others (All-drop (λ i. IsPlainAtom q (lit i)) from ids may.nameable)

    pub stood_more : search_after ns work ≡ record (search_after ns before) { atoms = (search_after ns before).atoms ++ map lit (take n others) }
    stood_more =
        ap (λ (ls : List (WorkLine Note)). after_lines at_first (map (noted_line ns) ls)) lines
        ∙ ap (after_lines at_first) (lines_both ns before.lines (atom_lines all (take n others)))
        ∙ after_both at_first (map (noted_line ns) before.lines) (map (noted_line ns) (atom_lines all (take n others)))
        ∙ after_names goes_on tells tells_spec sums numbers ns may.table all may.atoms (take n others) (search_after ns before) (recursion_from_All (IsAtomAt ns all) (take n others) within_names)

    pub leads_more : (x : Point) → Lead q at_first no_point (noted_list ns before).lines x → Lead q at_first no_point (noted_list ns work).lines x
    leads_more x lead =
        let front = map (noted_line ns) before.lines in
        let behind = map (noted_line ns) (atom_lines all (take n others)) in
        let more : Lead q (search_after ns before) x behind x =
        lead_names goes_on tells tells_spec sums numbers ns may.table all may.atoms q x seen (take n others) (search_after ns before) was (once_both seen others n once)
        (recursion_from_All (IsAtomAt ns all) seen (All-take (IsAtomAt ns all) from ids may.within))
        (recursion_from_All (IsAtomAt ns all) (take n others) within_names) (recursion_from_All (λ i. IsPlainAtom q (lit i)) (take n others) nameable_names) in
        subst (λ (ls : List (WorkLine Note)). Lead q at_first no_point (map (noted_line ns) ls) x) (sym lines)
        (subst (λ (ls : List (WorkLine spec.Note)). Lead q at_first no_point ls x) (sym (lines_both ns before.lines (atom_lines all (take n others))))
        (goes_on.lines q at_first no_point x x front behind lead more))

    pub stands_more : (t : Theory) → Stands (IsAt t ns) ns q before → Stands (IsAt t ns) ns q work
    stands_more t h =
        record {
          point = h.point;
          legal = leads_more h.point h.legal;
          at = subst (λ (s : Search). IsAt t ns s.forms (told_literals s) h.point) (sym stood_more) h.at;
        }

    pub plain_more : All (IsPlainAtom q) (search_after ns before).atoms → All (IsPlainAtom q) (search_after ns work).atoms
    plain_more h =
        subst (λ (s : Search). All (IsPlainAtom q) s.atoms) (sym stood_more)
        (All-append (IsPlainAtom q) (search_after ns before).atoms (map lit (take n others)) h (All-map (IsPlainAtom q) lit (take n others) nameable_names))

-- ---- What comes of it

-- not all of them are noted
pub more_stop : LegalWorkGoesOn → TellsLits → TellsLiterals → SumsRenumber → TermHasItsNumber → (all : List log.Atom) (ids : List ℕ) (from : ℕ) (old new : Theory) (before after : WorkList Note)
    → ((t : Theory) × AreLearnable t all ids) → NotesFirst all (drop from ids) before after → LearnsMore all ids from old new before after (Err Memory)
more_stop goes_on tells tells_spec sums numbers all ids from old new before after learnable f =
    let names = take f.count (drop from ids) in
    let is : after ≡ record before { lines = before.lines ++ (atom_lines all names ++ form_lines []) } =
    f.noted ∙ ap (λ (ls : List (WorkLine Note)). record before { lines = before.lines ++ ls }) (sym (append-nil (atom_lines all names))) in
    let lines : after.lines ≡ before.lines ++ atom_lines all names = ap (λ (w : WorkList Note). w.lines) f.noted in
    record {
      untold = tt;
      of = tt;
      over = tt;
      within = λ ns within. within_more all names [] before after is ns (recursion_from_All (IsAtomAt ns all) names (All-take (IsAtomAt ns all) f.count (drop from ids) (All-drop (IsAtomAt ns all) from ids within)));
      units = units_more all names [] before after is;
      limit = ap (λ (w : WorkList Note). w.limit) f.noted;
      noted = tt;
      same = same_more all names [] before after is;
      stands = tt;
      stopped = λ ns q may h. (h.point, leads_more goes_on tells tells_spec sums numbers all ids from ns q before may f.count after lines h.point h.legal);
      plain = λ ns q may h. plain_more goes_on tells tells_spec sums numbers all ids from ns q before may f.count after lines h;
      unspent = λ e. cc;
    }

-- all are, and then forms
module _ (goes_on : LegalWorkGoesOn) (tells : TellsLits) (tells_spec : TellsLiterals) (sums : SumsRenumber) (numbers : TermHasItsNumber) (all : List log.Atom) (ids : List ℕ) (from : ℕ) (learnable : (t : Theory) × AreLearnable t all ids) (old new : Theory)
    (before named after : WorkList Note) (noted : named ≡ record before { lines = before.lines ++ atom_lines all (drop from ids) }) (forms : NotesForms named after) where
  abbrev unnamed : List ℕ
  unnamed = drop from ids

  is : after ≡ record before { lines = before.lines ++ (atom_lines all unnamed ++ form_lines forms.forms) }
  is =
      forms.noted ∙ ap (λ (w : WorkList Note). record w { lines = w.lines ++ form_lines forms.forms }) noted
      ∙ ap (λ (ls : List (WorkLine Note)). record before { lines = ls }) (append_assoc before.lines (atom_lines all unnamed) (form_lines forms.forms))

  whole : take (length unnamed) unnamed ≡ unnamed
  whole = take_all (length unnamed) unnamed (omega arith)

  lines : named.lines ≡ before.lines ++ atom_lines all (take (length unnamed) unnamed)
  lines = ap (λ (w : WorkList Note). w.lines) noted ∙ ap (λ (xs : List ℕ). before.lines ++ atom_lines all xs) (sym whole)

  within_log : All (λ i. i < length all) unnamed
  within_log = All-drop (λ i. i < length all) from ids (λ k d below. let s = (learnable.1.each k d below).within in slice_get_within all _ s.atom s.at)

  -- all of them are known to the list by their places
  numbered_all : (ns : List Node) (q : Task) → MayLearnMore ns q all ids from before → AreNumbered ns all ids named
  numbered_all ns q may k i at =
      let lit = λ (j : ℕ). atom_literal ns all j in
      let there : (search_after ns named).atoms ≡ map lit ids =
      named_as ns all named ids (subst (AreNotedIn all named.lines) (take-append-drop from ids)
      (noted_more all unnamed [] before named (noted ∙ ap (λ (ls : List (WorkLine Note)). record before { lines = before.lines ++ ls }) (sym (append-nil (atom_lines all unnamed))))
      (recursion_from_All (λ j. j < length all) unnamed within_log) (take from ids) may.named)) in
      let inside = slice_get_within ids k i at in
      let long = length-map ids lit in
      record {
        named = subst (λ (ls : List Literal). k < length ls) (sym there) (omega (arith, inside, long));
        says = ap (λ (ls : List Literal). literal_by ls (k, true)) there ∙ get_or_from_slice_get (map lit ids) k (lit i) never (mapped ids k at);
      }
    where
      mapped : (xs : List ℕ) (j : ℕ) → slice_get xs j ≡ Some i → slice_get (map (atom_literal ns all) xs) j ≡ Some (atom_literal ns all i)
      mapped [] j e = cc
      mapped (x ∷ xs) zero e = ap (option_map (atom_literal ns all)) e
      mapped (x ∷ xs) (suc j) e = mapped xs j e

  plain_all : (ns : List Node) (q : Task) → MayLearnMore ns q all ids from before → All (IsPlainAtom q) (search_after ns before).atoms → All (IsPlainAtom q) (search_after ns after).atoms
  plain_all ns q may h =
      subst (All (IsPlainAtom q)) (sym (forms_same ns named after forms)) (plain_more goes_on tells tells_spec sums numbers all ids from ns q before may (length unnamed) named lines h)

  stands_named : (ns : List Node) (q : Task) (t : Theory) → MayLearnMore ns q all ids from before → Stands (IsAt t ns) ns q before → Stands (IsAt t ns) ns q named
  stands_named ns q t may h = stands_more goes_on tells tells_spec sums numbers all ids from ns q before may (length unnamed) named lines t h

  pub more_joined : (r : Result (Unit {0}) Stop) → HasTold new [] → OnOk r (IsOf new all ids) → OnOk r ((ns : List Node) → IsOver old ns → All (IsAtomAt ns all) ids → IsOver new ns)
      → OnOk r ((ns : List Node) (q : Task) → All (IsAtomAt ns all) ids → AreNumbered ns all ids named → Stands (IsAt old ns) ns q named → Stands (IsAt new ns) ns q after)
      → IfErr r (λ e. (ns : List Node) (q : Task) → All (IsAtomAt ns all) ids → AreNumbered ns all ids named → Stands (IsAt old ns) ns q named → EndsWith ns q after e)
      → IfErr r (λ e. e ≡ Spent → ⊥) → LearnsMore all ids from old new before after r
  more_joined (Ok u) untold of over ok err unspent =
      record {
        untold = untold;
        of = of;
        over = over;
        within = λ ns within. within_more all unnamed forms.forms before after is ns (recursion_from_All (IsAtomAt ns all) unnamed (All-drop (IsAtomAt ns all) from ids within));
        units = units_more all unnamed forms.forms before after is;
        limit = ap (λ (w : WorkList Note). w.limit) is;
        noted = λ h.
            subst (AreNotedIn all after.lines) (take-append-drop from ids)
            (noted_more all unnamed forms.forms before after is (recursion_from_All (λ j. j < length all) unnamed within_log) (take from ids) h);
        same = same_more all unnamed forms.forms before after is;
        stands = λ ns q may h. ok ns q may.within (numbered_all ns q may) (stands_named ns q old may h);
        stopped = tt;
        plain = plain_all;
        unspent = tt;
      }
  more_joined (Err e) untold of over ok err unspent =
      record {
        untold = tt;
        of = tt;
        over = tt;
        within = λ ns within. within_more all unnamed forms.forms before after is ns (recursion_from_All (IsAtomAt ns all) unnamed (All-drop (IsAtomAt ns all) from ids within));
        units = units_more all unnamed forms.forms before after is;
        limit = ap (λ (w : WorkList Note). w.limit) is;
        noted = tt;
        same = same_more all unnamed forms.forms before after is;
        stands = tt;
        stopped = λ ns q may h. err ns q may.within (numbered_all ns q may) (stands_named ns q old may h);
        plain = plain_all;
        unspent = unspent;
      }
