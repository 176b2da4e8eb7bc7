-- A theory that learns of atoms, one after another.
use Rattle.std.proofs.Common.{◌≡◌, inl, inr, ℕ, zero, suc, ◌+◌, ◌-◌, ◌<◌, ◌++◌, true, List, [], ◌∷◌, length, drop, get_or, map, take, Some, Result, Ok, Err, IfErr, OnOk, refl, sym, ap, subst, ◌∙◌, append-nil, append_assoc, arith}
use Rattle.std.specs.Prelude.{All, Contains, slice_get}
use Rattle.std.proofs.lemmas.List.{length-drop, map-append, take_more}
use Rattle.std.proofs.lemmas.Option.{get_or_from_slice_get, slice_get-get_or, slice_get_within}
use Rattle.std.proofs.lemmas.List.Elements.{All-contains, All-from_get_or, All-take, Contains-append_left, Contains-append_right, Contains-get_or, recursion_from_All}
use Rattle.nz_lists.proofs.Members.{has_found, map_has}
use Rattle.nz_spec.specs.search.Search.{Task, at_first, no_point, terms_known}
use Rattle.nz_spec.specs.laws.LegalWork.{LegalWorkGoesOn}
use Rattle.nz_spec.specs.laws.Renumbering.{SumsRenumber}
use Rattle.nz_spec.specs.terms.FormOf.{TermHasItsNumber}
use Rattle.nz_spec.specs.clauses.Literal.{TellsLiterals}
use Rattle.nz_spec.specs.terms.Table.{Node}
use Rattle.nz_spec.specs.search.Work.{WorkLine, WorkList, NoteLine, with_line}
use Rattle.nz_log.specs.declared.atoms.Atom.{Atom}
use Rattle.nz_log.specs.declared.atoms.Atom.TheVariants.{Term, AtMost}
use Rattle.nz_search.specs.declared.note.Note.{Note}
use Rattle.nz_search.specs.declared.note.Note.TheVariants as notes
use Rattle.nz_search.specs.declared.stop.Stop.{Stop}
use Rattle.nz_search.specs.declared.stop.Stop.TheVariants.{Memory, Spent}
use Rattle.nz_log.specs.Atoms.{IsAtomIn, IsLitIn, TellsLits}
use Rattle.nz_search.specs.Notes.{forms_over}
use Rattle.nz_search.specs.Standing.{Stands, search_after}
use Rattle.nz_reals.specs.Joins.{IsAtomFor, IsNumberIn, MayLearn, NotesForm}
use Rattle.nz_reals.specs.Stands.{HasTold, IsAt, IsKnownAtom, IsOf, IsOver}
use Rattle.nz_reals.specs.Starts.{MayRestart, NotesStart}
use Rattle.nz_reals.specs.State.{Theory}
use Rattle.nz_sat.specs.Numbers.{IsAtomAt}
use Rattle.nz_engine.specs.Checking.{AreLearnable, AreNumbered, BeginsAnew, EndsWith, HasBegun, IsLearnable, IsNonzero, IsPlain, MayBegin, NotesFirst, NotesForms, atom_lines, form_lines}
use Rattle.nz_engine.specs.Joining.{AreNumbersBelow}
use Rattle.nz_engine.proofs.AssertionPlaces.{lower_or_not}
use Rattle.nz_engine.proofs.CheckEnds.{lead_none, plain_none}
use Rattle.nz_engine.proofs.AtomNotes.{atoms_no_unit, atoms_within, begun_more, begun_none, forms_no_unit, forms_within, leads_first, notes_all, numbered_first, numbered_still, plain_all, plain_first, plain_still, stands_named, started}

-- the first atoms, so many of them, and those of these places behind them
abbrev pub atoms_at : List ℕ → ℕ → List ℕ → List ℕ
atoms_at ids from places = take from ids ++ map (λ (k : ℕ). get_or ids (from + k) 0) places

-- It was told nothing, knows the atoms of these places, and stands where the list leads, to which notes of forms were added, if it did at first.
pub record IsBeginning (all : List Atom) (ids : List ℕ) (from : ℕ) (places : List ℕ) (first : Theory) (old work : WorkList Note) (t : Theory) : Type 0 where
  pub untold : HasTold t []
  pub of : IsOf t all (atoms_at ids from places)
  pub over : (ns : List Node) → IsOver first ns → All (IsAtomAt ns all) ids → IsOver t ns
  pub forms : NotesForms old work
  pub stands : (ns : List Node) (q : Task) → All (IsAtomAt ns all) ids → AreNumbered ns all ids old → Stands (IsAt first ns) ns q old → Stands (IsAt t ns) ns q work

pub begins : (all : List Atom) (ids : List ℕ) (from : ℕ) (first : Theory) (work : WorkList Note) → HasTold first [] → IsOf first all (take from ids)
    → IsBeginning all ids from [] first work work first
begins all ids from first work untold of =
    record {
      untold = untold;
      of = subst (IsOf first all) (sym (append-nil (take from ids))) of;
      over = λ ns over within. over;
      forms = record { forms = []; noted = ap (λ ls. record work { lines = ls }) (sym (append-nil work.lines)) };
      stands = λ ns q within numbered h. h;
    }

-- a place of a front
in_front : (k n : ℕ) (xs : List ℕ) (x : ℕ) → k < n → slice_get xs k ≡ Some x → slice_get (take n xs) k ≡ Some x
in_front k zero xs x below at = absurd (omega (arith, below))
in_front k (suc n) [] x below at = cc
in_front zero (suc n) (y ∷ xs) x below at = at
in_front (suc k) (suc n) (y ∷ xs) x below at = in_front k n xs x (omega (arith, below)) at

-- Where each place behind the front is among these, it knows all atoms.
pub of_all : (t : Theory) (all : List Atom) (ids : List ℕ) (from : ℕ) (places : List ℕ) → AreNumbersBelow (length (drop from ids)) places → IsOf t all (atoms_at ids from places) → IsOf t all ids
of_all t all ids from places listed of =
    let is_known : ℕ → Type 0 = λ id. (a : Atom) × (slice_get all id ≡ Some a) × IsKnownAtom t id a in
    let long = length-drop from ids in
    let behind = map (λ (j : ℕ). get_or ids (from + j) 0) places in
    record {
      all = All-from_get_or is_known ids 0
          (λ k below.
          All-contains is_known (atoms_at ids from places) (get_or ids k 0) of.all
          (elim (lower_or_not k from) [
            | inl front ↦ Contains-append_left (take from ids) behind (get_or ids k 0) (has_found (take from ids) k (get_or ids k 0) (in_front k from ids (get_or ids k 0) front (slice_get-get_or ids k 0 below)))
            | inr past ↦
                let shifted : from + (k - from) ≡ k = omega (arith, past) in
                Contains-append_right (take from ids) behind (get_or ids k 0)
                (subst (λ (j : ℕ). Contains behind (get_or ids j 0)) shifted
                (map_has (λ (j : ℕ). get_or ids (from + j) 0) places (k - from) (listed.each (k - from) (omega (arith, long, past, below)))))
          ]));
      right = of.right;
    }

-- notes of forms, and then one more at most
more_forms : (number : ℕ) (old work new : WorkList Note) → NotesForms old work → NotesForm number work new → NotesForms old new
more_forms number old work new forms (inl same) = record { forms = forms.forms; noted = same ∙ forms.noted }
more_forms number old work new forms (inr one) =
    record {
      forms = forms.forms ++ number ∷ [];
      noted = one ∙ ap (λ (w : WorkList Note). with_line w (NoteLine (notes.Form number))) forms.noted
          ∙ ap (λ ls. record old { lines = ls })
          (append_assoc old.lines (form_lines forms.forms) (NoteLine (notes.Form number) ∷ [])
          ∙ ap (λ ls. old.lines ++ ls) (sym (map-append (λ (k : ℕ). NoteLine (notes.Form k)) forms.forms (number ∷ []))));
    }

-- The next place is n, and the atom there id.
module _ (all : List Atom) (ids : List ℕ) (from : ℕ) (places : List ℕ) (i : ℕ) (first : Theory) (old work : WorkList Note) (t : Theory) (h : IsBeginning all ids from (take i places) first old work t)
    (listed : AreNumbersBelow (length (drop from ids)) places) (inside : i < length places) (n id : ℕ) (next : n ≡ from + get_or places i 0) (is : id ≡ get_or ids n 0) where
  at_number : slice_get ids n ≡ Some id
  at_number =
      let long = length-drop from ids in
      let below = listed.below (get_or places i 0) (Contains-get_or places i 0 inside) in
      slice_get-get_or ids n 0 (omega (arith, long, below, next)) ∙ ap Some (sym is)

  -- the atom comes behind those before it
  one_more : atoms_at ids from (take i places) ++ id ∷ [] ≡ atoms_at ids from (take (i + 1) places)
  one_more =
      let at = λ (k : ℕ). get_or ids (from + k) 0 in
      append_assoc (take from ids) (map at (take i places)) (id ∷ [])
      ∙ ap (λ (x : ℕ). take from ids ++ (map at (take i places) ++ x ∷ [])) (is ∙ ap (λ (k : ℕ). get_or ids k 0) next)
      ∙ ap (λ (xs : List ℕ). take from ids ++ xs) (sym (map-append at (take i places) (get_or places i 0 ∷ [])))
      ∙ ap (atoms_at ids from) (sym (take_more places i 0 inside))

  within_here : (ns : List Node) → All (IsAtomAt ns all) ids → IsLitIn ns all (record { atom = id; sign = true })
  within_here ns within = All-contains (IsAtomAt ns all) ids id within (has_found ids n id at_number)

  -- it may learn of the next one
  pub may_learn : AreLearnable first all ids → IsAtomFor t all id
  may_learn learnable =
      let ns = learnable.table in
      let one : IsLearnable ns all id = All-contains (IsLearnable ns all) ids id learnable.each (has_found ids n id at_number) in
      let within : All (IsAtomAt ns all) ids = λ k e inside. (learnable.each k e inside).within in
      let over : IsOver t ns = h.over ns learnable.over within in
      let nonzero : IsNonzero one.within.atom = subst IsNonzero (get_or_from_slice_get all id one.within.atom (Term 0) one.within.at) one.nonzero in
      record { atom = one.within.atom; at = one.within.at; may = by_atom ns over one.within.atom one.within.within nonzero }
    where
      by_atom : (ns : List Node) → IsOver t ns → (a : Atom) → IsAtomIn ns a → IsNonzero a → MayLearn t a
      by_atom ns over (Term u) within nonzero = tt
      by_atom ns over (AtMost b) within nonzero = record { table = ns; over = over; units = within; nonzero = nonzero }

  number_here : (ns : List Node) → AreNumbered ns all ids old → IsNumberIn ns all id n work
  number_here ns numbered = numbered_still ns all id n old work h.forms (numbered n id at_number)

  -- and then it knows one more
  module _ (new : Theory) (after : WorkList Note) (lines : NotesForm n work after) where
    pub learns : HasTold new [] → IsOf new all (atoms_at ids from (take i places) ++ id ∷ []) → ((ns : List Node) → IsLitIn ns all (record { atom = id; sign = true }) → IsOver t ns → IsOver new ns)
        → ((ns : List Node) (q : Task) → IsLitIn ns all (record { atom = id; sign = true }) → IsNumberIn ns all id n work → Stands (IsAt t ns) ns q work → Stands (IsAt new ns) ns q after)
        → IsBeginning all ids from (take (i + 1) places) first old after new
    learns untold of over stands =
        record {
          untold = untold;
          of = subst (IsOf new all) one_more of;
          over = λ ns was within. over ns (within_here ns within) (h.over ns was within);
          forms = more_forms n old work after h.forms lines;
          stands = λ ns q within numbered stood. stands ns q (within_here ns within) (number_here ns numbered) (h.stands ns q within numbered stood);
        }

    -- or it stops there
    pub stops : (e : Stop) → ((ns : List Node) (q : Task) → IsLitIn ns all (record { atom = id; sign = true }) → IsNumberIn ns all id n work → Stands (IsAt t ns) ns q work → EndsWith ns q after e)
        → (ns : List Node) (q : Task) → All (IsAtomAt ns all) ids → AreNumbered ns all ids old → Stands (IsAt first ns) ns q old → EndsWith ns q after e
    stops e f ns q within numbered stood = f ns q (within_here ns within) (number_here ns numbered) (h.stands ns q within numbered stood)

    pub forms_after : NotesForms old after
    forms_after = more_forms n old work after h.forms lines

-- ---- It begins anew

-- there is no room for the note of its forms
pub restart_stops : (all : List Atom) (ids : List ℕ) (t new : Theory) (work : WorkList Note) → work.lines ≡ [] → BeginsAnew all ids t new work work (Err Memory)
restart_stops all ids t new work none =
    record {
      untold = tt;
      of = tt;
      over = tt;
      begun = begun_none t all ids work none;
      noted = tt;
      stands = tt;
      stopped = λ ns q may. (no_point, lead_none q ns work none);
      plain = λ ns q may. plain_none q ns work none;
      unspent = λ e. cc;
    }

module _ (goes_on : LegalWorkGoesOn) (tells : TellsLits) (tells_spec : TellsLiterals) (sums : SumsRenumber) (numbers : TermHasItsNumber) (all : List Atom) (ids : List ℕ) (learnable : (t : Theory) × AreLearnable t all ids) (t first : Theory) (work mid : WorkList Note) (none : work.lines ≡ [])
    (n : NotesStart t work mid) (stands : (ns : List Node) (q : Task) → IsOver t ns → MayRestart t ns (terms_known q) → Stands (IsAt first ns) ns q mid) where
  stood : (ns : List Node) (q : Task) → MayBegin t ns q all ids → Stands (IsAt first ns) ns q mid
  stood ns q may = stands ns q may.over may.rest

  begun_start : HasBegun t all ids work mid
  begun_start = begun_more t all ids work work mid (NoteLine (notes.Start n.start) ∷ []) (begun_none t all ids work none) n.line (λ ns over within. (n.within ns over, tt)) refl

  -- not all atoms are noted
  pub names_stop : (new : Theory) (after : WorkList Note) → NotesFirst all ids mid after → BeginsAnew all ids t new work after (Err Memory)
  names_stop new after f =
      record {
        untold = tt;
        of = tt;
        over = tt;
        begun = begun_more t all ids work mid after (atom_lines all (take f.count ids)) begun_start f.noted
            (λ ns over within. atoms_within ns all (take f.count ids) (recursion_from_All (IsAtomAt ns all) (take f.count ids) (All-take (IsAtomAt ns all) f.count ids within)))
            (atoms_no_unit all (take f.count ids));
        noted = tt;
        stands = tt;
        stopped = λ ns q may.
            let h = stood ns q may in (
              h.point,
              leads_first goes_on tells tells_spec sums numbers ns may.over.table all may.atoms mid (forms_over ns n.start.forms.items) (started ns t work mid none n) t q ids may after f.count
                  (ap (λ (w : WorkList Note). w.lines) f.noted) h.point h.legal,
            );
        plain = λ ns q may.
            plain_first goes_on tells tells_spec sums numbers ns may.over.table all may.atoms mid (forms_over ns n.start.forms.items) (started ns t work mid none n) t q ids may after f.count
            (ap (λ (w : WorkList Note). w.lines) f.noted);
        unspent = λ e. cc;
      }

  -- all are, and then forms
  module _ (names : WorkList Note) (named : names ≡ record mid { lines = mid.lines ++ atom_lines all ids }) (new : Theory) (after : WorkList Note) (forms : NotesForms names after) where
    begun_all : HasBegun t all ids work after
    begun_all =
        begun_more t all ids work names after (form_lines forms.forms)
        (begun_more t all ids work mid names (atom_lines all ids) begun_start named (λ ns over within. atoms_within ns all ids (recursion_from_All (IsAtomAt ns all) ids within)) (atoms_no_unit all ids))
        forms.noted (λ ns over within. forms_within ns forms.forms) (forms_no_unit forms.forms)

    lines_all : after.lines ≡ NoteLine (notes.Start n.start) ∷ (atom_lines all ids ++ form_lines forms.forms)
    lines_all =
        ap (λ (w : WorkList Note). w.lines) forms.noted ∙ ap (λ (w : WorkList Note). w.lines ++ form_lines forms.forms) named
        ∙ ap (λ (w : WorkList Note). w.lines ++ atom_lines all ids ++ form_lines forms.forms) n.line
        ∙ ap (λ (ls : List (WorkLine Note)). ls ++ NoteLine (notes.Start n.start) ∷ [] ++ atom_lines all ids ++ form_lines forms.forms) none

    names_lead : (ns : List Node) (q : Task) → MayBegin t ns q all ids → Stands (IsAt first ns) ns q names
    names_lead ns q may =
        stands_named goes_on tells tells_spec sums numbers ns may.over.table all may.atoms mid (forms_over ns n.start.forms.items) (started ns t work mid none n) t q ids may names first
        (ap (λ (w : WorkList Note). w.lines) named) (stood ns q may)

    numbered : (ns : List Node) (q : Task) → MayBegin t ns q all ids → AreNumbered ns all ids names
    numbered ns q may =
        numbered_first goes_on tells tells_spec sums numbers ns may.over.table all may.atoms mid (forms_over ns n.start.forms.items) (started ns t work mid none n) t q ids may names
        (ap (λ (w : WorkList Note). w.lines) named)

    names_plain : (ns : List Node) (q : Task) → MayBegin t ns q all ids → IsPlain q at_first (search_after ns after)
    names_plain ns q may =
        plain_still ns q at_first names after forms
        (plain_all goes_on tells tells_spec sums numbers ns may.over.table all may.atoms mid (forms_over ns n.start.forms.items) (started ns t work mid none n) t q ids may names
        (ap (λ (w : WorkList Note). w.lines) named))

    within_log : All (λ i. i < length all) ids
    within_log k d below = let s = (learnable.1.each k d below).within in slice_get_within all _ s.atom s.at

    pub sums_joined : (r : Result (Unit {0}) Stop) → ((ns : List Node) → IsOver t ns → IsOver first ns) → HasTold new [] → OnOk r (IsOf new all ids)
        → OnOk r ((ns : List Node) → IsOver first ns → All (IsAtomAt ns all) ids → IsOver new ns)
        → OnOk r ((ns : List Node) (q : Task) → All (IsAtomAt ns all) ids → AreNumbered ns all ids names → Stands (IsAt first ns) ns q names → Stands (IsAt new ns) ns q after)
        → IfErr r (λ e. (ns : List Node) (q : Task) → All (IsAtomAt ns all) ids → AreNumbered ns all ids names → Stands (IsAt first ns) ns q names → EndsWith ns q after e)
        → IfErr r (λ e. e ≡ Spent → ⊥) → BeginsAnew all ids t new work after r
    sums_joined (Ok u) kept untold of over ok err unspent =
        record {
          untold = untold;
          of = of;
          over = λ ns was within. over ns (kept ns was) within;
          begun = begun_all;
          noted = notes_all all ids forms.forms n.start after within_log lines_all;
          stands = λ ns q may. ok ns q may.within (numbered ns q may) (names_lead ns q may);
          stopped = tt;
          plain = names_plain;
          unspent = tt;
        }
    sums_joined (Err e) kept untold of over ok err unspent =
        record {
          untold = tt;
          of = tt;
          over = tt;
          begun = begun_all;
          noted = tt;
          stands = tt;
          stopped = λ ns q may. err ns q may.within (numbered ns q may) (names_lead ns q may);
          plain = names_plain;
          unspent = unspent;
        }
