-- Work lists that go on by lines of a search, and where they lead.
use Rattle.std.proofs.Common.{◌≡◌, ◌≤◌, if◌then◌else◌, List, [], ◌∷◌, ◌++◌, map, refl, sym, ap, subst, ◌∙◌, arith, append_assoc, ℕ, length, Result, Ok, Err, inl, false}
use Rattle.std.specs.List.{AllByRecursion}
use Rattle.std.proofs.lemmas.List.{append-nil, map-append, map_push}
use Rattle.std.proofs.lemmas.List.Sums.{fold-append, sum_by-append}
use Rattle.nz_spec.specs.laws.LegalWork.{LegalWorkGoesOn, PivotsAreLegal, pivot_lines}
use Rattle.nz_spec.specs.search.Legal.{Lead, MayFollow, MayTell, after_line, after_lines}
use Rattle.nz_spec.specs.search.Notes as notes
use Rattle.nz_spec.specs.search.Notes.{told_atom}
use Rattle.nz_spec.specs.search.Search as legal
use Rattle.nz_spec.specs.search.Search.{Task, ToldLiteral, at_first, literal_by, no_point, position_of, told_literals}
use Rattle.nz_spec.specs.simplex.Bland.{IsCheckStep, Point, Position}
use Rattle.nz_spec.specs.simplex.Pivots.{MayPivot, Pivot}
use Rattle.nz_spec.specs.simplex.PositionMoves.{AreConsistent}
use Rattle.nz_spec.specs.terms.Table.{Node}
use Rattle.nz_spec.specs.search.Work.{BranchEntry, DecisionEntry, FoundEntry, LearnedEntry, NoteLine, PivotEntry, UnitLine, WorkLine, WorkList, is_unit, unit_count, with_line}
use Rattle.nz_log.specs.declared.atoms.Atom as log
use Rattle.nz_search.specs.declared.note.Note.{Note}
use Rattle.nz_search.specs.declared.note.Note.TheVariants.{Start, Atom, Bound, Form, Under, Told}
use Rattle.nz_search.specs.Notes.{AreNotedWithin, noted_line, noted_list}
use Rattle.nz_search.specs.Standing.{search_after, Ends, IsStoppedAt, IsWanting, Standing, Stands}
use Rattle.nz_search.specs.Theories.{AddsPivots, EndsAt, IsPlaceOfStep, Leads}
use Rattle.nz_sat.specs.Numbers.{noted_atoms, numbered}
use Rattle.nz_sat.specs.Sats.{IsSameSearch}
use Rattle.nz_sat.specs.Theories.{AddsLines, IsOfSearch, IsOfTheory, told_line}
use Rattle.nz_sat.proofs.AtomNumbers.{none_named, noted-append}
use Rattle.nz_spec.specs.clauses.Literal as spec
use Rattle.nz_spec.specs.simplex.LiteralBounds.{moved_by}
use Rattle.nz_log.specs.declared.lits.Lit.{Lit}
use Rattle.nz_place.specs.declared.place.Place.{Place}
use Rattle.nz_search.specs.declared.stop.Stop.{Stop}
use Rattle.nz_search.specs.declared.stop.Stop.TheVariants.{Wide, Spent, Memory}
use Rattle.nz_log.specs.Atoms.{literal_in}
use Rattle.nz_log.specs.Logs.{LogState}
use Rattle.nz_search.specs.Places.{OnWide}

-- ---- Lists that go on

pub search_more : (ns : List Node) (work : WorkList Note) (more : List (WorkLine Note))
    → search_after ns (record work { lines = work.lines ++ more }) ≡ after_lines (search_after ns work) (map (noted_line ns) more)
search_more ns work more =
    ap (after_lines at_first) (map-append (noted_line ns) work.lines more) ∙ fold-append after_line at_first (map (noted_line ns) work.lines) (map (noted_line ns) more)

-- ---- Lines of a kind

each_join : (P : WorkLine Note → Type 0) (xs ys : List (WorkLine Note)) → AllByRecursion P xs → AllByRecursion P ys → AllByRecursion P (xs ++ ys)
each_join P [] ys h k = k
each_join P (x ∷ xs) ys h k = (h.0, each_join P xs ys h.1 k)

module _ {P : WorkLine Note → Type 0} where
  pub adds_none : (work : WorkList Note) → AddsLines P work work
  adds_none work = record { more = []; joined = ap (λ (lines : List (WorkLine Note)). record work { lines = lines }) (sym (append-nil work.lines)); each = tt }

  pub adds_line : (work : WorkList Note) (line : WorkLine Note) → P line → AddsLines P work (with_line work line)
  adds_line work line kind = record { more = line ∷ []; joined = refl; each = (kind, tt) }

  pub adds_far : (a b c : WorkList Note) → AddsLines P a b → AddsLines P b c → AddsLines P a c
  adds_far a b c g h =
      record {
        more = g.more ++ h.more;
        joined = h.joined ∙ ap (λ (w : WorkList Note). record w { lines = w.lines ++ h.more }) g.joined
            ∙ ap (λ (lines : List (WorkLine Note)). record a { lines = lines }) (append_assoc a.lines g.more h.more);
        each = each_join P g.more h.more g.each h.each;
      }

  module _ (old new : WorkList Note) (a : AddsLines P old new) where
    pub adds_limit : new.limit ≡ old.limit
    adds_limit = ap (λ (w : WorkList Note). w.limit) a.joined

    pub adds_units : unit_count old.lines ≤ unit_count new.lines
    adds_units =
        let sum = ap (λ (w : WorkList Note). unit_count w.lines) a.joined ∙ sum_by-append (λ (x : WorkLine Note). if is_unit x then 1 else 0) old.lines a.more in
        omega (arith, sum)

    -- what each of the lines keeps of where a list leads
    pub adds_keep : {X : Type 0} (f : legal.Search → X) (ns : List Node) → ((r : legal.Search) (line : WorkLine Note) → P line → f (after_line r (noted_line ns line)) ≡ f r)
        → f (search_after ns new) ≡ f (search_after ns old)
    adds_keep f ns keeps =
        ap (λ (w : WorkList Note). f (search_after ns w)) a.joined ∙ ap f (search_more ns old a.more) ∙ all a.more a.each (search_after ns old) where
          all : (lines : List (WorkLine Note)) → AllByRecursion P lines → (r : legal.Search) → f (after_lines r (map (noted_line ns) lines)) ≡ f r
          all [] h r = refl
          all (x ∷ xs) h r = all xs h.1 (after_line r (noted_line ns x)) ∙ keeps r x h.0

-- what comes of a theory comes of a search
pub search_line : (line : WorkLine Note) → IsOfTheory line → IsOfSearch line
search_line (UnitLine (DecisionEntry atom sign)) h = tt
search_line (UnitLine (LearnedEntry keep clause)) h = tt
search_line (UnitLine (PivotEntry leaves enters)) h = tt
search_line (UnitLine (BranchEntry atom)) h = h
search_line (UnitLine (FoundEntry goal value)) h = h
search_line (NoteLine (Start start)) h = h
search_line (NoteLine (Atom t)) h = h
search_line (NoteLine (Bound b)) h = h
search_line (NoteLine (Form atom)) h = h
search_line (NoteLine (Under literals)) h = h
search_line (NoteLine (Told atom sign)) h = tt

search_lines : (lines : List (WorkLine Note)) → AllByRecursion IsOfTheory lines → AllByRecursion IsOfSearch lines
search_lines [] h = tt
search_lines (x ∷ xs) h = (search_line x h.0, search_lines xs h.1)

pub adds_wider : (old new : WorkList Note) → AddsLines IsOfTheory old new → AddsLines IsOfSearch old new
adds_wider old new a = record { more = a.more; joined = a.joined; each = search_lines a.more a.each }

pivots_each : (ps : List Pivot) → AllByRecursion IsOfTheory (map (λ (p : Pivot). UnitLine (PivotEntry p.leaves p.enters)) ps)
pivots_each [] = tt
pivots_each (p ∷ ps) = (tt, pivots_each ps)

pub adds_pivots : (old new : WorkList Note) → AddsPivots old new → AddsLines IsOfTheory old new
adds_pivots old new a = record { more = map (λ (p : Pivot). UnitLine (PivotEntry p.leaves p.enters)) a.pivots; joined = a.joined; each = pivots_each a.pivots }

pub pivots_noted : (ns : List Node) (ps : List Pivot) → map (noted_line ns) (map (λ (p : Pivot). UnitLine (PivotEntry p.leaves p.enters)) ps) ≡ pivot_lines ps
pivots_noted ns [] = refl
pivots_noted ns (p ∷ ps) = ap (λ (lines : List (WorkLine notes.Note)). UnitLine (PivotEntry p.leaves p.enters) ∷ lines) (pivots_noted ns ps)

pub adds_noted : (old new : WorkList Note) → AddsLines IsOfSearch old new → noted_atoms new.lines ≡ noted_atoms old.lines
adds_noted old new a =
    ap (λ (w : WorkList Note). noted_atoms w.lines) a.joined ∙ noted-append old.lines a.more
    ∙ ap (λ (us : List log.Atom). noted_atoms old.lines ++ us) (none_named a.more a.each) ∙ append-nil (noted_atoms old.lines)

-- what they name is in each table
within_append : (ns : List Node) (xs ys : List (WorkLine Note)) → AreNotedWithin ns xs → AreNotedWithin ns ys → AreNotedWithin ns (xs ++ ys)
within_append ns [] ys h k = k
within_append ns (UnitLine entry ∷ xs) ys h k = within_append ns xs ys h k
within_append ns (NoteLine note ∷ xs) ys h k = (h.0, within_append ns xs ys h.1 k)

search_within : (ns : List Node) (lines : List (WorkLine Note)) → AllByRecursion IsOfSearch lines → AreNotedWithin ns lines
search_within ns [] h = tt
search_within ns (UnitLine entry ∷ lines) h = search_within ns lines h.1
search_within ns (NoteLine (Start start) ∷ lines) h = absurd h.0
search_within ns (NoteLine (Atom t) ∷ lines) h = absurd h.0
search_within ns (NoteLine (Bound b) ∷ lines) h = absurd h.0
search_within ns (NoteLine (Form atom) ∷ lines) h = absurd h.0
search_within ns (NoteLine (Under literals) ∷ lines) h = absurd h.0
search_within ns (NoteLine (Told atom sign) ∷ lines) h = (tt, search_within ns lines h.1)

pub adds_within : (ns : List Node) (old new : WorkList Note) → AddsLines IsOfSearch old new → AreNotedWithin ns old.lines → AreNotedWithin ns new.lines
adds_within ns old new a h =
    subst (λ (w : WorkList Note). AreNotedWithin ns w.lines) (sym a.joined) (within_append ns old.lines a.more h (search_within ns a.more a.each))

-- ---- What lines keep

pub learned_kept : (ns : List Node) (r : legal.Search) (line : WorkLine Note) → IsOfTheory line → (after_line r (noted_line ns line)).learned ≡ r.learned
learned_kept ns r (NoteLine (Start start)) h = absurd h
learned_kept ns r (NoteLine (Atom t)) h = absurd h
learned_kept ns r (NoteLine (Bound b)) h = absurd h
learned_kept ns r (NoteLine (Form atom)) h = absurd h
learned_kept ns r (NoteLine (Under literals)) h = absurd h
learned_kept ns r (NoteLine (Told atom sign)) h = refl
learned_kept ns r (UnitLine (DecisionEntry atom sign)) h = absurd h
learned_kept ns r (UnitLine (LearnedEntry keep clause)) h = absurd h
learned_kept ns r (UnitLine (PivotEntry leaves enters)) h = refl
learned_kept ns r (UnitLine (BranchEntry atom)) h = absurd h
learned_kept ns r (UnitLine (FoundEntry goal value)) h = absurd h

-- what a search keeps as it goes on
abbrev lasting : legal.Search → legal.Search
lasting r = record r { learned = []; decided = []; told = [] }

lasting_kept : (ns : List Node) (r : legal.Search) (line : WorkLine Note) → IsOfSearch line → lasting (after_line r (noted_line ns line)) ≡ lasting r
lasting_kept ns r (NoteLine (Start start)) h = absurd h
lasting_kept ns r (NoteLine (Atom t)) h = absurd h
lasting_kept ns r (NoteLine (Bound b)) h = absurd h
lasting_kept ns r (NoteLine (Form atom)) h = absurd h
lasting_kept ns r (NoteLine (Under literals)) h = absurd h
lasting_kept ns r (NoteLine (Told atom sign)) h = refl
lasting_kept ns r (UnitLine (DecisionEntry atom sign)) h = refl
lasting_kept ns r (UnitLine (LearnedEntry keep clause)) h = refl
lasting_kept ns r (UnitLine (PivotEntry leaves enters)) h = refl
lasting_kept ns r (UnitLine (BranchEntry atom)) h = absurd h
lasting_kept ns r (UnitLine (FoundEntry goal value)) h = absurd h

pub adds_same : (ns : List Node) (old new : WorkList Note) → AddsLines IsOfSearch old new → IsSameSearch (search_after ns old) (search_after ns new)
adds_same ns old new a =
    let same = adds_keep old new a lasting ns (λ r line kind. lasting_kept ns r line kind) in
    record {
      atoms = ap (λ (r : legal.Search). r.atoms) same;
      forms = ap (λ (r : legal.Search). r.forms) same;
      begun = ap (λ (r : legal.Search). r.begun) same;
      branches = ap (λ (r : legal.Search). r.branches) same;
      found = ap (λ (r : legal.Search). r.found) same;
      under = ap (λ (r : legal.Search). r.under) same;
    }

-- ---- Where lists lead

-- the list goes on by one line
pub line_lead : LegalWorkGoesOn → (ns : List Node) (q : Task) (work : WorkList Note) (line : WorkLine Note) (x y : Point) → Lead q at_first no_point (noted_list ns work).lines x
    → MayFollow q (search_after ns work) x (noted_line ns line) y → Lead q at_first no_point (noted_list ns (with_line work line)).lines y
line_lead on ns q work line x y lead may =
    subst (λ (lines : List (WorkLine notes.Note)). Lead q at_first no_point lines y) (sym (map-append (noted_line ns) work.lines (line ∷ [])))
    (on.line q at_first no_point x y (noted_list ns work).lines (noted_line ns line) lead may)

-- the fact of a place, where there is one
pub wide_weaker : (e : Stop) (P Q : Place → Type 0) → ((p : Place) → P p → Q p) → OnWide e P → OnWide e Q
wide_weaker (Wide place) P Q f h = f place h
wide_weaker Spent P Q f h = tt
wide_weaker Memory P Q f h = tt

-- a list that an error ends
pub ends_stopped : (A : Type 0) (IsAt : Standing) (ns : List Node) (q : Task) (work : WorkList Note) (x : Point) → Lead q at_first no_point (noted_list ns work).lines x → (e : Stop)
    → OnWide e (IsStoppedAt ns q work) → (e ≡ Spent → IsWanting ns q work) → Ends {A = A} IsAt ns q work (Err e)
ends_stopped A IsAt ns q work x lead (Wide place) stopped wanting = stopped
ends_stopped A IsAt ns q work x lead Spent stopped wanting = wanting refl
ends_stopped A IsAt ns q work x lead Memory stopped wanting = (x, lead)

-- ---- One literal

module _ (on : LegalWorkGoesOn) (ns : List Node) (q : Task) (log : LogState) (atoms : List ℕ) (literal : Lit) (work : WorkList Note) where
  abbrev r : legal.Search
  r = search_after ns work

  abbrev l : spec.Literal
  l = literal_in ns log.atoms literal

  -- the list with a note of it leads to where it moves the forms
  pub told_stands : MayTell q r (told_atom (numbered atoms literal).0 literal.sign false) → literal_by r.atoms (numbered atoms literal) ≡ l → (x : Point)
      → Lead q at_first no_point (noted_list ns work).lines x → (R : Standing) → R r.forms (told_literals r ++ l ∷ []) (moved_by r.forms l x) → Stands R ns q (with_line work (told_line atoms literal))
  told_stands may says x lead R at =
      let y = moved_by r.forms l x in
      let line = told_line atoms literal in
      let f : ToldLiteral → spec.Literal = λ t. t.literal in
      let t : ToldLiteral = record { depth = length r.decided; literal = literal_by r.atoms (numbered atoms literal) } in
      let told : map f (r.told ++ t ∷ []) ≡ told_literals r ++ l ∷ [] = map_push f r.told t ∙ ap (λ (m : spec.Literal). told_literals r ++ m ∷ []) says in
      record {
        point = y;
        legal = line_lead on ns q work line x y lead (may, ap (λ (m : spec.Literal). moved_by r.forms m x) (sym says));
        at = subst (λ (s : legal.Search). R s.forms (told_literals s) y) (sym (search_more ns work (line ∷ [])))
            (subst (λ (ls : List spec.Literal). R r.forms ls y) (sym told) at);
      }

  pub told_stopped : MayTell q r (told_atom (numbered atoms literal).0 literal.sign false) → literal_by r.atoms (numbered atoms literal) ≡ l → (x : Point)
      → Lead q at_first no_point (noted_list ns work).lines x → (place : Place) → IsPlaceOfStep ns r.forms (told_literals r ++ l ∷ []) (moved_by r.forms l x) place
      → IsStoppedAt ns q (with_line work (told_line atoms literal)) place
  told_stopped may says x lead place leaves =
      let s = told_stands may says x lead (λ fs ls y. IsPlaceOfStep ns fs ls y place) leaves in
      record { point = s.point; legal = s.legal; at = s.at }

-- ---- Pivots

module _ (laws : PivotsAreLegal) (ns : List Node) (work work' : WorkList Note) where
  -- pivots that are added lead on, and the search stays where it is
  module _ (a : AddsPivots work work') where
    pub pivots_stay : search_after ns work' ≡ search_after ns work
    pivots_stay =
        ap (search_after ns) a.joined ∙ search_more ns work _ ∙ ap (after_lines (search_after ns work)) (pivots_noted ns a.pivots) ∙ laws.stays (search_after ns work) a.pivots

    pivots_lead : LegalWorkGoesOn → (q : Task) (x : Point) → Lead q at_first no_point (noted_list ns work).lines x → (y : Point)
        → Lead q (search_after ns work) x (pivot_lines a.pivots) y → Lead q at_first no_point (noted_list ns work').lines y
    pivots_lead on q x lead y more =
        let parts : (noted_list ns work').lines ≡ (noted_list ns work).lines ++ pivot_lines a.pivots =
        ap (λ (w : WorkList Note). (noted_list ns w).lines) a.joined ∙ map-append (noted_line ns) work.lines _
        ∙ ap (λ (lines : List (WorkLine notes.Note)). (noted_list ns work).lines ++ lines) (pivots_noted ns a.pivots) in
        subst (λ (lines : List (WorkLine notes.Note)). Lead q at_first no_point lines y) (sym parts)
        (on.lines q at_first no_point x y (noted_list ns work).lines (pivot_lines a.pivots) lead more)

  -- one more pivot that may follow leads somewhere
  next_pivot : (q : Task) (r : legal.Search) (x : Point) (p : Pivot) → AreConsistent (position_of r x) → MayPivot (position_of r x) p
      → (y : Point) × MayFollow q r x (UnitLine (PivotEntry p.leaves p.enters)) y
  next_pivot q r x p consistent may =
      let there = (laws.lead q r x (p ∷ []) may.after consistent (may.after, may.step, refl)).0 in
      (may.after.point, inl (consistent, subst (λ (t : Position). IsCheckStep (position_of r x) t p.leaves p.enters) there may.step))

  -- a check ends where its pivots lead
  pub check_ends : LegalWorkGoesOn → (q : Task) (A : Type 0) (IsAt IsAt' : Standing) (s : Stands IsAt ns q work) (result : Result A Stop)
      → Leads (IsAt' (search_after ns work).forms (told_literals (search_after ns work))) ns (search_after ns work).forms (told_literals (search_after ns work)) s.point work work' result
      → Ends IsAt' ns q work' result
  check_ends on q A IsAt IsAt' s result h =
      let r = search_after ns work in
      let lead = pivots_lead h.adds on q s.point s.legal h.end.point (laws.lead q r s.point h.adds.pivots h.end h.consistent h.lead).1 in
      let same = sym (pivots_stay h.adds) in
      ending result h.ends lead same where
        ending : (o : Result A Stop) → EndsAt (IsAt' (search_after ns work).forms (told_literals (search_after ns work))) ns (search_after ns work).forms (told_literals (search_after ns work)) h.end.point o
            → Lead q at_first no_point (noted_list ns work').lines h.end.point → search_after ns work ≡ search_after ns work' → Ends IsAt' ns q work' o
        ending (Ok answer) at lead same =
            record { point = h.end.point; legal = lead; at = subst (λ (r : legal.Search). IsAt' r.forms (told_literals r) h.end.point) same at }
        ending (Err (Wide place)) at lead same =
            record { point = h.end.point; legal = lead; at = subst (λ (r : legal.Search). IsPlaceOfStep ns r.forms (told_literals r) h.end.point place) same at }
        ending (Err Spent) at lead same =
            let next = next_pivot q (search_after ns work) h.end.point at.0 h.consistent at.1 in
            record {
              point = h.end.point;
              legal = lead;
              wanted = PivotEntry at.0.leaves at.0.enters;
              after = next.0;
              may = subst (λ (r : legal.Search). MayFollow q r h.end.point (UnitLine (PivotEntry at.0.leaves at.0.enters)) next.0) same next.1;
            }
        ending (Err Memory) at lead same = (h.end.point, lead)
