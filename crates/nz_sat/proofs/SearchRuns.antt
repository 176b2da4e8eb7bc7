-- A search from its start to its end: what is assumed, and one turn of decision and conflicts.
use Rattle.std.proofs.Common.{◌≡◌, ℕ, ◌+◌, ◌<◌, if◌then◌else◌, List, [], ◌∷◌, length, take, map, get_or, Option, None, refl, sym, ap, subst, ◌∙◌, arith, Result, Ok, Err, ◌≢◌, ◌≤◌, Bool, true, ◌++◌, Some, inl, inr}
use Rattle.std.specs.Prelude.{All, Contains, IfOk, IfSome, filter, option_map, unwrap_or, nat_lt, slice_get}
use Rattle.nz_lists.proofs.Members.{has_cases, has_none, map_has}
use Rattle.std.proofs.lemmas.List.{length-map, take-append-le, map_push}
use Rattle.std.proofs.lemmas.List.Elements.{All-contains, All-cons, All-filter, All-map, All-nil, All-push, Contains-append_cases, filter-append}
use Rattle.std.proofs.lemmas.List.Sums.{length-filter, sum_by_push}
use Rattle.std.proofs.lemmas.Option.{IfSome_then, slice_get-get_or, same_Some, slice_get_within}
use Rattle.std.proofs.lemmas.Result.{IfOk-weaker}
use Rattle.nz_spec.specs.search.Work.{DecisionEntry, UnitLine, WorkLine, WorkList, is_unit, unit_count, with_line}
use Rattle.nz_log.specs.declared.lits.Lit.{Lit}
use Rattle.nz_search.specs.declared.note.Note.{Note}
use Rattle.nz_search.specs.declared.stop.Stop.{Stop}
use Rattle.nz_search.specs.declared.stop.Stop.TheVariants.{Spent}
use Rattle.nz_log.specs.Logs.{LogState, IsLive, literals_at}
use Rattle.nz_log.specs.Growth.{Grows}
use Rattle.nz_sat.specs.declared.clauses.Held.{Held}
use Rattle.nz_sat.specs.declared.search.Search.{Search}
use Rattle.nz_sat.specs.Sats.{AreOn, HoldsLearned, IsAsked, ids}
use Rattle.nz_sat.specs.declared.trail.Assigned.{Assigned}
use Rattle.nz_sat.specs.Clauses.{AreAssumedOn, HasReasonOf, HasTrue, IsAssumed, IsOpen, by_true, by_two}
use Rattle.nz_sat.specs.Numbers.{number_of, numbered, atom_literal}
use Rattle.nz_sat.specs.Conflicts.{Refutes, StaysSound}
use Rattle.nz_sat.specs.Searching.{Advances, AreFirst, AssumesAll, Carries, Decides, IsLookedThrough, IsNoted, IsReady, IsSearch, KeepsFirst, Runs, Settles, SettlesOn, StaysInOrder, Steps, assumed_entries}
use Rattle.nz_sat.specs.Theories.{EndsLegally, TheoryState, bounds_on, told_literal, told_lits, told_on}
use Rattle.nz_sat.specs.Trails.{IsTrueOn, TrailState, assigned, below, decided, depth, is_decision, literals_on, truth_on, with_entry}
use Rattle.nz_sat.specs.Watched.{lone_ids}
use Rattle.nz_sat.proofs.SearchSteps.{Reaches, log_reaches, reaches_step, reaches_then, steps_behind}
use Rattle.nz_sat.proofs.Propagations.{carries_far}
use Rattle.nz_sat.proofs.LogGrowth.{order_over, grows_none, holds_none}
use Rattle.nz_sat.proofs.AssumedLiterals.{assumed_from}
use Rattle.nz_sat.proofs.Levels.{below_true}
use Rattle.nz_sat.proofs.ToldTrails.{says_numbered, stands_so, keeps_none}
use Rattle.nz_sat.proofs.TrailEntries.{assigned_at}
use Rattle.std.proofs.lemmas.Bool.Decides.{Decides-ltb}
use Rattle.nz_spec.specs.laws.LegalWork.{LegalWorkGoesOn}
use Rattle.nz_spec.specs.search.Legal.{MayDecide}
use Rattle.nz_spec.specs.clauses.Gates.{holds}
use Rattle.nz_spec.specs.search.Search as legal
use Rattle.nz_spec.specs.clauses.Literal.{Literal}
use Rattle.nz_spec.specs.search.Search.{Task, literal_by, literals_held}
use Rattle.nz_spec.specs.terms.Table.{Node}
use Rattle.nz_log.specs.Atoms.{clause_in, literal_in}
use Rattle.nz_search.specs.Standing.{search_after}
use Rattle.nz_sat.proofs.SearchLines.{adds_line, line_lead, search_more}
use Rattle.nz_sat.proofs.AtomNumbers.{number_found, number_place}
use Rattle.nz_sat.proofs.AtomTrails.{trail_push}
use Rattle.nz_sat.proofs.WatchedTrails.{all_open, below_same, below_whole, decided_watched}

-- ---- What isn't decided

only_one : (l m : Lit) → Contains (l ∷ []) m → m ≡ l
only_one l m has =
    elim (has_cases l m [] has) [
      | inl same ↦ sym same
      | inr more ↦ absurd (has_none m more)
    ]

-- a clause of one literal that is open has it true
alone_true : (es : List Assigned) (l : Lit) → IsOpen es (l ∷ []) → IsTrueOn es l
alone_true es l (by_true m has holds) = subst (IsTrueOn es) (only_one l m has) holds
alone_true es l (by_two m n has_m has_n differ free_m free_n) = absurd (differ (only_one l m has_m ∙ sym (only_one l n has_n)))

-- what is asserted or gone under is true where all was propagated
asked_true : {ns : List Node} → {levels : List (List ℕ)} → {log : LogState} → {held : List Held} → {assumed : List Lit} → {q : Task} → (s : Search) (work : WorkList Note)
    → IsSearch log held s → IsReady log s → AreAssumedOn assumed s.trail.entries → IsAsked ns levels log held s.atoms assumed work q → (l : Lit) → Contains s.atoms l.atom
    → Contains (literals_held q (search_after ns work)) (literal_in ns log.atoms l) → IsTrueOn s.trail.entries l
asked_true {ns} {log = log} {held = held} {assumed = assumed} {q = q} s work h ready on asked l atom has =
    let es = s.trail.entries in
    let gone = (search_after ns work).under in
    elim (Contains-append_cases (map holds q.asserted) gone (literal_in ns log.atoms l) has) [
      | inl asserted ↦
          let u = asked.units l atom asserted in
          let opened = All-contains (λ (i : ℕ). IsOpen es (literals_at log i)) (ids held) u.clause.id (all_open log held s h ready) (map_has (λ (x : Held). x.id) held u.clause u.has) in
          alone_true es l (subst (IsOpen es) u.alone opened)
      | inr given ↦
          let there = subst (λ (ls : List Literal). Contains ls (literal_in ns log.atoms l)) asked.under given in
          below_true s.trail.size es h.on.order 0 l.atom l.sign (All-contains (IsTrueOn (below 0 es)) assumed l on.hold (asked.assumes l atom there))
    ]

-- ---- A search after one decision more

module _ (log : LogState) (held : List Held) (s : Search) (h : IsSearch log held s) (t : ℕ) (sign : Bool)
    (free : assigned s.trail.entries t ≡ None) (atom : Contains s.atoms t) (whole : s.bounds.told ≡ length s.trail.entries) where
  abbrev pub literal : Lit
  literal = record { atom = t; sign = sign }

  abbrev pub entry : Assigned
  entry = decided s.trail.entries literal

  abbrev pub after : List Assigned
  after = s.trail.entries ++ entry ∷ []

  above_zero : nat_lt 0 (depth s.trail.entries + 1) ≡ true
  above_zero = (Decides-ltb 0 (depth s.trail.entries + 1)).1 (omega arith)

  pub more_depth : depth after ≡ depth s.trail.entries + 1
  more_depth =
      sum_by_push (λ (x : Assigned). if is_decision x then 1 else 0) s.trail.entries entry
      ∙ ap (λ (b : Bool). depth s.trail.entries + (if b then 1 else 0)) above_zero

  decided_search : IsLookedThrough s → IsSearch log held (record s { trail = with_entry s.trail entry })
  decided_search all =
      record {
        are_held = h.are_held;
        covered = h.covered;
        only = h.only;
        named = h.named;
        within = h.within;
        watched = decided_watched log s.propagation s.trail literal h.on.order all h.watched;
        marks = h.marks;
        unmarked = h.unmarked;
        on = trail_push log s.atoms s.bounds s.trail h.on entry free (All-contains (λ (u : ℕ). u < s.trail.size) s.atoms t h.within atom) atom tt (sym more_depth) (inr whole);
        reasons = All-push (HasReasonOf (ids held)) s.trail.entries entry h.reasons tt;
      }

  below_zero : below 0 after ≡ below 0 s.trail.entries
  below_zero =
      let P : Assigned → Type 0 = λ e. 0 < e.level in
      below_same 0 s.trail.entries (entry ∷ []) (All-cons P entry [] (omega arith) (All-nil P))

  decided_first : KeepsFirst s.trail.entries after
  decided_first l true_before = subst (λ (xs : List Assigned). IsTrueOn xs l) (sym below_zero) true_before

  decided_true : AreFirst log s → AreFirst log (record s { trail = with_entry s.trail entry })
  decided_true = subst (λ (xs : List Assigned). All (λ (i : ℕ). HasTrue xs (literals_at log i)) (lone_ids s.propagation)) (sym below_zero)

  -- ---- The line

  abbrev pub number : ℕ
  number = unwrap_or (number_of s.atoms t) 0

  abbrev pub line : WorkLine Note
  line = UnitLine (DecisionEntry number sign)

  more_decisions : filter is_decision after ≡ filter is_decision s.trail.entries ++ entry ∷ []
  more_decisions =
      filter-append is_decision s.trail.entries (entry ∷ [])
      ∙ ap (λ (b : Bool). filter is_decision s.trail.entries ++ (if b then entry ∷ [] else [])) above_zero

  decided_learned : (work : WorkList Note) → HoldsLearned log s.atoms held work → HoldsLearned log s.atoms held (with_line work line)
  decided_learned work learned ns =
      subst (λ (r : legal.Search). All (λ (c : List (ℕ × Bool)). (i : ℕ) × Contains (ids held) i × (map (numbered s.atoms) (literals_at log i) ≡ c)) r.learned)
      (sym (search_more ns work (line ∷ []))) (learned ns)

  pub decided_noted : (work : WorkList Note) → IsNoted log held s work → IsNoted log held (record s { trail = with_entry s.trail entry }) (with_line work line)
  decided_noted work n =
      let f : Assigned → ℕ × Bool = λ e. numbered s.atoms e.literal in
      let inside : s.bounds.told ≤ length s.trail.entries = h.on.inside in
      record {
        trail = record {
          named = λ ns. ap (λ (r : legal.Search). r.atoms) (search_more ns work (line ∷ [])) ∙ n.trail.named ns;
          decided = λ ns.
              ap (λ (r : legal.Search). r.decided) (search_more ns work (line ∷ [])) ∙ ap (λ (ps : List (ℕ × Bool)). ps ++ (number, sign) ∷ []) (n.trail.decided ns)
              ∙ sym (ap (map f) more_decisions ∙ map_push f (filter is_decision s.trail.entries) entry);
          told = λ ns.
              ap (λ (r : legal.Search). r.told) (search_more ns work (line ∷ [])) ∙ n.trail.told ns
              ∙ ap (λ (xs : List Assigned). map (told_literal ns log.atoms) (bounds_on s.bounds.marks.items xs)) (sym (take-append-le s.bounds.told s.trail.entries (entry ∷ []) inside));
        };
        learned = decided_learned work n.learned;
      }

  -- the number of an atom on the trail is another one
  other_number : (i : ℕ) (e : Assigned) → slice_get s.trail.entries i ≡ Some e → Contains s.atoms e.literal.atom → (numbered s.atoms e.literal).0 ≢ number
  other_number i e at has same =
      let mine = found t atom in
      let its = found e.literal.atom has in
      let one : its.0 ≡ mine.0 = sym (ap (λ (o : Option ℕ). unwrap_or o 0) its.1) ∙ same ∙ ap (λ (o : Option ℕ). unwrap_or o 0) mine.1 in
      let on : e.literal.atom ≡ t =
      same_Some e.literal.atom t
      (sym (number_place s.atoms e.literal.atom its.0 its.1) ∙ ap (slice_get s.atoms) one ∙ number_place s.atoms t mine.0 mine.1) in
      let there : assigned s.trail.entries t ≡ Some e =
      ap (assigned s.trail.entries) (sym on) ∙ assigned_at s.trail.entries i e at (h.on.order i e at).fresh in
      let clash : None ≡ Some e = sym free ∙ there in
      cc where
        found : (u : ℕ) → Contains s.atoms u → (n : ℕ) × (number_of s.atoms u ≡ Some n)
        found u has = number_found s.atoms u has.0 (slice_get-get_or s.atoms has.0 u has.1 ∙ ap Some has.2)

  -- neither sign of the atom is asserted or gone under
  decided_free : {ns : List Node} → {levels : List (List ℕ)} → {assumed : List Lit} → {q : Task} → (work : WorkList Note) → IsNoted log held s work → IsReady log s
      → AreAssumedOn assumed s.trail.entries → IsAsked ns levels log held s.atoms assumed work q → (side : Bool) → Contains (literals_held q (search_after ns work)) (literal_by (search_after ns work).atoms (number, side)) → ⊥
  decided_free {ns} {q = q} work n ready on asked side has =
      let l : Lit = record { atom = t; sign = side } in
      let said = subst (Contains (literals_held q (search_after ns work))) (says_numbered ns log s.atoms s.bounds s.trail.entries work n.trail l atom) has in
      let there : truth_on s.trail.entries t ≡ Some side = asked_true s work h ready on asked l atom said in
      let none : truth_on s.trail.entries t ≡ None = ap (option_map (λ (e : Assigned). e.literal.sign)) free in
      let clash : None ≡ Some side = sym none ∙ there in
      cc

  decided_may : {ns : List Node} → {levels : List (List ℕ)} → {assumed : List Lit} → {q : Task} → (work : WorkList Note) → IsNoted log held s work → IsReady log s
      → AreAssumedOn assumed s.trail.entries → IsAsked ns levels log held s.atoms assumed work q → MayDecide q (search_after ns work) number
  decided_may {ns} work n ready on asked =
      let r = search_after ns work in
      let mine = number_found s.atoms t atom.0 (slice_get-get_or s.atoms atom.0 t atom.1 ∙ ap Some atom.2) in
      let is : number ≡ mine.0 = ap (λ (o : Option ℕ). unwrap_or o 0) mine.1 in
      let small : mine.0 < length s.atoms = slice_get_within s.atoms mine.0 t (number_place s.atoms t mine.0 mine.1) in
      let long : length r.atoms ≡ length s.atoms = ap length (n.trail.named ns) ∙ length-map s.atoms (atom_literal ns log.atoms) in
      let P : ℕ × Bool → Type 0 = λ p. p.0 ≢ number in
      let f : Assigned → ℕ × Bool = λ e. numbered s.atoms e.literal in
      let each : All (λ (e : Assigned). P (f e)) s.trail.entries =
      λ k d inside. other_number k (get_or s.trail.entries k d) (slice_get-get_or s.trail.entries k d inside) (h.on.on_trail k d inside) in
      record {
        named = omega arith;
        undecided = subst (All P) (sym (n.trail.decided ns)) (All-map P f (filter is_decision s.trail.entries) (All-filter is_decision (λ (e : Assigned). P (f e)) s.trail.entries each));
        free = decided_free work n ready on asked;
      }

  -- ---- The step

  -- the point stays, and what the theory was told
  pub decided_reaches : LegalWorkGoesOn → (m : TheoryState) (work : WorkList Note) → IsNoted log held s work → IsReady log s
      → Reaches m m s s.trail.entries (record s { trail = with_entry s.trail entry }) log log held held work (with_line work line)
  decided_reaches goes_on m work n ready =
      let inside : s.bounds.told ≤ length s.trail.entries = h.on.inside in
      let same : told_lits s.bounds s.trail.entries ≡ told_lits s.bounds after =
      ap (λ (xs : List Assigned). literals_on (bounds_on s.bounds.marks.items xs)) (sym (take-append-le s.bounds.told s.trail.entries (entry ∷ []) inside)) in
      record {
        keeps = keeps_none m;
        grows = grows_none log;
        sound = λ ns levels known within order. order;
        holds_more = holds_none log held h.are_held;
        named = λ on. on;
        learned = decided_learned work;
        adds = adds_line work line tt;
        stands = λ ns levels assumed q known on asked st.
            record {
              point = st.point;
              legal = line_lead goes_on ns q work line st.point st.point st.legal (decided_may work n ready on asked, refl);
              at = subst (λ (r : legal.Search). m.at ns r.forms (clause_in ns log.atoms (told_lits s.bounds after)) st.point) (sym (search_more ns work (line ∷ [])))
                  (subst (λ (ls : List Lit). m.at ns (search_after ns work).forms (clause_in ns log.atoms ls) st.point) same st.at);
            };
      }

  -- where it wants one unit more
  pub decided_wanting : (A : Type 0) (m m' : TheoryState) (work : WorkList Note) → IsNoted log held s work → IsReady log s
      → EndsLegally {A = A} m m' log held s.atoms (told_lits s.bounds s.trail.entries) s.trail.entries work work (Err Spent)
  decided_wanting A m m' work n ready ns levels assumed q known on asked st =
      record { point = st.point; legal = st.legal; wanted = DecisionEntry number sign; after = st.point; may = (decided_may work n ready on asked, refl) }

  -- what is decided isn't assumed
  pub decided_assumed : (assumed : List Lit) → All (IsAssumed assumed) s.trail.entries → All (IsAssumed assumed) after
  decided_assumed assumed only =
      All-push (IsAssumed assumed) s.trail.entries entry only (λ none level. absurd (omega arith))

-- ---- Under no decision

pub no_decisions : (es : List Assigned) → depth es ≡ 0 → filter is_decision es ≡ []
no_decisions es none = empty (filter is_decision es) (length-filter is_decision es ∙ none) where
  empty : (xs : List Assigned) → length xs ≡ 0 → xs ≡ []
  empty [] h = refl
  empty (x ∷ xs) h = absurd (omega arith)

-- ---- One decision

-- An atom is decided.
pub record HasDecided (theory : TheoryState) (log : LogState) (held : List Held) (s mid : Search) (work work' : WorkList Note) : Type 0 where
  pub search : IsSearch log held mid
  pub first : AreFirst log mid
  pub noted : IsNoted log held mid work'
  pub carries : Carries s mid work work'
  pub reaches : Reaches theory theory s s.trail.entries mid log log held held work work'
  pub told : told_lits mid.bounds mid.trail.entries ≡ told_lits s.bounds s.trail.entries
  pub units : unit_count work'.lines ≡ unit_count work.lines + 1

pub has_decided : LegalWorkGoesOn → (m : TheoryState) → {s mid : Search} → {log : LogState} → {held : List Held} → {work work' : WorkList Note} → (t : ℕ)
    → IsSearch log held s → IsReady log s → IsNoted log held s work
    → assigned s.trail.entries t ≡ None → Contains s.atoms t → s.bounds.told ≡ length s.trail.entries → mid ≡ record s { trail = mid.trail } → Decides s mid t work work'
    → HasDecided m log held s mid work work'
has_decided goes_on m {s} {mid} {log} {held} {work} {work'} t h ready is_noted free atom whole rest d =
    let e = decided s.trail.entries (record { atom = t; sign = d.sign }) in
    let trail : TrailState = with_entry s.trail e in
    let made : Search = record s { trail = trail } in
    let line : WorkLine Note = UnitLine (DecisionEntry (unwrap_or (number_of s.atoms t) 0) d.sign) in
    let units = sum_by_push (λ (x : WorkLine Note). if is_unit x then 1 else 0) work.lines line in
    subst (λ (r : Search). HasDecided m log held s r work work') (sym (rest ∙ ap (λ (e : TrailState). record s { trail = e }) d.trail))
    (subst (HasDecided m log held s made work) (sym d.noted)
    (record {
      search = decided_search log held s h t d.sign free atom whole ready.all;
      first = decided_true log held s h t d.sign free atom whole ready.first;
      noted = decided_noted log held s h t d.sign free atom whole work is_noted;
      carries = record {
        atoms = refl;
        first = decided_first log held s h t d.sign free atom whole;
        assumed_only = decided_assumed log held s h t d.sign free atom whole;
        units = omega (arith, units);
      };
      reaches = decided_reaches log held s h t d.sign free atom whole goes_on m work is_noted ready;
      told = ap (λ (xs : List Assigned). literals_on (bounds_on s.bounds.marks.items xs)) (take-append-le s.bounds.told s.trail.entries (e ∷ []) h.on.inside);
      units = units;
    }))

-- what comes of a decision
pub settles_far : {m : TheoryState} → {s mid new : Search} → {log log' : LogState} → {held held' : List Held} → {work work₁ work₂ : WorkList Note}
    → HasDecided m log held s mid work work₁ → unit_count work.lines < work.limit → Settles log' held' mid new work₁ work₂ → SettlesOn log' held' s new work work₂
settles_far {s = s} {mid = mid} {new = new} {work = work} {work₁ = work₁} {work₂ = work₂} d free st =
    let units = d.units in
    let more = st.carries.units in
    record {
      settles = record {
        search = st.search;
        ready = st.ready;
        noted = st.noted;
        carries = carries_far s mid new work work₁ work₂ d.carries st.carries;
      };
      more = omega (arith, units, more);
      free = free;
    }

-- ---- The run

-- nothing is decided yet, so what is true is so under no decision
pub all_assumed : {log : LogState} → {held : List Held} → {assumed : List Lit} → {s : Search} → AssumesAll log held assumed s None → AreAssumedOn assumed s.trail.entries
all_assumed {assumed = assumed} {s = s} a =
    let undecided = a.undecided in
    let whole = below_whole s.trail.size s.trail.entries a.search.on.order 0 (omega (arith, undecided)) in
    record { only = a.assumed_only; hold = subst (λ (xs : List Assigned). All (IsTrueOn xs) assumed) (sym whole) (a.hold refl) }

-- nothing is decided yet, and all was propagated
pub runs_first : {assumed : List Lit} → {start mid s : Search} → {log log' : LogState} → {held held' : List Held} → {work work' : WorkList Note}
    → mid ≡ record start { trail = mid.trail; propagation = mid.propagation } → AssumesAll log held assumed mid None → Settles log' held' mid s work work' → Runs log' held' assumed start s work'
runs_first {assumed} {start} {mid} {s} rest a st =
    let on = all_assumed a in
    record {
      search = st.search;
      ready = st.ready;
      noted = st.noted;
      same = st.carries.atoms ∙ ap (λ (r : Search). r.atoms) rest;
      assumed_only = st.carries.assumed_only assumed on.only;
      hold = λ k e inside. st.carries.first (get_or assumed k e) (on.hold k e inside);
    }

-- what a search that begins is asked, whose trail has no entry
module _ (start : Search) (none : start.trail.entries ≡ []) (log : LogState) (held : List Held) (h : IsSearch log held start) where
  first_place : start.bounds.told ≡ 0
  first_place = let inside = h.on.inside in let long = ap length none in omega (arith, inside, long)

  -- nothing was told of any trail
  pub first_told : (es : List Assigned) → told_on start.bounds es ≡ []
  first_told es = ap (λ (n : ℕ). bounds_on start.bounds.marks.items (take n es)) first_place

  pub first_noted : {mid : Search} → {assumed : List Lit} → {work : WorkList Note} → mid ≡ record start { trail = mid.trail; propagation = mid.propagation } → AssumesAll log held assumed mid None → IsNoted log held start work
      → IsNoted log held mid work
  first_noted {mid} {assumed} {work} rest a noted =
      let es = mid.trail.entries in
      let t = noted.trail in
      subst (λ (r : Search). IsNoted log held r work) (sym rest)
      (record {
        trail = record {
          named = t.named;
          decided = λ ns.
              t.decided ns
              ∙ ap (λ (xs : List Assigned). map (λ (e : Assigned). numbered start.atoms e.literal) (filter is_decision xs)) none
              ∙ ap (map (λ (e : Assigned). numbered start.atoms e.literal)) (sym (no_decisions es a.undecided));
          told = λ ns. t.told ns ∙ ap (map (told_literal ns log.atoms)) (first_told start.trail.entries ∙ sym (first_told es));
        };
        learned = noted.learned;
      })

  pub first_lits : {mid : Search} → mid ≡ record start { trail = mid.trail; propagation = mid.propagation } → told_lits mid.bounds mid.trail.entries ≡ []
  first_lits {mid} rest = ap (λ (r : Search). told_lits r.bounds mid.trail.entries) rest ∙ ap literals_on (first_told mid.trail.entries)

  -- the entries of what is assumed are assumed
  pub first_advances : {A : Type 0} → {m m' : TheoryState} → {assumed : List Lit} → {mid : Search} → {log' : LogState} → {held' : List Held} → {work work' : WorkList Note}
      → {result : Result A Stop} → mid ≡ record start { trail = mid.trail; propagation = mid.propagation } → AssumesAll log held assumed mid None → Advances m m' mid mid.trail.entries log log' held held' work work' result
      → Advances m m' start (assumed_entries assumed) log log' held held' work work' result
  first_advances {m = m} {m' = m'} {assumed} {mid} {log'} {held'} {work} {work'} {result = result} rest a step =
      let atoms : mid.atoms ≡ start.atoms = ap (λ (r : Search). r.atoms) rest in
      let told : told_lits mid.bounds mid.trail.entries ≡ told_lits start.bounds start.trail.entries = first_lits rest ∙ sym (ap literals_on (first_told start.trail.entries)) in
      let ends : EndsLegally m m' log held start.atoms (told_lits start.bounds start.trail.entries) mid.trail.entries work work' result =
      subst (λ (us : List ℕ). EndsLegally m m' log held us (told_lits start.bounds start.trail.entries) mid.trail.entries work work' result) atoms
      (subst (λ (ls : List Lit). EndsLegally m m' log held mid.atoms ls mid.trail.entries work work' result) told step.ends) in
      record {
        keeps = step.keeps;
        grows = step.grows;
        sound = subst (λ (us : List ℕ). StaysInOrder m.over us log log') atoms step.sound;
        holds_more = step.holds_more;
        named = subst (λ (us : List ℕ). AreOn log us held → AreOn log' us held') atoms step.named;
        learned = subst (λ (us : List ℕ). HoldsLearned log us held work → HoldsLearned log' us held' work') atoms step.learned;
        adds = step.adds;
        ends = λ ns levels all q known on. ends ns levels all q known (assumed_from assumed all mid.trail.entries (all_assumed a) on);
      }

  -- the log grows by a refutation before anything is decided
  pub first_refuted : {A : Type 0} → (m : TheoryState) → {assumed : List Lit} → {mid : Search} → {log' : LogState} → (work : WorkList Note) → {o : Option ℕ}
      → mid ≡ record start { trail = mid.trail; propagation = mid.propagation } → AssumesAll log held assumed mid o → Grows log log' → StaysSound mid.trail.entries log log' → (result : Result A Stop)
      → EndsLegally m m log held start.atoms (told_lits start.bounds start.trail.entries) (assumed_entries assumed) work work result
      → Advances m m start (assumed_entries assumed) log log' held held work work result
  first_refuted m {assumed} {mid} {log'} work rest a grows sound result ends =
      let atoms : mid.atoms ≡ start.atoms = ap (λ (r : Search). r.atoms) rest in
      log_reaches m start (assumed_entries assumed) log log' held work h.are_held grows
      (subst (λ (us : List ℕ). StaysInOrder m.over us log log') atoms
      (order_over m.over mid.atoms mid.trail.entries a.search.on.on_trail log log' (λ ns levels known. sound ns levels))) result ends

  -- where the theory stands the list tells what it was told
  pub first_stands : (m : TheoryState) (work : WorkList Note) → IsNoted log held start work → (es : List Assigned) → (A : Type 0) (x : A)
      → EndsLegally {A = A} m m log held start.atoms (told_lits start.bounds start.trail.entries) es work work (Ok x)
  first_stands m work noted es A x ns levels assumed q known on asked st =
      stands_so ns log start.atoms start.bounds start.trail.entries work noted.trail (m.at ns) q st

-- the order of what is decided next has no part in it
pub runs_ordered : {assumed : List Lit} → {start s new : Search} → {log : LogState} → {held : List Held} → {work : WorkList Note}
    → Runs log held assumed start s work → new ≡ record s { order = new.order } → Runs log held assumed start new work
runs_ordered {assumed} {start} {s} {new} {log} {held} {work} h rest =
    let q = h.search in
    subst (λ (r : Search). Runs log held assumed start r work) (sym rest)
    (record {
      search = record {
        are_held = q.are_held;
        covered = q.covered;
        only = q.only;
        named = q.named;
        within = q.within;
        watched = q.watched;
        marks = q.marks;
        unmarked = q.unmarked;
        on = q.on;
        reasons = q.reasons;
      };
      ready = record { first = h.ready.first; all = h.ready.all };
      noted = record { trail = h.noted.trail; learned = h.noted.learned };
      same = h.same;
      assumed_only = h.assumed_only;
      hold = h.hold;
    })

-- one turn more
pub runs_on : {assumed : List Lit} → {start s new : Search} → {log log' : LogState} → {held held' : List Held} → {work work' : WorkList Note}
    → Runs log held assumed start s work → Settles log' held' s new work work' → Runs log' held' assumed start new work'
runs_on {assumed} h st =
    record {
      search = st.search;
      ready = st.ready;
      noted = st.noted;
      same = st.carries.atoms ∙ h.same;
      assumed_only = st.carries.assumed_only assumed h.assumed_only;
      hold = λ k e inside. st.carries.first (get_or assumed k e) (h.hold k e inside);
    }

pub run_advances : {A B : Type 0} → {m m₁ m₂ : TheoryState} → {assumed : List Lit} → {start s : Search} → {log log' log'' : LogState} → {held held' held'' : List Held}
    → {work work' work'' : WorkList Note} → {x : A} → {result : Result B Stop} → Advances m m₁ start (assumed_entries assumed) log log' held held' work work' (Ok x)
    → Runs log' held' assumed start s work' → Advances m₁ m₂ s s.trail.entries log' log'' held' held'' work' work'' result
    → Advances m m₂ start (assumed_entries assumed) log log'' held held'' work work'' result
run_advances {assumed = assumed} {s = s} before h step =
    reaches_then (reaches_step before h.noted.trail) h.same (λ all on. assumed_from assumed all s.trail.entries (record { only = h.assumed_only; hold = h.hold }) on) step

pub run_steps : {A : Type 0} → {m m₁ m₂ : TheoryState} → {assumed : List Lit} → {start s new : Search} → {log log' log'' : LogState} → {held held' held'' : List Held}
    → {work work' work'' : WorkList Note} → {x : A} → {answer : Result (Option ℕ) Stop} → Advances m m₁ start (assumed_entries assumed) log log' held held' work work' (Ok x)
    → Runs log' held' assumed start s work' → Steps m₁ m₂ s s.trail.entries new log' log'' held' held'' work' work'' answer
    → Steps m m₂ start (assumed_entries assumed) new log log'' held held'' work work'' answer
run_steps before h step = steps_behind (run_advances before h step.advances) step

-- ---- What refutes

-- a clause refutes what the entries of a trail are assumed by
abbrev pub RefutesOver : LogState → List Assigned → ℕ → Type 0
RefutesOver log es id = IsLive log id × ((assumed : List Lit) → All (IsAssumed assumed) es → Refutes assumed (literals_at log id))

pub refutes_far : (es es' : List Assigned) → (log : LogState) → ((assumed : List Lit) → All (IsAssumed assumed) es → All (IsAssumed assumed) es') → {E : Type 0}
    → (r : Result (Option ℕ) E) → IfOk r (λ o. IfSome o (RefutesOver log es')) → IfOk r (λ o. IfSome o (RefutesOver log es))
refutes_far es es' log only r h =
    IfOk-weaker r (λ (o : Option ℕ). IfSome o (RefutesOver log es')) (λ (o : Option ℕ). IfSome o (RefutesOver log es))
    (λ o s. IfSome_then o s (λ id x. (x.0, λ assumed each. x.1 assumed (only assumed each)))) h

pub refutes_assumed : (es : List Assigned) → (log : LogState) → (assumed : List Lit) → All (IsAssumed assumed) es → {E : Type 0} → (r : Result (Option ℕ) E)
    → IfOk r (λ o. IfSome o (RefutesOver log es)) → IfOk r (λ o. IfSome o (λ id. IsLive log id × Refutes assumed (literals_at log id)))
refutes_assumed es log assumed only r h =
    IfOk-weaker r (λ (o : Option ℕ). IfSome o (RefutesOver log es)) (λ (o : Option ℕ). IfSome o (λ id. IsLive log id × Refutes assumed (literals_at log id)))
    (λ o s. IfSome_then o s (λ id x. (x.0, x.1 assumed only))) h
