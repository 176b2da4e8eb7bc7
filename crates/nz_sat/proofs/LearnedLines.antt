-- What a search knows of a learned clause, and that its line may follow.
use Rattle.std.proofs.Common.{◌≡◌, ℕ, ◌-◌, ◌<◌, ◌≤◌, ◌++◌, ◌∷◌, Bool, not, List, [], length, map, refl, sym, ap, subst, ◌∙◌, arith, inl, inr, Result, Err}
use Rattle.std.specs.Prelude.{⊤, All, Contains, IsTrue, filter}
use Rattle.std.specs.List.{AllByRecursion}
use Rattle.std.proofs.lemmas.List.{length-append, length-map, map-append, map_push}
use Rattle.std.proofs.lemmas.List.Elements.{All-contains, All-push, All-weaker, Contains-append_left, Contains-push, filter-append}
use Rattle.std.proofs.lemmas.List.Sums.{length-filter}
use Rattle.std.proofs.lemmas.Option.{same_Some}
use Rattle.nz_lists.proofs.Members.{has_found}
use Rattle.nz_spec.specs.simplex.Bland.{Point}
use Rattle.nz_spec.specs.laws.LegalWork.{LegalWorkGoesOn}
use Rattle.nz_spec.specs.search.Legal.{IsDeadEnd, Lead, MayLearn}
use Rattle.nz_spec.specs.search.Search.{Search, Task, at_first, literal_by, literals_by, no_point}
use Rattle.nz_spec.specs.clauses.Literal.{AreSameSet, AreTrueLiterals, IsClauseTrue, Literal, NegationIsOther, is_literal_true}
use Rattle.nz_spec.specs.terms.Model.{IsModel}
use Rattle.nz_spec.specs.terms.Table.{Node}
use Rattle.nz_spec.specs.terms.Term.{Assignment, IsTrueUnder}
use Rattle.nz_spec.specs.search.Work.{LearnedEntry, WorkList, with_line}
use Rattle.nz_log.specs.declared.lits.Lit.{Lit}
use Rattle.nz_search.specs.declared.note.Note.{Note}
use Rattle.nz_search.specs.declared.stop.Stop.{Stop}
use Rattle.nz_search.specs.declared.stop.Stop.TheVariants.{Memory, Spent}
use Rattle.nz_log.specs.Atoms.{TellsLits}
use Rattle.nz_log.specs.Logs.{LogState, literals_at}
use Rattle.nz_search.specs.Notes.{noted_list}
use Rattle.nz_log.specs.Sound.{ClausesAreTrue, IsLog}
use Rattle.nz_search.specs.Standing.{search_after}
use Rattle.nz_sat.specs.declared.analyze.Learned.{Learned}
use Rattle.nz_sat.specs.declared.clauses.Held.{Held}
use Rattle.nz_sat.specs.declared.search.Search as state
use Rattle.nz_sat.specs.declared.trail.Assigned.{Assigned}
use Rattle.nz_sat.specs.Clauses.{IsAssumed, IsFalsified, IsOpen, by_true, by_two}
use Rattle.nz_log.specs.Growth.{Grows}
use Rattle.nz_sat.specs.Conflicts.{HasTwoLast, IsLearned, IsLearnable, StaysSound}
use Rattle.nz_sat.specs.Numbers.{atom_literal, numbered}
use Rattle.nz_sat.specs.Sats.{AreOn, HoldsLearned, HoldsMore, IsAsked, learned_of, ids}
use Rattle.nz_sat.specs.Searching.{Advances, AreFirst, IsConflict, IsSearch, StaysInOrder, WasNoted, WereOpen, learned_line}
use Rattle.nz_sat.specs.Theories.{EndsLegally, Keeps, TellsTrail, TheoryState, told_lits}
use Rattle.nz_sat.specs.Trails.{EachBehind, IsFreeOn, IsFrontOf, IsNext, below, depth, is_decision, level_on}
use Rattle.nz_sat.proofs.LogGrowth.{names_stay, on_kept, order_over}
use Rattle.nz_sat.proofs.DeadEnds.{clause_true, literals_numbered, numbers_once, numbers_within, open_differs, recursion_left, task_falsified}
use Rattle.nz_sat.proofs.LearnedClauses.{all_from}
use Rattle.nz_sat.proofs.Levels.{below_front, below_true, free_high}
use Rattle.nz_sat.proofs.SearchLines.{adds_line, line_lead, search_more}
use Rattle.nz_sat.proofs.Marks.{false_entry, level_found, not_itself}
use Rattle.nz_sat.proofs.AtomTrails.{names_some}
use Rattle.nz_sat.proofs.TrailGrowth.{learned_grown}
use Rattle.nz_sat.proofs.TrailEntries.{assigned_place, level_within}
use Rattle.nz_sat.proofs.WatchedTrails.{were_open}

-- A clause that is falsified, and was open when the last decision was taken, has two literals of the last level.
two_last : (size : ℕ) (es : List Assigned) → EachBehind (IsNext size) es → (c : List Lit) → IsFalsified es c → IsOpen (below (depth es - 1) es) c → HasTwoLast es c
two_last size es order c falsified (by_true l has holds) =
    absurd (not_itself l.sign (same_Some l.sign (not l.sign) (sym (below_true size es order (depth es - 1) l.atom l.sign holds) ∙ falsified l has)))
two_last size es order c falsified (by_two l m has_l has_m differ free_l free_m) =
    record {
      first = l;
      second = m;
      has_first = has_l;
      has_second = has_m;
      differ = differ;
      first_last = last l has_l free_l;
      second_last = last m has_m free_m;
    } where
      last : (x : Lit) → Contains c x → IsFreeOn (below (depth es - 1) es) x → level_on es x.atom ≡ depth es
      last x has free =
          let high = free_high size es order (depth es - 1) x (falsified x has) free in
          let e = false_entry es x (falsified x has) in
          let place = (assigned_place es x.atom e.0 e.1).1 in
          let most = level_within size es order place.0 e.0 place.1 in
          let level = level_found es x.atom e.0 e.1 in
          omega (arith, high, most, level)

held_two : (size : ℕ) (es : List Assigned) → EachBehind (IsNext size) es → (log : LogState) (held : List Held) → WereOpen log held es → 0 < depth es
    → (i : ℕ) → Contains (ids held) i → IsFalsified es (literals_at log i) → HasTwoLast es (literals_at log i)
held_two size es order log held were decided i has falsified =
    let k = depth es - 1 in
    two_last size es order (literals_at log i) falsified
    (All-contains (λ (j : ℕ). IsOpen (below k es) (literals_at log j)) (ids held) i (were k (omega arith)) has)

-- a conflict may be the learned clause itself, or has two literals of the last level
pub conflict_like : (log : LogState) (held : List Held) (s : state.Search) → IsSearch log held s → AreFirst log s → 0 < depth s.trail.entries → (i : ℕ) → IsConflict log held s.trail.entries i
    → IsLearnable s.trail.entries (literals_at log i)
conflict_like log held s h first decided i c =
    elim c.kind [
      | inl has ↦ inl (held_two s.trail.size s.trail.entries h.on.order log held (were_open log held s h first) decided i has c.falsified)
      | inr once ↦ inr once
    ]

-- What is known where a search has learned from a clause that is falsified.
pub record IsTaught (log log' : LogState) (held : List Held) (s : state.Search) (work : WorkList Note) (falsified : ℕ) (l : Learned) : Type 0 where
  pub search : IsSearch log held s
  pub first : AreFirst log s
  pub conflict : IsConflict log held s.trail.entries falsified
  pub decided : 0 < depth s.trail.entries
  pub noted : WasNoted log held s work
  pub grows : Grows log log'
  pub sound : StaysSound s.trail.entries log log'
  pub learned : IsLearned log' s.trail.entries l

pub taught : {log log' : LogState} {held : List Held} {s : state.Search} {work : WorkList Note} {l : Learned} (falsified : ℕ) → IsSearch log held s
    → AreFirst log s → IsConflict log held s.trail.entries falsified → 0 < depth s.trail.entries
    → WasNoted log held s work → Grows log log' → StaysSound s.trail.entries log log' → IsLearned log' s.trail.entries l
    → IsTaught log log' held s work falsified l
taught falsified search first conflict decided noted grows sound learned =
    record {
      search = search;
      first = first;
      conflict = conflict;
      decided = decided;
      noted = noted;
      grows = grows;
      sound = sound;
      learned = learned;
    }

-- the literals of a false clause are of atoms
pub false_named : (atoms : List ℕ) (es : List Assigned) → All (λ (e : Assigned). Contains atoms e.literal.atom) es → (c : List Lit) → IsFalsified es c
    → (l : Lit) → Contains c l → Contains atoms l.atom
false_named atoms es on_trail c falsified l has =
    let x = false_entry es l (falsified l has) in
    let place = assigned_place es l.atom x.0 x.1 in
    subst (Contains atoms) place.0 (All-contains (λ (e : Assigned). Contains atoms e.literal.atom) es x.0 on_trail (has_found es place.1.0 x.0 place.1.1))

-- the literals of a clause that is held are of atoms
pub held_named : (atoms : List ℕ) (log : LogState) (us : List ℕ) → All (λ (i : ℕ). All (λ (l : Lit). Contains atoms l.atom) (literals_at log i)) us
    → (i : ℕ) → Contains us i → (l : Lit) → Contains (literals_at log i) l → Contains atoms l.atom
held_named atoms log us named i has l there =
    All-contains (λ (m : Lit). Contains atoms m.atom) (literals_at log i) l
    (All-contains (λ (j : ℕ). All (λ (m : Lit). Contains atoms m.atom) (literals_at log j)) us i named has) there

-- ---- Decisions of a trail that goes on

pub decisions_on : (es all : List Assigned) → (f : IsFrontOf es all) → filter is_decision all ≡ filter is_decision es ++ filter is_decision f.more
decisions_on es all f = ap (filter is_decision) f.joined ∙ filter-append is_decision es f.more

pub front_depth : (es all : List Assigned) → IsFrontOf es all → depth es ≤ depth all
front_depth es all f =
    let parts = ap length (decisions_on es all f) ∙ length-append (filter is_decision es) (filter is_decision f.more) in
    let mine = length-filter is_decision es in
    let whole = length-filter is_decision all in
    omega (arith, parts, mine, whole)

-- the first decisions are true where all are
front_decided : (a : Assignment) (ts : List Literal) (f : Assigned → ℕ × Bool) (es all : List Assigned) → IsFrontOf es all
    → AreTrueLiterals a (literals_by ts (map f (filter is_decision all))) → AreTrueLiterals a (literals_by ts (map f (filter is_decision es)))
front_decided a ts f es all front hold =
    let P : Literal → Type 0 = λ l. IsTrue (is_literal_true a l) in
    let mine = literals_by ts (map f (filter is_decision es)) in
    let more = literals_by ts (map f (filter is_decision front.more)) in
    let parts : literals_by ts (map f (filter is_decision all)) ≡ mine ++ more =
    ap (λ (xs : List Assigned). literals_by ts (map f xs)) (decisions_on es all front)
    ∙ ap (literals_by ts) (map-append f (filter is_decision es) (filter is_decision front.more))
    ∙ map-append (literal_by ts) (map f (filter is_decision es)) (map f (filter is_decision front.more)) in
    recursion_left P mine more (subst (AllByRecursion P) parts hold)

-- also where the search goes back to a lower level
pub kept_learned : {log : LogState} {es : List Assigned} {l l' : Learned} → l' ≡ record l { keep = l'.keep } → l'.keep ≤ l.keep → IsLearned log es l → IsLearned log es l'
kept_learned {log} {es} same low h =
    let kept = h.kept in
    subst (IsLearned log es) (sym same)
    (record {
      live = h.live;
      once = h.once;
      falsified = h.falsified;
      has = h.has;
      last = h.last;
      earlier = h.earlier;
      kept = omega (arith, low, kept);
      others = h.others;
      beside = h.beside;
    })

module _ (log log' : LogState) (held : List Held) (s : state.Search) (work : WorkList Note) (falsified : ℕ) (l : Learned) (h : IsTaught log log' held s work falsified l) where
  abbrev es : List Assigned
  es = s.trail.entries

  abbrev lits : List Lit
  lits = literals_at log' l.clause

  pub learned_named : (m : Lit) → Contains lits m → Contains s.atoms m.atom
  learned_named = false_named s.atoms es h.search.on.on_trail lits h.learned.falsified

  -- each literal of the clause
  pub lits_named : All (λ (m : Lit). Contains s.atoms m.atom) lits
  lits_named = all_from (λ (m : Lit). Contains s.atoms m.atom) lits learned_named

  pub stays : (over : List Node → Type 0) → StaysInOrder over s.atoms log log'
  stays over = order_over over s.atoms es h.search.on.on_trail log log' (λ ns levels known. h.sound ns levels)

  -- the trail before the search went back
  abbrev pub all : List Assigned
  all = h.noted.before.trail.entries

  pub front : IsFrontOf es all
  front =
      let old = h.noted.before in
      subst (λ (xs : List Assigned). IsFrontOf xs all) (sym h.noted.cut) (below_front old.trail.size all h.noted.search.on.order h.noted.level)

  -- what the list tells of it, over these atoms
  pub was_told : TellsTrail log s.atoms h.noted.before.bounds all work
  was_told = subst (λ (us : List ℕ). TellsTrail log us h.noted.before.bounds all work) (sym h.noted.atoms) h.noted.noted.trail

  pub was_learned : HoldsLearned log s.atoms held work
  was_learned = subst (λ (us : List ℕ). HoldsLearned log us held work) (sym h.noted.atoms) h.noted.noted.learned

  -- it isn't the same as a clause that is held
  learned_new : TellsLits → (i : ℕ) → Contains (ids held) i → AreSameSet (map (numbered s.atoms) (literals_at log i)) (map (numbered s.atoms) lits) → ⊥
  learned_new tells i has same =
      let k = depth es - 1 in
      let less : k < depth es = omega (arith, h.decided) in
      let opened = All-contains (λ (j : ℕ). IsOpen (below k es) (literals_at log j)) (ids held) i (were_open log held s h.search h.first k less) has in
      open_differs s.atoms es lits learned_named h.learned.falsified tells s.trail.size h.search.on.order k l.literal
      (λ m there other. let low = h.learned.others m there other in let earlier = h.learned.earlier in omega (arith, low, earlier))
      (literals_at log i) (held_named s.atoms log (ids held) h.search.named i has) opened same

  module _ (tells : TellsLits) (clauses : ClausesAreTrue) (other : NegationIsOther) (ns : List Node) (levels : List (List ℕ)) (assumed : List Lit) (q : Task)
      (only : All (IsAssumed assumed) es) (asked : IsAsked ns levels log held s.atoms assumed work q) where
    abbrev at : Search
    at = search_after ns work

    abbrev names : List Literal
    names = map (atom_literal ns log.atoms) s.atoms

    learned_order : IsLog ns levels log'
    learned_order = stays (λ ns. ⊤) ns levels tt asked.within asked.order

    names_same : names ≡ map (atom_literal ns log'.atoms) s.atoms
    names_same = sym (names_stay log.atoms log'.atoms h.grows.atoms ns s.atoms (names_some log s.atoms h.search.on.there))

    dead_end : IsDeadEnd q at
    dead_end a may =
        let named' = subst (λ (ts : List Literal). AreTrueLiterals a (literals_by ts at.decided)) (was_told.named ns) may.decided in
        let decided' = subst (λ (ps : List (ℕ × Bool)). AreTrueLiterals a (literals_by names ps)) (was_told.decided ns) named' in
        task_falsified tells clauses other ns levels assumed q log s.atoms work asked s.bounds s.trail h.search.on only a may.model
        (front_decided a names (λ (e : Assigned). numbered s.atoms e.literal) es all front decided') falsified h.conflict.live h.conflict.falsified

    follows : (a : Assignment) → IsModel q.asserted [] a → IsClauseTrue a (literals_by at.atoms (map (numbered s.atoms) lits))
    follows a model =
        let hold = subst (AllByRecursion (IsTrueUnder a)) asked.asserted model.asserted_hold in
        let holds = clause_true clauses other ns asked.table levels log' learned_order a model.sorts hold l.clause h.learned.live in
        subst (λ (ts : List Literal). IsClauseTrue a (literals_by ts (map (numbered s.atoms) lits))) (sym (was_told.named ns))
        (subst (IsClauseTrue a)
        (sym (ap (λ (ts : List Literal). literals_by ts (map (numbered s.atoms) lits)) names_same ∙ literals_numbered ns log'.atoms s.atoms lits learned_named)) holds)

    may_learn : MayLearn q at l.keep (map (numbered s.atoms) lits)
    may_learn =
        let long : length at.decided ≡ depth all =
        ap length (was_told.decided ns) ∙ length-map (filter is_decision all) (λ (e : Assigned). numbered s.atoms e.literal) ∙ length-filter is_decision all in
        let deeper = front_depth es all front in
        let earlier = h.learned.earlier in
        let kept = h.learned.kept in
        record {
          fewer = omega (arith, long, deeper, earlier, kept);
          dead_end = dead_end;
          follows = follows;
          named = subst (λ (ts : List Literal). All (λ (p : ℕ × Bool). p.0 < length ts) (map (numbered s.atoms) lits)) (sym (was_told.named ns))
              (numbers_within s.atoms (atom_literal ns log.atoms) lits learned_named);
          once = numbers_once s.atoms es lits learned_named h.learned.falsified h.learned.once;
          new = All-weaker (λ (c : List (ℕ × Bool)). (i : ℕ) × Contains (ids held) i × (map (numbered s.atoms) (literals_at log i) ≡ c))
              (λ (c : List (ℕ × Bool)). AreSameSet c (map (numbered s.atoms) lits) → ⊥)
              (λ c w same. learned_new tells w.0 w.1 (subst (λ (d : List (ℕ × Bool)). AreSameSet d (map (numbered s.atoms) lits)) (sym w.2) same))
              at.learned (was_learned ns);
        }

    -- the list stays legal with its line, at the same point
    pub line_legal : LegalWorkGoesOn → (x : Point) → Lead q at_first no_point (noted_list ns work).lines x
        → Lead q at_first no_point (noted_list ns (with_line work (learned_line s.atoms log' l))).lines x
    line_legal on x lead = line_lead on ns q work (learned_line s.atoms log' l) x x lead (may_learn, refl)

  -- with its line, where it is held
  pub line_learned : (held' : List Held) → held' ≡ held ++ learned_of log' l.clause l.glue ∷ [] → HoldsLearned log' s.atoms held work
      → HoldsLearned log' s.atoms held' (with_line work (learned_line s.atoms log' l))
  line_learned held' all_held before ns =
      let Old : List (ℕ × Bool) → Type 0 = λ d. (i : ℕ) × Contains (ids held) i × (map (numbered s.atoms) (literals_at log' i) ≡ d) in
      let New : List (ℕ × Bool) → Type 0 = λ d. (i : ℕ) × Contains (ids held') i × (map (numbered s.atoms) (literals_at log' i) ≡ d) in
      let more : ids held' ≡ ids held ++ l.clause ∷ [] = ap ids all_held ∙ map_push (λ (x : Held). x.id) held (learned_of log' l.clause l.glue) in
      let has : (i : ℕ) → Contains (ids held ++ l.clause ∷ []) i → Contains (ids held') i = λ i there. subst (λ (us : List ℕ). Contains us i) (sym more) there in
      subst (λ (r : Search). All New r.learned) (sym (search_more ns work (learned_line s.atoms log' l ∷ [])))
      (All-push New (search_after ns work).learned (map (numbered s.atoms) lits)
      (All-weaker Old New (λ d w. (w.0, has w.0 (Contains-append_left (ids held) (l.clause ∷ []) w.0 w.1), w.2)) (search_after ns work).learned (before ns))
      (l.clause, has l.clause (Contains-push (ids held) l.clause), refl))

  -- a step that adds it
  pub line_advances : {A : Type 0} → (m m' : TheoryState) → Keeps m m' → (held' : List Held) → HoldsMore log' held held' → held' ≡ held ++ learned_of log' l.clause l.glue ∷ []
      → (AreOn log' s.atoms held → AreOn log' s.atoms held')
      → (work' : WorkList Note) → work' ≡ with_line work (learned_line s.atoms log' l) → (result : Result A Stop)
      → EndsLegally m m' log held s.atoms (told_lits s.bounds es) es work (with_line work (learned_line s.atoms log' l)) result → Advances m m' s es log log' held held' work work' result
  line_advances m m' keeps held' more all_held on work' is result ends =
      subst (λ (w : WorkList Note). Advances m m' s es log log' held held' work w result) (sym is)
      (record {
        keeps = keeps;
        grows = h.grows;
        sound = stays m.over;
        holds_more = more;
        named = λ named. on (on_kept log log' s.atoms held h.grows h.search.are_held named);
        learned = λ before. line_learned held' all_held (learned_grown log log' s.atoms held h.grows h.search.are_held work before);
        adds = adds_line work (learned_line s.atoms log' l) tt;
        ends = ends;
      })

  -- where it wants one unit more
  pub line_wanting : (A : Type 0) → TellsLits → ClausesAreTrue → NegationIsOther → (m m' : TheoryState)
      → EndsLegally {A = A} m m' log held s.atoms (told_lits s.bounds es) es work work (Err Spent)
  line_wanting A tells clauses other m m' ns levels assumed q known on asked st =
      record {
        point = st.point;
        legal = st.legal;
        wanted = LearnedEntry l.keep (map (numbered s.atoms) lits);
        after = st.point;
        may = (may_learn tells clauses other ns levels assumed q on.only asked, refl);
      }

  -- where it isn't held
  pub line_memory : (A : Type 0) → TellsLits → ClausesAreTrue → NegationIsOther → LegalWorkGoesOn → (m m' : TheoryState)
      → EndsLegally {A = A} m m' log held s.atoms (told_lits s.bounds es) es work (with_line work (learned_line s.atoms log' l)) (Err Memory)
  line_memory A tells clauses other goes_on m m' ns levels assumed q known on asked st =
      (st.point, line_legal tells clauses other ns levels assumed q on.only asked goes_on st.point st.legal)
