-- What a search is after it learned a clause, and went back.
use Rattle.std.proofs.Common.{◌≡◌, ◌*◌, if◌then◌else◌, ℕ, suc, ◌+◌, ◌<◌, ◌≤◌, Bool, true, false, List, [], ◌∷◌, ◌++◌, length, min, take, map, Option, Some, None, inl, inr, refl, sym, ap, subst, ◌∙◌, arith}
use Rattle.std.specs.Prelude.{All, Contains, IfSome, IsSome, filter, nat_le, slice_get}
use Rattle.std.specs.declared.alloc.Global.{Global}
use Rattle.std.specs.declared.result.Result.TheVariants.{Ok}
use Rattle.std.specs.declared.vec.Vec.{Vec}
use Rattle.std.proofs.Math.Nat.{min-eq_right, min-le_left, min-le_right}
use Rattle.std.proofs.lemmas.List.{append-nil, length-append, length-take, map-append, take-append-le, take-map, take_all}
use Rattle.std.proofs.lemmas.List.Elements.{All-contains, All-filter, All-push, All-weaker, Contains-append_left, Contains-push, filter-append}
use Rattle.std.proofs.lemmas.List.Sums.{length-filter, sum_by_push}
use Rattle.nz_lists.proofs.Members.{has_found}
use Rattle.nz_spec.specs.laws.LegalWork.{LegalWorkGoesOn}
use Rattle.nz_spec.specs.search.Legal.{after_line}
use Rattle.nz_spec.specs.search.Search.{Search, ToldLiteral}
use Rattle.nz_spec.specs.clauses.Literal as spec
use Rattle.nz_spec.specs.clauses.Literal.{NegationIsOther}
use Rattle.nz_spec.specs.terms.Table.{Node}
use Rattle.nz_spec.specs.search.Work.{WorkLine, WorkList, UnitLine, LearnedEntry, is_unit, unit_count, with_line}
use Rattle.nz_log.specs.declared.lits.Lit.{Lit}
use Rattle.nz_search.specs.declared.note.Note.{Note}
use Rattle.nz_log.specs.Logs.{LogState, literals_at}
use Rattle.nz_log.specs.Atoms.{TellsLits, clause_in}
use Rattle.nz_log.specs.Sound.{ClausesAreTrue}
use Rattle.nz_search.specs.Standing.{search_after}
use Rattle.nz_sat.specs.declared.analyze.Learned.{Learned}
use Rattle.nz_sat.specs.declared.clauses.Held.{Held}
use Rattle.nz_sat.specs.declared.consult.Bounds.{Bounds}
use Rattle.nz_sat.specs.declared.propagation.Propagation.{Propagation}
use Rattle.nz_sat.specs.declared.search.Search as state
use Rattle.nz_sat.specs.declared.trail.Assigned.{Assigned}
use Rattle.nz_sat.specs.Clauses.{HasReasonOf, HasTrue, IsAssumed, IsImplied, IsReasonOneOf}
use Rattle.nz_sat.specs.Conflicts.{AreUnmarked, is_marked}
use Rattle.nz_sat.specs.Numbers.{numbered}
use Rattle.nz_sat.specs.Sats.{AreHeld, HoldsLearned, learned_of, ids}
use Rattle.nz_log.specs.Codes.{code_of}
use Rattle.nz_sat.specs.Searching.{AreFirst, Carries, IsSearch, KeepsFirst, Learns, after_learned, learned_line}
use Rattle.nz_sat.specs.Theories.{AreLast, EndsLegally, IsTrailOn, TellsTrail, TheoryState, bounds_on, is_bound_at, told_literal, told_lits, told_on}
use Rattle.nz_sat.specs.Trails.{EachBehind, GoesOn, IsFrontOf, IsNext, IsTrail, IsTrueOn, TrailState, assigned, below, depth, implied, is_decision, literals_on}
use Rattle.nz_sat.specs.Watched.{AreWatched, HoldsAs, lone_ids, watch_state}
use Rattle.nz_sat.proofs.SearchSteps.{StaysAt, cut_stands, told_taken}
use Rattle.nz_sat.proofs.Clausal.{free_missing, truth_found}
use Rattle.nz_sat.proofs.TrailGrowth.{held_live, learned_grown}
use Rattle.nz_sat.proofs.LearnedClauses.{all_from}
use Rattle.nz_sat.proofs.LearnedWatches.{Holds, after_goes, after_true, after_watched, by_keep, first_longer, goes_back, literal_free, may_hold, watched_pair, watched_within}
use Rattle.nz_sat.proofs.Levels.{below_decided, below_false, below_front, below_twice}
use Rattle.nz_sat.proofs.SearchLines.{search_more}
use Rattle.nz_sat.proofs.LearnedLines as learned_lines
use Rattle.nz_sat.proofs.LearnedLines.{IsTaught, all, decisions_on, front_depth, learned_named, line_learned, line_legal, was_learned, was_told}
use Rattle.nz_sat.proofs.LogGrowth.{literals_stay, names_stay}
use Rattle.nz_sat.proofs.ToldTrails.{entries_there, entry_from, stands_so, told_among, told_stay}
use Rattle.nz_sat.proofs.AtomTrails.{cut_short, cut_told, last_goes, literals_kept, names_some, reason_kept, trail_cut, trail_grown}
use Rattle.nz_sat.proofs.TrailEntries.{each_front, each_push, each_weaker}
use Rattle.nz_sat.proofs.WatchedTrails.{first_grown, grown_watched}

-- ---- Reasons

reason_more : (us : List ℕ) (c : ℕ) (o : Option ℕ) → IsReasonOneOf us o → IsReasonOneOf (us ++ c ∷ []) o
reason_more us c None h = tt
reason_more us c (Some i) h = Contains-append_left us (c ∷ []) i h

-- ---- Filters

pub filters_map : {X Y : Type 0} (f : X → Y) (p : Y → Bool) (xs : List X) → filter p (map f xs) ≡ map f (filter (λ x. p (f x)) xs)
filters_map f p [] = refl
filters_map {Y = Y} f p (x ∷ xs) = step (p (f x)) (filters_map f p xs) where
  step : (b : Bool) → filter p (map f xs) ≡ map f (filter (λ x. p (f x)) xs)
      → (if b then f x ∷ filter p (map f xs) else filter p (map f xs)) ≡ map f (if b then x ∷ filter (λ x. p (f x)) xs else filter (λ x. p (f x)) xs)
  step true same = ap (λ (ys : List Y). f x ∷ ys) same
  step false same = same

pub filters_swap : {X : Type 0} (p q : X → Bool) (xs : List X) → filter p (filter q xs) ≡ filter q (filter p xs)
filters_swap p q [] = refl
filters_swap {X = X} p q (x ∷ xs) = step (p x) (q x) refl refl (filters_swap p q xs) where
  step : (b c : Bool) → p x ≡ b → q x ≡ c → filter p (filter q xs) ≡ filter q (filter p xs)
      → filter p (if c then x ∷ filter q xs else filter q xs) ≡ filter q (if b then x ∷ filter p xs else filter p xs)
  step true true is_p is_q same =
      ap (λ (b : Bool). if b then x ∷ filter p (filter q xs) else filter p (filter q xs)) is_p ∙ ap (λ (ys : List X). x ∷ ys) same
      ∙ sym (ap (λ (b : Bool). if b then x ∷ filter q (filter p xs) else filter q (filter p xs)) is_q)
  step true false is_p is_q same = same ∙ sym (ap (λ (b : Bool). if b then x ∷ filter q (filter p xs) else filter q (filter p xs)) is_q)
  step false true is_p is_q same = ap (λ (b : Bool). if b then x ∷ filter p (filter q xs) else filter p (filter q xs)) is_p ∙ same
  step false false is_p is_q same = same

-- no more decisions stand up to a level
below_most : (size : ℕ) (es : List Assigned) → EachBehind (IsNext size) es → (k : ℕ) → depth (below k es) ≤ k
below_most size es order k =
    let same = sym (length-filter is_decision (below k es)) ∙ ap length (below_decided size es order k) in
    let most = length-take k (filter is_decision es) in
    let least = min-le_left k (length (filter is_decision es)) in
    omega (arith, same, most, least)

-- ---- The state

module _ (log log' : LogState) (held : List Held) (s : state.Search) (work : WorkList Note) (falsified : ℕ) (l : Learned) (h : IsTaught log log' held s work falsified l) where
  abbrev es : List Assigned
  es = s.trail.entries

  abbrev front : List Assigned
  front = below l.keep es

  abbrev mine : Assigned
  mine = implied front l.literal l.clause

  abbrev lits : List Lit
  lits = literals_at log' l.clause

  abbrev held' : List Held
  held' = held ++ learned_of log' l.clause l.glue ∷ []

  back : l.keep < depth es
  back = goes_back log' s.trail h.search.on.order l h.learned

  pub literal_missing : assigned front l.literal.atom ≡ None
  literal_missing = free_missing front l.literal.atom (literal_free log' s.trail h.search.on.order l h.learned l.keep back)

  -- the literals are of atoms of the trail
  lits_within : (m : Lit) → Contains lits m → m.atom < s.trail.size
  lits_within m has = All-contains (λ (t : ℕ). t < s.trail.size) s.atoms m.atom h.search.within (learned_named log log' held s work falsified l h m has)

  pub literal_within : l.literal.atom < s.trail.size
  literal_within = lits_within l.literal h.learned.has

  -- and those that are watched have their lists
  pub clause_within : (n : ℕ) → 2 * s.trail.size ≤ n → IfSome (watched_pair l) (λ (pair : Lit × Lit). (code_of pair.0 < n) × (code_of pair.1 < n))
  clause_within n room = watched_within log' s.trail h.search.on.order l h.learned lits_within n room

  old_literals : (i : ℕ) → Contains (ids held) i → literals_at log' i ≡ literals_at log i
  old_literals i has = literals_kept log log' h.grows i (held_live log held h.search.are_held i has)

  ids_more : ids held' ≡ ids held ++ l.clause ∷ []
  ids_more = map-append (λ (x : Held). x.id) held (learned_of log' l.clause l.glue ∷ [])

  each_held : (P : ℕ → Type 0) → ((i : ℕ) → Contains (ids held) i → P i) → P l.clause → All P (ids held')
  each_held P f last = subst (All P) (sym ids_more) (All-push P (ids held) l.clause (all_from P (ids held) f) last)

  by_its_keep : (P : List Assigned → Type 0) → (l.keep ≡ l.level → P (front ++ mine ∷ [])) → P front → P (after_learned es l)
  by_its_keep P asserts stays = by_keep log' s.trail h.search.on.order l h.learned P asserts (λ less. stays)

  abbrev goes : GoesOn front (after_learned es l)
  goes = after_goes log' s.trail h.search.on.order l h.learned

  -- what holds of each entry, and of the new one
  after_each : (P : Assigned → Type 0) → All P es → P mine → All P (after_learned es l)
  after_each P each last =
      let old : All P front = All-filter (λ (e : Assigned). nat_le e.level l.keep) P es each in
      by_its_keep (All P) (λ same. All-push P front mine old last) old

  after_implied : EachBehind (IsImplied log') (after_learned es l)
  after_implied =
      let f = below_front s.trail.size es h.search.on.order l.keep in
      let grown = each_weaker (IsImplied log) (IsImplied log') (λ before e r. reason_kept log log' h.grows before e.literal e.reason r) es h.search.on.implied in
      let old : EachBehind (IsImplied log') front = each_front (IsImplied log') front f.more (subst (EachBehind (IsImplied log')) f.joined grown) in
      by_its_keep (EachBehind (IsImplied log'))
      (λ same.
      each_push (IsImplied log') front mine old
      (record {
        live = h.learned.live;
        has = h.learned.has;
        others = λ m has other.
            let low = h.learned.others m has other in below_false s.trail.size es h.search.on.order l.keep m (h.learned.falsified m has) (omega (arith, low, same));
      }))
      old

  after_reasons : All (HasReasonOf (ids held')) (after_learned es l)
  after_reasons =
      let us = ids held ++ l.clause ∷ [] in
      subst (λ (is : List ℕ). All (HasReasonOf is) (after_learned es l)) (sym ids_more)
      (after_each (HasReasonOf us) (All-weaker (HasReasonOf (ids held)) (HasReasonOf us) (λ e r. reason_more (ids held) l.clause e.reason r) es h.search.reasons)
      (Contains-push (ids held) l.clause))

  -- ---- The work list

  abbrev at : List Node → Search
  at ns = search_after ns work

  abbrev pub line : WorkLine Note
  line = learned_line s.atoms log' l

  abbrev pub work' : WorkList Note
  work' = with_line work line

  line_goes : (ns : List Node) → search_after ns work' ≡ after_line (at ns) (UnitLine (LearnedEntry l.keep (map (numbered s.atoms) lits)))
  line_goes ns = search_more ns work (line ∷ [])

  after_decided : filter is_decision (after_learned es l) ≡ take l.keep (filter is_decision es)
  after_decided =
      let old = below_decided s.trail.size es h.search.on.order l.keep in
      by_its_keep (λ (xs : List Assigned). filter is_decision xs ≡ take l.keep (filter is_decision es))
      (λ same. filter-append is_decision front (mine ∷ []) ∙ append-nil (filter is_decision front) ∙ old) old

  abbrev whole : List Assigned
  whole = all log log' held s work falsified l h

  is_front : IsFrontOf es whole
  is_front = learned_lines.front log log' held s work falsified l h

  -- the first decisions of what is noted are those of the trail
  kept_decided : take l.keep (filter is_decision whole) ≡ take l.keep (filter is_decision es)
  kept_decided =
      let long = length-filter is_decision es in
      ap (take l.keep) (decisions_on es whole is_front) ∙ take-append-le l.keep (filter is_decision es) (filter is_decision is_front.more) (omega (arith, long, back))

  -- ---- What was told

  -- the search went back to no lower level
  level_low : l.keep ≤ h.noted.level
  level_low =
      let cut = ap depth h.noted.cut in
      let few = below_most h.noted.before.trail.size whole h.noted.search.on.order h.noted.level in
      omega (arith, back, cut, few)

  same_front : below l.keep whole ≡ front
  same_front = sym (ap (below l.keep) h.noted.cut ∙ below_twice l.keep h.noted.level level_low whole)

  -- each bound of the front was told, and none of the others is
  list_told : below l.keep (told_on h.noted.before.bounds whole) ≡ bounds_on s.bounds.marks.items front
  list_told =
      let b = h.noted.before.bounds in
      let deeper = front_depth es whole is_front in
      filters_swap (λ (e : Assigned). nat_le e.level l.keep) (λ (e : Assigned). is_marked b.marks.items e.literal.atom) (take b.told whole)
      ∙ ap (bounds_on b.marks.items) (cut_told b.told l.keep whole h.noted.search.on.untold_last (omega (arith, back, deeper)) ∙ same_front)
      ∙ ap (λ (v : Vec Bool Global). bounds_on v.items front) (sym h.noted.marks)

  after_told : (b : Bounds) → b ≡ record s.bounds { told = min s.bounds.told (length front) } → told_on b (after_learned es l) ≡ bounds_on s.bounds.marks.items front
  after_told b is =
      let short = cut_short s.bounds.told l.keep es h.search.on.untold_last back in
      let least : min s.bounds.told (length front) ≡ length front = min-eq_right short in
      ap (λ (x : Bounds). told_on x (after_learned es l)) is
      ∙ ap (λ (n : ℕ). bounds_on s.bounds.marks.items (take n (after_learned es l))) least
      ∙ ap (bounds_on s.bounds.marks.items)
      (ap (take (length front)) goes.joined ∙ take-append-le (length front) front goes.more (omega arith) ∙ take_all (length front) front (omega arith))

  pub after_tells : (b : Bounds) → b ≡ record s.bounds { told = min s.bounds.told (length front) } → TellsTrail log' s.atoms b (after_learned es l) work'
  after_tells b is =
      let f : Assigned → ℕ × Bool = λ (e : Assigned). numbered s.atoms e.literal in
      let told = was_told log log' held s work falsified l h in
      let low : ToldLiteral → Bool = λ t. nat_le t.depth l.keep in
      let T : Assigned → Type 0 = λ e. IsSome (slice_get log.atoms e.literal.atom) in
      let there : All T (bounds_on s.bounds.marks.items front) =
      All-filter (λ (e : Assigned). is_marked s.bounds.marks.items e.literal.atom) T front
      (All-filter (λ (e : Assigned). nat_le e.level l.keep) T es (entries_there log s.atoms h.search.on.there es h.search.on.on_trail)) in
      record {
        named = λ ns.
            ap (λ (x : Search). x.atoms) (line_goes ns) ∙ told.named ns
            ∙ sym (names_stay log.atoms log'.atoms h.grows.atoms ns s.atoms (names_some log s.atoms h.search.on.there));
        decided = λ ns.
            ap (λ (x : Search). x.decided) (line_goes ns) ∙ ap (take l.keep) (told.decided ns) ∙ take-map f l.keep (filter is_decision whole) ∙ ap (map f) (kept_decided ∙ sym after_decided);
        told = λ ns.
            ap (λ (x : Search). x.told) (line_goes ns) ∙ ap (filter low) (told.told ns) ∙ filters_map (told_literal ns log.atoms) low (told_on h.noted.before.bounds whole)
            ∙ ap (map (told_literal ns log.atoms)) list_told ∙ sym (told_stay log.atoms log'.atoms h.grows.atoms ns (bounds_on s.bounds.marks.items front) there)
            ∙ ap (map (told_literal ns log'.atoms)) (sym (after_told b is));
      }

  one_unit : unit_count work'.lines ≡ suc (unit_count work.lines)
  one_unit =
      let one : unit_count work'.lines ≡ unit_count work.lines + 1 =
      sum_by_push (λ (x : WorkLine Note). if is_unit x then 1 else 0) work.lines (learned_line s.atoms log' l) in
      omega (arith, one)

  after_first : KeepsFirst es (after_learned es l)
  after_first m holds =
      subst (λ (xs : List Assigned). IsTrueOn xs m) (sym (first_longer log' s.trail h.search.on.order l h.learned)) (truth_found (below 0 es) (below 0 goes.more) m.atom m.sign holds)

  -- ---- The search

  module _ (s' : state.Search) (atoms : s'.atoms ≡ s.atoms) (size : s'.trail.size ≡ s.trail.size) (entries : s'.trail.entries ≡ after_learned es l) (bounds : s'.bounds ≡ record s.bounds { told = min s.bounds.told (length front) })
      (p : Propagation) (looked : p ≡ record s.propagation { head = min s.propagation.head (length front) }) (holds : Holds log' (learned_of log' l.clause l.glue) (watched_pair l) p s'.propagation) (marks : length s'.seen.items ≡ length s.seen.items) (unmarked : AreUnmarked s'.seen.items)
      (are_held : AreHeld log' held') (ordered : IsTrail s'.trail) (room : unit_count work.lines < work.limit) where
    after_on : All (λ (e : Assigned). Contains s.atoms e.literal.atom) (after_learned es l) → IsTrailOn log' s'.atoms s'.bounds s'.trail
    after_on on_trail =
        let cut : TrailState = record { entries = front; size = s.trail.size } in
        let made = trail_cut log s.atoms s.bounds s.trail h.search.on l.keep (record s.bounds { told = min s.bounds.told (length front) }) cut refl refl refl in
        let long = ap length entries ∙ ap length goes.joined ∙ length-append front goes.more in
        let inside = made.inside in
        let least = ap (λ (x : Bounds). x.told) bounds in
        let grown = trail_grown log s.atoms (record s.bounds { told = min s.bounds.told (length front) }) cut made log' h.grows in
        let last = last_goes (min s.bounds.told (length front)) front (after_learned es l) inside goes made.untold_last in
        subst (λ (us : List ℕ). IsTrailOn log' us s'.bounds s'.trail) (sym atoms)
        (record {
          there = grown.there;
          marked = subst (λ (x : Bounds). All (λ (i : ℕ). is_marked x.marks.items i ≡ is_bound_at log'.atoms i) s.atoms) (sym bounds) grown.marked;
          on_trail = subst (All (λ (e : Assigned). Contains s.atoms e.literal.atom)) (sym entries) on_trail;
          order = ordered;
          implied = subst (EachBehind (IsImplied log')) (sym entries) after_implied;
          inside = omega (arith, long, inside, least);
          untold_last = subst (λ (x : Bounds). AreLast x.told s'.trail.entries) (sym bounds)
              (subst (AreLast (min s.bounds.told (length front))) (sym entries) last);
        })

    -- the clauses are those from before, and the new one
    before_has : (g : Held) → HoldsAs s.propagation g → HoldsAs p g
    before_has g has = subst (λ (x : Propagation). HoldsAs x g) (sym looked) has

    had_before : (g : Held) → HoldsAs p g → HoldsAs s.propagation g
    had_before g has = subst (λ (x : Propagation). HoldsAs x g) looked has

    abbrev after : TrailState
    after = record { entries = after_learned es l; size = s.trail.size }

    after_trail : s'.trail ≡ after
    after_trail = ap (λ (xs : List Assigned). record { entries = xs; size = s'.trail.size }) entries ∙ ap (λ (n : ℕ). record { entries = after_learned es l; size = n }) size

    after_clauses : AreWatched log' (watch_state s'.propagation s'.trail)
    after_clauses =
        let order = h.search.on.order in
        subst (λ (t : TrailState). AreWatched log' (watch_state s'.propagation t)) (sym after_trail)
        (holds.watched after (after_watched log' s.trail order l h.learned s.propagation p looked (grown_watched log log' (watch_state s.propagation s.trail) h.grows h.search.watched))
        (may_hold log' s.trail order l h.learned lits_within p.head))

    after_lone : AreFirst log' s'
    after_lone =
        subst (λ (xs : List Assigned). All (λ (i : ℕ). HasTrue (below 0 xs) (literals_at log' i)) (lone_ids s'.propagation)) (sym entries)
        (after_true log' s.trail h.search.on.order l h.learned (subst IsTrail after_trail ordered) p s'.propagation holds
        (subst (λ (x : Propagation). All (λ (i : ℕ). HasTrue (below 0 es) (literals_at log' i)) (lone_ids x)) (sym looked) (first_grown log log' s h.grows h.search.watched h.first)))

    after_search : IsSearch log' held' s'
    after_search =
        let N : ℕ → Type 0 = λ i. All (λ (m : Lit). Contains s.atoms m.atom) (literals_at log' i) in
        let named : All N (ids held') =
        each_held N
        (λ i has. subst (All (λ (m : Lit). Contains s.atoms m.atom)) (sym (old_literals i has))
        (All-contains (λ (j : ℕ). All (λ (m : Lit). Contains s.atoms m.atom) (literals_at log j)) (ids held) i h.search.named has))
        (all_from (λ (m : Lit). Contains s.atoms m.atom) lits (learned_named log log' held s work falsified l h)) in
        let on_trail = after_each (λ (e : Assigned). Contains s.atoms e.literal.atom) h.search.on.on_trail (learned_named log log' held s work falsified l h l.literal h.learned.has) in
        record {
          are_held = are_held;
          covered = λ g has.
              All-contains (HoldsAs s'.propagation) held' g
              (All-push (HoldsAs s'.propagation) held (learned_of log' l.clause l.glue)
              (all_from (HoldsAs s'.propagation) held (λ d old. holds.kept d (before_has d (h.search.covered d old)))) holds.has) has;
          only = λ g has.
              elim (holds.only g has) [
                | inl old ↦ Contains-append_left held (learned_of log' l.clause l.glue ∷ []) g (h.search.only g (had_before g old))
                | inr same ↦ subst (Contains held') same (Contains-push held (learned_of log' l.clause l.glue))
              ];
          named = subst (λ (us : List ℕ). All (λ (i : ℕ). All (λ (m : Lit). Contains us m.atom) (literals_at log' i)) (ids held')) (sym atoms) named;
          within = subst (All (λ (t : ℕ). t < s'.trail.size)) (sym atoms) (subst (λ (n : ℕ). All (λ (t : ℕ). t < n) s.atoms) (sym size) h.search.within);
          watched = after_clauses;
          marks = marks ∙ h.search.marks ∙ sym size;
          unmarked = unmarked;
          on = after_on on_trail;
          reasons = subst (All (HasReasonOf (ids held'))) (sym entries) after_reasons;
        }

    after_carries : Carries s s' work work'
    after_carries = record {
      atoms = atoms;
      first = subst (KeepsFirst es) (sym entries) after_first;
      assumed_only = λ assumed only. subst (All (IsAssumed assumed)) (sym entries) (after_each (IsAssumed assumed) only (λ none level. cc));
      units = omega (arith, one_unit);
    }

    pub learned : Learns log' held' s s' work work'
    learned =
        record {
          may = record { search = after_search; first = after_lone };
          noted = record {
            trail = subst (λ (us : List ℕ). TellsTrail log' us s'.bounds s'.trail.entries work') (sym atoms)
                (subst (λ (xs : List Assigned). TellsTrail log' s.atoms s'.bounds xs work') (sym entries) (after_tells s'.bounds bounds));
            learned = subst (λ (us : List ℕ). HoldsLearned log' us held' work') (sym atoms)
                (line_learned log log' held s work falsified l h held' refl
                (learned_grown log log' s.atoms held h.grows h.search.are_held work (was_learned log log' held s work falsified l h)));
          };
          carries = after_carries;
          unit = one_unit;
          within = omega (arith, one_unit);
        }

    -- the theory stands where the list leads
    pub learned_ends : (m m' : TheoryState) → TellsLits → ClausesAreTrue → NegationIsOther → LegalWorkGoesOn → StaysAt m m' (told_lits s.bounds es) (told_lits s'.bounds s'.trail.entries) → {A : Type 0} → (x : A)
        → EndsLegally m m' log held s.atoms (told_lits s.bounds es) es work work' (Ok x)
    learned_ends m m' tells clauses other goes_on stays x ns levels assumed q known on asked st =
        let told' = told_lits s'.bounds s'.trail.entries in
        let b : Bounds = record s.bounds { told = min s.bounds.told (length front) } in
        let f = below_front s.trail.size es h.search.on.order l.keep in
        let inside : min s.bounds.told (length front) ≤ length front = min-le_right s.bounds.told (length front) in
        let same : told' ≡ told_lits b front =
        ap (λ (xs : List Assigned). told_lits s'.bounds xs) entries ∙ ap (λ (x : Bounds). told_lits x (after_learned es l)) bounds
        ∙ ap (λ (xs : List Assigned). literals_on (bounds_on s.bounds.marks.items xs))
        (ap (take (min s.bounds.told (length front))) goes.joined ∙ take-append-le (min s.bounds.told (length front)) front goes.more inside) in
        let first : take (length told') (told_lits s.bounds es) ≡ told' =
        subst (λ (ls : List Lit). take (length ls) (told_lits s.bounds es) ≡ ls) (sym same) (told_taken s.bounds b es front f refl) in
        let cut = cut_stands m m' ns q log work (told_lits s.bounds es) told' stays first st in
        let on_trail : All (λ (e : Assigned). Contains s.atoms e.literal.atom) s'.trail.entries =
        subst (λ (us : List ℕ). All (λ (e : Assigned). Contains us e.literal.atom) s'.trail.entries) atoms after_search.on.on_trail in
        let there : All (λ (k : Lit). IsSome (slice_get log.atoms k.atom)) told' =
        all_from (λ (k : Lit). IsSome (slice_get log.atoms k.atom)) told'
        (λ k has.
        let e = entry_from s'.trail.entries k (told_among s'.bounds s'.trail.entries k has) in
        All-contains (λ (i : ℕ). IsSome (slice_get log.atoms i)) s.atoms k.atom (names_some log s.atoms h.search.on.there)
        (subst (λ (x : Lit). Contains s.atoms x.atom) e.3 (All-contains (λ (x : Assigned). Contains s.atoms x.literal.atom) s'.trail.entries e.1 on_trail (has_found s'.trail.entries e.0 e.1 e.2)))) in
        let says : clause_in ns log.atoms told' ≡ clause_in ns log'.atoms told' = sym (literals_stay log.atoms log'.atoms h.grows.atoms ns told' there) in
        let tells' : TellsTrail log' s.atoms s'.bounds s'.trail.entries work' =
        subst (λ (xs : List Assigned). TellsTrail log' s.atoms s'.bounds xs work') (sym entries) (after_tells s'.bounds bounds) in
        stands_so ns log' s.atoms s'.bounds s'.trail.entries work' tells' (m'.at ns) q
        (record {
          point = cut.point;
          legal = line_legal log log' held s work falsified l h tells clauses other ns levels assumed q on.only asked goes_on cut.point cut.legal;
          at = subst (λ (r : Search). m'.at ns r.forms (clause_in ns log'.atoms told') cut.point) (sym (line_goes ns))
              (subst (λ (ls : List spec.Literal). m'.at ns (search_after ns work).forms ls cut.point) says cut.at);
        })
