-- Another literal of a clause is watched in the place of one: the clauses are still listed.
use Rattle.std.proofs.Common.{◌≡◌, ◌≢◌, ℕ, ◌*◌, ◌<◌, ◌≤◌, ◌⊎◌, inl, inr, Bool, true, false, not, if◌then◌else◌, List, [], ◌∷◌, ◌++◌, length, take, drop, Option, Some, refl, sym, ap, subst, ◌∙◌, arith, true≢false}
use Rattle.std.specs.Prelude.{Contains, option_map, slice_get}
use Rattle.std.proofs.lemmas.Bool.{cases_eq}
use Rattle.std.proofs.lemmas.List.{take-append-drop}
use Rattle.std.proofs.lemmas.Option.{same_Some}
use Rattle.nz_lists.proofs.Places.{slice_get_kept, slice_get-push_cases}
use Rattle.nz_log.specs.declared.lits.Lit.{Lit}
use Rattle.nz_log.specs.Lits.{are_same_lit}
use Rattle.nz_log.specs.Logs.{LogState, literals_at}
use Rattle.nz_sat.specs.declared.clauses.WatchedClause.{WatchedClause}
use Rattle.nz_sat.specs.declared.trail.Assigned.{Assigned}
use Rattle.nz_sat.specs.declared.watches.Watch.{Watch}
use Rattle.nz_sat.specs.Clauses.{HasTrue, IsHeldIn, IsUsable, IsWatchedIn, held_as, other_in, with_watch}
use Rattle.nz_log.specs.Codes.{code_of}
use Rattle.nz_sat.specs.Lists.{AreOnce, HasKey, TakesOut}
use Rattle.nz_sat.specs.Trails.{IsFalseOn, IsTrail, below}
use Rattle.nz_sat.specs.Watched.{AreListed, AreSettledBy, AreWatched, HoldSame, IsWatch, MayRewatch, State}
use Rattle.nz_sat.proofs.Clausal.{truth_found}
use Rattle.nz_sat.proofs.Levels.{below_true}
use Rattle.nz_sat.proofs.LiteralNumbers.{code_within, lit_cases, lit_is, lit_is_not}
use Rattle.nz_sat.proofs.SetPlaces.{push_at}

-- ---- One clause

-- what another watch makes of a clause in which a literal is watched
pub record IsTurned (h turned : WatchedClause) (l next other : Lit) : Type 0 where
  pub id : turned.id ≡ h.id
  pub held : held_as turned ≡ held_as h
  pub now : (m : Lit) → IsWatchedIn turned m → (m ≡ next) ⊎ (m ≡ other)
  pub has_next : IsWatchedIn turned next
  pub has_other : IsWatchedIn turned other
  pub before : (m : Lit) → IsWatchedIn h m → (m ≡ l) ⊎ (m ≡ other)
  pub was_other : IsWatchedIn h other
  pub apart : other ≢ l
  pub both : ((turned.first ≡ next) × (turned.second ≡ other)) ⊎ ((turned.first ≡ other) × (turned.second ≡ next))

either_way : (b : Bool) (h : WatchedClause) (l next : Lit) → h.first ≢ h.second → (b ≡ true → h.first ≡ l) → (b ≡ false → h.second ≡ l)
    → IsTurned h (if b then record h { first = next } else record h { second = next }) l next (if b then h.second else h.first)
either_way true h l next differ is_first is_second =
    record {
      id = refl;
      held = refl;
      now = λ m watched. elim watched [ inl e ↦ inl (sym e) | inr e ↦ inr (sym e) ];
      has_next = inl refl;
      has_other = inr refl;
      before = λ m watched. elim watched [ inl e ↦ inl (sym e ∙ is_first refl) | inr e ↦ inr (sym e) ];
      was_other = inr refl;
      apart = λ e. differ (is_first refl ∙ sym e);
      both = inl (refl, refl);
    }
either_way false h l next differ is_first is_second =
    record {
      id = refl;
      held = refl;
      now = λ m watched. elim watched [ inl e ↦ inr (sym e) | inr e ↦ inl (sym e) ];
      has_next = inr refl;
      has_other = inl refl;
      before = λ m watched. elim watched [ inl e ↦ inr (sym e) | inr e ↦ inl (sym e ∙ is_second refl) ];
      was_other = inl refl;
      apart = λ e. differ (e ∙ sym (is_second refl));
      both = inr (refl, refl);
    }

pub turned : (h : WatchedClause) (l next : Lit) → h.first ≢ h.second → IsWatchedIn h l → IsTurned h (with_watch h l next) l next (other_in h l)
turned h l next differ watched =
    either_way (are_same_lit h.first l) h l next differ (λ e. lit_is h.first l e) (λ e. elim watched [
      | inl first ↦ absurd (lit_is_not h.first l e first)
      | inr second ↦ second
    ])

-- ---- The lists

module _ (s : LogState) (size : ℕ) (held held' : ℕ → Option WatchedClause) (lists lists' : Lit → List Watch) (w : AreListed s size held lists)
    (l next : Lit) (i : ℕ) (watch new : Watch) (clause : WatchedClause) (at : slice_get (lists l) i ≡ Some watch) (here : held watch.key ≡ Some clause)
    (has : Contains (literals_at s clause.id) next) (apart : next ≢ other_in clause l) (fresh : next ≢ l)
    (changed : held' watch.key ≡ Some (with_watch clause l next)) (others : (k : ℕ) → k ≢ watch.key → held' k ≡ held k)
    (key : new.key ≡ watch.key) (blocker : new.blocker ≡ other_in clause l) (long : new.is_short ≡ false)
    (taken : TakesOut i (lists l) (lists' l)) (put : lists' next ≡ lists next ++ new ∷ []) (same : (m : Lit) → m ≢ l → m ≢ next → lists' m ≡ lists m) where
  abbrev other : Lit
  other = other_in clause l

  abbrev after : WatchedClause
  after = with_watch clause l next

  in_log : IsHeldIn s size clause
  in_log = w.clauses watch.key clause here

  own : IsWatch s held l watch
  own = w.watches l i watch at

  is_clause : own.clause ≡ clause
  is_clause = same_Some own.clause clause (sym own.at ∙ here)

  turn : IsTurned clause after l next other
  turn = turned clause l next in_log.differ (subst (λ (h : WatchedClause). IsWatchedIn h l) is_clause own.watched)

  -- the clause of a watch that is of this key
  of_key : (m : Lit) (v : Watch) → IsWatch s held m v → v.key ≡ watch.key → IsWatchedIn clause m
  of_key m v h e =
      let this : h.clause ≡ clause = same_Some h.clause clause (sym h.at ∙ ap held e ∙ here) in
      subst (λ (c : WatchedClause). IsWatchedIn c m) this h.watched

  elsewhere : (m : Lit) (v : Watch) → IsWatch s held m v → v.key ≢ watch.key → IsWatch s held' m v
  elsewhere m v h other_key =
      record {
        clause = h.clause;
        at = others v.key other_key ∙ h.at;
        watched = h.watched;
        has = h.has;
        other = h.other;
        short = h.short;
      }

  literals_same : literals_at s after.id ≡ literals_at s clause.id
  literals_same = ap (literals_at s) turn.id

  -- the watch in the list of the other literal
  beside : (v : Watch) → IsWatch s held other v → v.key ≡ watch.key → IsWatch s held' other v
  beside v h e =
      let this : h.clause ≡ clause = same_Some h.clause clause (sym h.at ∙ ap held e ∙ here) in
      let lits : literals_at s h.clause.id ≡ literals_at s after.id = ap (λ (c : WatchedClause). literals_at s c.id) this ∙ sym literals_same in
      record {
        clause = after;
        at = ap held' e ∙ changed;
        watched = turn.has_other;
        has = subst (λ (c : List Lit). Contains c v.blocker) lits h.has;
        other = h.other;
        short = λ is m within. h.short is m (subst (λ (c : List Lit). Contains c m) (sym lits) within);
      }

  abbrev lits : List Lit
  lits = literals_at s clause.id

  other_has : Contains lits other
  other_has = elim turn.was_other [
    | inl e ↦ subst (λ (m : Lit). Contains lits m) e in_log.has_first
    | inr e ↦ subst (λ (m : Lit). Contains lits m) e in_log.has_second
  ]

  at_first : ((after.first ≡ next) × (after.second ≡ other)) ⊎ ((after.first ≡ other) × (after.second ≡ next)) → Contains lits after.first
  at_first (inl p) = subst (λ (m : Lit). Contains lits m) (sym p.0) has
  at_first (inr p) = subst (λ (m : Lit). Contains lits m) (sym p.0) other_has

  at_second : ((after.first ≡ next) × (after.second ≡ other)) ⊎ ((after.first ≡ other) × (after.second ≡ next)) → Contains lits after.second
  at_second (inl p) = subst (λ (m : Lit). Contains lits m) (sym p.1) other_has
  at_second (inr p) = subst (λ (m : Lit). Contains lits m) (sym p.1) has

  two_apart : ((after.first ≡ next) × (after.second ≡ other)) ⊎ ((after.first ≡ other) × (after.second ≡ next)) → after.first ≢ after.second
  two_apart (inl p) e = apart (sym p.0 ∙ e ∙ p.1)
  two_apart (inr p) e = apart (sym p.1 ∙ sym e ∙ p.0)

  held_after : IsHeldIn s size after
  held_after =
      record {
        usable = subst (IsUsable s size) (sym turn.id) in_log.usable;
        has_first = subst (λ (c : List Lit). Contains c after.first) (sym literals_same) (at_first turn.both);
        has_second = subst (λ (c : List Lit). Contains c after.second) (sym literals_same) (at_second turn.both);
        differ = two_apart turn.both;
      }

  added : IsWatch s held' next new
  added =
      record {
        clause = after;
        at = ap held' key ∙ changed;
        watched = turn.has_next;
        has = subst (λ (b : Lit). Contains (literals_at s after.id) b) (sym blocker) (subst (λ (c : List Lit). Contains c other) (sym literals_same) other_has);
        other = λ e. apart (sym e ∙ blocker);
        short = λ is. absurd (true≢false (sym is ∙ long));
      }

  kept_or : (m : Lit) (v : Watch) → m ≢ l → m ≢ other → IsWatch s held m v → IsWatch s held' m v
  kept_or m v away beside_it h = elim (cases_eq v.key watch.key) [
    | inl e ↦ elim (turn.before m (of_key m v h e)) [ inl is ↦ absurd (away is) | inr is ↦ absurd (beside_it is) ]
    | inr n ↦ elsewhere m v h n
  ]

  watches : (m : Lit) (j : ℕ) (v : Watch) → slice_get (lists' m) j ≡ Some v → IsWatch s held' m v
  watches m j v there = elim (lit_cases m l) [
    | inl is ↦
        let mine : slice_get (lists' l) j ≡ Some v = subst (λ (n : Lit). slice_get (lists' n) j ≡ Some v) is there in
        let from = taken.from j v mine in
        let old = w.watches l from.0 v from.2 in
        subst (λ (n : Lit). IsWatch s held' n v) (sym is)
        (elsewhere l v old (λ e. from.1 (w.once l from.0 i v watch from.2 at e)))
    | inr away ↦ elim (lit_cases m next) [
      | inl is ↦
          let mine : slice_get (lists next ++ new ∷ []) j ≡ Some v = subst (λ (list : List Watch). slice_get list j ≡ Some v) (ap lists' is ∙ put) there in
          subst (λ (n : Lit). IsWatch s held' n v) (sym is)
          (elim (slice_get-push_cases (lists next) new j v mine) [
            | inl old ↦ kept_or next v fresh apart (w.watches next j v old)
            | inr last ↦ subst (λ (u : Watch). IsWatch s held' next u) last.1 added
          ])
      | inr far ↦
          let mine : slice_get (lists m) j ≡ Some v = subst (λ (list : List Watch). slice_get list j ≡ Some v) (same m away far) there in
          let old = w.watches m j v mine in
          elim (lit_cases m other) [
            | inl is ↦ elim (cases_eq v.key watch.key) [
              | inl e ↦ subst (λ (n : Lit). IsWatch s held' n v) (sym is) (beside v (subst (λ (n : Lit). IsWatch s held n v) is old) e)
              | inr n ↦ elsewhere m v old n
            ]
            | inr apart_too ↦ kept_or m v away apart_too old
          ]
    ]
  ]

  once_next : AreOnce (lists next ++ new ∷ [])
  once_next j k u v one two e = elim (slice_get-push_cases (lists next) new j u one) [
    | inl old ↦ elim (slice_get-push_cases (lists next) new k v two) [
      | inl beside_it ↦ w.once next j k u v old beside_it e
      | inr last ↦ absurd (no_key u (w.watches next j u old) (e ∙ ap (λ (x : Watch). x.key) (sym last.1) ∙ key))
    ]
    | inr last ↦ elim (slice_get-push_cases (lists next) new k v two) [
      | inl old ↦ absurd (no_key v (w.watches next k v old) (sym e ∙ ap (λ (x : Watch). x.key) (sym last.1) ∙ key))
      | inr too ↦ last.0 ∙ sym too.0
    ]
  ]
    where
      no_key : (v : Watch) → IsWatch s held next v → v.key ≡ watch.key → ⊥
      no_key v h e = elim (turn.before next (of_key next v h e)) [ inl is ↦ fresh is | inr is ↦ apart is ]

  once : (m : Lit) → AreOnce (lists' m)
  once m = elim (lit_cases m l) [
    | inl is ↦ subst (λ (n : Lit). AreOnce (lists' n)) (sym is) (taken.once (w.once l))
    | inr away ↦ elim (lit_cases m next) [
      | inl is ↦ subst AreOnce (sym (ap lists' is ∙ put)) once_next
      | inr far ↦ subst AreOnce (sym (same m away far)) (w.once m)
    ]
  ]

  stays_in : (k : ℕ) (m : Lit) → k ≢ watch.key → HasKey k (lists m) → HasKey k (lists' m)
  stays_in k m not_this h = elim (lit_cases m l) [
    | inl is ↦
        let mine : slice_get (lists l) h.place ≡ Some h.watch = subst (λ (n : Lit). slice_get (lists n) h.place ≡ Some h.watch) is h.at in
        let moved_on : h.place ≢ i = λ e. not_this (sym h.is ∙ ap (λ (x : Watch). x.key) (same_Some h.watch watch (sym mine ∙ ap (slice_get (lists l)) e ∙ at))) in
        let now = taken.stays h.place h.watch moved_on mine in
        subst (λ (n : Lit). HasKey k (lists' n)) (sym is) (record { place = now.0; watch = h.watch; behind = omega arith; at = now.1; is = h.is })
    | inr away ↦ elim (lit_cases m next) [
      | inl is ↦
          let mine : slice_get (lists next) h.place ≡ Some h.watch = subst (λ (n : Lit). slice_get (lists n) h.place ≡ Some h.watch) is h.at in
          subst (HasKey k) (sym (ap lists' is ∙ put))
          (record { place = h.place; watch = h.watch; behind = omega arith; at = slice_get_kept (lists next) (new ∷ []) h.place h.watch mine; is = h.is })
      | inr far ↦ subst (HasKey k) (sym (same m away far)) h
    ]
  ]

  covered : (k : ℕ) (h : WatchedClause) → held' k ≡ Some h → (m : Lit) → IsWatchedIn h m → HasKey k (lists' m)
  covered k h there m watched = elim (cases_eq k watch.key) [
    | inl e ↦
        let is_after : h ≡ after = same_Some h after (sym there ∙ ap held' e ∙ changed) in
        elim (turn.now m (subst (λ (c : WatchedClause). IsWatchedIn c m) is_after watched)) [
          | inl is ↦
              subst (HasKey k) (sym (ap lists' is ∙ put))
              (record { place = length (lists next); watch = new; behind = omega arith; at = push_at (lists next) new; is = key ∙ sym e })
          | inr is ↦
              let old = w.covered watch.key clause here other turn.was_other in
              let away : lists' other ≡ lists other = same other turn.apart (λ q. apart (sym q)) in
              subst (λ (n : ℕ). HasKey n (lists' m)) (sym e) (subst (HasKey watch.key) (sym (ap lists' is ∙ away)) old)
        ]
    | inr n ↦ stays_in k m n (w.covered k h (sym (others k n) ∙ there) m watched)
  ]

  clauses : (k : ℕ) (h : WatchedClause) → held' k ≡ Some h → IsHeldIn s size h
  clauses k h there = elim (cases_eq k watch.key) [
    | inl e ↦
        let is_after : h ≡ after = same_Some h after (sym there ∙ ap held' e ∙ changed) in
        subst (IsHeldIn s size) (sym is_after) held_after
    | inr n ↦ w.clauses k h (sym (others k n) ∙ there)
  ]

  pub rewatched : AreListed s size held' lists'
  rewatched = record { clauses = clauses; watches = watches; once = once; covered = covered }

-- ---- All that is watched

module _ (s : LogState) (old : State) (w : AreWatched s old) (l next other : Lit) (i : ℕ) (m : MayRewatch s old l i next other) where
  own_watch : IsWatch s old.held l m.watch
  own_watch = w.listed.watches l i m.watch m.at

  held_here : IsHeldIn s old.trail.size m.clause
  held_here = w.listed.clauses m.watch.key m.clause m.held

  was_watched : IsWatchedIn m.clause l
  was_watched = subst (λ (h : WatchedClause). IsWatchedIn h l) (same_Some own_watch.clause m.clause (sym own_watch.at ∙ m.held)) own_watch.watched

  abbrev pub turned_clause : WatchedClause
  turned_clause = with_watch m.clause l next

  turning : IsTurned m.clause turned_clause l next (other_in m.clause l)
  turning = turned m.clause l next held_here.differ was_watched

  -- both lists are there
  pub next_fits : code_of next < old.room
  next_fits = let below_it = code_within next old.trail.size (held_here.usable.within next m.has) in let room = w.room in omega (arith, below_it, room)

  literal_has : Contains (literals_at s m.clause.id) l
  literal_has = elim was_watched [
    | inl e ↦ subst (λ (n : Lit). Contains (literals_at s m.clause.id) n) e held_here.has_first
    | inr e ↦ subst (λ (n : Lit). Contains (literals_at s m.clause.id) n) e held_here.has_second
  ]

  pub literal_fits : code_of l < old.room
  literal_fits = let below_it = code_within l old.trail.size (held_here.usable.within l literal_has) in let room = w.room in omega (arith, below_it, room)

  pub next_fresh : IsFalseOn old.trail.entries l → next ≢ l
  next_fresh falls e = m.stands (subst (λ (n : Lit). IsFalseOn old.trail.entries n) (sym e) falls)

  module _ (held' : ℕ → Option WatchedClause) (changed : held' m.watch.key ≡ Some turned_clause) (others : (k : ℕ) → k ≢ m.watch.key → held' k ≡ old.held k) where
    -- the same clauses are held
    pub hold_same : HoldSame old.held held'
    hold_same k = elim (cases_eq k m.watch.key) [
      | inl e ↦
          ap (λ (n : ℕ). option_map held_as (held' n)) e ∙ ap (option_map held_as) changed ∙ ap Some turning.held
          ∙ sym (ap (λ (n : ℕ). option_map held_as (old.held n)) e ∙ ap (option_map held_as) m.held)
      | inr n ↦ ap (option_map held_as) (others k n)
    ]

    -- what is false on a front and watched now was watched before, since the other literal isn't false
    settled_by : (front es : List Assigned) → ((n : Lit) → IsFalseOn front n → IsFalseOn old.trail.entries n) → AreSettledBy front es s old.held → AreSettledBy front es s held'
    settled_by front es falls_too h k c there n watched falls = elim (cases_eq k m.watch.key) [
      | inl e ↦
          let is : c ≡ turned_clause = same_Some c turned_clause (sym there ∙ ap held' e ∙ changed) in
          let id : c.id ≡ m.clause.id = ap (λ (x : WatchedClause). x.id) is ∙ turning.id in
          elim (turning.now n (subst (λ (x : WatchedClause). IsWatchedIn x n) is watched)) [
            | inl it ↦ absurd (m.stands (falls_too next (subst (λ (x : Lit). IsFalseOn front x) it falls)))
            | inr it ↦
                subst (λ (j : ℕ). HasTrue es (literals_at s j)) (sym id)
                (h m.watch.key m.clause m.held n (subst (λ (x : Lit). IsWatchedIn m.clause x) (sym it) turning.was_other) falls)
          ]
      | inr far ↦ h k c (sym (others k far) ∙ there) n watched falls
    ]

    module _ (lists' : Lit → List Watch) (room' : ℕ) (order : IsTrail old.trail) (falls : IsFalseOn old.trail.entries l) (new : Watch) (key : new.key ≡ m.watch.key)
        (blocker : new.blocker ≡ other) (long : new.is_short ≡ false) (taken : TakesOut i (old.lists l) (lists' l)) (put : lists' next ≡ old.lists next ++ new ∷ [])
        (same : (n : Lit) → n ≢ l → n ≢ next → lists' n ≡ old.lists n) (room : room' ≡ old.room) where
      pub all_rewatched : AreWatched s (record { trail = old.trail; head = old.head; held = held'; lone = old.lone; lists = lists'; room = room' })
      all_rewatched =
          let es = old.trail.entries in
          record {
            room = subst (λ (n : ℕ). 2 * old.trail.size ≤ n) (sym room) w.room;
            listed = rewatched s old.trail.size old.held held' old.lists lists' w.listed l next i m.watch new m.clause m.at m.held m.has (λ e. m.apart (e ∙ sym m.beside))
                (next_fresh falls) changed others key (blocker ∙ m.beside) long taken put same;
            lone = w.lone;
            within = w.within;
            settled = settled_by (take old.head es) es
                (λ n it. subst (λ (xs : List Assigned). IsFalseOn xs n) (take-append-drop old.head es) (truth_found (take old.head es) (drop old.head es) n.atom (not n.sign) it)) w.settled;
            were_settled = λ k deep. settled_by (below k es) (below k es) (λ n it. below_true old.trail.size es order k n.atom (not n.sign) it) (w.were_settled k deep);
          }
