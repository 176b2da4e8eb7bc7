-- A list of watches, as its clauses are looked at one by one, and the lists of one false literal after another.
use Rattle.std.proofs.Common.{◌≡◌, ◌≢◌, ℕ, ◌+◌, ◌*◌, ◌<◌, ◌≤◌, ◌⊎◌, inl, inr, true, false, not, List, [], ◌∷◌, ◌++◌, length, take, Option, Some, None, refl, sym, ap, subst, ◌∙◌, arith, true≢false}
use Rattle.std.specs.Prelude.{Contains, Err, IfOk, Ok, OnOk, Result, option_map, slice_get, slice_set}
use Rattle.std.proofs.lemmas.Bool.{cases_eq, cases_lt}
use Rattle.std.proofs.lemmas.Bool.Decides.{eqb_tells}
use Rattle.std.proofs.lemmas.List.{length-set, take_more}
use Rattle.std.proofs.lemmas.Option.{get_or_from_slice_get, same_Some, slice_get_within}
use Rattle.nz_log.specs.declared.lits.Lit.{Lit}
use Rattle.nz_log.specs.Lits.{negated_lit}
use Rattle.nz_log.specs.Logs.{LogState, literals_at}
use Rattle.nz_sat.specs.declared.clauses.Held.{Held}
use Rattle.nz_sat.specs.declared.clauses.WatchedClause.{WatchedClause}
use Rattle.nz_sat.specs.declared.propagate.Visit.{Visit}
use Rattle.nz_sat.specs.declared.propagate.Visit.TheVariants.{Stays, Moved, Falsified}
use Rattle.nz_sat.specs.declared.propagation.Propagation.{Propagation}
use Rattle.nz_sat.specs.declared.trail.Assigned.{Assigned}
use Rattle.nz_sat.specs.declared.watches.Watch.{Watch}
use Rattle.nz_sat.specs.Clauses.{AreFalseBut, HasTrue, IsHeldIn, IsWatchedIn, Visits, held_as, other_in}
use Rattle.nz_sat.specs.Lists.{AreOnce, HasKey, HasKeyFrom, TakesOut, list_of}
use Rattle.nz_sat.specs.Trails.{EachBehind, GoesOn, IsFalseOn, IsNext, IsTrueOn, TrailState, truth_on}
use Rattle.nz_sat.specs.Watched.{AreListed, AreWatched, ComesOf, GoesAhead, HasClause, HoldSame, IsConflictIn, IsLastOf, IsWatch, KeepsClauses, MayRewatch, Settles, State, held_at, watch_state}
use Rattle.nz_sat.proofs.Clausal.{sign_again, truth_found, truth_missing}
use Rattle.nz_sat.proofs.LiteralNumbers.{lit_cases}
use Rattle.nz_sat.proofs.Rewatching.{turned}
use Rattle.nz_sat.proofs.SetPlaces.{set_beside, set_there}
use Rattle.nz_sat.proofs.TrailEntries.{assigned_at, assigned_none, assigned_one}
use Rattle.nz_sat.proofs.VisitedClauses.{visits_more, visits_none}
use Rattle.nz_sat.proofs.WatchedTrails.{clauses_stay, had_kept, true_on}

-- ---- What is ahead

module _ (s : LogState) (state : State) (l : Lit) (i : ℕ) (watch : Watch) (at : slice_get (state.lists l) i ≡ Some watch) where
  -- what stands in a list stands at the place, or behind it
  pub key_behind : (key : ℕ) (list : List Watch) → slice_get list i ≡ Some watch → HasKeyFrom i key list → (key ≡ watch.key) ⊎ HasKeyFrom (i + 1) key list
  key_behind key list here h = elim (cases_eq h.place i) [
    | inl e ↦ inl (sym h.is ∙ ap (λ (w : Watch). w.key) (same_Some h.watch watch (sym h.at ∙ ap (slice_get list) e ∙ here)))
    | inr n ↦ inr (record { place = h.place; watch = h.watch; behind = later h.place i h.behind n; at = h.at; is = h.is })
  ]
    where
      later : (a b : ℕ) → b ≤ a → (a ≡ b → ⊥) → b + 1 ≤ a
      later a b le other = elim (cases_lt b a) [ inl less ↦ omega (arith, less) | inr most ↦ absurd (other (omega (arith, le, most))) ]

  -- the watch of the place was taken out: what was behind it still is at it or behind it
  pub key_stays : (key : ℕ) (new : List Watch) → TakesOut i (state.lists l) new → key ≢ watch.key → HasKeyFrom i key (state.lists l) → HasKeyFrom i key new
  key_stays key new taken other h =
      let apart : h.place ≢ i = λ e. other (sym h.is ∙ ap (λ (w : Watch). w.key) (same_Some h.watch watch (sym h.at ∙ ap (slice_get (state.lists l)) e ∙ at))) in
      let now = taken.stays h.place h.watch apart h.at in
      record { place = now.0; watch = h.watch; behind = now.2.1 h.behind; at = now.1; is = h.is }

-- what is ahead stays so, but for the clause of the place, which has a true literal now
pub next_ahead : (s : LogState) (old new : State) (l : Lit) (i : ℕ) (watch : Watch) → slice_get (old.lists l) i ≡ Some watch
    → ((c : List Lit) → HasTrue old.trail.entries c → HasTrue new.trail.entries c) → ((key : ℕ) → new.held key ≡ old.held key)
    → length (new.lists l) ≡ length (old.lists l) → ((key : ℕ) → HasKeyFrom (i + 1) key (old.lists l) → HasKeyFrom (i + 1) key (new.lists l))
    → ((h : WatchedClause) → old.held watch.key ≡ Some h → HasTrue new.trail.entries (literals_at s h.id)) → GoesAhead s old new l i (i + 1)
next_ahead s old new l i watch at stay held long still now =
    record {
      ahead = λ ahead key h there watched. elim (ahead key h (sym (held key) ∙ there) watched) [
        | inl yet ↦ inl (stay (literals_at s h.id) yet)
        | inr from ↦ elim (key_behind s old l i watch at key (old.lists l) at from) [
          | inl e ↦ inl (now h (ap old.held (sym e) ∙ sym (held key) ∙ there))
          | inr behind ↦ inr (still key behind)
        ]
      ];
      less = let inside : i < length (old.lists l) = slice_get_within (old.lists l) i watch at in omega (arith, inside, long);
    }

same_id : (o p : Option WatchedClause) (g h : WatchedClause) → o ≡ Some g → p ≡ Some h → option_map held_as p ≡ option_map held_as o → h.id ≡ g.id
same_id o p g h one two same = ap (λ (x : Held). x.id) (same_Some (held_as h) (held_as g) (sym (ap (option_map held_as) two) ∙ same ∙ ap (option_map held_as) one))

-- the clause of the place has left the list
pub moved_ahead : (s : LogState) (old new : State) (l : Lit) (i : ℕ) (watch : Watch) → slice_get (old.lists l) i ≡ Some watch → AreWatched s old → AreWatched s new
    → new.trail ≡ old.trail → HoldSame old.held new.held → TakesOut i (old.lists l) (new.lists l) → GoesAhead s old new l i i
moved_ahead s old new l i watch at before after trail same taken =
    record {
      ahead = λ ahead key h there watched.
          let now = after.listed.covered key h there l watched in
          let from = taken.from now.place now.watch now.at in
          let was = before.listed.watches l from.0 now.watch from.2 in
          let apart : key ≢ watch.key = λ e. from.1 (before.listed.once l from.0 i now.watch watch from.2 at (now.is ∙ e)) in
          let here : old.held key ≡ Some was.clause = ap old.held (sym now.is) ∙ was.at in
          let id : h.id ≡ was.clause.id = same_id (old.held key) (new.held key) was.clause h here there (same key) in
          elim (ahead key was.clause here was.watched) [
            | inl yet ↦
                inl (subst (λ (t : TrailState). HasTrue t.entries (literals_at s h.id)) (sym trail) (subst (λ (n : ℕ). HasTrue old.trail.entries (literals_at s n)) (sym id) yet))
            | inr behind ↦ inr (key_stays s old l i watch at key (new.lists l) taken apart behind)
          ];
      less = let inside : i < length (old.lists l) = slice_get_within (old.lists l) i watch at in let short = taken.shorter in omega (arith, inside, short);
    }

-- ---- Another blocking literal

module _ (s : LogState) (size : ℕ) (held : ℕ → Option WatchedClause) (lists lists' : Lit → List Watch) (w : AreListed s size held lists) (l : Lit) (i : ℕ)
    (watch : Watch) (clause : WatchedClause) (at : slice_get (lists l) i ≡ Some watch) (here : held watch.key ≡ Some clause) (long : watch.is_short ≡ false)
    (set : lists' l ≡ slice_set (lists l) i (record watch { blocker = other_in clause l })) (same : (m : Lit) → m ≢ l → lists' m ≡ lists m) where
  abbrev blocked : Watch
  blocked = record watch { blocker = other_in clause l }

  inside : i < length (lists l)
  inside = slice_get_within (lists l) i watch at

  set_at : slice_get (lists' l) i ≡ Some blocked
  set_at = ap (λ (list : List Watch). slice_get list i) set ∙ set_there (lists l) i blocked inside

  others_at : (j : ℕ) → j ≢ i → slice_get (lists' l) j ≡ slice_get (lists l) j
  others_at j n = ap (λ (list : List Watch). slice_get list j) set ∙ set_beside (lists l) i j blocked (λ e. n (sym e))

  -- the watch of a place, but for its blocking literal
  before : (j : ℕ) (v : Watch) → slice_get (lists' l) j ≡ Some v → (u : Watch) × (slice_get (lists l) j ≡ Some u) × (u.key ≡ v.key)
  before j v there = elim (cases_eq j i) [
    | inl e ↦
        let is : blocked ≡ v = same_Some blocked v (sym set_at ∙ ap (slice_get (lists' l)) (sym e) ∙ there) in
        (watch, ap (slice_get (lists l)) e ∙ at, ap (λ (x : Watch). x.key) is)
    | inr n ↦ (v, sym (others_at j n) ∙ there, refl)
  ]

  own : IsWatch s held l watch
  own = w.watches l i watch at

  good : IsHeldIn s size clause
  good = w.clauses watch.key clause here

  is_clause : own.clause ≡ clause
  is_clause = same_Some own.clause clause (sym own.at ∙ here)

  watched : IsWatchedIn clause l
  watched = subst (λ (h : WatchedClause). IsWatchedIn h l) is_clause own.watched

  other_has : Contains (literals_at s clause.id) (other_in clause l)
  other_has = elim (turned clause l l good.differ watched).was_other [
    | inl e ↦ subst (λ (m : Lit). Contains (literals_at s clause.id) m) e good.has_first
    | inr e ↦ subst (λ (m : Lit). Contains (literals_at s clause.id) m) e good.has_second
  ]

  blocked_watch : IsWatch s held l blocked
  blocked_watch =
      record {
        clause = clause;
        at = here;
        watched = watched;
        has = other_has;
        other = (turned clause l l good.differ watched).apart;
        short = λ is. absurd (true≢false (sym is ∙ long));
      }

  in_list : (j : ℕ) (v : Watch) → slice_get (lists' l) j ≡ Some v → IsWatch s held l v
  in_list j v there = elim (cases_eq j i) [
    | inl e ↦ subst (λ (x : Watch). IsWatch s held l x) (same_Some blocked v (sym set_at ∙ ap (slice_get (lists' l)) (sym e) ∙ there)) blocked_watch
    | inr n ↦ w.watches l j v (sym (others_at j n) ∙ there)
  ]

  once_still : AreOnce (lists' l)
  once_still j k u v one two e =
      let a = before j u one in
      let b = before k v two in
      w.once l j k a.0 b.0 a.1 b.1 (a.2 ∙ e ∙ sym b.2)

  pub still_from : (from key : ℕ) → HasKeyFrom from key (lists l) → HasKeyFrom from key (lists' l)
  still_from from key h = elim (cases_eq h.place i) [
    | inl e ↦
        let is : h.watch ≡ watch = same_Some h.watch watch (sym h.at ∙ ap (slice_get (lists l)) e ∙ at) in
        record { place = h.place; watch = blocked; behind = h.behind; at = ap (slice_get (lists' l)) e ∙ set_at; is = ap (λ (x : Watch). x.key) (sym is) ∙ h.is }
    | inr n ↦ record { place = h.place; watch = h.watch; behind = h.behind; at = others_at h.place n ∙ h.at; is = h.is }
  ]

  pub blocked_listed : AreListed s size held lists'
  blocked_listed =
      record {
        clauses = w.clauses;
        watches = λ m j v there. elim (lit_cases m l) [
          | inl is ↦ subst (λ (n : Lit). IsWatch s held n v) (sym is) (in_list j v (subst (λ (n : Lit). slice_get (lists' n) j ≡ Some v) is there))
          | inr away ↦ w.watches m j v (subst (λ (list : List Watch). slice_get list j ≡ Some v) (same m away) there)
        ];
        once = λ m. elim (lit_cases m l) [
          | inl is ↦ subst (λ (n : Lit). AreOnce (lists' n)) (sym is) once_still
          | inr away ↦ subst AreOnce (sym (same m away)) (w.once m)
        ];
        covered = λ key h there m own_watch. elim (lit_cases m l) [
          | inl is ↦ subst (λ (n : Lit). HasKey key (lists' n)) (sym is) (still_from 0 key (subst (λ (n : Lit). HasKey key (lists n)) is (w.covered key h there m own_watch)))
          | inr away ↦ subst (HasKey key) (sym (same m away)) (w.covered key h there m own_watch)
        ];
      }

-- ---- The last literal

module _ (s : LogState) (state : State) (key : ℕ) (l : Lit) (last : IsLastOf s state key l) where
  -- where it is false too, the clause is falsified
  pub conflict : IsFalseOn state.trail.entries l → IsConflictIn s state last.clause.id
  conflict falls =
      record {
        held = record { key = key; clause = last.clause; at = last.at; is = refl };
        falsified = λ m has. elim (lit_cases m l) [
          | inl is ↦ subst (λ (n : Lit). IsFalseOn state.trail.entries n) (sym is) falls
          | inr other ↦ last.others m has other
        ];
      }

  -- where it is true, the clause has a true literal
  pub satisfied : (es : List Assigned) → IsTrueOn es l → (h : WatchedClause) → state.held key ≡ Some h → HasTrue es (literals_at s h.id)
  satisfied es holds h at =
      let is : last.clause ≡ h = same_Some last.clause h (sym last.at ∙ at) in
      subst (λ (c : WatchedClause). HasTrue es (literals_at s c.id)) is (record { literal = l; has = last.has; holds = holds })

-- ---- The watch of a place

module _ (s : LogState) (state : State) (w : AreWatched s state) (l : Lit) (i : ℕ) (watch : Watch) (at : slice_get (state.lists l) i ≡ Some watch) where
  pub stands : IsWatch s state.held l watch
  stands = w.listed.watches l i watch at

  pub clause_held : IsHeldIn s state.trail.size stands.clause
  clause_held = w.listed.clauses watch.key stands.clause stands.at

  -- the clause has a true literal, where one of its literals is true
  pub by_literal : (m : Lit) → Contains (literals_at s stands.clause.id) m → (es : List Assigned) → IsTrueOn es m → (h : WatchedClause) → state.held watch.key ≡ Some h
      → HasTrue es (literals_at s h.id)
  by_literal m has es holds h there =
      subst (λ (c : WatchedClause). HasTrue es (literals_at s c.id)) (same_Some stands.clause h (sym stands.at ∙ there))
      (record { literal = m; has = has; holds = holds })

  -- where it has no literals but the two, the blocking one is the last that is left
  pub short_last : watch.is_short ≡ true → IsFalseOn state.trail.entries l → IsLastOf s state watch.key watch.blocker
  short_last short falls =
      record {
        clause = stands.clause;
        at = stands.at;
        has = stands.has;
        others = λ m has other. elim (stands.short short m has) [
          | inl is ↦ subst (IsFalseOn state.trail.entries) (sym is) falls
          | inr is ↦ absurd (other is)
        ];
      }

  module _ (other : Lit) (beside : other ≡ other_in stands.clause l) where
    pub has_other : Contains (literals_at s stands.clause.id) other
    has_other = subst (Contains (literals_at s stands.clause.id)) (sym beside) (elim (turned stands.clause l l clause_held.differ stands.watched).was_other [
      | inl e ↦ subst (Contains (literals_at s stands.clause.id)) e clause_held.has_first
      | inr e ↦ subst (Contains (literals_at s stands.clause.id)) e clause_held.has_second
    ])

    pub other_last : AreFalseBut state.trail.entries other (literals_at s stands.clause.id) → IsLastOf s state watch.key other
    other_last others = record { clause = stands.clause; at = stands.at; has = has_other; others = others }

    module _ (long : watch.is_short ≡ false) where
      pub may_rewatch : (next : Lit) → Contains (literals_at s stands.clause.id) next → (IsFalseOn state.trail.entries next → ⊥) → next ≢ other → MayRewatch s state l i next other
      may_rewatch next has not_false apart =
          record {
            watch = watch;
            at = at;
            clause = stands.clause;
            held = stands.at;
            has = has;
            stands = not_false;
            apart = apart;
            beside = beside;
            long = λ short. true≢false (sym short ∙ long);
          }

      module _ (lists' : Lit → List Watch) (room' : ℕ) (put : lists' l ≡ slice_set (state.lists l) i (record watch { blocker = other }))
          (same : (m : Lit) → m ≢ l → lists' m ≡ state.lists m) where
        placed : lists' l ≡ slice_set (state.lists l) i (record watch { blocker = other_in stands.clause l })
        placed = put ∙ ap (λ (b : Lit). slice_set (state.lists l) i (record watch { blocker = b })) beside

        pub all_blocked : room' ≡ state.room → AreWatched s (record state { lists = lists'; room = room' })
        all_blocked room =
            record {
              room = subst (λ (n : ℕ). 2 * state.trail.size ≤ n) (sym room) w.room;
              listed = blocked_listed s state.trail.size state.held state.lists lists' w.listed l i watch stands.clause at stands.at long placed same;
              lone = w.lone;
              within = w.within;
              settled = w.settled;
              were_settled = w.were_settled;
            }

        pub blocked_comes : IsTrueOn state.trail.entries other → GoesAhead s state (record state { lists = lists'; room = room' }) l i (i + 1)
        blocked_comes holds =
            next_ahead s state (record state { lists = lists'; room = room' }) l i watch at (λ c h. h) (λ key. refl)
            (ap length put ∙ length-set (state.lists l) i (record watch { blocker = other }))
            (still_from s state.trail.size state.held state.lists lists' w.listed l i watch stands.clause at stands.at long placed same (i + 1))
            (by_literal other has_other state.trail.entries holds)

-- ---- What comes of it

pub settled_comes : (s : LogState) (p : Propagation) (t t' : TrailState) (l : Lit) (i : ℕ) (watch : Watch) → slice_get (list_of p.watches l) i ≡ Some watch
    → GoesOn t.entries t'.entries → (v : Visit) → Settles s (watch_state p t') watch.key v → ComesOf s (watch_state p t) (watch_state p t') l i v
settled_comes s p t t' l i watch at g Stays h =
    next_ahead s (watch_state p t) (watch_state p t') l i watch at (λ c. true_on t.entries t'.entries c g) (λ key. refl) refl (λ key from. from) h
settled_comes s p t t' l i watch at g Moved h = absurd h
settled_comes s p t t' l i watch at g (Falsified id) h = h

pub moved_comes : {E : Type 0} (s : LogState) (old new : State) (l : Lit) (i : ℕ) (watch : Watch) (r : Result Visit E) → slice_get (old.lists l) i ≡ Some watch → AreWatched s old
    → AreWatched s new → new.trail ≡ old.trail → HoldSame old.held new.held → IfOk r (λ (v : Visit). v ≡ Moved) → OnOk r (TakesOut i (old.lists l) (new.lists l))
    → IfOk r (ComesOf s old new l i)
moved_comes s old new l i watch (Ok v) at before after trail same is taken =
    subst (ComesOf s old new l i) (sym is) (moved_ahead s old new l i watch at before after trail same taken)
moved_comes s old new l i watch (Err e) at before after trail same is taken = is

-- ---- Looks one by one

keeps_more : (p q r : Propagation) → KeepsClauses p q → KeepsClauses q r → KeepsClauses p r
keeps_more p q r k j = record { watched = λ key. j.watched key ∙ k.watched key; lone = j.lone ∙ k.lone; room = j.room ∙ k.room }

-- all clauses of a search
abbrev pub AllOf : Propagation → List ℕ → Type 0
AllOf p us = (i : ℕ) → HasClause p i → Contains us i

-- What is kept from the first look on.
pub record IsOnWay (s : LogState) (p p' : Propagation) (t t' : TrailState) : Type 0 where
  pub watched : AreWatched s (watch_state p' t')
  pub visits : Visits s (AllOf p) t t'
  pub keeps : KeepsClauses p p'

pub way_none : (s : LogState) (p : Propagation) (t : TrailState) → AreWatched s (watch_state p t) → IsOnWay s p p t t
way_none s p t w = record { watched = w; visits = visits_none (AllOf p) t; keeps = clauses_stay p }

pub way_more : (s : LogState) (p q r : Propagation) (t u v : TrailState) → IsOnWay s p q t u → AreWatched s (watch_state r v) → Visits s (AllOf q) u v → KeepsClauses q r
    → IsOnWay s p r t v
way_more s p q r t u v way w visits keeps =
    record {
      watched = w;
      visits = visits_more (AllOf p) way.visits visits (λ us all. all) (λ us all i has. all i (had_kept p q i way.keeps has));
      keeps = keeps_more p q r way.keeps keeps;
    }

pub falls_on : (es es' : List Assigned) (l : Lit) → GoesOn es es' → IsFalseOn es l → IsFalseOn es' l
falls_on es es' l g falls = subst (λ (xs : List Assigned). IsFalseOn xs l) (sym g.joined) (truth_found es g.more l.atom (not l.sign) falls)

-- the list of the negation of one literal more was looked at
by_last : (es : List Assigned) (e : Assigned) (l : Lit) → truth_on es l.atom ≡ None → IsFalseOn (es ++ e ∷ []) l → l ≡ negated_lit e.literal
by_last es e l free falls =
    let last : truth_on (e ∷ []) l.atom ≡ Some (not l.sign) = sym (truth_missing es (e ∷ []) l.atom free) ∙ falls in
    elim (eqb_tells e.literal.atom l.atom) [
      | inl p ↦
          let sign : e.literal.sign ≡ not l.sign =
          same_Some e.literal.sign (not l.sign) (sym (ap (option_map (λ (x : Assigned). x.literal.sign)) (assigned_one e l.atom p.1)) ∙ last) in
          λ k. record { atom = sym p.1 k; sign = (sym (ap not sign ∙ sign_again l.sign)) k }
      | inr p ↦
          let none : truth_on (e ∷ []) l.atom ≡ None = ap (option_map (λ (x : Assigned). x.literal.sign)) (assigned_none e l.atom p.1) in
          let clash : None ≡ Some (not l.sign) = sym none ∙ last in
          cc
    ]

false_more : (es : List Assigned) (e : Assigned) (l : Lit) → IsFalseOn (es ++ e ∷ []) l → IsFalseOn es l ⊎ (l ≡ negated_lit e.literal)
false_more es e l falls =
    elim (truth_on es l.atom) as (λ o. truth_on es l.atom ≡ o → IsFalseOn es l ⊎ (l ≡ negated_lit e.literal)) [
      | None ↦ λ free. inr (by_last es e l free falls)
      | Some b ↦ λ was. inl (was ∙ sym (truth_found es (e ∷ []) l.atom b was) ∙ falls)
    ] refl

pub head_more : (s : LogState) (p : Propagation) (t : TrailState) (e : Assigned) → AreWatched s (watch_state p t) → slice_get t.entries p.head ≡ Some e
    → ((key : ℕ) (h : WatchedClause) → held_at p key ≡ Some h → IsWatchedIn h (negated_lit e.literal) → HasTrue t.entries (literals_at s h.id))
    → AreWatched s (watch_state (record p { head = p.head + 1 }) t)
head_more s p t e w at visited =
    let inside : p.head < length t.entries = slice_get_within t.entries p.head e at in
    let is : take (p.head + 1) t.entries ≡ take p.head t.entries ++ e ∷ [] =
    take_more t.entries p.head e inside ∙ ap (λ (x : Assigned). take p.head t.entries ++ x ∷ []) (get_or_from_slice_get t.entries p.head e e at) in
    record {
      room = w.room;
      listed = w.listed;
      lone = w.lone;
      within = omega (arith, inside);
      settled = λ key h there l watched falls.
          elim (false_more (take p.head t.entries) e l (subst (λ (xs : List Assigned). IsFalseOn xs l) is falls)) [
            | inl was ↦ w.settled key h there l watched was
            | inr it ↦ visited key h there (subst (IsWatchedIn h) it watched)
          ];
      were_settled = w.were_settled;
    }

-- the negation of an entry's literal is false
pub entry_falls : (size : ℕ) (es : List Assigned) → EachBehind (IsNext size) es → (i : ℕ) (e : Assigned) → slice_get es i ≡ Some e → IsFalseOn es (negated_lit e.literal)
entry_falls size es order i e at =
    ap (option_map (λ (x : Assigned). x.literal.sign)) (assigned_at es i e at (order i e at).fresh) ∙ ap Some (sym (sign_again e.literal.sign))
