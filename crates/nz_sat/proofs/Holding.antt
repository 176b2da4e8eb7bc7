-- A clause more of which two literals are watched.
use Rattle.std.proofs.Common.{◌≡◌, ◌≢◌, ℕ, ◌*◌, ◌<◌, ◌≤◌, ◌⊎◌, inl, inr, Bool, true, zero, suc, Option, Some, None, List, [], ◌∷◌, ◌++◌, length, take, refl, sym, ap, subst, ◌∙◌, arith}
use Rattle.std.specs.Prelude.{All, Contains, slice_get, slice_index_or}
use Rattle.std.proofs.lemmas.Bool.{cases_eq}
use Rattle.std.proofs.lemmas.List.{map_push}
use Rattle.std.proofs.lemmas.List.Elements.{All-push}
use Rattle.std.proofs.lemmas.Option.{same_Some}
use Rattle.nz_lists.proofs.Places.{slice_get_kept, slice_get-push_cases}
use Rattle.slab.specs.Slab.{Slab, Updates, get}
use Rattle.nz_log.specs.declared.lits.Lit.{Lit}
use Rattle.nz_log.specs.Logs.{LogState, literals_at}
use Rattle.nz_sat.specs.declared.clauses.Held.{Held}
use Rattle.nz_sat.specs.declared.clauses.WatchedClause.{WatchedClause}
use Rattle.nz_sat.specs.declared.propagation.Propagation.{Propagation}
use Rattle.nz_sat.specs.declared.trail.Assigned.{Assigned}
use Rattle.nz_sat.specs.declared.watches.Watch.{Watch}
use Rattle.nz_sat.specs.Clauses.{IsHeldIn, IsLoneIn, IsSettledBy, IsWatchedIn, held_as, watched_as}
use Rattle.nz_sat.specs.Lists.{AreOnce, HasKey, list_of}
use Rattle.nz_sat.specs.Sats.{ids}
use Rattle.nz_sat.specs.Trails.{TrailState, below}
use Rattle.nz_sat.specs.Watched.{AreListed, AreSettledBy, AreWatched, HoldsAs, IsHoldable, IsWatch, PutsClause, held_at, lone_ids, watch_state}
use Rattle.nz_sat.proofs.LiteralNumbers.{lit_cases}
use Rattle.nz_sat.proofs.SetPlaces.{push_at}

-- ---- Clauses of two literals

one_at : (x y a : Lit) (k : ℕ) → k < 2 → slice_index_or (x ∷ y ∷ []) k a ≡ a → (x ≡ a) ⊎ (y ≡ a)
one_at x y a zero below e = inl e
one_at x y a (suc zero) below e = inr e
one_at x y a (suc (suc k)) below e = absurd (omega (arith, below))

of_two : (c : List Lit) (a b m : Lit) → length c ≡ 2 → Contains c a → Contains c b → a ≢ b → Contains c m → (m ≡ a) ⊎ (m ≡ b)
of_two [] a b m long has also apart is = absurd (omega (arith, long))
of_two (x ∷ []) a b m long has also apart is = absurd (omega (arith, long))
of_two (x ∷ y ∷ z ∷ c) a b m long has also apart is = absurd (omega (arith, long))
of_two (x ∷ y ∷ []) a b m long has also apart is =
    elim (one_at x y m is.0 is.1 is.2) [
      | inl m_first ↦ elim (one_at x y a has.0 has.1 has.2) [
        | inl a_first ↦ inl (sym m_first ∙ a_first)
        | inr a_second ↦ elim (one_at x y b also.0 also.1 also.2) [
          | inl b_first ↦ inr (sym m_first ∙ b_first)
          | inr b_second ↦ absurd (apart (sym a_second ∙ b_second))
        ]
      ]
      | inr m_second ↦ elim (one_at x y a has.0 has.1 has.2) [
        | inr a_second ↦ inl (sym m_second ∙ a_second)
        | inl a_first ↦ elim (one_at x y b also.0 also.1 also.2) [
          | inr b_second ↦ inr (sym m_second ∙ b_second)
          | inl b_first ↦ absurd (apart (sym a_first ∙ b_first))
        ]
      ]
    ]

-- ---- A key that was free

none_some : (c : WatchedClause) → None ≡ Some c → ⊥
none_some c e = cc

pub puts_kept : {held more : ℕ → Option WatchedClause} → {key : ℕ} → {h : WatchedClause} → PutsClause held more key h → (j : ℕ) (c : WatchedClause) → held j ≡ Some c → more j ≡ Some c
puts_kept {held} {more} p j c at = p.others j (λ e. none_some c (sym p.free ∙ ap held (sym e) ∙ at)) ∙ at

-- what is there was there, or is the new one
pub puts_cases : {held more : ℕ → Option WatchedClause} → {key : ℕ} → {h : WatchedClause} → PutsClause held more key h → (j : ℕ) (c : WatchedClause) → more j ≡ Some c
    → (held j ≡ Some c) ⊎ ((j ≡ key) × (h ≡ c))
puts_cases {held} {more} {key} {h} p j c at =
    elim (cases_eq j key) [
      | inl e ↦ inr (e, same_Some h c (sym p.there ∙ ap more (sym e) ∙ at))
      | inr far ↦ inl (sym (p.others j far) ∙ at)
    ]

-- a clause is put into a slab that has room
pub puts_reserved : (old mid new : Slab WatchedClause) (key : ℕ) (h c : WatchedClause) → mid ≡ record old { capacity = mid.capacity } → key ≡ mid.vacant_key → get mid key ≡ None
    → Updates mid new key (Some h) → h ≡ c → PutsClause (get old) (get new) old.vacant_key c
puts_reserved old mid new key h c kept next free updates is =
    let key_is : key ≡ old.vacant_key = next ∙ ap (λ (s : Slab WatchedClause). s.vacant_key) kept in
    record {
      free = sym (ap (λ (s : Slab WatchedClause). get s old.vacant_key) kept) ∙ ap (get mid) (sym key_is) ∙ free;
      there = ap (get new) (sym key_is) ∙ updates.changed ∙ ap Some is;
      others = λ j far. updates.others j (λ e. far (e ∙ key_is)) ∙ ap (λ (s : Slab WatchedClause). get s j) kept;
    }

-- ---- The lists

module _ (s : LogState) (size : ℕ) (held more : ℕ → Option WatchedClause) (lists lists' : Lit → List Watch) (w : AreListed s size held lists)
    (h : WatchedClause) (short : Bool) (good : IsHeldIn s size h) (two : short ≡ true → length (literals_at s h.id) ≡ 2) (free_key : ℕ) (p : PutsClause held more free_key h) where
  abbrev one_more : Lit → Watch
  one_more blocker = record { key = free_key; blocker = blocker; is_short = short }

  not_of : (m : Lit) (v : Watch) → IsWatch s held m v → v.key ≡ free_key → ⊥
  not_of m v was e = none_some was.clause (sym p.free ∙ ap held (sym e) ∙ was.at)

  as_before : (m : Lit) (v : Watch) → IsWatch s held m v → IsWatch s more m v
  as_before m v was =
      record { clause = was.clause; at = puts_kept p v.key was.clause was.at; watched = was.watched; has = was.has; other = was.other; short = was.short }

  -- the new watch in the list of one of its literals
  new_watch : (own other : Lit) → IsWatchedIn h own → Contains (literals_at s h.id) own → Contains (literals_at s h.id) other → other ≢ own
      → IsWatch s more own (one_more other)
  new_watch own other watched own_has has apart =
      record {
        clause = h;
        at = p.there;
        watched = watched;
        has = has;
        other = apart;
        short = λ is m within. of_two (literals_at s h.id) own other m (two is) own_has has (λ e. apart (sym e)) within;
      }

  once_more : (m blocker : Lit) → AreOnce (lists m ++ one_more blocker ∷ [])
  once_more m blocker j k u v one another e = elim (slice_get-push_cases (lists m) (one_more blocker) j u one) [
    | inl old ↦ elim (slice_get-push_cases (lists m) (one_more blocker) k v another) [
      | inl too ↦ w.once m j k u v old too e
      | inr last ↦ absurd (not_of m u (w.watches m j u old) (e ∙ ap (λ (x : Watch). x.key) (sym last.1)))
    ]
    | inr last ↦ elim (slice_get-push_cases (lists m) (one_more blocker) k v another) [
      | inl old ↦ absurd (not_of m v (w.watches m k v old) (sym e ∙ ap (λ (x : Watch). x.key) (sym last.1)))
      | inr too ↦ last.0 ∙ sym too.0
    ]
  ]

  there : (m blocker : Lit) → HasKey free_key (lists m ++ one_more blocker ∷ [])
  there m blocker = record { place = length (lists m); watch = one_more blocker; behind = omega arith; at = push_at (lists m) (one_more blocker); is = refl }

  still : (k : ℕ) (m blocker : Lit) → HasKey k (lists m) → HasKey k (lists m ++ one_more blocker ∷ [])
  still k m blocker had =
      record { place = had.place; watch = had.watch; behind = omega arith; at = slice_get_kept (lists m) (one_more blocker ∷ []) had.place had.watch had.at; is = had.is }

  module _ (put_first : lists' h.first ≡ lists h.first ++ one_more h.second ∷ []) (put_second : lists' h.second ≡ lists h.second ++ one_more h.first ∷ [])
      (same : (m : Lit) → m ≢ h.first → m ≢ h.second → lists' m ≡ lists m) where
    watches_more : (m : Lit) (j : ℕ) (v : Watch) → slice_get (lists' m) j ≡ Some v → IsWatch s more m v
    watches_more m j v at = elim (lit_cases m h.first) [
      | inl is ↦
          let mine : slice_get (lists h.first ++ one_more h.second ∷ []) j ≡ Some v = subst (λ (list : List Watch). slice_get list j ≡ Some v) (ap lists' is ∙ put_first) at in
          subst (λ (n : Lit). IsWatch s more n v) (sym is) (elim (slice_get-push_cases (lists h.first) (one_more h.second) j v mine) [
            | inl old ↦ as_before h.first v (w.watches h.first j v old)
            | inr last ↦ subst (λ (u : Watch). IsWatch s more h.first u) last.1
                (new_watch h.first h.second (inl refl) good.has_first good.has_second (λ e. good.differ (sym e)))
          ])
      | inr apart ↦ elim (lit_cases m h.second) [
        | inl is ↦
            let mine : slice_get (lists h.second ++ one_more h.first ∷ []) j ≡ Some v = subst (λ (list : List Watch). slice_get list j ≡ Some v) (ap lists' is ∙ put_second) at in
            subst (λ (n : Lit). IsWatch s more n v) (sym is) (elim (slice_get-push_cases (lists h.second) (one_more h.first) j v mine) [
              | inl old ↦ as_before h.second v (w.watches h.second j v old)
              | inr last ↦ subst (λ (u : Watch). IsWatch s more h.second u) last.1
                  (new_watch h.second h.first (inr refl) good.has_second good.has_first good.differ)
            ])
        | inr far ↦ as_before m v (w.watches m j v (subst (λ (list : List Watch). slice_get list j ≡ Some v) (same m apart far) at))
      ]
    ]

    once_all : (m : Lit) → AreOnce (lists' m)
    once_all m = elim (lit_cases m h.first) [
      | inl is ↦ subst AreOnce (sym (ap lists' is ∙ put_first)) (once_more h.first h.second)
      | inr apart ↦ elim (lit_cases m h.second) [
        | inl is ↦ subst AreOnce (sym (ap lists' is ∙ put_second)) (once_more h.second h.first)
        | inr far ↦ subst AreOnce (sym (same m apart far)) (w.once m)
      ]
    ]

    had_key : (k : ℕ) (m : Lit) → HasKey k (lists m) → HasKey k (lists' m)
    had_key k m had = elim (lit_cases m h.first) [
      | inl is ↦ subst (HasKey k) (sym (ap lists' is ∙ put_first)) (still k h.first h.second (subst (λ (n : Lit). HasKey k (lists n)) is had))
      | inr apart ↦ elim (lit_cases m h.second) [
        | inl is ↦ subst (HasKey k) (sym (ap lists' is ∙ put_second)) (still k h.second h.first (subst (λ (n : Lit). HasKey k (lists n)) is had))
        | inr far ↦ subst (HasKey k) (sym (same m apart far)) had
      ]
    ]

    own_key : (m : Lit) → IsWatchedIn h m → HasKey free_key (lists' m)
    own_key m watched = elim watched [
      | inl e ↦ subst (λ (n : Lit). HasKey free_key (lists' n)) e (subst (HasKey free_key) (sym put_first) (there h.first h.second))
      | inr e ↦ subst (λ (n : Lit). HasKey free_key (lists' n)) e (subst (HasKey free_key) (sym put_second) (there h.second h.first))
    ]

    held_listed : AreListed s size more lists'
    held_listed =
        record {
          clauses = λ k g at. elim (puts_cases p k g at) [ inl old ↦ w.clauses k g old | inr last ↦ subst (IsHeldIn s size) last.1 good ];
          watches = watches_more;
          once = once_all;
          covered = λ k g at m watched. elim (puts_cases p k g at) [
            | inl old ↦ had_key k m (w.covered k g old m watched)
            | inr last ↦ subst (λ (n : ℕ). HasKey n (lists' m)) (sym last.0) (own_key m (subst (λ (x : WatchedClause). IsWatchedIn x m) (sym last.1) watched))
          ];
        }

-- ---- The clauses

settled_push : (front es : List Assigned) (s : LogState) {held more : ℕ → Option WatchedClause} {key : ℕ} {h : WatchedClause} → PutsClause held more key h → AreSettledBy front es s held
    → IsSettledBy front es s h → AreSettledBy front es s more
settled_push front es s p settled this k g at = elim (puts_cases p k g at) [ inl old ↦ settled k g old | inr last ↦ subst (IsSettledBy front es s) last.1 this ]

pub held_watched : (s : LogState) (p q : Propagation) (t : TrailState) (h : WatchedClause) (short : Bool) (key : ℕ) → PutsClause (held_at p) (held_at q) key h → q.lone ≡ p.lone → q.head ≡ p.head
    → length q.watches.lists.items ≡ length p.watches.lists.items → (short ≡ true → length (literals_at s h.id) ≡ 2)
    → list_of q.watches h.first ≡ list_of p.watches h.first ++ record { key = key; blocker = h.second; is_short = short } ∷ []
    → list_of q.watches h.second ≡ list_of p.watches h.second ++ record { key = key; blocker = h.first; is_short = short } ∷ []
    → ((m : Lit) → m ≢ h.first → m ≢ h.second → list_of q.watches m ≡ list_of p.watches m)
    → AreWatched s (watch_state p t) → IsHoldable s t p.head h → AreWatched s (watch_state q t)
held_watched s p q t h short key put lone head room two put_first put_second same w may =
    let es = t.entries in
    record {
      room = subst (λ (n : ℕ). 2 * t.size ≤ n) (sym room) w.room;
      listed = held_listed s t.size (held_at p) (held_at q) (list_of p.watches) (list_of q.watches) w.listed h short may.held two key put put_first put_second same;
      lone = subst (λ v. All (IsLoneIn s t.size) (ids v.items)) (sym lone) w.lone;
      within = subst (λ (n : ℕ). n ≤ length es) (sym head) w.within;
      settled = subst (λ (n : ℕ). AreSettledBy (take n es) es s (held_at q)) (sym head) (settled_push (take p.head es) es s put w.settled may.settled);
      were_settled = λ k less. settled_push (below k es) (below k es) s put (w.were_settled k less) (may.were_settled k less);
    }

-- a clause of which none are watched
pub lone_watched : (s : LogState) (p q : Propagation) (t : TrailState) (h : Held) → q.lone.items ≡ p.lone.items ++ h ∷ [] → q ≡ record p { lone = q.lone } → AreWatched s (watch_state p t)
    → IsLoneIn s t.size h.id → AreWatched s (watch_state q t)
lone_watched s p q t h lone is w may =
    let more : lone_ids q ≡ lone_ids p ++ h.id ∷ [] = ap ids lone ∙ map_push (λ (x : Held). x.id) p.lone.items h in
    let w' : AreWatched s (watch_state (record p { lone = q.lone }) t) =
    record {
      room = w.room;
      listed = w.listed;
      lone = subst (All (IsLoneIn s t.size)) (sym more) (All-push (IsLoneIn s t.size) (lone_ids p) h.id w.lone may);
      within = w.within;
      settled = w.settled;
      were_settled = w.were_settled;
    } in
    subst (λ (x : Propagation). AreWatched s (watch_state x t)) (sym is) w'

-- ---- Which clauses there are

-- the clauses that there were
pub puts_stay : (p q : Propagation) (key : ℕ) (c : WatchedClause) → PutsClause (held_at p) (held_at q) key c → q.lone ≡ p.lone → (g : Held) → HoldsAs p g → HoldsAs q g
puts_stay p q key c x lone g (inl w) = inl (record { key = w.key; clause = w.clause; at = puts_kept x w.key w.clause w.at; is = w.is })
puts_stay p q key c x lone g (inr has) = inr (subst (λ v. Contains v.items g) (sym lone) has)

pub puts_only : (p q : Propagation) (key : ℕ) (h : Held) (pair : Lit × Lit) → PutsClause (held_at p) (held_at q) key (watched_as h pair) → q.lone ≡ p.lone → (g : Held) → HoldsAs q g → HoldsAs p g ⊎ (h ≡ g)
puts_only p q key h pair x lone g (inl w) =
    elim (puts_cases x w.key w.clause w.at) [
      | inl old ↦ inl (inl (record { key = w.key; clause = w.clause; at = old; is = w.is }))
      | inr new ↦ inr (ap held_as new.1 ∙ w.is)
    ]
puts_only p q key h pair x lone g (inr has) = inl (inr (subst (λ v. Contains v.items g) lone has))

-- where the keys have what they had, the clauses are the same
pub same_as : (p q : Propagation) → ((key : ℕ) → held_at q key ≡ held_at p key) → q.lone ≡ p.lone → (g : Held) → HoldsAs p g → HoldsAs q g
same_as p q same lone g (inl w) = inl (record { key = w.key; clause = w.clause; at = same w.key ∙ w.at; is = w.is })
same_as p q same lone g (inr has) = inr (subst (λ v. Contains v.items g) (sym lone) has)
