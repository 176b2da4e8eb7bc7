-- A clause that goes out of the lists of its two literals.
use Rattle.std.proofs.Common.{◌≡◌, ◌≢◌, ℕ, ◌-◌, ◌<◌, ◌*◌, ◌≤◌, inl, inr, true, false, List, length, Option, Some, None, refl, sym, ap, subst, ◌∙◌, arith, true≢false}
use Rattle.std.specs.Prelude.{⊤, slice_get}
use Rattle.std.proofs.lemmas.Bool.{cases_eq, cases_lt}
use Rattle.std.proofs.lemmas.Option.{same_Some}
use Rattle.slab.specs.Slab.{Updates}
use Rattle.nz_log.specs.declared.lits.Lit.{Lit}
use Rattle.nz_log.specs.Codes.{code_of}
use Rattle.nz_log.specs.Logs.{LogState}
use Rattle.nz_sat.specs.declared.clauses.Part.{Part}
use Rattle.nz_sat.specs.declared.clauses.WatchedClause.{WatchedClause}
use Rattle.nz_sat.specs.declared.propagation.Propagation.{Propagation}
use Rattle.nz_sat.specs.declared.watches.Watch.{Watch}
use Rattle.nz_sat.specs.Clauses.{IsWatchedIn, held_as}
use Rattle.nz_sat.specs.Sats.{held_part, is_in}
use Rattle.nz_sat.specs.Lists.{AreOnce, HasKey, LeavesKey}
use Rattle.nz_sat.specs.Watched.{AreListed, HaveLists, IsWatch, KeepsPart, KeepsWatched, StayListed, held_at}
use Rattle.nz_sat.proofs.LiteralNumbers.{code_within, lit_cases}

-- ---- One list

module _ (s : LogState) (held : ℕ → Option WatchedClause) (l : Lit) (key : ℕ) (old new : List Watch) (once : AreOnce old) (left : LeavesKey key old new) where
  -- what is left is of other clauses
  pub left_from : (j : ℕ) (v : Watch) → slice_get new j ≡ Some v → (k : ℕ) × (slice_get old k ≡ Some v) × (v.key ≢ key)
  left_from j v at =
      let from = left.taken.from j v at in
      (from.0, from.2, λ e. from.1 (once from.0 left.place v left.watch from.2 left.at (e ∙ sym left.is)))

  -- and other clauses stay
  pub left_stay : (k : ℕ) → k ≢ key → HasKey k old → HasKey k new
  left_stay k far h =
      let apart : h.place ≢ left.place = λ e. far (sym h.is ∙ ap (λ (w : Watch). w.key) (same_Some h.watch left.watch (sym h.at ∙ ap (slice_get old) e ∙ left.at)) ∙ left.is) in
      let now = left.taken.stays h.place h.watch apart h.at in
      record { place = now.0; watch = h.watch; behind = omega arith; at = now.1; is = h.is }

-- ---- All lists

module _ (s : LogState) (size : ℕ) (held held' : ℕ → Option WatchedClause) (lists lists' : Lit → List Watch) (w : AreListed s size held lists) (key : ℕ) (h : WatchedClause)
    (here : held key ≡ Some h) (gone : held' key ≡ None) (others : (k : ℕ) → k ≢ key → held' k ≡ held k) (first : LeavesKey key (lists h.first) (lists' h.first))
    (second : LeavesKey key (lists h.second) (lists' h.second)) (same : (m : Lit) → m ≢ h.first → m ≢ h.second → lists' m ≡ lists m) where
  none_there : (c : WatchedClause) → None ≡ Some c → ⊥
  none_there c e = cc

  other_key : (k : ℕ) (c : WatchedClause) → held' k ≡ Some c → k ≢ key
  other_key k c at e = none_there c (sym gone ∙ ap held' (sym e) ∙ at)

  was_held : (k : ℕ) (c : WatchedClause) → held' k ≡ Some c → held k ≡ Some c
  was_held k c at = sym (others k (other_key k c at)) ∙ at

  elsewhere : (m : Lit) (v : Watch) → v.key ≢ key → IsWatch s held m v → IsWatch s held' m v
  elsewhere m v far x = record { clause = x.clause; at = others v.key far ∙ x.at; watched = x.watched; has = x.has; other = x.other; short = x.short }

  from_left : (m l : Lit) → m ≡ l → LeavesKey key (lists l) (lists' l) → (j : ℕ) (v : Watch) → slice_get (lists' m) j ≡ Some v → IsWatch s held' m v
  from_left m l is left j v at =
      let mine : slice_get (lists' l) j ≡ Some v = subst (λ (n : Lit). slice_get (lists' n) j ≡ Some v) is at in
      let from = left_from s held l key (lists l) (lists' l) (w.once l) left j v mine in
      subst (λ (n : Lit). IsWatch s held' n v) (sym is) (elsewhere l v from.2 (w.watches l from.0 v from.1))

  far_key : (m : Lit) → m ≢ h.first → m ≢ h.second → (v : Watch) → IsWatch s held m v → v.key ≢ key
  far_key m away far v x e =
      let is : x.clause ≡ h = same_Some x.clause h (sym x.at ∙ ap held e ∙ here) in
      elim (subst (λ (c : WatchedClause). IsWatchedIn c m) is x.watched) [ inl one ↦ away (sym one) | inr other ↦ far (sym other) ]

  watches_left : (m : Lit) (j : ℕ) (v : Watch) → slice_get (lists' m) j ≡ Some v → IsWatch s held' m v
  watches_left m j v at = elim (lit_cases m h.first) [
    | inl is ↦ from_left m h.first is first j v at
    | inr away ↦ elim (lit_cases m h.second) [
      | inl is ↦ from_left m h.second is second j v at
      | inr far ↦
          let old = w.watches m j v (subst (λ (list : List Watch). slice_get list j ≡ Some v) (same m away far) at) in
          elsewhere m v (far_key m away far v old) old
    ]
  ]

  once_left : (m : Lit) → AreOnce (lists' m)
  once_left m = elim (lit_cases m h.first) [
    | inl is ↦ subst (λ (n : Lit). AreOnce (lists' n)) (sym is) (first.taken.once (w.once h.first))
    | inr away ↦ elim (lit_cases m h.second) [
      | inl is ↦ subst (λ (n : Lit). AreOnce (lists' n)) (sym is) (second.taken.once (w.once h.second))
      | inr far ↦ subst AreOnce (sym (same m away far)) (w.once m)
    ]
  ]

  stays_left : (m l : Lit) → m ≡ l → LeavesKey key (lists l) (lists' l) → (k : ℕ) → k ≢ key → HasKey k (lists m) → HasKey k (lists' m)
  stays_left m l is left k far has =
      subst (λ (n : Lit). HasKey k (lists' n)) (sym is)
      (left_stay s held l key (lists l) (lists' l) (w.once l) left k far (subst (λ (n : Lit). HasKey k (lists n)) is has))

  covered_left : (k : ℕ) (c : WatchedClause) → held' k ≡ Some c → (m : Lit) → IsWatchedIn c m → HasKey k (lists' m)
  covered_left k c at m watched =
      let apart = other_key k c at in
      let has = w.covered k c (was_held k c at) m watched in
      elim (lit_cases m h.first) [
        | inl is ↦ stays_left m h.first is first k apart has
        | inr away ↦ elim (lit_cases m h.second) [
          | inl is ↦ stays_left m h.second is second k apart has
          | inr far ↦ subst (HasKey k) (sym (same m away far)) has
        ]
      ]

  -- the other clauses are still listed
  pub left_listed : AreListed s size held' lists'
  left_listed = record { clauses = λ k c at. w.clauses k c (was_held k c at); watches = watches_left; once = once_left; covered = covered_left }

-- where clauses have lists, the two literals of each have theirs
pub has_lists : (p : Propagation) → HaveLists p → (key : ℕ) (c : WatchedClause) → held_at p key ≡ Some c
    → (code_of c.first < length p.watches.lists.items) × (code_of c.second < length p.watches.lists.items) × (c.first ≢ c.second)
has_lists p h key c at =
    let held = h.listed.clauses key c at in
    let room = h.room in
    let first = code_within c.first h.size (held.usable.within c.first held.has_first) in
    let second = code_within c.second h.size (held.usable.within c.second held.has_second) in
    (omega (arith, first, room), omega (arith, second, room), held.differ)

-- ---- Keys one by one

-- none was looked at, where all are below a bound
pub keeps_none : (part : Part) (p : Propagation) (end : ℕ) → ((k : ℕ) (c : WatchedClause) → held_at p k ≡ Some c → k < end) → KeepsWatched part (λ k. end ≤ k) p p
keeps_none part p end all =
    record {
      stay = λ k c at is. at;
      only = λ k c at. let below = all k c at in (at, (λ le. absurd (omega (arith, le, below))));
      listed = λ s size w. w;
      room = refl;
      head = refl;
    }

-- the clause of a key isn't of the part, and goes
pub goes_one : (part : Part) (p q : Propagation) (key : ℕ) → (c : WatchedClause) × (held_at p key ≡ Some c) × (is_in part (held_as c) ≡ false) → Updates p.clauses q.clauses key None
    → StayListed p q → length q.watches.lists.items ≡ length p.watches.lists.items → q.head ≡ p.head → KeepsWatched part (λ k. k ≡ key) p q
goes_one part p q key one gone listed room head =
    record {
      stay = λ k c at is. elim (cases_eq k key) [
        | inl e ↦
            let same : c ≡ one.0 = same_Some c one.0 (sym at ∙ ap (held_at p) e ∙ one.1) in
            absurd (true≢false (sym is ∙ ap (λ (d : WatchedClause). is_in part (held_as d)) same ∙ one.2))
        | inr far ↦ gone.others k far ∙ at
      ];
      only = λ k c at. elim (cases_eq k key) [
        | inl e ↦ absurd (some_none c (sym at ∙ ap (held_at q) e ∙ gone.changed))
        | inr far ↦ (sym (gone.others k far) ∙ at, (λ e. absurd (far e)))
      ];
      listed = listed;
      room = room;
      head = head;
    } where
      some_none : (c : WatchedClause) → Some c ≡ None → ⊥
      some_none c e = cc

-- or it is, and stays
pub stays_one : (part : Part) (p : Propagation) (key : ℕ) → ((c : WatchedClause) → held_at p key ≡ Some c → is_in part (held_as c) ≡ true) → KeepsWatched part (λ k. k ≡ key) p p
stays_one part p key stays =
    record { stay = λ k c at is. at; only = λ k c at. (at, (λ e. stays c (ap (held_at p) (sym e) ∙ at))); listed = λ s size w. w; room = refl; head = refl }

-- one key more was looked at
pub keeps_more : (part : Part) (p q r : Propagation) (end : ℕ) → KeepsWatched part (λ k. end ≤ k) p q → KeepsWatched part (λ k. k ≡ end - 1) q r → KeepsWatched part (λ k. end - 1 ≤ k) p r
keeps_more part p q r end f g =
    record {
      stay = λ k c at is. g.stay k c (f.stay k c at is) is;
      only = λ k c at.
          let last = g.only k c at in
          let was = f.only k c last.0 in
          (was.0, (λ le. elim (cases_eq k (end - 1)) [ inl e ↦ last.1 e | inr far ↦ was.1 (above k le far) ]));
      listed = λ s size w. g.listed s size (f.listed s size w);
      room = g.room ∙ f.room;
      head = g.head ∙ f.head;
    } where
      above : (k : ℕ) → end - 1 ≤ k → k ≢ end - 1 → end ≤ k
      above k le far = elim (cases_lt (end - 1) k) [ inl less ↦ omega (arith, less) | inr most ↦ absurd (far (omega (arith, le, most))) ]

-- the lists are there still
pub keeps_lists : {part : Part} → {among : ℕ → Type 0} → {p q : Propagation} → HaveLists p → KeepsWatched part among p q → HaveLists q
keeps_lists h k = record { log = h.log; size = h.size; room = subst (λ (n : ℕ). 2 * h.size ≤ n) (sym k.room) h.room; listed = k.listed h.log h.size h.listed }

-- all keys were looked at, and then those that have no two literals
pub keeps_all : (part : Part) (p q r : Propagation) (end : ℕ) → end ≤ 0 → KeepsWatched part (λ k. end ≤ k) p q → q.lone ≡ p.lone
    → r ≡ record q { lone = r.lone } → r.lone.items ≡ held_part part q.lone.items → KeepsPart part p r
keeps_all part p q r end first k same rest lone =
    let watched : KeepsWatched part (λ n. ⊤) p (record q { lone = r.lone }) =
    record { stay = k.stay; only = λ n c at. let was = k.only n c at in (was.0, (λ any. was.1 (omega (arith, first)))); listed = k.listed; room = k.room; head = k.head } in
    record {
      watched = subst (KeepsWatched part (λ n. ⊤) p) (sym rest) watched;
      lone = lone ∙ ap (λ v. held_part part v.items) same;
    }
