-- What a search keeps of clauses from check to check.
use Rattle.std.proofs.Common.{◌≡◌, ℕ, ◌*◌, ◌<◌, ◌≤◌, inl, inr, Bool, List, [], ◌++◌, length, take, drop, get_or, Option, None, Some, refl, sym, ap, subst, ◌∙◌, arith, min}
use Rattle.std.specs.Prelude.{All, Contains, IfSome}
use Rattle.std.proofs.lemmas.List.{get_or-take, get_or_default, length-append, length-take-le, take-append-drop, take-append-le, take_all}
use Rattle.std.proofs.lemmas.List.Elements.{All-contains, All-contains_itself, All-filter, All-map, All-take, filter-append}
use Rattle.nz_log.specs.declared.lits.Lit.{Lit}
use Rattle.nz_log.specs.Growth.{Grows}
use Rattle.nz_log.specs.Logs.{Entry, IsLive, LogState, empty_log, literals_at}
use Rattle.nz_sat.specs.declared.clauses.Held.{Held}
use Rattle.nz_sat.specs.declared.clauses.Part.{Part}
use Rattle.nz_sat.specs.declared.clauses.WatchedClause.{WatchedClause}
use Rattle.nz_sat.specs.declared.kept.Kept.{Kept}
use Rattle.nz_sat.specs.declared.order.Order.{Order}
use Rattle.nz_sat.specs.declared.propagation.Propagation.{Propagation}
use Rattle.nz_sat.specs.declared.search.Search.{Search}
use Rattle.nz_sat.specs.declared.watches.Watch.{Watch}
use Rattle.nz_sat.specs.Clauses.{IsHeldIn, IsLone, IsLoneIn, IsUsable}
use Rattle.nz_sat.specs.Sats.{AreHeld, AreSameSince, IsSameIn, held_part, ids, is_in}
use Rattle.nz_sat.specs.Searching.{IsSearch}
use Rattle.nz_sat.specs.Stored.{IsKeptSince}
use Rattle.nz_sat.specs.Trails.{TrailState, empty_trail}
use Rattle.nz_sat.specs.Watched.{AreSettledBy, AreWatched, HasClause, HaveLists, HoldsAs, HoldsWatched, IsKept, IsWatch, KeepsPart, held_at, lone_ids, watch_state}
use Rattle.nz_sat.proofs.Chains.{filter_from, filter_has}
use Rattle.nz_sat.proofs.HeldNumbers.{ids_covered, ids_only}
use Rattle.nz_sat.proofs.LearnedClauses.{all_from}
use Rattle.nz_sat.proofs.TrailGrowth.{held_has}

-- ---- No clause

-- where there is none, none is kept
pub none_kept : (p : Propagation) (o : Order) → ((h : Held) → HoldsAs p h → ⊥) → p.head ≡ 0 → ((s : LogState) → AreWatched s (watch_state p (empty_trail 0)))
    → (s : LogState) (held : List Held) → IsKept s held (record { propagation = p; count = 0; order = o })
none_kept p o none head watched s held =
    let w = watched s in
    record {
      within = omega arith;
      holds = record {
        size = 0;
        room = w.room;
        listed = w.listed;
        lone = w.lone;
        covered = λ h has. let inside : has.0 < 0 = has.1 in absurd (omega (arith, inside));
        only = λ h has. absurd (none h has);
      };
      head = head;
    }

-- ---- Nothing is true

-- the clauses that are held are watched where nothing is true, at each size at which they may be used
pub kept_watched : (s : LogState) (held : List Held) (p : Propagation) (size : ℕ) → HoldsWatched s held p → p.head ≡ 0 → ((i : ℕ) → Contains (ids held) i → IsUsable s size i)
    → 2 * size ≤ length p.watches.lists.items → AreWatched s (watch_state p (empty_trail size))
kept_watched s held p size h head usable room =
    record {
      room = room;
      listed = record {
        clauses = λ key c at.
            let was = h.listed.clauses key c at in
            record { usable = usable c.id (ids_only held p h.only c.id (inl (record { key = key; clause = c; at = at; is = refl }))); has_first = was.has_first; has_second = was.has_second; differ = was.differ };
        watches = h.listed.watches;
        once = h.listed.once;
        covered = h.listed.covered;
      };
      lone = all_from (IsLoneIn s size) (lone_ids p)
          (λ i has. record { usable = usable i (ids_only held p h.only i (inr has)); lone = (All-contains (IsLoneIn s h.size) (lone_ids p) i h.lone has).lone });
      within = subst (λ (n : ℕ). n ≤ 0) (sym head) (omega arith);
      settled = subst (λ (n : ℕ). AreSettledBy (take n []) [] s (held_at p)) (sym head) (λ key c at l watched falls. cc);
      were_settled = λ k less. absurd (omega (arith, less));
    }

-- a search holds the clauses that it watches
pub search_holds : (s : LogState) (held : List Held) (r : Search) → IsSearch s held r → HoldsWatched s held r.propagation
search_holds s held r h =
    record { size = r.trail.size; room = h.watched.room; listed = h.watched.listed; lone = h.watched.lone; covered = h.covered; only = h.only }

-- how far the trail was looked at doesn't count
pub head_moved : (s : LogState) (held : List Held) (p q : Propagation) → q ≡ record p { head = q.head } → HoldsWatched s held p → HoldsWatched s held q
head_moved s held p q same h =
    subst (HoldsWatched s held) (sym same) (record { size = h.size; room = h.room; listed = h.listed; lone = h.lone; covered = h.covered; only = h.only })

-- ---- Another log

module _ (seen log : LogState) (held : List Held) (p : Propagation) (same : All (IsSameIn seen log) held) (h : HoldsWatched seen held p) where
  same_at : (i : ℕ) → HasClause p i → IsLive log i × (literals_at log i ≡ literals_at seen i)
  same_at i has =
      let P : ℕ → Type 0 = λ j. IsLive log j × (literals_at log j ≡ literals_at seen j) in
      All-contains P (ids held) i (All-map P (λ (x : Held). x.id) held same) (ids_only held p h.only i has)

  usable_there : (i : ℕ) → HasClause p i → IsUsable seen h.size i → IsUsable log h.size i
  usable_there i has u =
      let one = same_at i has in
      record { live = one.0; within = λ l there. u.within l (subst (λ (c : List Lit). Contains c l) one.1 there) }

  held_there : (key : ℕ) (c : WatchedClause) → held_at p key ≡ Some c → IsHeldIn log h.size c
  held_there key c at =
      let has : HasClause p c.id = inl (record { key = key; clause = c; at = at; is = refl }) in
      let was = h.listed.clauses key c at in
      let back = sym (same_at c.id has).1 in
      record {
        usable = usable_there c.id has was.usable;
        has_first = subst (λ (ls : List Lit). Contains ls c.first) back was.has_first;
        has_second = subst (λ (ls : List Lit). Contains ls c.second) back was.has_second;
        differ = was.differ;
      }

  watch_there : (l : Lit) (w : Watch) → IsWatch seen (held_at p) l w → IsWatch log (held_at p) l w
  watch_there l w was =
      let one = same_at was.clause.id (inl (record { key = w.key; clause = was.clause; at = was.at; is = refl })) in
      record {
        clause = was.clause;
        at = was.at;
        watched = was.watched;
        has = subst (λ (ls : List Lit). Contains ls w.blocker) (sym one.1) was.has;
        other = was.other;
        short = λ is m has. was.short is m (subst (λ (ls : List Lit). Contains ls m) one.1 has);
      }

  lone_there : (i : ℕ) → Contains (lone_ids p) i → IsLoneIn log h.size i
  lone_there i has =
      let was = All-contains (IsLoneIn seen h.size) (lone_ids p) i h.lone has in
      record { usable = usable_there i (inr has) was.usable; lone = subst IsLone (sym (same_at i (inr has)).1) was.lone }

  -- clauses that stay what they were are held as they were
  pub holds_there : HoldsWatched log held p
  holds_there =
      record {
        size = h.size;
        room = h.room;
        listed = record {
          clauses = held_there;
          watches = λ l i w at. watch_there l w (h.listed.watches l i w at);
          once = h.listed.once;
          covered = h.listed.covered;
        };
        lone = all_from (IsLoneIn log h.size) (lone_ids p) lone_there;
        covered = h.covered;
        only = h.only;
      }

-- in a log that grew clauses are what they were
pub same_grown : (a b : LogState) (held : List Held) → Grows a b → AreHeld a held → All (IsSameIn a b) held
same_grown a b held g live k d inside =
    let x = live k d inside in
    let i = (get_or held k d).id in
    (g.live i x.0, ap (λ (o : Option Entry). elim o [ None ↦ [] | Some e ↦ e.literals ]) (g.kept i x.0))

-- where a search ends, its clauses are held in the log that grew
pub left_held : (a b : LogState) (held : List Held) (r r' : Search) → IsSearch a held r → Grows a b → r' ≡ record r { order = r'.order; seen = r'.seen }
    → HoldsWatched b held r'.propagation
left_held a b held r r' h g rest =
    subst (HoldsWatched b held) (sym (ap (λ (x : Search). x.propagation) rest)) (holds_there a b held r.propagation (same_grown a b held g h.are_held) (search_holds a held r h))

-- a search that found truths, or a clause, holds its clauses
pub run_holds : (s : LogState) (held : List Held) (r : Search) (told : Option ℕ) → (told ≡ None → IsSearch s held r) → IfSome told (λ id. HoldsWatched s held r.propagation)
    → HoldsWatched s held r.propagation
run_holds s held r None search left = search_holds s held r (search refl)
run_holds s held r (Some id) search left = left

-- ---- What is kept

-- all clauses are kept
pub all_kept : (s : LogState) (held : List Held) (p q : Propagation) (o : Order) (count : ℕ) → length held ≡ count → q ≡ record p { head = min p.head 0 } → HoldsWatched s held p
    → IsKept s held (record { propagation = q; count = count; order = o })
all_kept s held p q o count long cut h =
    let none : q.head ≡ 0 = ap (λ (x : Propagation). x.head) cut ∙ nothing p.head in
    let holds : HoldsWatched s held q = head_moved s held p q (cut ∙ ap (λ (n : ℕ). record p { head = n }) (sym (ap (λ (x : Propagation). x.head) cut))) h in
    record {
      within = omega (arith, long);
      holds = subst (λ (hs : List Held). HoldsWatched s hs q) (sym (take_all count held (omega (arith, long)))) holds;
      head = none;
    } where
      nothing : (n : ℕ) → min n 0 ≡ 0
      nothing n = omega arith

-- what was kept is kept in the log of now
pub kept_now : (seen : Option LogState) (log : LogState) (held : List Held) (k : Kept) → IsKeptSince seen held k → AreSameSince seen log held → IsKept log held k
kept_now None log held k kept same = kept log
kept_now (Some seen) log held k kept same =
    record {
      within = kept.within;
      holds = holds_there seen log (take k.count held) k.propagation (All-take (IsSameIn seen log) k.count held same) kept.holds;
      head = kept.head;
    }

-- more clauses are held behind those that are kept
pub kept_more : (log : LogState) (held more : List Held) (k : Kept) → IsKept log held k → IsKept log (held ++ more) k
kept_more log held more k kept =
    let within = kept.within in
    record {
      within = omega (arith, within, length-append held more);
      holds = subst (λ (hs : List Held). HoldsWatched log hs k.propagation) (sym (take-append-le k.count held more kept.within)) kept.holds;
      head = kept.head;
    }

-- ---- The clauses that a search begins with

-- what is held of a front is held
pub front_held : (held : List Held) (count : ℕ) (h : Held) → Contains (take count held) h → Contains held h
front_held held count h has = All-contains (Contains held) (take count held) h (All-take (Contains held) count held (All-contains_itself held)) has

-- the clauses of a front
pub in_front : (held : List Held) (count k : ℕ) (d : Held) → count ≤ length held → k < count → Contains (take count held) (get_or held k d)
in_front held count k d within less =
    let long = length-take-le count held within in
    let x = get_or held k d in
    (k, omega (arith, long, less), get_or-take count held k x less ∙ get_or_default held k x d (omega (arith, within, less)))

-- what holds of each clause holds of those of a front
pub front_each : (P : ℕ → Type 0) (held : List Held) (count : ℕ) → All (λ (x : Held). P x.id) held → (i : ℕ) → Contains (ids (take count held)) i → P i
front_each P held count each i has =
    All-contains P (ids (take count held)) i (All-map P (λ (x : Held). x.id) (take count held) (All-take (λ (x : Held). P x.id) count held each)) has

-- a clause that is held may be used
held_usable : (s : LogState) (held : List Held) (p : Propagation) (h : HoldsWatched s held p) (i : ℕ) → HasClause p i → IsUsable s h.size i
held_usable s held p h i has =
    elim has [
      | inl at ↦ subst (IsUsable s h.size) at.is (h.listed.clauses at.key at.clause at.at).usable
      | inr lone ↦ (All-contains (IsLoneIn s h.size) (lone_ids p) i h.lone lone).usable
    ]

-- where room was made, the clauses are held as before
pub fit_holds : (s : LogState) (held : List Held) (p q : Propagation) → HoldsWatched s held p → p.head ≡ 0
    → ((r : LogState) (t : TrailState) → AreWatched r (watch_state p t) → AreWatched r (watch_state q t)) → ((h : Held) → HoldsAs p h → HoldsAs q h) → ((h : Held) → HoldsAs q h → HoldsAs p h)
    → HoldsWatched s held q
fit_holds s held p q h head same kept only =
    let w = same s (empty_trail h.size) (kept_watched s held p h.size h head (λ i has. held_usable s held p h i (ids_covered held p h.covered i has)) h.room) in
    record {
      size = h.size;
      room = w.room;
      listed = w.listed;
      lone = w.lone;
      covered = λ g has. kept g (h.covered g has);
      only = λ g has. h.only g (only g has);
    }

-- ---- Clauses that go

-- those that stay are watched, where just they do
part_holds : (s : LogState) (part : Part) (held : List Held) (p q : Propagation) → KeepsPart part p q → HoldsWatched s held p → HoldsWatched s (held_part part held) q
part_holds s part held p q k h =
    let test : Held → Bool = is_in part in
    record {
      size = h.size;
      room = subst (λ (n : ℕ). 2 * h.size ≤ n) (sym k.watched.room) h.room;
      listed = k.watched.listed s h.size h.listed;
      lone = all_from (IsLoneIn s h.size) (lone_ids q)
          (λ i has.
          let own : All (Contains (lone_ids p)) (lone_ids q) =
          subst (λ (hs : List Held). All (Contains (lone_ids p)) (ids hs)) (sym k.lone)
          (All-map (Contains (lone_ids p)) (λ (x : Held). x.id) (held_part part p.lone.items)
          (All-filter test (λ (x : Held). Contains (lone_ids p) x.id) p.lone.items (λ n d inside. held_has p.lone.items n d inside))) in
          All-contains (IsLoneIn s h.size) (lone_ids p) i h.lone (All-contains (Contains (lone_ids p)) (lone_ids q) i own has));
      covered = λ g has.
          let in_both = filter_from test held g has in
          elim (h.covered g in_both.0) [
            | inl w ↦ inl (record { key = w.key; clause = w.clause; at = k.watched.stay w.key w.clause w.at (ap (is_in part) w.is ∙ in_both.1); is = w.is })
            | inr lone ↦ inr (subst (λ (hs : List Held). Contains hs g) (sym k.lone) (filter_has test p.lone.items g lone in_both.1))
          ];
      only = λ g has. elim has [
        | inl w ↦
            let was = k.watched.only w.key w.clause w.at in
            filter_has test held g (h.only g (inl (record { key = w.key; clause = w.clause; at = was.0; is = w.is }))) (sym (ap (is_in part) w.is) ∙ was.1 tt)
        | inr lone ↦
            let was = filter_from test p.lone.items g (subst (λ (hs : List Held). Contains hs g) k.lone lone) in
            filter_has test held g (h.only g (inr was.0)) was.1
      ];
    }

-- of those that were kept, the ones that stay are
pub part_kept : (s : LogState) (part : Part) (held : List Held) (k : Kept) (q : Propagation) (count : ℕ) → KeepsPart part k.propagation q → count ≡ length (held_part part (take k.count held))
    → IsKept s held k → IsKept s (held_part part held) (record { propagation = q; count = count; order = k.order })
part_kept s part held k q count keeps is kept =
    let front = held_part part (take k.count held) in
    let behind = held_part part (drop k.count held) in
    let parts : held_part part held ≡ front ++ behind = ap (held_part part) (sym (take-append-drop k.count held)) ∙ filter-append (is_in part) (take k.count held) (drop k.count held) in
    let long = length-append front behind in
    let same : take count (held_part part held) ≡ front = ap (take count) parts ∙ take-append-le count front behind (omega (arith, is)) ∙ take_all count front (omega (arith, is)) in
    record {
      within = subst (λ (hs : List Held). count ≤ length hs) (sym parts) (omega (arith, is, long));
      holds = subst (λ (hs : List Held). HoldsWatched s hs q) (sym same) (part_holds s part (take k.count held) k.propagation q keeps kept.holds);
      head = keeps.watched.head ∙ kept.head;
    }

-- their lists are there
pub kept_lists : (s : LogState) (held : List Held) (k : Kept) → IsKept s held k → HaveLists k.propagation
kept_lists s held k kept = record { log = s; size = kept.holds.size; room = kept.holds.room; listed = kept.holds.listed }

-- what is kept of each log is kept since one was seen
pub part_since : (seen : Option LogState) (held held' : List Held) (k k' : Kept) → ((s : LogState) → IsKept s held k → IsKept s held' k') → IsKeptSince seen held k → IsKeptSince seen held' k'
part_since None held held' k k' each kept = λ s. each s (kept s)
part_since (Some log) held held' k k' each kept = each log kept

-- a log in which it is kept
pub some_log : (seen : Option LogState) (held : List Held) (k : Kept) → IsKeptSince seen held k → (s : LogState) × IsKept s held k
some_log None held k kept = (empty_log, kept empty_log)
some_log (Some log) held k kept = (log, kept)
