-- Watched clauses as the trail goes on and back, and the log grows.
use Rattle.std.proofs.Common.{◌≡◌, ℕ, ◌+◌, ◌*◌, ◌<◌, ◌≤◌, Bool, true, false, if◌then◌else◌, inl, inr, List, [], ◌∷◌, ◌++◌, length, take, min, Option, Some, None, refl, sym, ap, subst, ◌∙◌, arith}
use Rattle.std.specs.Prelude.{All, Contains, option_map}
use Rattle.std.proofs.lemmas.Bool.Decides.{leb_tells}
use Rattle.std.proofs.lemmas.List.{append-nil, length-append, length_push, take-append-le, take_all}
use Rattle.std.proofs.lemmas.List.Elements.{All-cons, All-contains, All-nil, All-weaker}
use Rattle.std.proofs.lemmas.List.Sums.{sum_by_push}
use Rattle.std.proofs.lemmas.Option.{same_Some}
use Rattle.nz_log.specs.declared.lits.Lit.{Lit}
use Rattle.nz_log.specs.Growth.{Grows}
use Rattle.nz_log.specs.Logs.{LogState, IsLive, literals_at}
use Rattle.nz_sat.specs.declared.clauses.Held.{Held}
use Rattle.nz_sat.specs.declared.clauses.WatchedClause.{WatchedClause}
use Rattle.nz_sat.specs.declared.propagation.Propagation.{Propagation}
use Rattle.nz_sat.specs.declared.search.Search.{Search}
use Rattle.nz_sat.specs.declared.trail.Assigned.{Assigned}
use Rattle.nz_sat.specs.Clauses.{HasTrue, IsHeldIn, IsLoneIn, IsOpen, IsSettledBy, IsUsable, by_true, by_two, held_as}
use Rattle.nz_sat.specs.Sats.{ids}
use Rattle.nz_sat.specs.Searching.{AreFirst, AreOpen, IsReady, IsSearch, WereOpen}
use Rattle.nz_sat.specs.Trails.{AreUpTo, EachBehind, GoesOn, IsFalseOn, IsFreeOn, IsNext, IsTrail, IsTrueOn, TrailState, below, decided, depth, is_decision, truth_on, with_entry}
use Rattle.nz_sat.specs.Watched.{AreListed, AreSettledBy, AreWatched, HasClause, HoldSame, HoldsAs, IsWatchedAs, KeepsClauses, State, held_at, lone_ids, watch_state}
use Rattle.nz_sat.proofs.AtomTrails.{literals_kept}
use Rattle.nz_sat.proofs.Backward.{false_whole, front_place}
use Rattle.nz_sat.proofs.Clausal.{either_sign, truth_found}
use Rattle.nz_sat.proofs.HeldNumbers.{ids_covered}
use Rattle.nz_sat.proofs.LearnedClauses.{all_from}
use Rattle.nz_sat.proofs.Levels.{below_all, below_depth, below_front, below_join, below_none, below_true, below_twice}
use Rattle.nz_sat.proofs.TrailEntries.{each_front, level_within}
use Rattle.nz_sat.proofs.VisitedClauses.{goes_depth}

-- ---- What is true and what is false

-- a true literal stays so
pub true_more : (es more : List Assigned) (c : List Lit) → HasTrue es c → HasTrue (es ++ more) c
true_more es more c h = record { literal = h.literal; has = h.has; holds = truth_found es more h.literal.atom h.literal.sign h.holds }

pub true_on : (es es' : List Assigned) (c : List Lit) → GoesOn es es' → HasTrue es c → HasTrue es' c
true_on es es' c g h = subst (λ (xs : List Assigned). HasTrue xs c) (sym g.joined) (true_more es g.more c h)

-- what is told of a literal
data Tells (es : List Assigned) (l : Lit) : Type 0 where
  is_true : IsTrueOn es l → Tells es l
  is_false : IsFalseOn es l → Tells es l
  is_free : IsFreeOn es l → Tells es l

told_of : (es : List Assigned) (l : Lit) → Tells es l
told_of es l =
    elim (truth_on es l.atom) as (λ o. truth_on es l.atom ≡ o → Tells es l) [
      | None ↦ λ h. is_free h
      | Some b ↦ λ h. elim (either_sign b l.sign) [
        | inl same ↦ is_true (h ∙ ap Some same)
        | inr other ↦ is_false (h ∙ ap Some other)
      ]
    ] refl

open_true : (es : List Assigned) (c : List Lit) → HasTrue es c → IsOpen es c
open_true es c h = by_true h.literal h.has h.holds

-- a clause is open where what is watched and false leaves a true literal
open_watched : (s : LogState) (size : ℕ) (es : List Assigned) (h : WatchedClause) → IsHeldIn s size h → IsSettledBy es es s h → IsOpen es (literals_at s h.id)
open_watched s size es h held settled =
    let c = literals_at s h.id in
    elim (told_of es h.first) [
      | is_true holds ↦ by_true h.first held.has_first holds
      | is_false falls ↦ open_true es c (settled h.first (inl refl) falls)
      | is_free first ↦
          elim (told_of es h.second) [
            | is_true holds ↦ by_true h.second held.has_second holds
            | is_false falls ↦ open_true es c (settled h.second (inr refl) falls)
            | is_free second ↦ by_two h.first h.second held.has_first held.has_second held.differ first second
          ]
    ]

-- ---- Levels

-- entries above a level don't count for it
pub below_same : (k : ℕ) (es more : List Assigned) → All (λ (e : Assigned). k < e.level) more → below k (es ++ more) ≡ below k es
below_same k es more high = below_join k es more ∙ ap (λ (xs : List Assigned). below k es ++ xs) (below_none k more high) ∙ append-nil (below k es)

-- each entry of a trail is of one of its levels
within_levels : (size : ℕ) (es : List Assigned) → EachBehind (IsNext size) es → (k : ℕ) → depth es ≤ k → AreUpTo k es
within_levels size es order k most =
    all_from (λ (e : Assigned). e.level ≤ k) es
    (λ e has.
    let at = front_place es (length es) e (subst (λ (xs : List Assigned). Contains xs e) (sym (take_all (length es) es (omega arith))) has) in
    let low = level_within size es order at.0 e at.2 in
    omega (arith, low, most))

pub below_whole : (size : ℕ) (es : List Assigned) → EachBehind (IsNext size) es → (k : ℕ) → depth es ≤ k → below k es ≡ es
below_whole size es order k most = below_all k es (within_levels size es order k most)

-- ---- The trail goes on

module _ (s : LogState) (held : ℕ → Option WatchedClause) (head : ℕ) (es : List Assigned) (within : head ≤ length es) where
  front_same : (more : List Assigned) → take head (es ++ more) ≡ take head es
  front_same more = take-append-le head es more within

  settled_more : (more : List Assigned) → AreSettledBy (take head es) es s held → AreSettledBy (take head (es ++ more)) (es ++ more) s held
  settled_more more settled key h at l watched falls =
      true_more es more (literals_at s h.id) (settled key h at l watched (subst (λ (f : List Assigned). IsFalseOn f l) (front_same more) falls))

-- the watches under another trail
watched_on : (s : LogState) (p : Propagation) (t t' : TrailState) → t'.size ≡ t.size → p.head ≤ length t'.entries
    → AreSettledBy (take p.head t'.entries) t'.entries s (held_at p)
    → ((k : ℕ) → k < depth t'.entries → AreSettledBy (below k t'.entries) (below k t'.entries) s (held_at p))
    → AreWatched s (watch_state p t) → AreWatched s (watch_state p t')
watched_on s p t t' size within settled were_settled w =
    let state = watch_state p t in
    record {
      room = subst (λ (n : ℕ). 2 * n ≤ state.room) (sym size) w.room;
      listed = subst (λ (n : ℕ). AreListed s n state.held state.lists) (sym size) w.listed;
      lone = subst (λ (n : ℕ). All (IsLoneIn s n) state.lone) (sym size) w.lone;
      within = within;
      settled = settled;
      were_settled = were_settled;
    }

pub goes_watched : (s : LogState) (p : Propagation) (t t' : TrailState) → GoesOn t.entries t'.entries → t'.size ≡ t.size → AreWatched s (watch_state p t) → AreWatched s (watch_state p t')
goes_watched s p t t' g size w =
    let es = t.entries in
    let held = held_at p in
    let long = ap length g.joined ∙ length-append es g.more in
    watched_on s p t t' size (omega (arith, w.within, long))
    (subst (λ (xs : List Assigned). AreSettledBy (take p.head xs) xs s held) (sym g.joined) (settled_more s held p.head es w.within g.more w.settled))
    (λ k less.
    let low : k < depth es = omega (arith, less, goes_depth es t'.entries g) in
    let same : below k t'.entries ≡ below k es = ap (below k) g.joined ∙ below_same k es g.more (λ i d inside. let is = g.last i d inside in omega (arith, is, low)) in
    subst (λ (xs : List Assigned). AreSettledBy xs xs s held) (sym same) (w.were_settled k low))
    w

-- an assumed literal
pub first_entry_watched : (s : LogState) (p : Propagation) (t : TrailState) (e : Assigned) → depth (t.entries ++ e ∷ []) ≡ 0 → AreWatched s (watch_state p t)
    → AreWatched s (watch_state p (with_entry t e))
first_entry_watched s p t e none w =
    watched_on s p t (with_entry t e) refl (omega (arith, w.within, length_push t.entries e))
    (settled_more s (held_at p) p.head t.entries w.within (e ∷ []) w.settled)
    (λ k less. absurd (omega (arith, less, none)))
    w

at_most_one : (b : Bool) → (if b then 1 else 0) ≤ 1
at_most_one b = elim b as (λ c. (if c then 1 else 0) ≤ 1) [ true ↦ omega arith | false ↦ omega arith ]

-- a decided literal, where all was looked at
pub decided_watched : (s : LogState) (p : Propagation) (t : TrailState) (l : Lit) → IsTrail t → p.head ≡ length t.entries → AreWatched s (watch_state p t)
    → AreWatched s (watch_state p (with_entry t (decided t.entries l)))
decided_watched s p t l order all w =
    let es = t.entries in
    let e = decided es l in
    let held = held_at p in
    watched_on s p t (with_entry t e) refl (omega (arith, w.within, length_push es e))
    (settled_more s held p.head es w.within (e ∷ []) w.settled)
    (λ k less.
    let sum : depth (es ++ e ∷ []) ≡ depth es + (if is_decision e then 1 else 0) = sum_by_push (λ (x : Assigned). if is_decision x then 1 else 0) es e in
    let low : k ≤ depth es = omega (arith, less, sum, at_most_one (is_decision e)) in
    let above : All (λ (x : Assigned). k < x.level) (e ∷ []) = All-cons (λ (x : Assigned). k < x.level) e [] (omega (arith, low)) (All-nil (λ (x : Assigned). k < x.level)) in
    subst (λ (xs : List Assigned). AreSettledBy xs xs s held) (sym (below_same k es (e ∷ []) above))
    (elim (leb_tells (depth es) k) [
      | inl last ↦
          let whole = below_whole t.size es order k last.1 in
          let front = take_all p.head es (omega (arith, all)) in
          subst (λ (xs : List Assigned). AreSettledBy xs xs s held) (sym whole) (subst (λ (xs : List Assigned). AreSettledBy xs es s held) front w.settled)
      | inr before ↦ w.were_settled k before.1
    ]))
    w

-- ---- The trail goes back

pub cut_watched : (s : LogState) (p q : Propagation) (t t' : TrailState) (k : ℕ) → IsTrail t → t'.entries ≡ below k t.entries → t'.size ≡ t.size
    → q ≡ record p { head = min p.head (length t'.entries) } → AreWatched s (watch_state p t) → AreWatched s (watch_state q t')
cut_watched s p q t t' k order cut size is w =
    let es = t.entries in
    let held = held_at p in
    let r : Propagation = record p { head = min p.head (length t'.entries) } in
    let w' : AreWatched s (watch_state r t') =
    elim (leb_tells (depth es) k) [
      | inl low ↦
          let same : t'.entries ≡ es = cut ∙ below_whole t.size es order k low.1 in
          let head : min p.head (length t'.entries) ≡ p.head = omega (arith, w.within, ap length same) in
          watched_on s r (record t { size = t.size }) t' size (omega arith)
          (subst (λ (n : ℕ). AreSettledBy (take n t'.entries) t'.entries s held) (sym head) (subst (λ (xs : List Assigned). AreSettledBy (take p.head xs) xs s held) (sym same) w.settled))
          (λ j less. subst (λ (xs : List Assigned). AreSettledBy (below j xs) (below j xs) s held) (sym same) (w.were_settled j (omega (arith, less, ap depth same))))
          (subst (λ (n : ℕ). AreWatched s (watch_state (record p { head = n }) t)) (sym head) w)
      | inr high ↦
          let here = w.were_settled k high.1 in
          record {
            room = subst (λ (n : ℕ). 2 * n ≤ length p.watches.lists.items) (sym size) w.room;
            listed = subst (λ (n : ℕ). AreListed s n held (watch_state p t).lists) (sym size) w.listed;
            lone = subst (λ (n : ℕ). All (IsLoneIn s n) (lone_ids p)) (sym size) w.lone;
            within = omega arith;
            settled =
                subst (λ (xs : List Assigned). AreSettledBy (take r.head xs) xs s held) (sym cut)
                (λ key h at l watched falls. here key h at l watched (false_whole (below k es) r.head l falls));
            were_settled = λ j less.
                let deep : depth t'.entries ≡ k = ap depth cut ∙ below_depth t.size es order k (omega (arith, high.1)) in
                let lower : j < k = omega (arith, less, deep) in
                let same : below j t'.entries ≡ below j es = ap (below j) cut ∙ below_twice j k (omega (arith, lower)) es in
                subst (λ (xs : List Assigned). AreSettledBy xs xs s held) (sym same) (w.were_settled j (omega (arith, lower, high.1)));
          }
    ] in
    subst (λ (x : Propagation). AreWatched s (watch_state x t')) (sym is) w'

-- ---- The log grows

module _ (s s' : LogState) (g : Grows s s') where
  true_kept : (es : List Assigned) (i : ℕ) → IsLive s i → HasTrue es (literals_at s i) → HasTrue es (literals_at s' i)
  true_kept es i live h = subst (HasTrue es) (sym (literals_kept s s' g i live)) h

  usable_kept : (size i : ℕ) → IsUsable s size i → IsUsable s' size i
  usable_kept size i u =
      record {
        live = g.live i u.live;
        within = λ l has. u.within l (subst (λ (c : List Lit). Contains c l) (literals_kept s s' g i u.live) has);
      }

  settled_kept : (size : ℕ) (held : ℕ → Option WatchedClause) (front es : List Assigned) → ((key : ℕ) (h : WatchedClause) → held key ≡ Some h → IsHeldIn s size h)
      → AreSettledBy front es s held → AreSettledBy front es s' held
  settled_kept size held front es clauses settled key h at l watched falls = true_kept es h.id (clauses key h at).usable.live (settled key h at l watched falls)

pub grown_watched : (s s' : LogState) (state : State) → Grows s s' → AreWatched s state → AreWatched s' state
grown_watched s s' state g w =
    let size = state.trail.size in
    let c = w.listed.clauses in
    record {
      room = w.room;
      listed = record {
        clauses = λ key h at.
            let x = c key h at in
            let same = literals_kept s s' g h.id x.usable.live in
            record {
              usable = usable_kept s s' g size h.id x.usable;
              has_first = subst (λ (d : List Lit). Contains d h.first) (sym same) x.has_first;
              has_second = subst (λ (d : List Lit). Contains d h.second) (sym same) x.has_second;
              differ = x.differ;
            };
        watches = λ l i v at.
            let x = w.listed.watches l i v at in
            let same = literals_kept s s' g x.clause.id (c v.key x.clause x.at).usable.live in
            record {
              clause = x.clause;
              at = x.at;
              watched = x.watched;
              has = subst (λ (d : List Lit). Contains d v.blocker) (sym same) x.has;
              other = x.other;
              short = λ is m has. x.short is m (subst (λ (d : List Lit). Contains d m) same has);
            };
        once = w.listed.once;
        covered = w.listed.covered;
      };
      lone =
          All-weaker (IsLoneIn s size) (IsLoneIn s' size)
          (λ i x.
          let same = literals_kept s s' g i x.usable.live in
          record {
            usable = usable_kept s s' g size i x.usable;
            lone = λ l m has_l has_m. x.lone l m (subst (λ (d : List Lit). Contains d l) same has_l) (subst (λ (d : List Lit). Contains d m) same has_m);
          })
          state.lone w.lone;
      within = w.within;
      settled = settled_kept s s' g size state.held (take state.head state.trail.entries) state.trail.entries c w.settled;
      were_settled = λ k less. settled_kept s s' g size state.held (below k state.trail.entries) (below k state.trail.entries) c (w.were_settled k less);
    }

-- ---- Clauses stay

pub clauses_stay : (p : Propagation) → KeepsClauses p p
clauses_stay p = record { watched = λ key. refl; lone = refl; room = refl }

-- the same clauses stand under the keys of another list
watched_there : (old new : ℕ → Option WatchedClause) → HoldSame old new → (h : Held) → IsWatchedAs old h → IsWatchedAs new h
watched_there old new same h w =
    let one : option_map held_as (new w.key) ≡ Some h = same w.key ∙ ap (option_map held_as) w.at ∙ ap Some w.is in
    elim (new w.key) as (λ o. new w.key ≡ o → option_map held_as o ≡ Some h → IsWatchedAs new h) [
      | None ↦ λ at is. cc
      | Some c ↦ λ at is. record { key = w.key; clause = c; at = at; is = same_Some (held_as c) h is }
    ] refl one

-- by their levels and flags
pub kept_as : (p q : Propagation) (h : Held) → KeepsClauses p q → HoldsAs p h → HoldsAs q h
kept_as p q h k (inl w) = inl (watched_there (held_at p) (held_at q) k.watched h w)
kept_as p q h k (inr has) = inr (subst (λ v. Contains v.items h) (sym k.lone) has)

pub had_as : (p q : Propagation) (h : Held) → KeepsClauses p q → HoldsAs q h → HoldsAs p h
had_as p q h k (inl w) = inl (watched_there (held_at q) (held_at p) (λ key. sym (k.watched key)) h w)
had_as p q h k (inr has) = inr (subst (λ v. Contains v.items h) k.lone has)

-- by their numbers
pub had_kept : (p q : Propagation) (i : ℕ) → KeepsClauses p q → HasClause q i → HasClause p i
had_kept p q i k (inl w) =
    let there = watched_there (held_at q) (held_at p) (λ key. sym (k.watched key)) (held_as w.clause) (record { key = w.key; clause = w.clause; at = w.at; is = refl }) in
    inl (record { key = there.key; clause = there.clause; at = there.at; is = ap (λ (h : Held). h.id) there.is ∙ w.is })
had_kept p q i k (inr has) = inr (subst (λ v. Contains (ids v.items) i) k.lone has)

-- ---- Each clause is open

module _ (log : LogState) (held : List Held) (s : Search) (h : IsSearch log held s) where
  -- by those that are watched, and those of which a literal is true under no decision
  each_open : (es : List Assigned) → AreSettledBy es es log (held_at s.propagation) → All (λ (i : ℕ). HasTrue es (literals_at log i)) (lone_ids s.propagation)
      → AreOpen log held es
  each_open es settled first =
      all_from (λ (i : ℕ). IsOpen es (literals_at log i)) (ids held)
      (λ i has. elim (ids_covered held s.propagation h.covered i has) [
        | inl w ↦
            subst (λ (j : ℕ). IsOpen es (literals_at log j)) w.is
            (open_watched log s.trail.size es w.clause (h.watched.listed.clauses w.key w.clause w.at) (settled w.key w.clause w.at))
        | inr lone ↦ open_true es (literals_at log i) (All-contains (λ (j : ℕ). HasTrue es (literals_at log j)) (lone_ids s.propagation) i first lone)
      ])

-- what is true under no decision is true
first_true : (log : LogState) (size : ℕ) (es : List Assigned) (us : List ℕ) → EachBehind (IsNext size) es → All (λ (i : ℕ). HasTrue (below 0 es) (literals_at log i)) us
    → All (λ (i : ℕ). HasTrue es (literals_at log i)) us
first_true log size es us order first =
    All-weaker (λ (i : ℕ). HasTrue (below 0 es) (literals_at log i)) (λ (i : ℕ). HasTrue es (literals_at log i))
    (λ i x. record { literal = x.literal; has = x.has; holds = below_true size es order 0 x.literal.atom x.literal.sign x.holds }) us first

pub all_open : (log : LogState) (held : List Held) (s : Search) → IsSearch log held s → IsReady log s → AreOpen log held s.trail.entries
all_open log held s h ready =
    let es = s.trail.entries in
    let whole : take s.propagation.head es ≡ es = take_all s.propagation.head es (omega (arith, ready.all)) in
    each_open log held s h es (subst (λ (xs : List Assigned). AreSettledBy xs es log (held_at s.propagation)) whole h.watched.settled)
    (first_true log s.trail.size es (lone_ids s.propagation) h.on.order ready.first)

pub were_open : (log : LogState) (held : List Held) (s : Search) → IsSearch log held s → AreFirst log s → WereOpen log held s.trail.entries
were_open log held s h first k less =
    let es = s.trail.entries in
    let size = s.trail.size in
    let front = below_front size es h.on.order k in
    let order : EachBehind (IsNext size) (below k es) = each_front (IsNext size) (below k es) front.more (subst (EachBehind (IsNext size)) front.joined h.on.order) in
    let same : below 0 (below k es) ≡ below 0 es = below_twice 0 k (omega arith) es in
    each_open log held s h (below k es) (h.watched.were_settled k less)
    (first_true log size (below k es) (lone_ids s.propagation) order
    (subst (λ (xs : List Assigned). All (λ (i : ℕ). HasTrue xs (literals_at log i)) (lone_ids s.propagation)) (sym same) first))

-- ---- What is true under no decision

-- of the same clauses
lone_same : (log : LogState) (s s' : Search) → s'.propagation.lone ≡ s.propagation.lone → All (λ (i : ℕ). HasTrue (below 0 s'.trail.entries) (literals_at log i)) (lone_ids s.propagation)
    → AreFirst log s'
lone_same log s s' lone first = subst (λ v. All (λ (i : ℕ). HasTrue (below 0 s'.trail.entries) (literals_at log i)) (ids v.items)) (sym lone) first

pub first_on : (log : LogState) (s s' : Search) → GoesOn s.trail.entries s'.trail.entries → s'.propagation.lone ≡ s.propagation.lone → AreFirst log s → AreFirst log s'
first_on log s s' g lone first =
    let es = s.trail.entries in
    let longer : below 0 s'.trail.entries ≡ below 0 es ++ below 0 g.more = ap (below 0) g.joined ∙ below_join 0 es g.more in
    lone_same log s s' lone
    (All-weaker (λ (i : ℕ). HasTrue (below 0 es) (literals_at log i)) (λ (i : ℕ). HasTrue (below 0 s'.trail.entries) (literals_at log i))
    (λ i x. subst (λ (xs : List Assigned). HasTrue xs (literals_at log i)) (sym longer) (true_more (below 0 es) (below 0 g.more) (literals_at log i) x)) (lone_ids s.propagation) first)

pub first_cut : (log : LogState) (s s' : Search) (k : ℕ) → s'.trail.entries ≡ below k s.trail.entries → s'.propagation.lone ≡ s.propagation.lone → AreFirst log s → AreFirst log s'
first_cut log s s' k cut lone first =
    let same : below 0 s'.trail.entries ≡ below 0 s.trail.entries = ap (below 0) cut ∙ below_twice 0 k (omega arith) s.trail.entries in
    lone_same log s s' lone (subst (λ (xs : List Assigned). All (λ (i : ℕ). HasTrue xs (literals_at log i)) (lone_ids s.propagation)) (sym same) first)

pub first_grown : (log log' : LogState) (s : Search) → Grows log log' → AreWatched log (watch_state s.propagation s.trail) → AreFirst log s → AreFirst log' s
first_grown log log' s g w first =
    let es = below 0 s.trail.entries in
    let us = lone_ids s.propagation in
    all_from (λ (i : ℕ). HasTrue es (literals_at log' i)) us
    (λ i has.
    true_kept log log' g es i (All-contains (IsLoneIn log s.trail.size) us i w.lone has).usable.live (All-contains (λ (j : ℕ). HasTrue es (literals_at log j)) us i first has))
