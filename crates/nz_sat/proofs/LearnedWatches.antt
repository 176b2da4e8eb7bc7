-- Watched clauses where a search went back after it learned a clause, and that clause beside them.
use Rattle.std.proofs.Common.{◌≡◌, ℕ, ◌*◌, ◌<◌, ◌≤◌, ◌⊎◌, if◌then◌else◌, Bool, inl, inr, List, [], ◌∷◌, ◌++◌, length, min, take, Option, Some, None, refl, sym, ap, subst, ◌∙◌, arith}
use Rattle.std.specs.Prelude.{All, Contains, IfSome, option_map}
use Rattle.std.proofs.lemmas.Bool.Decides.{eqb_tells}
use Rattle.std.proofs.lemmas.List.{append-nil, map_push}
use Rattle.std.proofs.lemmas.List.Elements.{All-push, All-weaker}
use Rattle.nz_log.specs.declared.lits.Lit.{Lit}
use Rattle.nz_log.specs.Logs.{LogState, literals_at}
use Rattle.nz_sat.specs.declared.analyze.Learned.{Learned}
use Rattle.nz_sat.specs.declared.clauses.Held.{Held}
use Rattle.nz_sat.specs.declared.propagation.Propagation.{Propagation}
use Rattle.nz_sat.specs.declared.trail.Assigned.{Assigned}
use Rattle.nz_sat.specs.Clauses.{HasTrue, IsUsable}
use Rattle.nz_sat.specs.Conflicts.{IsBeside, IsLearned}
use Rattle.nz_log.specs.Codes.{code_of}
use Rattle.nz_sat.specs.Sats.{ids, learned_of}
use Rattle.nz_sat.specs.Searching.{after_learned}
use Rattle.nz_sat.specs.Trails.{EachBehind, GoesOn, IsFalseOn, IsFreeOn, IsNext, IsTrail, IsTrueOn, TrailState, below, depth, implied, level_on}
use Rattle.nz_sat.specs.Watched.{AreWatched, HoldsAs, MayHold, lone_ids, watch_state}
use Rattle.nz_sat.proofs.Backward.{false_whole}
use Rattle.nz_sat.proofs.Clausal.{truth_missing}
use Rattle.nz_sat.proofs.Levels.{below_depth, below_free, below_join, below_none, below_twice}
use Rattle.nz_sat.proofs.LiteralNumbers.{code_within}
use Rattle.nz_sat.proofs.TrailEntries.{assigned_one}
use Rattle.nz_sat.proofs.VisitedClauses.{goes_depth, goes_one, goes_same}
use Rattle.nz_sat.proofs.WatchedTrails.{below_whole, cut_watched, goes_watched, true_more}

-- a literal and another one, where there is one
abbrev pub pair_of : Lit → Option Lit → Option (Lit × Lit)
pair_of l o = option_map (λ (other : Lit). (l, other)) o

-- the two literals of a learned clause that are watched, where there are two
abbrev pub watched_pair : Learned → Option (Lit × Lit)
watched_pair l = pair_of l.literal l.beside

-- What comes of the clauses where one more is held, with these two literals watched.
pub record Holds (log : LogState) (one : Held) (pair : Option (Lit × Lit)) (p q : Propagation) : Type 0 where
  pub watched : (t : TrailState) → AreWatched log (watch_state p t) → MayHold log t p.head one pair → AreWatched log (watch_state q t)
  pub has : HoldsAs q one
  pub kept : (h : Held) → HoldsAs p h → HoldsAs q h
  pub only : (h : Held) → HoldsAs q h → HoldsAs p h ⊎ (one ≡ h)
  pub lone : pair ≡ None → q.lone.items ≡ p.lone.items ++ one ∷ []
  pub no_more_lone : IfSome pair (λ (x : Lit × Lit). q.lone ≡ p.lone)

-- those that have no two literals stay, but for the new one
lone_items : (log : LogState) (one : Held) (pair : Option (Lit × Lit)) (p q : Propagation) → Holds log one pair p q → IfSome pair (λ (x : Lit × Lit). lone_ids q ≡ lone_ids p)
lone_items log one None p q h = tt
lone_items log one (Some x) p q h = ap (λ v. ids v.items) h.no_more_lone

module _ (log : LogState) (t : TrailState) (order : IsTrail t) (l : Learned) (learned : IsLearned log t.entries l) where
  abbrev es : List Assigned
  es = t.entries

  abbrev front : List Assigned
  front = below l.keep es

  abbrev mine : Assigned
  mine = implied front l.literal l.clause

  abbrev lits : List Lit
  lits = literals_at log l.clause

  abbrev after : TrailState
  after = record { entries = after_learned es l; size = t.size }

  -- ---- The trail after it

  -- what is so where the literal is asserted, and where it isn't
  pub by_keep : (P : List Assigned → Type 0) → (l.keep ≡ l.level → P (front ++ mine ∷ [])) → (l.keep < l.level → P front) → P (after_learned es l)
  by_keep P asserts stays =
      let kept = learned.kept in
      elim (eqb_tells l.keep l.level) [
        | inl p ↦ subst (λ (b : Bool). P (if b then front ++ mine ∷ [] else front)) (sym p.0) (asserts p.1)
        | inr p ↦ subst (λ (b : Bool). P (if b then front ++ mine ∷ [] else front)) (sym p.0) (stays (omega (arith, kept, p.1)))
      ]

  pub after_goes : GoesOn front (after_learned es l)
  after_goes = by_keep (GoesOn front) (λ same. goes_one front mine refl refl) (λ less. goes_same front)

  pub goes_back : l.keep < depth es
  goes_back = let earlier = learned.earlier in let kept = learned.kept in omega (arith, earlier, kept)

  front_deep : depth front ≡ l.keep
  front_deep = below_depth t.size es order l.keep (omega (arith, goes_back))

  pub literal_free : (k : ℕ) → k < depth es → IsFreeOn (below k es) l.literal
  literal_free k less = let last = learned.last in below_free t.size es order k l.literal (learned.falsified l.literal learned.has) (omega (arith, last, less))

  after_deep : depth (after_learned es l) ≡ l.keep
  after_deep = goes_depth front (after_learned es l) after_goes ∙ front_deep

  now_true : IsTrueOn (front ++ mine ∷ []) l.literal
  now_true =
      truth_missing front (mine ∷ []) l.literal.atom (literal_free l.keep goes_back)
      ∙ ap (option_map (λ (x : Assigned). x.literal.sign)) (assigned_one mine l.literal.atom refl)

  below_after : (k : ℕ) → k < l.keep → below k (after_learned es l) ≡ below k es
  below_after k less =
      let more = after_goes.more in
      let high : All (λ (e : Assigned). k < e.level) more =
      All-weaker (λ (e : Assigned). e.level ≡ depth front) (λ (e : Assigned). k < e.level) (λ e same. omega (arith, same, front_deep, less)) more after_goes.last in
      ap (below k) after_goes.joined ∙ below_join k front more ∙ ap (λ (xs : List Assigned). below k front ++ xs) (below_none k more high)
      ∙ append-nil (below k front) ∙ below_twice k l.keep (omega (arith, less)) es

  pub first_longer : below 0 (after_learned es l) ≡ below 0 es ++ below 0 after_goes.more
  first_longer =
      ap (below 0) after_goes.joined ∙ below_join 0 front after_goes.more
      ∙ ap (λ (xs : List Assigned). xs ++ below 0 after_goes.more) (below_twice 0 l.keep (omega arith) es)

  asserts_true : HasTrue (front ++ mine ∷ []) lits
  asserts_true = record { literal = l.literal; has = learned.has; holds = now_true }

  -- ---- The clauses that are watched

  pub after_watched : (p q : Propagation) → q ≡ record p { head = min p.head (length front) } → AreWatched log (watch_state p t) → AreWatched log (watch_state q after)
  after_watched p q is w =
      let cut : TrailState = record { entries = front; size = t.size } in
      goes_watched log q cut after after_goes refl (cut_watched log p q t cut l.keep order refl refl is w)

  module _ (within : (m : Lit) → Contains lits m → m.atom < t.size) where
    usable : IsUsable log t.size l.clause
    usable = record { live = learned.live; within = within }

    -- the two literals that are watched are undecided at each level before that
    pair_free : (k : ℕ) → k < l.level → (m : Lit) → Contains lits m → level_on es m.atom ≡ l.level → (x : Lit) → (l.literal ≡ x) ⊎ (m ≡ x) → IsFreeOn (below k es) x
    pair_free k less m has level x (inl same) = let earlier = learned.earlier in subst (IsFreeOn (below k es)) same (literal_free k (omega (arith, less, earlier)))
    pair_free k less m has level x (inr same) =
        subst (IsFreeOn (below k es)) same (below_free t.size es order k m (learned.falsified m has) (omega (arith, less, level)))

    holds_pair : (head : ℕ) (o : Option Lit) → IsBeside es lits l.literal l.level o → MayHold log after head (learned_of log l.clause l.glue) (pair_of l.literal o)
    holds_pair head None h = record { usable = usable; lone = λ a b has_a has_b. h.1 a has_a ∙ sym (h.1 b has_b) }
    holds_pair head (Some m) h =
        record {
          held = record { usable = usable; has_first = learned.has; has_second = h.0; differ = λ same. h.1 (sym same) };
          settled =
              by_keep (λ (xs : List Assigned). (x : Lit) → (l.literal ≡ x) ⊎ (m ≡ x) → IsFalseOn (take head xs) x → HasTrue xs lits)
              (λ same x watched falls. asserts_true)
              (λ less x watched falls. let free = pair_free l.keep less m h.0 h.2 x watched in let falls' = false_whole front head x falls in cc);
          were_settled = λ k less x watched falls.
              let low : k < l.keep = omega (arith, less, after_deep) in
              let kept = learned.kept in
              let falls' : IsFalseOn (below k es) x = subst (λ (xs : List Assigned). IsFalseOn xs x) (below_after k low) falls in
              let free = pair_free k (omega (arith, low, kept)) m h.0 h.2 x watched in
              cc;
        }

    pub may_hold : (head : ℕ) → MayHold log after head (learned_of log l.clause l.glue) (watched_pair l)
    may_hold head = holds_pair head l.beside learned.beside

    pair_within : (n : ℕ) → 2 * t.size ≤ n → (o : Option Lit) → IsBeside es lits l.literal l.level o
        → IfSome (pair_of l.literal o) (λ (pair : Lit × Lit). (code_of pair.0 < n) × (code_of pair.1 < n))
    pair_within n room None h = tt
    pair_within n room (Some m) h =
        let first = code_within l.literal t.size (within l.literal learned.has) in
        let second = code_within m t.size (within m h.0) in
        (omega (arith, first, room), omega (arith, second, room))

    pub watched_within : (n : ℕ) → 2 * t.size ≤ n → IfSome (watched_pair l) (λ (pair : Lit × Lit). (code_of pair.0 < n) × (code_of pair.1 < n))
    watched_within n room = pair_within n room l.beside learned.beside

  -- ---- What is true under no decision

  abbrev IsTrueFirst : List Assigned → ℕ → Type 0
  IsTrueFirst xs i = HasTrue (below 0 xs) (literals_at log i)

  first_kept : (us : List ℕ) → All (IsTrueFirst es) us → All (IsTrueFirst (after_learned es l)) us
  first_kept us first =
      All-weaker (IsTrueFirst es) (IsTrueFirst (after_learned es l))
      (λ i x. subst (λ (xs : List Assigned). HasTrue xs (literals_at log i)) (sym first_longer) (true_more (below 0 es) (below 0 after_goes.more) (literals_at log i) x))
      us first

  first_pair : EachBehind (IsNext t.size) (after_learned es l) → (us us' : List ℕ) (o : Option Lit) → IsBeside es lits l.literal l.level o
      → (pair_of l.literal o ≡ None → us' ≡ us ++ l.clause ∷ []) → IfSome (pair_of l.literal o) (λ (pair : Lit × Lit). us' ≡ us)
      → All (IsTrueFirst es) us → All (IsTrueFirst (after_learned es l)) us'
  first_pair ordered us us' None h more same first =
      let kept = learned.kept in
      let whole : below 0 (after_learned es l) ≡ after_learned es l = below_whole t.size (after_learned es l) ordered 0 (omega (arith, after_deep, h.0, kept)) in
      let has_true : HasTrue (after_learned es l) lits = by_keep (λ (xs : List Assigned). HasTrue xs lits) (λ same. asserts_true) (λ less. absurd (omega (arith, less, h.0))) in
      subst (All (IsTrueFirst (after_learned es l))) (sym (more refl))
      (All-push (IsTrueFirst (after_learned es l)) us l.clause (first_kept us first) (subst (λ (xs : List Assigned). HasTrue xs lits) (sym whole) has_true))
  first_pair ordered us us' (Some m) h more same first = subst (All (IsTrueFirst (after_learned es l))) (sym same) (first_kept us first)

  -- also of the clause itself, where it has no two literals
  pub after_true : EachBehind (IsNext t.size) (after_learned es l) → (p q : Propagation) → Holds log (learned_of log l.clause l.glue) (watched_pair l) p q → All (IsTrueFirst es) (lone_ids p)
      → All (IsTrueFirst (after_learned es l)) (lone_ids q)
  after_true ordered p q h first =
      let more : watched_pair l ≡ None → lone_ids q ≡ lone_ids p ++ l.clause ∷ [] =
      λ none. ap ids (h.lone none) ∙ map_push (λ (x : Held). x.id) p.lone.items (learned_of log l.clause l.glue) in
      first_pair ordered (lone_ids p) (lone_ids q) l.beside learned.beside more (lone_items log (learned_of log l.clause l.glue) (watched_pair l) p q h) first
