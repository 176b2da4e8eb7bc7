-- The chain of a conflict, link by link.
use Rattle.std.proofs.Common.{◌≡◌, ◌≢◌, ℕ, ◌+◌, ◌-◌, ◌<◌, ◌≤◌, Bool, true, false, not, ◌&&◌, ◌⊎◌, inl, inr, List, [], ◌∷◌, ◌++◌, length, take, Some, None, refl, sym, ap, subst, ◌∙◌, true≢false, arith, Contains, slice_get, take_all}
use Rattle.std.specs.Prelude.{◌==◌, slice_set}
use Rattle.std.proofs.Math.Bool.{not-not}
use Rattle.std.proofs.lemmas.Bool.{cases_eq, cases_lt}
use Rattle.std.proofs.lemmas.List.{length_push}
use Rattle.std.proofs.lemmas.List.Elements.{All-nil, All-push, All-contains}
use Rattle.std.proofs.lemmas.Option.{same_Some}
use Rattle.nz_lists.proofs.Members.{has_found}
use Rattle.nz_log.specs.declared.lits.Lit.{Lit}
use Rattle.nz_log.specs.declared.origins.Link.{Link}
use Rattle.nz_log.specs.Atoms.{TellsLits}
use Rattle.nz_log.specs.Lits.{negated_lit, lit_resolvent}
use Rattle.nz_log.specs.Logs.{LogState, IsLive, chained, literals_at}
use Rattle.nz_sat.specs.declared.analyze.Chain.{Chain}
use Rattle.nz_sat.specs.declared.trail.Assigned.{Assigned}
use Rattle.nz_sat.specs.Trails.{EachBehind, IsFalseOn, IsNext, assigned, depth, level_on}
use Rattle.nz_sat.specs.Clauses.{IsFalsified, IsImplied, IsReason, IsReasonOf, IsAssumed}
use Rattle.nz_sat.specs.Conflicts.{AreLinks, AreMarked, AreUnmarked, HasTwoLast, IsChain, IsOnWayBack, MarksCounted, is_marked, marked_of, IsMarkedBefore, IsOnWayToAssumed, MarksFalse, RefutesFrom}
use Rattle.nz_sat.proofs.Backward.{apart, false_cases, false_is, false_whole, front_counted, fresh, its_entry, none_before_decision, not_false, of_last}
use Rattle.nz_sat.proofs.Chains.{chained_more, lit_is, resolvent_first, resolvent_from, resolvent_second, twice_negated}
use Rattle.nz_sat.proofs.Marks.{counted, false_entry, found_whole, is_counted, level_found, marked_apart, marked_within, none_counted, one_counted, one_if, other_mark, two_counted, unmark_parts}
use Rattle.nz_sat.proofs.TrailEntries.{assigned_place, level_within}

abbrev pub link_of : Assigned → ℕ → Link
link_of e clause = record { clause = clause; literal = negated_lit e.literal }

-- a literal of the clause with one link more is another one of the clause before, or of the reason
pub longer_from : TellsLits → (s : LogState) (c : List Lit) (ks : List Link) (e : Assigned) (clause : ℕ) (m : Lit) → Contains (chained s c (ks ++ link_of e clause ∷ [])) m
    → (Contains (chained s c ks) m × (m ≢ negated_lit e.literal)) ⊎ (Contains (literals_at s clause) m × (m ≢ e.literal))
longer_from tells s c ks e clause m has =
    elim (resolvent_from tells (negated_lit e.literal) (chained s c ks) (literals_at s clause) m
    (subst (λ (d : List Lit). Contains d m) (chained_more s c ks (link_of e clause)) has)) [
      | inl old ↦ inl (old.0, λ same. old.1 (sym same))
      | inr of_reason ↦ inr (of_reason.0, λ same. of_reason.1 (twice_negated e.literal ∙ sym same))
    ]

-- one link more resolves on the negation of an entry, with its reason
pub links_longer : (s : LogState) (es : List Assigned) (i : ℕ) (e : Assigned) → slice_get es i ≡ Some e → (ks : List Link) (clause : ℕ) → IsLive s clause → AreLinks s es ks
    → AreLinks s es (ks ++ link_of e clause ∷ [])
links_longer s es i e at ks clause live links =
    All-push (λ (k : Link). IsLive s k.clause × ((x : Assigned) × Contains es x × (x.literal.atom ≡ k.literal.atom))) ks (link_of e clause) links
    (live, (e, has_found es i e at, refl))

pub no_links : (s : LogState) (es : List Assigned) → AreLinks s es []
no_links s es = All-nil (λ (k : Link). IsLive s k.clause × ((x : Assigned) × Contains es x × (x.literal.atom ≡ k.literal.atom)))

uncounted : (marks : List Bool) (level : ℕ) (e : Assigned) → is_marked marks e.literal.atom ≡ false → counted marks level e ≡ 0
uncounted marks level e off = ap (λ (m : Bool). one_if (m && (e.level == level))) off

-- ---- One link more

pub reason_is : (s : LogState) (before : List Assigned) (e : Assigned) (clause : ℕ) → e.reason ≡ Some clause → IsImplied s before e → IsReason s before e.literal clause
reason_is s before e clause reason implied = subst (IsReasonOf s before e.literal) reason implied

pub reason_live : (s : LogState) (es : List Assigned) → EachBehind (IsImplied s) es → (t : ℕ) (e : Assigned) (clause : ℕ) → assigned es t ≡ Some e → e.reason ≡ Some clause
    → IsLive s clause
reason_live s es implied t e clause at reason = let p = (assigned_place es t e at).1 in (reason_is s (take p.0 es) e clause reason (implied p.0 e p.1)).live

-- A falsified clause is resolved with the reason of an entry, whose negation it has. Its marks are those of the clause.
module _ (s : LogState) (size : ℕ) (es : List Assigned) (order : EachBehind (IsNext size) es) (falsified i : ℕ) (e : Assigned) (at : slice_get es i ≡ Some e) (marks : List Bool)
    (ks : List Link) (falses : IsFalsified es (chained s (literals_at s falsified) ks)) (marked : AreMarked (chained s (literals_at s falsified) ks) marks)
    (on : is_marked marks e.literal.atom ≡ true) (tells : TellsLits) (clause : ℕ) (reason : e.reason ≡ Some clause) (implied : IsImplied s (take i es) e) (new : List Bool)
    (made : MarksFalse es (literals_at s clause) (slice_set marks e.literal.atom false) new) where
  abbrev before_link : List Lit
  before_link = chained s (literals_at s falsified) ks

  abbrev longer : List Link
  longer = ks ++ link_of e clause ∷ []

  its_reason : IsReason s (take i es) e.literal clause
  its_reason = reason_is s (take i es) e clause reason implied

  -- what is false is another literal than the entry's
  reason_beside : (m : Lit) → IsFalseOn es m → m ≢ e.literal
  reason_beside m falsified same = not_false size es order (i + 1) i refl e at (subst (IsFalseOn es) same falsified)

  longer_is : chained s (literals_at s falsified) longer ≡ lit_resolvent (negated_lit e.literal) before_link (literals_at s clause)
  longer_is = chained_more s (literals_at s falsified) ks (link_of e clause)

  pub kept_longer : (m : Lit) → Contains before_link m → m ≢ negated_lit e.literal → Contains (chained s (literals_at s falsified) longer) m
  kept_longer m has other =
      subst (λ (c : List Lit). Contains c m) (sym longer_is)
      (resolvent_first tells (negated_lit e.literal) before_link (literals_at s clause) m has (λ same. other (sym same)))

  has_of_reason : (m : Lit) → Contains (literals_at s clause) m → m ≢ e.literal → Contains (chained s (literals_at s falsified) longer) m
  has_of_reason m has other =
      subst (λ (c : List Lit). Contains c m) (sym longer_is)
      (resolvent_second tells (negated_lit e.literal) before_link (literals_at s clause) m has (λ same. other (sym same ∙ twice_negated e.literal)))

  on_new : (m : Lit) → Contains (chained s (literals_at s falsified) longer) m → is_marked new m.atom ≡ true
  on_new m has =
      elim (longer_from tells s (literals_at s falsified) ks e clause m has) [
        | inl old ↦
            let its = its_entry size es order (i + 1) i refl e at in
            let other : m.atom ≢ e.literal.atom = λ same. old.1 (false_is es e m its (falses m old.0) same) in
            made.kept m.atom (other_mark marks e.literal.atom m.atom false other ∙ marked.each m old.0)
        | inr of_reason ↦ made.marked m of_reason.0 (false_whole es i m (its_reason.others m of_reason.0 of_reason.1))
      ]

  only_new : (t : ℕ) → is_marked new t ≡ true → (m : Lit) × Contains (chained s (literals_at s falsified) longer) m × (m.atom ≡ t)
  only_new t up =
      elim (made.only t up) [
        | inl old ↦
            let was = unmark_parts marks e.literal.atom t (marked_within marks e.literal.atom on) old in
            let w = marked.only t was.1 in
            (w.0, kept_longer w.0 w.1 (λ same. was.0 (sym w.2 ∙ ap (λ (k : Lit). k.atom) same)), w.2)
        | inr w ↦ (w.0, has_of_reason w.0 w.1 (reason_beside w.0 w.2), w.3)
      ]

  pub marked_longer : AreMarked (chained s (literals_at s falsified) longer) new
  marked_longer = record { each = on_new; only = only_new }

-- ---- The way back along the trail

module _ (s : LogState) (size : ℕ) (es : List Assigned) (order : EachBehind (IsNext size) es) (falsified n i : ℕ) (is : n ≡ i + 1) (e : Assigned) (at : slice_get es i ≡ Some e)
    (marks : List Bool) (ks : List Link) (left : ℕ) (way : IsOnWayBack s es falsified n marks ks left) where
  abbrev so_far : List Lit
  so_far = chained s (literals_at s falsified) ks

  last_level : e.level ≡ depth es
  last_level = of_last size es order n i is e at marks (omega (arith, way.count, way.some))

  -- an entry that isn't marked is none of the clause
  pub way_past : is_marked marks e.literal.atom ≡ false → IsOnWayBack s es falsified i marks ks left
  way_past off = record {
    links = way.links;
    falsified_before = λ m has.
        elim (false_cases size es order n i is e at m (way.falsified_before m has)) [
          | inl same ↦ absurd (true≢false (sym (way.marked.each m has) ∙ ap (λ (k : Lit). is_marked marks k.atom) same ∙ off))
          | inr before ↦ before
        ];
    marked = way.marked;
    count =
        let sum = front_counted size es order n i is e at marks (depth es) in
        let none : counted marks (depth es) e ≡ 0 = uncounted marks (depth es) e off in
        omega (arith, way.count, sum, none);
    some = way.some;
    linked = way.linked;
  }

  module _ (on : is_marked marks e.literal.atom ≡ true) where
    sum_here : marked_of marks (depth es) (take n es) ≡ marked_of marks (depth es) (take i es) + 1
    sum_here =
        let sum = front_counted size es order n i is e at marks (depth es) in
        let one = is_counted marks (depth es) e on last_level in
        omega (arith, sum, one)

    -- the clause has its negation
    has_negated : Contains so_far (negated_lit e.literal)
    has_negated =
        let w = way.marked.only e.literal.atom on in
        elim (false_cases size es order n i is e at w.0 (way.falsified_before w.0 w.1)) [
          | inl same ↦ subst (Contains so_far) same w.1
          | inr before ↦ absurd (apart size es order n i is e at w.0 before w.2)
        ]

    before_here : (m : Lit) → Contains so_far m → m ≢ negated_lit e.literal → IsFalseOn (take i es) m
    before_here m has other =
        elim (false_cases size es order n i is e at m (way.falsified_before m has)) [ inl same ↦ absurd (other same) | inr before ↦ before ]

    earlier : marked_of marks (depth es) (take i es) ≡ 0 → (m : Lit) → Contains so_far m → IsFalseOn (take i es) m → level_on es m.atom < depth es
    earlier none m has before =
        let x = false_entry (take i es) m before in
        let p = assigned_place (take i es) m.atom x.0 x.1 in
        let found = found_whole es i m.atom x.0 x.1 in
        let place = assigned_place es m.atom x.0 found in
        let is_level : level_on es m.atom ≡ x.0.level = level_found es m.atom x.0 found in
        let most : x.0.level ≤ depth es = level_within size es order place.1.0 x.0 place.1.1 in
        elim (cases_eq x.0.level (depth es)) [
          | inl same ↦
              let one = one_counted marks (depth es) (take i es) p.1.0 x.0 p.1.1 (ap (is_marked marks) p.0 ∙ way.marked.each m has) same in
              absurd (omega (arith, one, none))
          | inr other ↦ omega (arith, is_level, most, other)
        ]

    -- where no more of the last level is left, this is the end
    pub way_ends : (c : Chain) → c.links.items ≡ ks → c.literal ≡ negated_lit e.literal → 0 < depth es → (left ≤ 1) ⊎ (e.reason ≡ None) → IsChain s es falsified marks c
    way_ends c links literal above over =
        let none : marked_of marks (depth es) (take i es) ≡ 0 =
        elim over [
          | inl few ↦ omega (arith, way.count, sum_here, few)
          | inr decided ↦ none_before_decision size es order n i is e at marks decided last_level above
        ] in
        let one : left ≡ 1 = omega (arith, way.count, sum_here, none) in
        record {
          links = subst (AreLinks s es) (sym links) way.links;
          some = subst (λ (l : List Link). 0 < length l) (sym links) (way.linked one);
          falsified_too = λ m has. false_whole es n m (way.falsified_before m (subst (λ (l : List Link). Contains (chained s (literals_at s falsified) l) m) links has));
          has = subst (λ (l : List Link). Contains (chained s (literals_at s falsified) l) c.literal) (sym links) (subst (Contains so_far) (sym literal) has_negated);
          last =
              ap (λ (k : Lit). level_on es k.atom) literal ∙ level_found es e.literal.atom e (its_entry size es order n i is e at) ∙ last_level;
          others = λ m has other.
              let there = subst (λ (l : List Link). Contains (chained s (literals_at s falsified) l) m) links has in
              let before = before_here m there (λ same. other (same ∙ sym literal)) in
              earlier none m there before;
          marked = subst (λ (l : List Link). AreMarked (chained s (literals_at s falsified) l) marks) (sym links) way.marked;
        }

    -- the reason of the entry, its other literals before it
    module _ (tells : TellsLits) (clause : ℕ) (reason : e.reason ≡ Some clause) (implied : IsImplied s (take i es) e) (new : List Bool) (more : ℕ)
        (made : MarksCounted es (literals_at s clause) (depth es) (slice_set marks e.literal.atom false) new more) where
      why_here : IsReason s (take i es) e.literal clause
      why_here = reason_is s (take i es) e clause reason implied

      before_new : (m : Lit) → Contains (chained s (literals_at s falsified) (ks ++ link_of e clause ∷ [])) m → IsFalseOn (take i es) m
      before_new m has =
          elim (longer_from tells s (literals_at s falsified) ks e clause m has) [
            | inl old ↦ before_here m old.0 old.1
            | inr of_reason ↦ why_here.others m of_reason.0 of_reason.1
          ]

      counts_new : left - 1 + more ≡ marked_of new (depth es) (take i es)
      counts_new =
          let off = marked_apart false marks e.literal.atom (depth es) (take i es) (fresh size es order n i is e at) in
          let step = made.count i (λ m has false_too. why_here.others m has (λ same. not_false size es order n i is e at (subst (IsFalseOn es) same false_too))) in
          omega (arith, way.count, sum_here, off, step)

      pub way_on : 1 < left → IsOnWayBack s es falsified i new (ks ++ link_of e clause ∷ []) (left - 1 + more)
      way_on many = record {
        links = links_longer s es i e at ks clause why_here.live way.links;
        falsified_before = before_new;
        marked =
            marked_longer s size es order falsified i e at marks ks (λ m has. false_whole es n m (way.falsified_before m has)) way.marked on tells clause reason implied new made.marks;
        count = counts_new;
        some = omega (arith, many);
        linked = λ one. omega (arith, length_push ks (link_of e clause));
      }

-- what is told over the literals and the level that were read
pub counted_over : (es : List Assigned) (c d : List Lit) (level top : ℕ) (old new : List Bool) (more : ℕ) → c ≡ d → level ≡ top
    → MarksCounted es c level old new more → MarksCounted es d top old new more
counted_over es c d level top old new more e f h =
    subst (λ (l : List Lit). MarksCounted es l top old new more) e (subst (λ (n : ℕ). MarksCounted es c n old new more) f h)

-- ---- The start and the end

pub way_over : (s : LogState) (es : List Assigned) (falsified : ℕ) (marks : List Bool) (ks : List Link) (left n : ℕ) → n ≡ 0 → IsOnWayBack s es falsified n marks ks left → ⊥
way_over s es falsified marks ks left n none way =
    let count : left ≡ 0 = way.count ∙ ap (λ (k : ℕ). marked_of marks (depth es) (take k es)) none in
    omega (arith, count, way.some)

module _ (s : LogState) (size : ℕ) (es : List Assigned) (order : EachBehind (IsNext size) es) (falsified : ℕ) (old new : List Bool) (left n : ℕ) (all : n ≡ length es)
    (falses : IsFalsified es (literals_at s falsified)) (unmarked : AreUnmarked old) (made : MarksCounted es (literals_at s falsified) (depth es) old new left) where
  whole : take n es ≡ es
  whole = take_all n es (omega (arith, all))

  abbrev IsOfLast : Lit → Type 0
  IsOfLast l = (i : ℕ) × (e : Assigned) × (slice_get es i ≡ Some e) × (e.literal.atom ≡ l.atom) × (e.literal.sign ≡ not l.sign) × (e.level ≡ depth es)

  of_last_level : (l : Lit) → Contains (literals_at s falsified) l → level_on es l.atom ≡ depth es → IsOfLast l
  of_last_level l has last =
      let e = false_entry es l (falses l has) in
      let p = assigned_place es l.atom e.0 e.1 in
      (p.1.0, e.0, p.1.1, p.0, e.2, sym (level_found es l.atom e.0 e.1) ∙ last)

  marked_here : (l : Lit) → Contains (literals_at s falsified) l → (w : IsOfLast l) → is_marked new w.1.literal.atom ≡ true
  marked_here l has w = ap (is_marked new) w.3 ∙ made.marks.marked l has (falses l has)

  two_left : HasTwoLast es (literals_at s falsified) → 2 ≤ marked_of new (depth es) es
  two_left two =
      let a = of_last_level two.first two.has_first two.first_last in
      let b = of_last_level two.second two.has_second two.second_last in
      let on = marked_here two.first two.has_first a in
      let also = marked_here two.second two.has_second b in
      elim (cases_lt a.0 b.0) [
        | inl less ↦ two_counted new (depth es) es a.0 b.0 a.1 b.1 less a.2 b.2 on also a.5 b.5
        | inr most ↦
            elim (cases_eq a.0 b.0) [
              | inl same ↦
                  let one : a.1 ≡ b.1 = same_Some a.1 b.1 (sym a.2 ∙ ap (slice_get es) same ∙ b.2) in
                  let term : two.first.atom ≡ two.second.atom = sym a.3 ∙ ap (λ (x : Assigned). x.literal.atom) one ∙ b.3 in
                  let sign : not two.first.sign ≡ not two.second.sign = sym a.4 ∙ ap (λ (x : Assigned). x.literal.sign) one ∙ b.4 in
                  absurd (two.differ (lit_is two.first two.second term (sym (not-not two.first.sign) ∙ ap not sign ∙ not-not two.second.sign)))
              | inr other ↦ two_counted new (depth es) es b.0 a.0 b.1 a.1 (omega (arith, most, other)) b.2 a.2 also on b.5 a.5
            ]
      ]

  pub way_starts : HasTwoLast es (literals_at s falsified) → IsOnWayBack s es falsified n new [] left
  way_starts two =
      let none = none_counted old (depth es) (take n es) (λ x has on last. true≢false (sym on ∙ unmarked x.literal.atom)) in
      let step = made.count n (λ l has false_too. subst (λ (front : List Assigned). IsFalseOn front l) (sym whole) false_too) in
      let count : left ≡ marked_of new (depth es) (take n es) = omega (arith, none, step) in
      let many : 2 ≤ marked_of new (depth es) (take n es) = subst (λ (front : List Assigned). 2 ≤ marked_of new (depth es) front) (sym whole) (two_left two) in
      record {
        links = no_links s es;
        falsified_before = λ l has. subst (λ (front : List Assigned). IsFalseOn front l) (sym whole) (falses l has);
        marked = record {
          each = λ l has. made.marks.marked l has (falses l has);
          only = λ t on. elim (made.marks.only t on) [ inl was ↦ absurd (true≢false (sym was ∙ unmarked t)) | inr w ↦ (w.0, w.1, w.3) ];
        };
        count = count;
        some = omega (arith, count, many);
        linked = λ one. absurd (omega (arith, count, many, one));
      }

-- ---- The way back along the trail to the assumed literals

module _ (s : LogState) (size : ℕ) (es : List Assigned) (order : EachBehind (IsNext size) es) (falsified n i : ℕ) (is : n ≡ i + 1) (e : Assigned) (at : slice_get es i ≡ Some e)
    (marks : List Bool) (ks : List Link) (way : IsOnWayToAssumed s es falsified n marks ks) where
  -- a literal that is false there is the negation of the entry's, or false before
  before_it : (m : Lit) → IsMarkedBefore es n marks m → (m ≡ negated_lit e.literal) ⊎ IsMarkedBefore es i marks m
  before_it m w =
      elim (false_cases size es order n i is e at m w.false_before) [
        | inl same ↦ inl same
        | inr before ↦ inr (record { false_before = before; marked = w.marked })
      ]

  pub assumed_past : is_marked marks e.literal.atom ≡ false → IsOnWayToAssumed s es falsified i marks ks
  assumed_past off = record {
    links = way.links;
    each = λ assumed all under m has.
        elim (way.each assumed all under m has) [
          | inl negated ↦ inl negated
          | inr w ↦ elim (before_it m w) [
            | inl same ↦ absurd (true≢false (sym w.marked ∙ ap (λ (k : Lit). is_marked marks k.atom) same ∙ off))
            | inr before ↦ inr before
          ]
        ];
  }

  -- an entry without a reason is assumed
  pub assumed_here : e.reason ≡ None → depth es ≡ 0 → IsOnWayToAssumed s es falsified i marks ks
  assumed_here none undecided = record {
    links = way.links;
    each = λ assumed all under m has.
        elim (way.each assumed all under m has) [
          | inl negated ↦ inl negated
          | inr w ↦ elim (before_it m w) [
            | inl same ↦
                let level = level_within size es order i e at in
                let given = All-contains (IsAssumed assumed) es e all (has_found es i e at) none (omega (arith, level, undecided)) in
                inl (subst (Contains assumed) (sym (ap negated_lit same ∙ twice_negated e.literal)) given)
            | inr before ↦ inr before
          ]
        ];
  }

  pub assumed_on : TellsLits → (clause : ℕ) → e.reason ≡ Some clause → IsImplied s (take i es) e → (new : List Bool) → MarksFalse es (literals_at s clause) marks new
      → IsOnWayToAssumed s es falsified i new (ks ++ link_of e clause ∷ [])
  assumed_on tells clause reason implied new made =
      let why = reason_is s (take i es) e clause reason implied in
      record {
        links = links_longer s es i e at ks clause why.live way.links;
        each = λ assumed all under m has.
            elim (longer_from tells s (literals_at s falsified) ks e clause m has) [
              | inl old ↦ elim (way.each assumed all under m old.0) [
                | inl negated ↦ inl negated
                | inr w ↦ elim (before_it m w) [
                  | inl same ↦ absurd (old.1 same)
                  | inr before ↦ inr (record { false_before = before.false_before; marked = made.kept m.atom before.marked })
                ]
              ]
              | inr of_reason ↦
                  let before = why.others m of_reason.0 of_reason.1 in
                  inr (record { false_before = before; marked = made.marked m of_reason.0 (false_whole es i m before) })
            ];
      }

pub assumed_starts : (s : LogState) (es : List Assigned) (falsified n : ℕ) → n ≡ length es → (old new : List Bool) → MarksFalse es (literals_at s falsified) old new
    → IsOnWayToAssumed s es falsified n new []
assumed_starts s es falsified n all old new made =
    let whole : take n es ≡ es = take_all n es (omega (arith, all)) in
    record {
      links = no_links s es;
      each = λ assumed given under m has.
          elim (under m has) [
            | inl falsified ↦
                inr (record { false_before = subst (λ (front : List Assigned). IsFalseOn front m) (sym whole) falsified; marked = made.marked m has falsified })
            | inr negated ↦ inl negated
          ];
    }

-- nothing is false before the first entry
pub assumed_ends : (s : LogState) (es : List Assigned) (falsified n : ℕ) → n ≡ 0 → (marks : List Bool) (ks : List Link) → IsOnWayToAssumed s es falsified n marks ks
    → RefutesFrom es (literals_at s falsified) (chained s (literals_at s falsified) ks)
assumed_ends s es falsified n first marks ks way assumed all under m has =
    elim (way.each assumed all under m has) [
      | inl negated ↦ negated
      | inr w ↦
          let nothing : None ≡ Some (not m.sign) = subst (λ (k : ℕ). IsFalseOn (take k es) m) first w.false_before in
          cc
    ]
