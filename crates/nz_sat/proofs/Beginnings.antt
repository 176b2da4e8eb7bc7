-- A search before its first decision: what its clauses alone make true, and what an assumed literal does.
use Rattle.std.proofs.Common.{◌≡◌, ℕ, ◌+◌, ◌*◌, ◌≤◌, ◌<◌, inr, if◌then◌else◌, List, [], ◌∷◌, ◌++◌, length, Option, Some, None, Result, Ok, Err, sym, ap, subst, ◌∙◌, arith}
use Rattle.std.specs.Prelude.{All, Contains, IfOk, IfSome}
use Rattle.std.proofs.lemmas.List.Elements.{All-weaker}
use Rattle.std.proofs.lemmas.List.Sums.{sum_by_push}
use Rattle.std.proofs.lemmas.Option.{IfSome_then}
use Rattle.nz_log.specs.declared.lits.Lit.{Lit}
use Rattle.nz_log.specs.Logs.{LogState, literals_at}
use Rattle.nz_sat.specs.declared.clauses.Held.{Held}
use Rattle.nz_sat.specs.declared.propagation.Propagation.{Propagation}
use Rattle.nz_sat.specs.declared.search.Search.{Search}
use Rattle.nz_sat.specs.declared.trail.Assigned.{Assigned}
use Rattle.nz_sat.specs.Clauses.{HasTrue, IsFalsified, IsUsable, Visits}
use Rattle.nz_log.specs.Codes.{code_of}
use Rattle.nz_sat.specs.Sats.{ids}
use Rattle.nz_sat.specs.Searching.{Assumes, IsSearch, MayAssume, Starts}
use Rattle.nz_sat.specs.Trails.{TrailState, assigned, below, depth, empty_trail, is_decision, with_entry}
use Rattle.nz_sat.specs.Watched.{AreTwoOf, AreWatched, HasClause, KeepsClauses, MayHold, lone_ids, watch_state}
use Rattle.nz_sat.proofs.HeldNumbers.{ids_only}
use Rattle.nz_sat.proofs.LearnedClauses.{all_from}
use Rattle.nz_sat.proofs.LiteralNumbers.{code_within}
use Rattle.nz_sat.proofs.Propagations.{assume_goes, goes_search}
use Rattle.nz_sat.proofs.TrailGrowth.{goes_reasons}
use Rattle.nz_sat.proofs.VisitedClauses.{goes_depth, visits_more}
use Rattle.nz_sat.proofs.WatchedTrails.{below_whole, clauses_stay, goes_watched, true_on}

-- ---- Nothing is true yet

-- a clause may be held with any two of its literals watched
pub may_hold : (s : LogState) (size : ℕ) (h : Held) (pair : Option (Lit × Lit)) → IsUsable s size h.id → AreTwoOf (literals_at s h.id) pair → MayHold s (empty_trail size) 0 h pair
may_hold s size h (Some pair) usable two =
    record {
      held = record { usable = usable; has_first = two.0; has_second = two.1; differ = two.2 };
      settled = λ l watched falls. cc;
      were_settled = λ k less. absurd (omega (arith, less));
    }
may_hold s size h None usable two = record { usable = usable; lone = two }

pub codes_within : (s : LogState) (size room id : ℕ) (pair : Option (Lit × Lit)) → IsUsable s size id → 2 * size ≤ room → AreTwoOf (literals_at s id) pair
    → IfSome pair (λ p. (code_of p.0 < room) × (code_of p.1 < room))
codes_within s size room id (Some pair) usable fits two =
    let first = code_within pair.0 size (usable.within pair.0 two.0) in
    let second = code_within pair.1 size (usable.within pair.1 two.1) in
    (omega (arith, fits, first), omega (arith, fits, second))
codes_within s size room id None usable fits two = tt

-- ---- What the clauses alone make true

module _ (log : LogState) (held : List Held) (s : Search) (h : IsSearch log held s) (none : s.trail.entries ≡ []) (t : TrailState)
    (v : Visits log (λ (us : List ℕ). All (Contains us) (lone_ids s.propagation)) s.trail t) where
  lone_held : All (Contains (ids held)) (lone_ids s.propagation)
  lone_held = all_from (Contains (ids held)) (lone_ids s.propagation) (λ i has. ids_only held s.propagation h.only i (inr has))

  nothing : depth s.trail.entries ≡ 0
  nothing = ap depth none

  -- a clause that has but one literal is falsified
  pub starts_falsified : (told : Option ℕ) → (told ≡ None → ⊥) → IfSome told (λ id. Contains (lone_ids s.propagation) id × IsFalsified t.entries (literals_at log id))
      → Starts log held (record s { trail = t }) told
  starts_falsified told some falsified =
      record {
        search = goes_search log held s t s.propagation h v lone_held (clauses_stay s.propagation) (goes_watched log s.propagation s.trail t v.goes_on v.size h.watched);
        by_reasons = goes_reasons s.trail.entries t.entries none v.goes_on;
        undecided = goes_depth s.trail.entries t.entries v.goes_on ∙ nothing;
        ready = λ is. absurd (some is);
        falsified = IfSome_then told falsified (λ id q. (ids_only held s.propagation h.only id (inr q.0), q.1));
      }

  -- the others follow
  module _ (hold : All (λ (i : ℕ). HasTrue t.entries (literals_at log i)) (lone_ids s.propagation)) (u : TrailState) (p : Propagation)
      (w : Visits log (λ (us : List ℕ). (i : ℕ) → HasClause s.propagation i → Contains us i) t u) (keeps : KeepsClauses s.propagation p) (watched : AreWatched log (watch_state p u)) where
    starts_one : (told : Option ℕ) → (told ≡ None → p.head ≡ length u.entries) → IfSome told (λ id. HasClause p id × IsFalsified u.entries (literals_at log id))
        → Starts log held (record s { trail = u; propagation = p }) told
    starts_one told all falsified =
        let us = lone_ids s.propagation in
        let among : List ℕ → Type 0 = λ vs. (i : ℕ) → HasClause s.propagation i → Contains vs i in
        let visits : Visits log among s.trail u = visits_more among v w (λ vs q. all_from (Contains vs) us (λ i has. q i (inr has))) (λ vs q. q) in
        let search = goes_search log held s u p h visits (ids_only held s.propagation h.only) keeps watched in
        let undecided = goes_depth s.trail.entries u.entries visits.goes_on ∙ nothing in
        let whole : below 0 u.entries ≡ u.entries = below_whole u.size u.entries (visits.order h.on.order) 0 (omega (arith, undecided)) in
        let first : All (λ (i : ℕ). HasTrue (below 0 u.entries) (literals_at log i)) us =
        All-weaker (λ (i : ℕ). HasTrue t.entries (literals_at log i)) (λ (i : ℕ). HasTrue (below 0 u.entries) (literals_at log i))
        (λ i x. subst (λ es. HasTrue es (literals_at log i)) (sym whole) (true_on t.entries u.entries (literals_at log i) w.goes_on x)) us hold in
        record {
          search = search;
          by_reasons = goes_reasons s.trail.entries u.entries none visits.goes_on;
          undecided = undecided;
          ready = λ is. record { first = subst (λ vs. All (λ (i : ℕ). HasTrue (below 0 u.entries) (literals_at log i)) (ids vs.items)) (sym keeps.lone) first; all = all is };
          falsified = IfSome_then told falsified (λ id q. (ids_only held p search.only id q.0, q.1));
        }

    pub starts_so : {E : Type 0} → (r : Result (Option ℕ) E) → IfOk r (λ o. o ≡ None → p.head ≡ length u.entries)
        → IfOk r (λ o. IfSome o (λ id. HasClause p id × IsFalsified u.entries (literals_at log id))) → IfOk r (Starts log held (record s { trail = u; propagation = p }))
    starts_so (Ok told) all falsified = starts_one told all falsified
    starts_so (Err e) all falsified = tt

-- ---- An assumed literal

pub assumed_depth : (es : List Assigned) (l : Lit) → depth es ≡ 0 → depth (es ++ record { literal = l; level = 0; reason = None } ∷ []) ≡ 0
assumed_depth es l none =
    let one : depth (es ++ record { literal = l; level = 0; reason = None } ∷ []) ≡ depth es + 0 =
    sum_by_push (λ (x : Assigned). if is_decision x then 1 else 0) es (record { literal = l; level = 0; reason = None }) in
    omega (arith, one, none)

module _ (log : LogState) (held : List Held) (assumed : List Lit) (l : Lit) (s : Search) (may : MayAssume log held assumed l s) (undecided : depth s.trail.entries ≡ 0)
    (free : assigned s.trail.entries l.atom ≡ None) (t : TrailState) (p : Propagation)
    (v : Visits log (λ (us : List ℕ). (i : ℕ) → HasClause s.propagation i → Contains us i) (with_entry s.trail (record { literal = l; level = 0; reason = None })) t)
    (keeps : KeepsClauses s.propagation p) (watched : AreWatched log (watch_state p t)) where
  pub assumes_so : {E : Type 0} → (r : Result (Option ℕ) E) → IfOk r (λ o. o ≡ None → p.head ≡ length t.entries)
      → IfOk r (λ o. IfSome o (λ id. HasClause p id × IsFalsified t.entries (literals_at log id)))
      → IfOk r (Assumes log held assumed l s.trail.entries (record s { trail = t; propagation = p }))
  assumes_so (Ok told) looked falsified =
      assume_goes log held assumed l s may undecided free t p (λ (us : List ℕ). (i : ℕ) → HasClause s.propagation i → Contains us i) v keeps watched told (ids_only held s.propagation may.search.only) looked falsified
  assumes_so (Err e) looked falsified = tt
