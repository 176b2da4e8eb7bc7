-- Clauses that are visited: what one makes true.
use Rattle.std.proofs.Common.{◌≡◌, ℕ, ◌+◌, Bool, false, if◌then◌else◌, List, [], ◌∷◌, ◌++◌, Option, Some, None, refl, sym, ap, subst, ◌∙◌, arith, append_assoc, append-nil, Contains}
use Rattle.std.specs.Prelude.{All, IsSome, nat_lt, option_map}
use Rattle.std.proofs.lemmas.List.Sums.{sum_by-append, sum_by-cons}
use Rattle.std.proofs.lemmas.List.Elements.{All-append, All-cons, All-head, All-nil, All-push, All-tail}
use Rattle.nz_log.specs.declared.lits.Lit.{Lit}
use Rattle.nz_log.specs.Logs.{LogState}
use Rattle.nz_sat.specs.declared.trail.Assigned.{Assigned}
use Rattle.nz_sat.specs.Trails.{EachBehind, GoesOn, IsTrail, IsTrueOn, TrailState, assigned, depth, implied, is_decision, with_entry}
use Rattle.nz_sat.specs.Clauses.{HasReasonOf, IsImplied, IsReason, Visits}
use Rattle.nz_sat.proofs.TrailEntries.{assigned_missing, assigned_one, each_push}

-- ---- Trails that go on

decision_by : (o : Option ℕ) (level : ℕ) → IsSome o → (elim o [ None ↦ nat_lt 0 level | Some c ↦ false ]) ≡ false
decision_by None level h = cc
decision_by (Some c) level h = refl

pub no_decision : (e : Assigned) → IsSome e.reason → is_decision e ≡ false
no_decision e h = decision_by e.reason e.level h

pub implied_depth : (more : List Assigned) → All (λ (e : Assigned). IsSome e.reason) more → depth more ≡ 0
implied_depth [] h = refl
implied_depth (e ∷ es) h =
    let P : Assigned → Type 0 = λ x. IsSome x.reason in
    let first : (if is_decision e then 1 else 0) ≡ 0 = ap (λ (b : Bool). if b then 1 else 0) (no_decision e (All-head P e es h)) in
    sum_by-cons (λ (x : Assigned). if is_decision x then 1 else 0) e es ∙ ap (λ (n : ℕ). n + depth es) first
    ∙ ap (λ (n : ℕ). 0 + n) (implied_depth es (All-tail P e es h))

pub goes_depth : (es es' : List Assigned) → GoesOn es es' → depth es' ≡ depth es
goes_depth es es' g =
    let none = implied_depth g.more g.implied in
    let both : depth (es ++ g.more) ≡ depth es + depth g.more = sum_by-append (λ (x : Assigned). if is_decision x then 1 else 0) es g.more in
    let same : depth es' ≡ depth (es ++ g.more) = ap depth g.joined in
    omega arith

pub goes_same : (es : List Assigned) → GoesOn es es
goes_same es =
    record {
      more = [];
      joined = sym (append-nil es);
      implied = All-nil (λ (e : Assigned). IsSome e.reason);
      last = All-nil (λ (e : Assigned). e.level ≡ depth es);
    }

pub goes_one : (es : List Assigned) (e : Assigned) → IsSome e.reason → e.level ≡ depth es → GoesOn es (es ++ e ∷ [])
goes_one es e by_reason level =
    let P : Assigned → Type 0 = λ x. IsSome x.reason in
    let L : Assigned → Type 0 = λ x. x.level ≡ depth es in
    record { more = e ∷ []; joined = refl; implied = All-cons P e [] by_reason (All-nil P); last = All-cons L e [] level (All-nil L) }

goes_far : (a b c : List Assigned) → GoesOn a b → GoesOn b c → GoesOn a c
goes_far a b c g h =
    let P : Assigned → Type 0 = λ x. IsSome x.reason in
    let L : Assigned → Type 0 = λ x. x.level ≡ depth a in
    let same : depth b ≡ depth a = goes_depth a b g in
    record {
      more = g.more ++ h.more;
      joined = h.joined ∙ ap (λ (xs : List Assigned). xs ++ h.more) g.joined ∙ append_assoc a g.more h.more;
      implied = All-append P g.more h.more g.implied h.implied;
      last = All-append L g.more h.more g.last (λ k d inside. h.last k d inside ∙ same);
    }

-- ---- Trails that clauses are visited on

pub visits_none : {s : LogState} (among : List ℕ → Type 0) (t : TrailState) → Visits s among t t
visits_none among t = record { size = refl; order = λ h. h; goes_on = goes_same t.entries; implied = λ h. h; reasons = λ us all h. h }

pub visits_more : {s : LogState} {first next : List ℕ → Type 0} {a b c : TrailState} (among : List ℕ → Type 0) → Visits s first a b → Visits s next b c
    → ((us : List ℕ) → among us → first us) → ((us : List ℕ) → among us → next us) → Visits s among a c
visits_more {a = a} {b = b} {c = c} among v w f g =
    record {
      size = w.size ∙ v.size;
      order = λ h. w.order (v.order h);
      goes_on = goes_far a.entries b.entries c.entries v.goes_on w.goes_on;
      implied = λ h. w.implied (v.implied h);
      reasons = λ us all h. w.reasons us (g us all) (v.reasons us (f us all) h);
    }

-- ---- A clause with one literal left

pub implied_true : (es : List Assigned) (l : Lit) (id : ℕ) → assigned es l.atom ≡ None → IsTrueOn (es ++ implied es l id ∷ []) l
implied_true es l id free =
    ap (option_map (λ (e : Assigned). e.literal.sign)) (assigned_missing es (implied es l id ∷ []) l.atom free ∙ assigned_one (implied es l id) l.atom refl)

-- it makes the literal true
pub visits_one : (s : LogState) (among : List ℕ → Type 0) (t t' : TrailState) (l : Lit) (id : ℕ) → t' ≡ with_entry t (implied t.entries l id) → IsTrail t'
    → IsReason s t.entries l id → ((us : List ℕ) → among us → Contains us id) → Visits s among t t'
visits_one s among t t' l id put order reason named =
    record {
      size = ap (λ (x : TrailState). x.size) put;
      order = λ h. order;
      goes_on = subst (λ (x : TrailState). GoesOn t.entries x.entries) (sym put) (goes_one t.entries (implied t.entries l id) refl refl);
      implied = λ h. subst (λ (x : TrailState). EachBehind (IsImplied s) x.entries) (sym put) (each_push (IsImplied s) t.entries (implied t.entries l id) h reason);
      reasons = λ us all h. subst (λ (x : TrailState). All (HasReasonOf us) x.entries) (sym put) (All-push (HasReasonOf us) t.entries (implied t.entries l id) h (named us all));
    }
