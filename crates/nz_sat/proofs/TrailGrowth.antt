-- What a search keeps where its trail goes on.
use Rattle.std.proofs.Common.{◌≡◌, ℕ, zero, suc, ◌<◌, ◌≤◌, Bool, true, false, if◌then◌else◌, List, [], ◌++◌, length, map, get_or, Option, Some, None, refl, sym, ap, subst, ◌∙◌, arith}
use Rattle.std.specs.Prelude.{All, Contains, IsSome, is_some, replicate, slice_get, nat_lt}
use Rattle.std.proofs.lemmas.Bool.Decides.{Decides-ltb}
use Rattle.std.proofs.lemmas.List.{get_or-map, length-map}
use Rattle.std.proofs.lemmas.List.Elements.{All-append, All-contains, All-map, All-weaker, Contains-get_or}
use Rattle.std.proofs.lemmas.List.Sums.{get_or-le-sum_by}
use Rattle.std.proofs.lemmas.Option.{get_or_from_slice_get, slice_get_within}
use Rattle.nz_spec.specs.search.Work.{WorkList}
use Rattle.nz_log.specs.declared.lits.Lit.{Lit}
use Rattle.nz_log.specs.Logs.{LogState, IsLive, literals_at}
use Rattle.nz_log.specs.Growth.{Grows}
use Rattle.nz_search.specs.declared.note.Note.{Note}
use Rattle.nz_search.specs.Standing.{search_after}
use Rattle.nz_sat.specs.declared.clauses.Held.{Held}
use Rattle.nz_sat.specs.declared.trail.Assigned.{Assigned}
use Rattle.nz_sat.specs.Trails.{GoesOn, IsTrueOn, depth, is_decision}
use Rattle.nz_sat.specs.Clauses.{IsAssumed}
use Rattle.nz_sat.specs.Conflicts.{AreUnmarked}
use Rattle.nz_sat.specs.Numbers.{numbered}
use Rattle.nz_sat.specs.Sats.{AreHeld, HoldsLearned, ids}
use Rattle.nz_sat.proofs.AtomTrails.{literals_kept}
use Rattle.nz_sat.proofs.Clausal.{truth_found}

-- ---- What is true

pub goes_true : (es es' : List Assigned) → GoesOn es es' → (l : Lit) → IsTrueOn es l → IsTrueOn es' l
goes_true es es' g l h = subst (λ (xs : List Assigned). IsTrueOn xs l) (sym g.joined) (truth_found es g.more l.atom l.sign h)

-- ---- The search

some_reason : (o : Option ℕ) → IsSome o → o ≡ None → ⊥
some_reason None h e = cc
some_reason (Some c) h e = cc

-- no entry that comes more is assumed
pub goes_assumed : (es es' : List Assigned) (assumed : List Lit) → GoesOn es es' → All (IsAssumed assumed) es → All (IsAssumed assumed) es'
goes_assumed es es' assumed g h =
    let A : Assigned → Type 0 = IsAssumed assumed in
    let more : All A g.more = λ k d inside none level. absurd (some_reason (get_or g.more k d).reason (g.implied k d inside) none) in
    subst (All A) (sym g.joined) (All-append A es g.more h more)

pub held_live : (log : LogState) (held : List Held) → AreHeld log held → (i : ℕ) → Contains (ids held) i → IsLive log i
held_live log held h i has =
    All-contains (IsLive log) (ids held) i (All-map (IsLive log) (λ (x : Held). x.id) held (λ k d inside. (h k d inside).0)) has

-- what was learned are clauses that are held, also as the log grows
pub learned_grown : (a b : LogState) (atoms : List ℕ) (held : List Held) → Grows a b → AreHeld a held → (work : WorkList Note) → HoldsLearned a atoms held work → HoldsLearned b atoms held work
learned_grown a b atoms held g h work learned ns =
    All-weaker (λ (c : List (ℕ × Bool)). (i : ℕ) × Contains (ids held) i × (map (numbered atoms) (literals_at a i) ≡ c))
    (λ (c : List (ℕ × Bool)). (i : ℕ) × Contains (ids held) i × (map (numbered atoms) (literals_at b i) ≡ c))
    (λ c w. (w.0, w.1, ap (map (numbered atoms)) (literals_kept a b g w.0 (held_live a held h w.0 w.1)) ∙ w.2)) (search_after ns work).learned (learned ns)

pub held_has : (held : List Held) (k : ℕ) (d : Held) → k < length held → Contains (ids held) (get_or held k d).id
held_has held k d inside =
    let longer : k < length (ids held) = omega (arith, length-map held (λ (x : Held). x.id)) in
    subst (Contains (ids held)) (get_or-map (λ (x : Held). x.id) held k d d.id inside) (Contains-get_or (ids held) k d.id longer)

pub none_told : (o : Option ℕ) → is_some o ≡ true → o ≡ None → ⊥
none_told None h e = cc
none_told (Some n) h e = cc

-- where there was no entry, each has a reason
pub goes_reasons : (es es' : List Assigned) → es ≡ [] → GoesOn es es' → All (λ (e : Assigned). IsSome e.reason) es'
goes_reasons es es' none g =
    let same : es' ≡ g.more = g.joined ∙ ap (λ (xs : List Assigned). xs ++ g.more) none in
    subst (All (λ (e : Assigned). IsSome e.reason)) (sym same) g.implied

-- where each entry has a reason, none is assumed
pub reasons_assumed : (es : List Assigned) (assumed : List Lit) → All (λ (e : Assigned). IsSome e.reason) es → All (IsAssumed assumed) es
reasons_assumed es assumed h k d inside none level = absurd (some_reason (get_or es k d).reason (h k d inside) none)

-- marks that were never set
pub none_marked : (n : ℕ) → AreUnmarked (replicate n false)
none_marked zero t = refl
none_marked (suc n) zero = refl
none_marked (suc n) (suc t) = none_marked n t

-- ---- Under no decision

low_by : (o : Option ℕ) (level : ℕ) → (elim o [ None ↦ nat_lt 0 level | Some c ↦ false ]) ≡ false → o ≡ None → level ≡ 0
low_by None zero h e = refl
low_by None (suc n) h e = let yes : nat_lt 0 (suc n) ≡ true = (Decides-ltb 0 (suc n)).1 (omega arith) in cc
low_by (Some c) level h e = cc

count_one : (b : Bool) → (if b then 1 else 0) ≤ 0 → b ≡ false
count_one true h = absurd (omega arith)
count_one false h = refl

-- an entry without a reason is at the lowest level
pub lowest_level : (es : List Assigned) → depth es ≡ 0 → (i : ℕ) (e : Assigned) → slice_get es i ≡ Some e → e.reason ≡ None → e.level ≡ 0
lowest_level es none i e at unforced =
    let f : Assigned → ℕ = λ x. if is_decision x then 1 else 0 in
    let inside : i < length es = slice_get_within es i e at in
    let here : f (get_or es i e) ≡ f e = ap f (get_or_from_slice_get es i e e at) in
    let most : f (get_or es i e) ≤ depth es = get_or-le-sum_by f es i e inside in
    let less : f e ≤ 0 = omega arith in
    low_by e.reason e.level (count_one (is_decision e) less) unforced
