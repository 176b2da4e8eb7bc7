-- Trails that grow and are cut: the entry of a term, and what stands behind what.
use Rattle.std.proofs.Common.{◌≡◌, ◌≢◌, ℕ, suc, ◌+◌, ◌-◌, ◌<◌, ◌≤◌, Bool, true, false, if◌then◌else◌, List, [], ◌∷◌, ◌++◌, length, take, drop, get_or, Option, Some, None, inl, inr, refl, sym, ap, subst, ◌∙◌, arith, ne_eqb}
use Rattle.std.specs.Prelude.{◌==◌, slice_get, slice_index_or, slice_set}
use Rattle.std.proofs.lemmas.Bool.{cases_eq, eq-eqb}
use Rattle.std.proofs.lemmas.Bool.Decides.{eqb_tells}
use Rattle.std.proofs.lemmas.List.{take-append-le, take-append-drop, take_at, take_more, take-take, get_or-set_same, get_or-set_other, get_or_push, length_push}
use Rattle.std.proofs.lemmas.List.Sums.{sum_by-take-le}
use Rattle.std.proofs.lemmas.Option.{same_Some, slice_get_within, slice_get-get_or, get_or_from_slice_get}
use Rattle.nz_lists.proofs.Places.{slice_get_kept, slice_get-push_cases, drop_found}
use Rattle.nz_sat.specs.declared.trail.Assigned.{Assigned}
use Rattle.nz_sat.specs.Trails.{EachBehind, IsNext, assigned, depth, is_decision}

-- ---- What stands behind what

module _ (P : List Assigned → Assigned → Type 0) where
  pub each_push : (es : List Assigned) (e : Assigned) → EachBehind P es → P es e → EachBehind P (es ++ e ∷ [])
  each_push es e h p i x at =
      elim (slice_get-push_cases es e i x at) [
        | inl old ↦
            let inside : i ≤ length es = let b : i < length es = slice_get_within es i x old in omega arith in
            subst (λ (front : List Assigned). P front x) (sym (take-append-le i es (e ∷ []) inside)) (h i x old)
        | inr last ↦
            subst (λ (front : List Assigned). P front x) (sym (take_at es (e ∷ []) i (sym last.0))) (subst (P es) last.1 p)
      ]

  pub each_front : (es more : List Assigned) → EachBehind P (es ++ more) → EachBehind P es
  each_front es more h i x at =
      let inside : i ≤ length es = let b : i < length es = slice_get_within es i x at in omega arith in
      subst (λ (front : List Assigned). P front x) (take-append-le i es more inside) (h i x (slice_get_kept es more i x at))

  pub each_last : (es : List Assigned) (e : Assigned) → EachBehind P (es ++ e ∷ []) → P es e
  each_last es e h =
      let long : length es < length (es ++ e ∷ []) = omega (arith, length_push es e) in
      let at : slice_get (es ++ e ∷ []) (length es) ≡ Some e =
      slice_get-get_or (es ++ e ∷ []) (length es) e long ∙ ap Some (get_or_push es e e (length es) refl) in
      subst (λ (front : List Assigned). P front e) (take_at es (e ∷ []) (length es) refl) (h (length es) e at)

-- one entry more that is in order
pub order_put : (n : ℕ) (es : List Assigned) (e : Assigned) → EachBehind (IsNext n) es → assigned es e.literal.atom ≡ None → e.literal.atom < n
    → e.level ≡ depth (es ++ e ∷ []) → EachBehind (IsNext n) (es ++ e ∷ [])
order_put n es e before fresh within level = each_push (IsNext n) es e before (record { fresh = fresh; within = within; level = level })

-- what holds of each entry behind those before it holds of each by a weaker word
pub each_weaker : (P Q : List Assigned → Assigned → Type 0) → ((before : List Assigned) (e : Assigned) → P before e → Q before e)
    → (es : List Assigned) → EachBehind P es → EachBehind Q es
each_weaker P Q w es h i e at = w (take i es) e (h i e at)

-- ---- The entry of a term

found_step : (b : Bool) (e x : Assigned) (o p : Option Assigned) → (o ≡ Some x → p ≡ Some x) → (if b then Some e else o) ≡ Some x → (if b then Some e else p) ≡ Some x
found_step true e x o p h at = at
found_step false e x o p h at = h at

missing_step : (b : Bool) (e : Assigned) (o p q : Option Assigned) → (o ≡ None → p ≡ q) → (if b then Some e else o) ≡ None → (if b then Some e else p) ≡ q
missing_step true e o p q h at = cc
missing_step false e o p q h at = h at

pub assigned_found : (es more : List Assigned) (t : ℕ) (x : Assigned) → assigned es t ≡ Some x → assigned (es ++ more) t ≡ Some x
assigned_found [] more t x at = cc
assigned_found (e ∷ es) more t x at =
    found_step (e.literal.atom == t) e x (assigned es t) (assigned (es ++ more) t) (assigned_found es more t x) at

pub assigned_missing : (es more : List Assigned) (t : ℕ) → assigned es t ≡ None → assigned (es ++ more) t ≡ assigned more t
assigned_missing [] more t at = refl
assigned_missing (e ∷ es) more t at =
    missing_step (e.literal.atom == t) e (assigned es t) (assigned (es ++ more) t) (assigned more t) (assigned_missing es more t) at

-- one entry
pub assigned_one : (e : Assigned) (t : ℕ) → e.literal.atom ≡ t → assigned (e ∷ []) t ≡ Some e
assigned_one e t same = ap (λ (b : Bool). if b then Some e else None) (eq-eqb e.literal.atom t same)

pub assigned_none : (e : Assigned) (t : ℕ) → e.literal.atom ≢ t → assigned (e ∷ []) t ≡ None
assigned_none e t other = ap (λ (b : Bool). if b then Some e else None) (ne_eqb e.literal.atom t other)

-- an entry that is found is of the term, and has a place
pub assigned_place : (es : List Assigned) (t : ℕ) (x : Assigned) → assigned es t ≡ Some x → (x.literal.atom ≡ t) × ((i : ℕ) × (slice_get es i ≡ Some x))
assigned_place [] t x at = cc
assigned_place (e ∷ es) t x at =
    elim (eqb_tells e.literal.atom t) [
      | inl p ↦
          let same : Some e ≡ Some x = ap (λ (b : Bool). if b then Some e else assigned es t) (sym p.0) ∙ at in
          let one : e ≡ x = same_Some e x same in
          (ap (λ (y : Assigned). y.literal.atom) (sym one) ∙ p.1, (0, same))
      | inr p ↦
          let rest : assigned es t ≡ Some x = ap (λ (b : Bool). if b then Some e else assigned es t) (sym p.0) ∙ at in
          let r = assigned_place es t x rest in
          (r.0, (suc r.1.0, r.1.1))
    ]

-- an entry whose term is new where it stands is that of its term
pub assigned_at : (es : List Assigned) (i : ℕ) (e : Assigned) → slice_get es i ≡ Some e → assigned (take i es) e.literal.atom ≡ None
    → assigned es e.literal.atom ≡ Some e
assigned_at es i e at fresh =
    let parts : take i es ++ (e ∷ drop (suc i) es) ≡ es = ap (λ (rest : List Assigned). take i es ++ rest) (sym (drop_found es i e at)) ∙ take-append-drop i es in
    let here : assigned (e ∷ drop (suc i) es) e.literal.atom ≡ Some e = assigned_found (e ∷ []) (drop (suc i) es) e.literal.atom e (assigned_one e e.literal.atom refl) in
    ap (λ (xs : List Assigned). assigned xs e.literal.atom) (sym parts) ∙ assigned_missing (take i es) (e ∷ drop (suc i) es) e.literal.atom fresh ∙ here

-- ---- The table of entries

-- the entry of another term is as before
pub other_entry : (es : List Assigned) (e : Assigned) (t : ℕ) → t ≢ e.literal.atom → assigned (es ++ e ∷ []) t ≡ assigned es t
other_entry es e t other =
    elim (assigned es t) as (λ o. assigned es t ≡ o → assigned (es ++ e ∷ []) t ≡ o) [
      | None ↦ λ h. assigned_missing es (e ∷ []) t h ∙ assigned_none e t (λ same. other (sym same))
      | Some x ↦ λ h. assigned_found es (e ∷ []) t x h
    ] refl

module _ (es : List Assigned) (e : Assigned) (by_atom : List (Option Assigned)) (within : e.literal.atom < length by_atom) (fresh : assigned es e.literal.atom ≡ None) where
  pub table_put : ((t : ℕ) → slice_index_or by_atom t None ≡ assigned es t) → (t : ℕ)
      → slice_index_or (slice_set by_atom e.literal.atom (Some e)) t None ≡ assigned (es ++ e ∷ []) t
  table_put table t =
      elim (cases_eq t e.literal.atom) [
        | inl same ↦
            ap (λ (n : ℕ). slice_index_or (slice_set by_atom e.literal.atom (Some e)) n None) same
            ∙ get_or-set_same by_atom e.literal.atom (Some e) None within
            ∙ sym (ap (assigned (es ++ e ∷ [])) same ∙ assigned_missing es (e ∷ []) e.literal.atom fresh ∙ assigned_one e e.literal.atom refl)
        | inr other ↦ get_or-set_other by_atom e.literal.atom t (Some e) None other ∙ table t ∙ sym (other_entry es e t other)
      ]

  pub table_pop : ((t : ℕ) → slice_index_or by_atom t None ≡ assigned (es ++ e ∷ []) t) → (t : ℕ)
      → slice_index_or (slice_set by_atom e.literal.atom None) t None ≡ assigned es t
  table_pop table t =
      elim (cases_eq t e.literal.atom) [
        | inl same ↦
            ap (λ (n : ℕ). slice_index_or (slice_set by_atom e.literal.atom None) n None) same
            ∙ get_or-set_same by_atom e.literal.atom None None within ∙ sym (ap (assigned es) same ∙ fresh)
        | inr other ↦ get_or-set_other by_atom e.literal.atom t None None other ∙ table t ∙ other_entry es e t other
      ]

-- ---- Levels

pub level_is : (n : ℕ) (es : List Assigned) → EachBehind (IsNext n) es → (i : ℕ) (e : Assigned) → slice_get es i ≡ Some e → e.level ≡ depth (take (i + 1) es)
level_is n es order i e at =
    let inside : i < length es = slice_get_within es i e at in
    let here : get_or es i e ≡ e = get_or_from_slice_get es i e e at in
    (order i e at).level ∙ ap (λ (x : Assigned). depth (take i es ++ x ∷ [])) (sym here) ∙ ap depth (sym (take_more es i e inside))

pub depth_front : (m n : ℕ) (es : List Assigned) → m ≤ n → depth (take m es) ≤ depth (take n es)
depth_front m n es le =
    let same : depth (take m (take n es)) ≡ depth (take m es) = ap depth (take-take m n es le) in
    let less : depth (take m (take n es)) ≤ depth (take n es) = sum_by-take-le (λ (x : Assigned). if is_decision x then 1 else 0) (take n es) m in
    omega arith

pub level_within : (n : ℕ) (es : List Assigned) → EachBehind (IsNext n) es → (i : ℕ) (e : Assigned) → slice_get es i ≡ Some e → e.level ≤ depth es
level_within n es order i e at =
    let is = level_is n es order i e at in
    let less : depth (take (i + 1) es) ≤ depth es = sum_by-take-le (λ (x : Assigned). if is_decision x then 1 else 0) es (i + 1) in
    omega arith

-- no entry is above the last one
pub last_highest : (n : ℕ) (es : List Assigned) (last : Assigned) → EachBehind (IsNext n) es → slice_get es (length es - 1) ≡ Some last
    → (i : ℕ) (e : Assigned) → slice_get es i ≡ Some e → e.level ≤ last.level
last_highest n es last order at i e there =
    let here = level_is n es order i e there in
    let top = level_is n es order (length es - 1) last at in
    let inside : i < length es = slice_get_within es i e there in
    let less : depth (take (i + 1) es) ≤ depth (take (length es - 1 + 1) es) = depth_front (i + 1) (length es - 1 + 1) es (omega arith) in
    omega arith
