-- The way back along the trail: what is resolved at a place, and what is left.
use Rattle.std.proofs.Common.{◌≡◌, ◌≢◌, ℕ, ◌+◌, ◌<◌, ◌≤◌, Bool, true, false, not, ◌⊎◌, inl, inr, List, [], ◌∷◌, ◌++◌, take, drop, Option, Some, None, refl, sym, ap, subst, ◌∙◌, arith, length-take}
use Rattle.std.specs.Prelude.{Contains, slice_get, option_map, nat_lt}
use Rattle.std.proofs.Math.Bool.{not-not}
use Rattle.std.proofs.lemmas.Bool.{cases_eq}
use Rattle.std.proofs.lemmas.List.{take-append-drop, take_more}
use Rattle.std.proofs.lemmas.List.Sums.{sum_by_push}
use Rattle.std.proofs.lemmas.Option.{same_Some, slice_get_within, slice_get-get_or, get_or_from_slice_get}
use Rattle.nz_lists.proofs.Places.{slice_get_kept}
use Rattle.nz_log.specs.declared.lits.Lit.{Lit}
use Rattle.nz_log.specs.Lits.{negated_lit}
use Rattle.nz_sat.specs.declared.trail.Assigned.{Assigned}
use Rattle.nz_sat.specs.Trails.{EachBehind, IsFalseOn, IsNext, assigned, depth, is_decision}
use Rattle.nz_sat.specs.Conflicts.{marked_of}
use Rattle.nz_sat.proofs.Chains.{lit_is}
use Rattle.nz_sat.proofs.Marks.{counted, false_entry, none_counted, not_itself, one_found, one_if}
use Rattle.nz_sat.proofs.TrailEntries.{assigned_at, assigned_found, assigned_missing, depth_front, level_is, level_within}

-- ---- False literals

false_more : (front more : List Assigned) (l : Lit) → IsFalseOn front l → IsFalseOn (front ++ more) l
false_more front more l falsified =
    let e = false_entry front l falsified in
    ap (option_map (λ (x : Assigned). x.literal.sign)) (assigned_found front more l.atom e.0 e.1) ∙ ap Some e.2

pub false_whole : (es : List Assigned) (n : ℕ) (l : Lit) → IsFalseOn (take n es) l → IsFalseOn es l
false_whole es n l falsified = subst (λ (front : List Assigned). IsFalseOn front l) (take-append-drop n es) (false_more (take n es) (drop n es) l falsified)

-- a false literal is the negation of its atom's entry
pub false_is : (es : List Assigned) (e : Assigned) (m : Lit) → assigned es e.literal.atom ≡ Some e → IsFalseOn es m → m.atom ≡ e.literal.atom → m ≡ negated_lit e.literal
false_is es e m its falsified same =
    let x = false_entry es m falsified in
    let one : e ≡ x.0 = same_Some e x.0 (sym its ∙ ap (assigned es) (sym same) ∙ x.1) in
    let sign : e.literal.sign ≡ not m.sign = ap (λ (y : Assigned). y.literal.sign) one ∙ x.2 in
    lit_is m (negated_lit e.literal) same (sym (ap not sign ∙ not-not m.sign))

-- with one entry more, its negation is false too
false_push : (front : List Assigned) (e : Assigned) (m : Lit) → IsFalseOn (front ++ e ∷ []) m → (m ≡ negated_lit e.literal) ⊎ IsFalseOn front m
false_push front e m falsified =
    let x = false_entry (front ++ e ∷ []) m falsified in
    elim (assigned front m.atom) as (λ o. assigned front m.atom ≡ o → (m ≡ negated_lit e.literal) ⊎ IsFalseOn front m) [
      | None ↦ λ none.
          let one = one_found e m.atom x.0 (sym (assigned_missing front (e ∷ []) m.atom none) ∙ x.1) in
          let sign : e.literal.sign ≡ not m.sign = ap (λ (y : Assigned). y.literal.sign) one.1 ∙ x.2 in
          inl (lit_is m (negated_lit e.literal) (sym one.0) (sym (ap not sign ∙ not-not m.sign)))
      | Some y ↦ λ there.
          let same : y ≡ x.0 = same_Some y x.0 (sym (assigned_found front (e ∷ []) m.atom y there) ∙ x.1) in
          let sign : y.literal.sign ≡ not m.sign = ap (λ (z : Assigned). z.literal.sign) same ∙ x.2 in
          inr (ap (option_map (λ (z : Assigned). z.literal.sign)) there ∙ ap Some sign)
    ] refl

-- what a front has stands at a place
pub front_place : (es : List Assigned) (n : ℕ) (x : Assigned) → Contains (take n es) x → (j : ℕ) × (j < n) × (slice_get es j ≡ Some x)
front_place es n x h =
    let at : slice_get (take n es) h.0 ≡ Some x = slice_get-get_or (take n es) h.0 x h.1 ∙ ap Some h.2 in
    let kept : slice_get es h.0 ≡ Some x =
    subst (λ (xs : List Assigned). slice_get xs h.0 ≡ Some x) (take-append-drop n es) (slice_get_kept (take n es) (drop n es) h.0 x at) in
    (h.0, omega (arith, h.1, length-take n es), kept)

decides : (e : Assigned) → e.reason ≡ None → 0 < e.level → is_decision e ≡ true
decides e none above = ap (λ (o : Option ℕ). elim o [ None ↦ nat_lt 0 e.level | Some c ↦ false ]) none ∙ grind arith

-- ---- The entry of a place

module _ (size : ℕ) (es : List Assigned) (order : EachBehind (IsNext size) es) (n i : ℕ) (is : n ≡ i + 1) (e : Assigned) (at : slice_get es i ≡ Some e) where
  front_is : take n es ≡ take i es ++ e ∷ []
  front_is =
      ap (λ (k : ℕ). take k es) is ∙ take_more es i e (slice_get_within es i e at)
      ∙ ap (λ (x : Assigned). take i es ++ x ∷ []) (get_or_from_slice_get es i e e at)

  pub fresh : assigned (take i es) e.literal.atom ≡ None
  fresh = (order i e at).fresh

  pub its_entry : assigned es e.literal.atom ≡ Some e
  its_entry = assigned_at es i e at fresh

  pub false_cases : (m : Lit) → IsFalseOn (take n es) m → (m ≡ negated_lit e.literal) ⊎ IsFalseOn (take i es) m
  false_cases m falsified = false_push (take i es) e m (subst (λ (front : List Assigned). IsFalseOn front m) front_is falsified)

  -- its literal isn't false, and those false before are of other atoms
  pub not_false : IsFalseOn es e.literal → ⊥
  not_false falsified =
      not_itself e.literal.sign
      (same_Some e.literal.sign (not e.literal.sign) (sym (ap (option_map (λ (x : Assigned). x.literal.sign)) its_entry) ∙ falsified))

  pub apart : (m : Lit) → IsFalseOn (take i es) m → m.atom ≢ e.literal.atom
  apart m falsified same =
      let x = false_entry (take i es) m falsified in
      let clash : None ≡ Some x.0 = sym fresh ∙ ap (assigned (take i es)) (sym same) ∙ x.1 in
      cc

  pub front_counted : (marks : List Bool) (level : ℕ) → marked_of marks level (take n es) ≡ marked_of marks level (take i es) + counted marks level e
  front_counted marks level = ap (marked_of marks level) front_is ∙ sum_by_push (counted marks level) (take i es) e

  its_level : e.level ≡ depth (take n es)
  its_level = level_is size es order i e at ∙ ap (λ (k : ℕ). depth (take k es)) (sym is)

  pub lower : (x : Assigned) → Contains (take n es) x → x.level ≤ e.level
  lower x has =
      let p = front_place es n x has in
      let there = level_is size es order p.0 x p.2 in
      let less = depth_front (p.0 + 1) n es (omega (arith, p.1)) in
      omega (arith, there, less, its_level)

  -- while an entry of the last level is left, the one at the place is of it
  pub of_last : (marks : List Bool) → 0 < marked_of marks (depth es) (take n es) → e.level ≡ depth es
  of_last marks some =
      elim (cases_eq e.level (depth es)) [
        | inl same ↦ same
        | inr other ↦
            let none = none_counted marks (depth es) (take n es) (λ x has on last.
            let low = lower x has in
            let high = level_within size es order i e at in
            other (omega (arith, low, high, last))) in
            absurd (omega (arith, none, some))
      ]

  -- before the last decision no entry is of its level
  pub none_before_decision : (marks : List Bool) → e.reason ≡ None → e.level ≡ depth es → 0 < depth es → marked_of marks (depth es) (take i es) ≡ 0
  none_before_decision marks reason last above =
      let sum : depth (take n es) ≡ depth (take i es) + one_if (is_decision e) = ap depth front_is ∙ sum_by_push (λ (x : Assigned). one_if (is_decision x)) (take i es) e in
      let one : one_if (is_decision e) ≡ 1 = ap one_if (decides e reason (omega (arith, last))) in
      none_counted marks (depth es) (take i es) (λ x has on top.
      let p = front_place es i x has in
      let there = level_is size es order p.0 x p.2 in
      let less = depth_front (p.0 + 1) i es (omega (arith, p.1)) in
      omega (arith, there, less, its_level, sum, one, last, top))
