-- Trails in order up to a level: they are fronts, with so many decisions, and what is true and free there.
use Rattle.std.proofs.Common.{◌≡◌, if◌then◌else◌, ℕ, zero, suc, ◌+◌, ◌<◌, ◌≤◌, ◌==◌, Bool, true, false, not, List, [], ◌∷◌, ◌++◌, length, take, get_or, Some, None, inl, inr, refl, sym, ap, subst, ◌∙◌, arith, append_assoc, append-nil, All, nat_le}
use Rattle.std.specs.Prelude.{filter, slice_get, option_map}
use Rattle.std.proofs.lemmas.Bool.Decides.{eqb_tells, leb_tells}
use Rattle.std.proofs.lemmas.List.{length-take-le, take_all, take_more, take-append-le}
use Rattle.std.proofs.lemmas.List.Elements.{filter-append, All-head, All-tail}
use Rattle.std.proofs.lemmas.List.Sums.{length-filter, sum_by_push}
use Rattle.std.proofs.lemmas.Option.{same_Some, slice_get-get_or}
use Rattle.nz_log.specs.declared.lits.Lit.{Lit}
use Rattle.nz_sat.specs.declared.trail.Assigned.{Assigned}
use Rattle.nz_sat.specs.Trails.{AreUpTo, DropsLast, EachBehind, IsFalseOn, IsFreeOn, IsFrontOf, IsNext, assigned, below, depth, is_decision, level_on, truth_on}
use Rattle.nz_sat.proofs.Backward.{lower}
use Rattle.nz_sat.proofs.Clausal.{missing_free, truth_found}
use Rattle.nz_sat.proofs.LearnedClauses.{all_from}
use Rattle.nz_sat.proofs.Marks.{false_entry, level_found}
use Rattle.nz_sat.proofs.TrailEntries.{assigned_found, level_is}

-- ---- Trails up to a level

pub above_level : (k n : ℕ) → k < n → nat_le n k ≡ false
above_level k n h = elim (leb_tells n k) [ inl p ↦ absurd (let b : n ≤ k = p.1 in omega arith) | inr p ↦ p.0 ]

pub up_to_level : (k n : ℕ) → n ≤ k → nat_le n k ≡ true
up_to_level k n h = elim (leb_tells n k) [ inl p ↦ p.0 | inr p ↦ absurd (let b : k < n = p.1 in omega arith) ]

pub below_none : (k : ℕ) (es : List Assigned) → All (λ (e : Assigned). k < e.level) es → below k es ≡ []
below_none k [] h = refl
below_none k (e ∷ es) h =
    let P : Assigned → Type 0 = λ x. k < x.level in
    ap (λ (b : Bool). if b then e ∷ below k es else below k es) (above_level k e.level (All-head P e es h)) ∙ below_none k es (All-tail P e es h)

pub below_all : (k : ℕ) (es : List Assigned) → AreUpTo k es → below k es ≡ es
below_all k [] h = refl
below_all k (e ∷ es) h =
    let P : Assigned → Type 0 = λ x. x.level ≤ k in
    ap (λ (b : Bool). if b then e ∷ below k es else below k es) (up_to_level k e.level (All-head P e es h))
    ∙ ap (λ (xs : List Assigned). e ∷ xs) (below_all k es (All-tail P e es h))

pub below_join : (k : ℕ) (es more : List Assigned) → below k (es ++ more) ≡ below k es ++ below k more
below_join k es more = filter-append (λ (e : Assigned). nat_le e.level k) es more

-- the last entry, which is higher, doesn't count
pub below_last : (k : ℕ) (old new : List Assigned) {l : Lit} → DropsLast k old new l → below k new ≡ below k old
below_last k old new d =
    let P : Assigned → Type 0 = λ x. k < x.level in
    let none : below k (d.last ∷ []) ≡ [] = ap (λ (b : Bool). if b then d.last ∷ [] else []) (above_level k d.last.level d.higher) in
    sym
    (ap (below k) d.joined ∙ below_join k new (d.last ∷ []) ∙ ap (λ (xs : List Assigned). below k new ++ xs) none ∙ append-nil (below k new))

pub front_all : (es : List Assigned) → IsFrontOf es es
front_all es = record { more = []; joined = sym (append-nil es) }

pub front_less : (es old new : List Assigned) (k : ℕ) {l : Lit} → IsFrontOf old es → DropsLast k old new l → IsFrontOf new es
front_less es old new k f d =
    record {
      more = d.last ∷ f.more;
      joined = f.joined ∙ ap (λ (xs : List Assigned). xs ++ f.more) d.joined ∙ append_assoc new (d.last ∷ []) f.more;
    }

-- ---- The entry of a term

past_other : (k t : ℕ) (es : List Assigned) (e x : Assigned) (b : Bool) → assigned (below k es) t ≡ Some x → (e.literal.atom == t) ≡ false
    → assigned (if b then e ∷ below k es else below k es) t ≡ Some x
past_other k t es e x true r differs = ap (λ (c : Bool). if c then Some e else assigned (below k es) t) differs ∙ r
past_other k t es e x false r differs = r

-- an entry at or below the level is found there too
pub found_below : (k t : ℕ) (es : List Assigned) (x : Assigned) → assigned es t ≡ Some x → x.level ≤ k → assigned (below k es) t ≡ Some x
found_below k t [] x at low = cc
found_below k t (e ∷ es) x at low =
    elim (eqb_tells e.literal.atom t) [
      | inl p ↦
          let same : e ≡ x = same_Some e x (ap (λ (b : Bool). if b then Some e else assigned es t) (sym p.0) ∙ at) in
          let less : e.level ≤ k = subst (λ (y : Assigned). y.level ≤ k) (sym same) low in
          elim (leb_tells e.level k) [
            | inl q ↦
                ap (λ (b : Bool). assigned (if b then e ∷ below k es else below k es) t) q.0
                ∙ ap (λ (b : Bool). if b then Some e else assigned (below k es) t) p.0 ∙ ap Some same
            | inr q ↦ absurd (omega (arith, q.1, less))
          ]
      | inr p ↦
          let rest = found_below k t es x (ap (λ (b : Bool). if b then Some e else assigned es t) (sym p.0) ∙ at) low in
          past_other k t es e x (nat_le e.level k) rest p.0
    ]

-- an entry that is found there is at or below the level
pub found_low : (k t : ℕ) (es : List Assigned) (x : Assigned) → assigned (below k es) t ≡ Some x → x.level ≤ k
found_low k t [] x at = cc
found_low k t (e ∷ es) x at =
    elim (leb_tells e.level k) [
      | inl q ↦
          let here : assigned (e ∷ below k es) t ≡ Some x = ap (λ (b : Bool). assigned (if b then e ∷ below k es else below k es) t) (sym q.0) ∙ at in
          elim (eqb_tells e.literal.atom t) [
            | inl p ↦
                let same : e ≡ x = same_Some e x (ap (λ (b : Bool). if b then Some e else assigned (below k es) t) (sym p.0) ∙ here) in
                subst (λ (y : Assigned). y.level ≤ k) same q.1
            | inr p ↦ found_low k t es x (ap (λ (b : Bool). if b then Some e else assigned (below k es) t) (sym p.0) ∙ here)
          ]
      | inr q ↦ found_low k t es x (ap (λ (b : Bool). assigned (if b then e ∷ below k es else below k es) t) (sym q.0) ∙ at)
    ]

-- up to a level, and then to one at or below it
pub below_twice : (j k : ℕ) → j ≤ k → (es : List Assigned) → below j (below k es) ≡ below j es
below_twice j k less [] = refl
below_twice j k less (e ∷ es) =
    elim (leb_tells e.level k) [
      | inl q ↦
          ap (λ (b : Bool). below j (if b then e ∷ below k es else below k es)) q.0
          ∙ ap (λ (xs : List Assigned). if nat_le e.level j then e ∷ xs else xs) (below_twice j k less es)
      | inr q ↦
          ap (λ (b : Bool). below j (if b then e ∷ below k es else below k es)) q.0 ∙ below_twice j k less es
          ∙ sym (ap (λ (b : Bool). if b then e ∷ below j es else below j es) (above_level j e.level (omega (arith, q.1))))
    ]

at_most_one : (b : Bool) → (if b then 1 else 0) ≤ 1
at_most_one true = omega arith
at_most_one false = omega arith

abbrev nobody : Assigned
nobody = record { literal = record { atom = 0; sign = true }; level = 0; reason = None }

module _ (size : ℕ) (es : List Assigned) (order : EachBehind (IsNext size) es) where
  abbrev entry : ℕ → Assigned
  entry n = get_or es n nobody

  at : (n : ℕ) → n < length es → slice_get es n ≡ Some (entry n)
  at n inside = slice_get-get_or es n nobody inside

  one_more : (n : ℕ) → n < length es → take (suc n) es ≡ take n es ++ entry n ∷ []
  one_more n inside = let is : suc n ≡ n + 1 = omega arith in ap (λ (m : ℕ). take m es) is ∙ take_more es n nobody inside

  up_to : (n k : ℕ) → n < length es → (entry n).level ≤ k → AreUpTo k (take (suc n) es)
  up_to n k inside low =
      all_from (λ (x : Assigned). x.level ≤ k) (take (suc n) es)
      (λ x has. let less = lower size es order (suc n) n (omega arith) (entry n) (at n inside) x has in omega (arith, less, low))

  drops : (n k : ℕ) → n < length es → k < (entry n).level → DropsLast k (take (suc n) es) (take n es) (entry n).literal
  drops n k inside high = record { last = entry n; is = refl; joined = one_more n inside; higher = high }

  front_to : (k n : ℕ) → n ≤ length es → IsFrontOf (below k (take n es)) (take n es)
  front_to k zero inside = record { more = []; joined = refl }
  front_to k (suc n) inside =
      let within : n < length es = omega arith in
      elim (leb_tells (entry n).level k) [
        | inl p ↦
            subst (λ (xs : List Assigned). IsFrontOf xs (take (suc n) es)) (sym (below_all k (take (suc n) es) (up_to n k within p.1))) (front_all (take (suc n) es))
        | inr p ↦
            let old = front_to k n (omega arith) in
            let same = below_last k (take (suc n) es) (take n es) (drops n k within p.1) in
            subst (λ (xs : List Assigned). IsFrontOf xs (take (suc n) es)) same
            (record {
              more = old.more ++ entry n ∷ [];
              joined = one_more n within ∙ ap (λ (xs : List Assigned). xs ++ entry n ∷ []) old.joined ∙ append_assoc (below k (take n es)) old.more (entry n ∷ []);
            })
      ]

  level_to : (n : ℕ) → n < length es → (entry n).level ≡ depth (take (suc n) es)
  level_to n inside =
      let is : suc n ≡ n + 1 = omega arith in
      level_is size es order n (entry n) (at n inside) ∙ ap (λ (m : ℕ). depth (take m es)) (sym is)

  decided_to : (k n : ℕ) → n ≤ length es → filter is_decision (below k (take n es)) ≡ take k (filter is_decision (take n es))
  decided_to k zero inside = sym (take_all k [] (omega arith))
  decided_to k (suc n) inside =
      let within : n < length es = omega arith in
      let front = take (suc n) es in
      let ds = filter is_decision (take n es) in
      let level = level_to n within in
      elim (leb_tells (entry n).level k) [
        | inl p ↦
            let long : length (filter is_decision front) ≡ depth front = length-filter is_decision front in
            ap (filter is_decision) (below_all k front (up_to n k within p.1)) ∙ sym (take_all k (filter is_decision front) (omega (arith, p.1)))
        | inr p ↦
            let long : length ds ≡ depth (take n es) = length-filter is_decision (take n es) in
            let sum : depth front ≡ depth (take n es) + (if is_decision (entry n) then 1 else 0) =
            ap depth (one_more n within) ∙ sum_by_push (λ (x : Assigned). if is_decision x then 1 else 0) (take n es) (entry n) in
            let most = at_most_one (is_decision (entry n)) in
            let split : filter is_decision front ≡ ds ++ filter is_decision (entry n ∷ []) =
            ap (filter is_decision) (one_more n within) ∙ filter-append is_decision (take n es) (entry n ∷ []) in
            ap (filter is_decision) (sym (below_last k front (take n es) (drops n k within p.1))) ∙ decided_to k n (omega arith)
            ∙ sym (ap (take k) split ∙ take-append-le k ds (filter is_decision (entry n ∷ [])) (omega (arith, p.1)))
      ]

  whole : take (length es) es ≡ es
  whole = take_all (length es) es (omega arith)

  pub below_front : (k : ℕ) → IsFrontOf (below k es) es
  below_front k = subst (λ (xs : List Assigned). IsFrontOf (below k xs) xs) whole (front_to k (length es) (omega arith))

  pub below_decided : (k : ℕ) → filter is_decision (below k es) ≡ take k (filter is_decision es)
  below_decided k = subst (λ (xs : List Assigned). filter is_decision (below k xs) ≡ take k (filter is_decision xs)) whole (decided_to k (length es) (omega arith))

  pub below_depth : (k : ℕ) → k ≤ depth es → depth (below k es) ≡ k
  below_depth k less =
      let long : length (filter is_decision es) ≡ depth es = length-filter is_decision es in
      sym (length-filter is_decision (below k es)) ∙ ap length (below_decided k) ∙ length-take-le k (filter is_decision es) (omega (arith, less))

  found_on : (k t : ℕ) (x : Assigned) → assigned (below k es) t ≡ Some x → assigned es t ≡ Some x
  found_on k t x at = let f = below_front k in subst (λ (xs : List Assigned). assigned xs t ≡ Some x) (sym f.joined) (assigned_found (below k es) f.more t x at)

  pub below_true : (k t : ℕ) (b : Bool) → truth_on (below k es) t ≡ Some b → truth_on es t ≡ Some b
  below_true k t b at = let f = below_front k in subst (λ (xs : List Assigned). truth_on xs t ≡ Some b) (sym f.joined) (truth_found (below k es) f.more t b at)

  -- what is false is so there, or free, by its level
  pub below_false : (k : ℕ) (l : Lit) → IsFalseOn es l → level_on es l.atom ≤ k → IsFalseOn (below k es) l
  below_false k l falsified low =
      let e = false_entry es l falsified in
      let level = level_found es l.atom e.0 e.1 in
      ap (option_map (λ (x : Assigned). x.literal.sign)) (found_below k l.atom es e.0 e.1 (omega (arith, level, low))) ∙ ap Some e.2

  pub below_free : (k : ℕ) (l : Lit) → IsFalseOn es l → k < level_on es l.atom → IsFreeOn (below k es) l
  below_free k l falsified high =
      let e = false_entry es l falsified in
      let level = level_found es l.atom e.0 e.1 in
      elim (assigned (below k es) l.atom) as (λ o. assigned (below k es) l.atom ≡ o → IsFreeOn (below k es) l) [
        | None ↦ λ none. missing_free (below k es) l.atom none
        | Some x ↦ λ there.
            let same : e.0 ≡ x = same_Some e.0 x (sym e.1 ∙ found_on k l.atom x there) in
            let low = found_low k l.atom es x there in
            let is = ap (λ (y : Assigned). y.level) same in
            absurd (omega (arith, level, low, high, is))
      ] refl

  pub free_high : (k : ℕ) (l : Lit) → IsFalseOn es l → IsFreeOn (below k es) l → k < level_on es l.atom
  free_high k l falsified free =
      elim (leb_tells (level_on es l.atom) k) [
        | inl p ↦ let clash : None ≡ Some (not l.sign) = sym free ∙ below_false k l falsified p.1 in cc
        | inr p ↦ p.1
      ]
