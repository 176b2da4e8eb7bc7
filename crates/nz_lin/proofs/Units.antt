-- Parts in the order of their units, where one goes, changes or comes.
use Rattle.std.proofs.Common.{◌≡◌, ℕ, ◌+◌, ◌<◌, ◌≤◌, suc, zero, List, [], ◌∷◌, ◌++◌, length, map, take, drop, get_or, refl, sym, ap, ap₂, subst, ◌∙◌, arith}
use Rattle.std.specs.List.{AllByRecursion, AllWithin}
use Rattle.std.proofs.lemmas.List.{get_or-take, get_or-drop, length-take-le, length-drop}
use Rattle.std.proofs.lemmas.List.Elements.{All-from_recursion, recursion_from_All}
use Rattle.nz_fractions.specs.Fraction.{Fraction, neg_ℚ}
use Rattle.nz_spec.specs.terms.Form as spec
use Rattle.nz_spec.specs.terms.Table.{Node}
use Rattle.nz_lin.specs.declared.form.Part.{Part}
use Rattle.nz_lin.specs.Forms.{NamesUnit, AreInOrder, AreUnits, form_over, negated, part_over, parts_over}

-- ---- What holds of each

module _ {A : Type 0} (P : A → Type 0) where
  all_without : (xs : List A) (p : A) (ys : List A) → AllByRecursion P (xs ++ p ∷ ys) → AllByRecursion P (xs ++ ys)
  all_without [] p ys h = h.1
  all_without (x ∷ xs) p ys h = (h.0, all_without xs p ys h.1)

  all_with : (xs : List A) (q : A) (ys : List A) → P q → AllByRecursion P (xs ++ ys) → AllByRecursion P (xs ++ q ∷ ys)
  all_with [] q ys k h = (k, h)
  all_with (x ∷ xs) q ys k h = (h.0, all_with xs q ys k h.1)

  all_changed : (xs : List A) (p q : A) (ys : List A) → (P p → P q) → AllByRecursion P (xs ++ p ∷ ys) → AllByRecursion P (xs ++ q ∷ ys)
  all_changed [] p q ys k h = (k h.0, h.1)
  all_changed (x ∷ xs) p q ys k h = (h.0, all_changed xs p q ys k h.1)

  pub all_front : (xs ys : List A) → AllByRecursion P (xs ++ ys) → AllByRecursion P xs
  all_front [] ys h = _
  all_front (x ∷ xs) ys h = (h.0, all_front xs ys h.1)

  pub all_back : (xs ys : List A) → AllByRecursion P (xs ++ ys) → AllByRecursion P ys
  all_back [] ys h = h
  all_back (x ∷ xs) ys h = all_back xs ys h.1

  -- those before a place, and those from it on
  pub all_before : (xs : List A) (n : ℕ) → n ≤ length xs → AllWithin P xs 0 n → AllByRecursion P (take n xs)
  all_before xs n le h =
      recursion_from_All P (take n xs) (λ k d below.
      let inside : k < n = omega (arith, below, length-take-le n xs le) in
      subst P (sym (get_or-take n xs k d inside)) (h k d (omega arith) inside))

  pub all_behind : (xs : List A) (n : ℕ) → n ≤ length xs → AllWithin P xs n (length xs) → AllByRecursion P (drop n xs)
  all_behind xs n le h =
      recursion_from_All P (drop n xs) (λ k d below.
      let inside : n + k < length xs = omega (arith, below, length-drop n xs) in
      subst P (sym (get_or-drop n xs k d)) (h (n + k) d (omega arith) inside))

-- ---- The order

order_without : (xs : List Part) (p : Part) (ys : List Part) → AreInOrder (xs ++ p ∷ ys) → AreInOrder (xs ++ ys)
order_without [] p ys h = h.1
order_without (x ∷ xs) p ys h = (all_without (λ (q : Part). x.unit < q.unit) xs p ys h.0, order_without xs p ys h.1)

order_with : (xs : List Part) (q : Part) (ys : List Part) → AllByRecursion (λ (p : Part). p.unit < q.unit) xs → AllByRecursion (λ (p : Part). q.unit < p.unit) ys
    → AreInOrder (xs ++ ys) → AreInOrder (xs ++ q ∷ ys)
order_with [] q ys below above h = (above, h)
order_with (x ∷ xs) q ys below above h = (all_with (λ (p : Part). x.unit < p.unit) xs q ys below.0 h.0, order_with xs q ys below.1 above h.1)

-- another coefficient
abbrev pub changed : Part → Fraction → Part
changed p c = record { unit = p.unit; sort = p.sort; coefficient = c }

order_changed : (xs : List Part) (p : Part) (c : Fraction) (ys : List Part) → AreInOrder (xs ++ p ∷ ys) → AreInOrder (xs ++ changed p c ∷ ys)
order_changed [] p c ys h = h
order_changed (x ∷ xs) p c ys h = (all_changed (λ (q : Part). x.unit < q.unit) xs p (changed p c) ys (λ k. k) h.0, order_changed xs p c ys h.1)

-- a later part has a greater number
pub order_at : (xs : List Part) → AreInOrder xs → (i j : ℕ) (d : Part) → i < j → j < length xs → (get_or xs i d).unit < (get_or xs j d).unit
order_at [] h i j d before inside = absurd (omega (arith, inside))
order_at (x ∷ xs) h i zero d before inside = absurd (omega (arith, before))
order_at (x ∷ xs) h zero (suc j) d before inside = All-from_recursion (λ (q : Part). x.unit < q.unit) xs h.0 j d (omega (arith, inside))
order_at (x ∷ xs) h (suc i) (suc j) d before inside = order_at xs h.1 i j d (omega (arith, before)) (omega (arith, inside))

-- ---- Units

module _ (ns : List Node) where
  pub units_without : (xs : List Part) (p : Part) (ys : List Part) → AreUnits ns (xs ++ p ∷ ys) → AreUnits ns (xs ++ ys)
  units_without xs p ys h = record { names = all_without (NamesUnit ns) xs p ys h.names; in_order = order_without xs p ys h.in_order }

  pub units_changed : (xs : List Part) (p : Part) (c : Fraction) (ys : List Part) → AreUnits ns (xs ++ p ∷ ys) → AreUnits ns (xs ++ changed p c ∷ ys)
  units_changed xs p c ys h =
      record { names = all_changed (NamesUnit ns) xs p (changed p c) ys (λ k. k) h.names; in_order = order_changed xs p c ys h.in_order }

  pub units_with : (xs : List Part) (q : Part) (ys : List Part) → NamesUnit ns q → AllByRecursion (λ (p : Part). p.unit < q.unit) xs → AllByRecursion (λ (p : Part). q.unit < p.unit) ys
      → AreUnits ns (xs ++ ys) → AreUnits ns (xs ++ q ∷ ys)
  units_with xs q ys named below above h =
      record { names = all_with (NamesUnit ns) xs q ys named h.names; in_order = order_with xs q ys below above h.in_order }

  -- ---- Negations

  pub negated_over : (ps : List Part) → parts_over ns (map negated ps) ≡ map spec.negated_part (parts_over ns ps)
  negated_over [] = refl
  negated_over (p ∷ ps) = ap (λ (qs : List spec.Part). spec.negated_part (part_over ns p) ∷ qs) (negated_over ps)

  names_negated : (ps : List Part) → AllByRecursion (NamesUnit ns) ps → AllByRecursion (NamesUnit ns) (map negated ps)
  names_negated [] h = _
  names_negated (p ∷ ps) h = (h.0, names_negated ps h.1)

  above_negated : (u : ℕ) (ps : List Part) → AllByRecursion (λ (q : Part). u < q.unit) ps → AllByRecursion (λ (q : Part). u < q.unit) (map negated ps)
  above_negated u [] h = _
  above_negated u (p ∷ ps) h = (h.0, above_negated u ps h.1)

  order_negated : (ps : List Part) → AreInOrder ps → AreInOrder (map negated ps)
  order_negated [] h = _
  order_negated (p ∷ ps) h = (above_negated p.unit ps h.0, order_negated ps h.1)

  pub units_negated : (ps : List Part) → AreUnits ns ps → AreUnits ns (map negated ps)
  units_negated ps h = record { names = names_negated ps h.names; in_order = order_negated ps h.in_order }

-- ---- One unit

pub one_unit : (ns : List Node) (p : Part) → NamesUnit ns p → AreUnits ns (p ∷ [])
one_unit ns p h = record { names = (h, tt); in_order = (tt, tt) }

pub negated_is : (ns : List Node) (new ps : List Part) (o p : Fraction) → new ≡ map negated ps → o ≡ neg_ℚ p
    → form_over ns (record { parts = new; offset = o }) ≡ spec.negated_form (form_over ns (record { parts = ps; offset = p }))
negated_is ns new ps o p e k = ap₂ (λ (qs : List spec.Part) (r : Fraction). record { parts = qs; offset = r }) (ap (parts_over ns) e ∙ negated_over ns ps) k
