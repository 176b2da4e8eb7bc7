-- Forms that join a basis: units as nonbasic forms, and forms over units of the list as basic ones.
use Rattle.std.proofs.Common.{◌≡◌, ℕ, suc, ◌<◌, ◌≤◌, Bool, true, false, ◌⊎◌, inl, inr, List, [], ◌∷◌, ◌++◌, length, pos, refl, sym, ap, ◌∙◌, subst, true≢false, arith}
use Rattle.std.specs.Prelude.{◌==◌, if◌then◌else◌, Contains}
use Rattle.std.proofs.Math.Seq.{get_or-append_seam}
use Rattle.std.proofs.lemmas.List.{get_or_append_left, get_or_default, get_or_past, length_push}
use Rattle.std.proofs.lemmas.List.Elements.{Contains-append_left, Contains-append_right}
use Rattle.nz_ints.proofs.Ring.{Atom, Literal, ◌⊕◌, ◌⊗◌}
use Rattle.nz_lists.proofs.Numbers.{equal-number, same-number}
use Rattle.nz_fractions.specs.Fraction.{Fraction, whole, ◌=ℚ◌, ◌+ℚ◌, ◌*ℚ◌, Sum, Product, outcome}
use Rattle.nz_spec.specs.numbers.Computation.{Computation}
use Rattle.nz_spec.specs.terms.Term.{Term}
use Rattle.nz_spec.specs.clauses.Literal.{are_same_term}
use Rattle.nz_spec.specs.terms.Form.{Part, unit_form}
use Rattle.nz_spec.specs.simplex.Basis.{Valuation, worth, form_at, Coefficients, weighted, mix, IsZeroAtBasic, IsRow, HasItsUnits, IsBasis, AreIndependent, alone}
use Rattle.nz_spec.specs.simplex.BasisMoves.{numbers, Rows, AreRows, plus_multiple, with_nonbasic, AreNumbered, part_added, parts_added, joining_row, JoinsKeepBasis}
use Rattle.nz_fractions.proofs.Laws.{=ℚ_refl, =ℚ-from_same, =ℚ_sym}
use Rattle.nz_fractions.proofs.Arithmetic.{+ℚ-zero, +ℚ-same, *ℚ-one, outcome-sum, outcome-product}
use Rattle.nz_fractions.proofs.Identities.{zero_times, times_zero}
use Rattle.nz_fractions.proofs.Solver.{◌∙ℚ◌, solve, plus_left, plus_right, times_left, times_right}
use Rattle.nz_spec.proofs.Same.{same_term, one_term}
use Rattle.nz_spec.proofs.BasisSums.{sum-same, sum-zero}
use Rattle.nz_spec.proofs.BasisRows.{weighted-same, weighted-plus, weighted-zero, nonbasic-plus, alone-row, coefficients_are_unique}

-- ---- Lists with one more at the end

pub length-more : {A : Type 0} (xs : List A) (x : A) → length (xs ++ x ∷ []) ≡ suc (length xs)
length-more xs x = length_push xs x ∙ omega arith

contains-last : {A : Type 0} (xs : List A) (x : A) → Contains (xs ++ x ∷ []) x
contains-last xs x = Contains-append_right xs (x ∷ []) x (0, omega arith, refl)

last_or_before : (k n m : ℕ) → m ≡ suc n → k < m → (k ≡ n) ⊎ (k < n)
last_or_before k n m e h = grind (arith, e, h)

-- ---- Units

pub unit_worth : (v : Valuation) (u : Term) → worth v (unit_form u).parts =ℚ v u
unit_worth v u = solve (v u ∷ []) (Literal (pos 1) ⊗ Atom 0 ⊕ Literal (pos 0)) (Atom 0) refl

-- this unit is worth 1, and each other one nothing
abbrev pub only : Term → Valuation
only u t = if are_same_term t u then whole (pos 1) else whole (pos 0)

pub only-here : (u : Term) → only u u =ℚ whole (pos 1)
only-here u = by_test (are_same_term u u) (one_term u)
  where
    by_test : (b : Bool) → b ≡ true → (if b then whole (pos 1) else whole (pos 0)) =ℚ whole (pos 1)
    by_test true e = =ℚ_refl (whole (pos 1))
    by_test false e = absurd (true≢false (sym e))

pub only-there : (u t : Term) → (t ≡ u → ⊥) → only u t =ℚ whole (pos 0)
only-there u t h = by_test (are_same_term t u) refl
  where
    by_test : (b : Bool) → are_same_term t u ≡ b → (if b then whole (pos 1) else whole (pos 0)) =ℚ whole (pos 0)
    by_test true e = absurd (h (same_term t u e))
    by_test false e = =ℚ_refl (whole (pos 0))

-- a form that hasn't the unit
worth-without : (fs : List (List Part)) (u : Term) → (Contains fs (unit_form u).parts → ⊥) → (ps : List Part) → HasItsUnits fs ps → worth (only u) ps =ℚ whole (pos 0)
worth-without fs u new [] h = =ℚ_refl (whole (pos 0))
worth-without fs u new (p ∷ ps) h =
    +ℚ-same
    (times_right p.coefficient (only-there u p.unit (λ (e : p.unit ≡ u). new (subst (λ (t : Term). Contains fs (unit_form t).parts) e h.0)))
    ∙ℚ times_zero p.coefficient)
    (worth-without fs u new ps h.1)
    ∙ℚ +ℚ-zero (whole (pos 0))

units-more : (fs : List (List Part)) (f : List Part) (ps : List Part) → HasItsUnits fs ps → HasItsUnits (fs ++ f ∷ []) ps
units-more fs f [] h = _
units-more fs f (p ∷ ps) h = (Contains-append_left fs (f ∷ []) (unit_form p.unit).parts h.0, units-more fs f ps h.1)

module _ (fs : List (List Part)) (nonbasic : ℕ → Bool) where
  -- ---- Sums of rows

  -- a multiple of a row is added to coefficients
  pub added-zero : (m : ℕ) (c d e : Coefficients) (s : Fraction) → IsZeroAtBasic nonbasic c → IsRow fs nonbasic m d → ((k : ℕ) → e k =ℚ (c k +ℚ s *ℚ d k)) → IsZeroAtBasic nonbasic e
  added-zero m c d e s z r h k b = h k ∙ℚ nonbasic-plus fs nonbasic c d s z r.at_basic k b

  pub added-mix : (m : ℕ) (c d e : Coefficients) (s : Fraction) → IsRow fs nonbasic m d → ((k : ℕ) → e k =ℚ (c k +ℚ s *ℚ d k)) → (v : Valuation) → mix fs e v =ℚ (mix fs c v +ℚ s *ℚ worth v (form_at fs m))
  added-mix m c d e s r h v =
      let y : Coefficients = λ k. worth v (form_at fs k) in
      weighted-same (length fs) y e (λ k. c k +ℚ s *ℚ d k) h
      ∙ℚ weighted-plus (length fs) y c d s
      ∙ℚ plus_right (mix fs c v) (times_right s (=ℚ_sym (r.equal v)))

  -- coefficients that sum to a list of parts
  pub record Spans (ps : List Part) (c : Coefficients) : Type 0 where
    pub at_basic : IsZeroAtBasic nonbasic c
    pub equal : (v : Valuation) → worth v ps =ℚ mix fs c v

  spanned : IsBasis fs nonbasic → (ps : List Part) → HasItsUnits fs ps → (c : Coefficients) × Spans ps c
  spanned b [] h = (
    λ k. whole (pos 0),
    record {
      at_basic = λ k e. =ℚ_refl (whole (pos 0));
      equal = λ v. =ℚ_sym (weighted-zero (length fs) (λ k. worth v (form_at fs k)) (λ k. whole (pos 0)) (λ k. =ℚ_refl (whole (pos 0))));
    },
  )
  spanned b (p ∷ ps) h = by_parts h.0 (spanned b ps h.1)
    where
      by_row : (m : ℕ) → form_at fs m ≡ (unit_form p.unit).parts → (d : Coefficients) × IsRow fs nonbasic m d → (c : Coefficients) × Spans ps c → (c : Coefficients) × Spans (p ∷ ps) c
      by_row m e (d, r) (c, s) =
          let q = p.coefficient in
          let more : Coefficients = λ k. c k +ℚ q *ℚ d k in (
            more,
            record {
              at_basic = added-zero m c d more q s.at_basic r (λ k. =ℚ_refl (more k));
              equal = λ v.
                  =ℚ_sym (added-mix m c d more q r (λ k. =ℚ_refl (more k)) v
                  ∙ℚ +ℚ-same (=ℚ_sym (s.equal v)) (times_right q (=ℚ-from_same (ap (worth v) e) ∙ℚ unit_worth v p.unit))
                  ∙ℚ solve (worth v ps ∷ (q *ℚ v p.unit) ∷ []) (Atom 0 ⊕ Atom 1) (Atom 1 ⊕ Atom 0) refl);
            },
          )

      by_parts : Contains fs (unit_form p.unit).parts → (c : Coefficients) × Spans ps c → (c : Coefficients) × Spans (p ∷ ps) c
      by_parts (m, l, e) rest = by_row m (get_or_default fs m [] (unit_form p.unit).parts l ∙ e) (b.some m l) rest

  -- ---- One form more

  module _ (f : List Part) where
    mix-more : (c : Coefficients) (v : Valuation) → mix (fs ++ f ∷ []) c v =ℚ (mix fs c v +ℚ c (length fs) *ℚ worth v f)
    mix-more c v =
        let y : Coefficients = λ k. worth v (form_at (fs ++ f ∷ []) k) in
        =ℚ-from_same (ap (λ (n : ℕ). weighted n c y) (length-more fs f))
        ∙ℚ +ℚ-same
        (sum-same (length fs) (λ k. c k *ℚ y k) (λ k. c k *ℚ worth v (form_at fs k))
        (λ k p. =ℚ-from_same (ap (λ (g : List Part). c k *ℚ worth v g) (get_or_append_left fs (f ∷ []) [] k p))))
        (=ℚ-from_same (ap (λ (g : List Part). c (length fs) *ℚ worth v g) (get_or-append_seam fs f [] [])))

    mix-stays : (c : Coefficients) (v : Valuation) → c (length fs) =ℚ whole (pos 0) → mix (fs ++ f ∷ []) c v =ℚ mix fs c v
    mix-stays c v z =
        mix-more c v
        ∙ℚ plus_right (mix fs c v) (times_left (worth v f) z ∙ℚ zero_times (worth v f))
        ∙ℚ +ℚ-zero (mix fs c v)

    new_is_basic : IsBasis fs nonbasic → nonbasic (length fs) ≡ false
    new_is_basic b = by_test (nonbasic (length fs)) refl
      where
        by_test : (t : Bool) → nonbasic (length fs) ≡ t → t ≡ false
        by_test true e = absurd (omega (arith, b.listed (length fs) e))
        by_test false e = refl

    -- what is zero at the basic forms, and at the new one
    row-stays : IsBasis fs nonbasic → (after : ℕ → Bool) → ((k : ℕ) → after k ≡ false → nonbasic k ≡ false) → (i : ℕ) (c : Coefficients) → i < length fs → IsRow fs nonbasic i c → IsRow (fs ++ f ∷ []) after i c
    row-stays b after less i c p r = record {
      at_basic = λ k e. r.at_basic k (less k e);
      equal = λ v.
          =ℚ-from_same (ap (worth v) (get_or_append_left fs (f ∷ []) [] i p))
          ∙ℚ r.equal v
          ∙ℚ =ℚ_sym (mix-stays c v (r.at_basic (length fs) (new_is_basic b)));
    }

    -- the new form, where coefficients sum to it
    new-row : IsBasis fs nonbasic → (c : Coefficients) → Spans f c → IsRow (fs ++ f ∷ []) nonbasic (length fs) c
    new-row b c s = record {
      at_basic = s.at_basic;
      equal = λ v.
          =ℚ-from_same (ap (worth v) (get_or-append_seam fs f [] []))
          ∙ℚ s.equal v
          ∙ℚ =ℚ_sym (mix-stays c v (s.at_basic (length fs) (new_is_basic b)));
    }

    all-units : IsBasis fs nonbasic → HasItsUnits (fs ++ f ∷ []) f → (i : ℕ) → HasItsUnits (fs ++ f ∷ []) (form_at (fs ++ f ∷ []) i)
    all-units b own i = by_place (places i (length fs))
      where
        places : (k n : ℕ) → (k < n) ⊎ ((k ≡ n) ⊎ (n < k))
        places k n = grind arith

        by_place : (i < length fs) ⊎ ((i ≡ length fs) ⊎ (length fs < i)) → HasItsUnits (fs ++ f ∷ []) (form_at (fs ++ f ∷ []) i)
        by_place (inl p) = subst (λ (g : List Part). HasItsUnits (fs ++ f ∷ []) g) (sym (get_or_append_left fs (f ∷ []) [] i p)) (units-more fs f (form_at fs i) (b.units i))
        by_place (inr (inl e)) = subst (λ (g : List Part). HasItsUnits (fs ++ f ∷ []) g) (sym (ap (form_at (fs ++ f ∷ [])) e ∙ get_or-append_seam fs f [] [])) own
        by_place (inr (inr p)) =
            subst (λ (g : List Part). HasItsUnits (fs ++ f ∷ []) g)
            (sym (get_or_past (fs ++ f ∷ []) i [] (subst (λ (n : ℕ). n ≤ i) (sym (length-more fs f)) (omega (arith, p)))))
            _

    within-more : (k : ℕ) → k < length fs → k < length (fs ++ f ∷ [])
    within-more k p = subst (λ (n : ℕ). k < n) (sym (length-more fs f)) (omega (arith, p))

    -- a basic form joins
    form-joins : IsBasis fs nonbasic → HasItsUnits fs f → IsBasis (fs ++ f ∷ []) nonbasic
    form-joins b own =
        coefficients_are_unique.basis (fs ++ f ∷ []) nonbasic
        (all-units b (units-more fs f f own))
        (λ k e. within-more k (b.listed k e))
        (λ i p. rows i (last_or_before i (length fs) (length (fs ++ f ∷ [])) (length-more fs f) p))
        (λ c z none k.
        coefficients_are_unique.independent fs nonbasic b c z
        (λ v. =ℚ_sym (mix-stays c v (z (length fs) (new_is_basic b))) ∙ℚ none v) k)
      where
        rows : (i : ℕ) → (i ≡ length fs) ⊎ (i < length fs) → (c : Coefficients) × IsRow (fs ++ f ∷ []) nonbasic i c
        rows i (inl e) =
            let some = spanned b f own in
            (some.0, subst (λ (k : ℕ). IsRow (fs ++ f ∷ []) nonbasic k some.0) (sym e) (new-row b some.0 some.1))
        rows i (inr p) = let some = b.some i p in (some.0, row-stays b nonbasic (λ k e. e) i some.0 p some.1)

  -- ---- A unit joins

  module _ (b : IsBasis fs nonbasic) (u : Term) where
    abbrev unit : List Part
    unit = (unit_form u).parts

    abbrev after : ℕ → Bool
    after = with_nonbasic nonbasic (length fs)

    after-less : (k : ℕ) → after k ≡ false → nonbasic k ≡ false
    after-less k = by_test (k == length fs)
      where
        by_test : (t : Bool) → (if t then true else nonbasic k) ≡ false → nonbasic k ≡ false
        by_test true e = absurd (true≢false e)
        by_test false e = e

    after-last : (k : ℕ) → k ≡ length fs → after k ≡ true
    after-last k e = by_test (k == length fs) (equal-number k (length fs) e)
      where
        by_test : (t : Bool) → t ≡ true → (if t then true else nonbasic k) ≡ true
        by_test true g = refl
        by_test false g = absurd (true≢false (sym g))

    after-listed : (k : ℕ) → after k ≡ true → k < length (fs ++ unit ∷ [])
    after-listed k = by_test (k == length fs) refl
      where
        by_test : (t : Bool) → (k == length fs) ≡ t → (if t then true else nonbasic k) ≡ true → k < length (fs ++ unit ∷ [])
        by_test true g e = subst (λ (n : ℕ). k < n) (sym (length-more fs unit)) (omega (arith, same-number k (length fs) g))
        by_test false g e = within-more unit k (b.listed k e)

    after-independent : (Contains fs unit → ⊥) → AreIndependent (fs ++ unit ∷ []) after
    after-independent new c z none = coefficients_are_unique.independent fs nonbasic b c at_basic (λ v. =ℚ_sym (mix-stays unit c v last) ∙ℚ none v)
      where
        n : ℕ
        n = length fs

        others : mix fs c (only u) =ℚ whole (pos 0)
        others =
            sum-zero (length fs) (λ k. c k *ℚ worth (only u) (form_at fs k))
            (λ k p. times_right (c k) (worth-without fs u new (form_at fs k) (b.units k)) ∙ℚ times_zero (c k))

        last : c (length fs) =ℚ whole (pos 0)
        last =
            =ℚ_sym (mix-more unit c (only u)
            ∙ℚ +ℚ-same others (times_right (c (length fs)) (unit_worth (only u) u ∙ℚ only-here u))
            ∙ℚ solve (c (length fs) ∷ []) (Literal (pos 0) ⊕ Atom 0 ⊗ Literal (pos 1)) (Atom 0) refl)
            ∙ℚ none (only u)

        at_basic : IsZeroAtBasic nonbasic c
        at_basic k e = by_test (k == length fs) refl
          where
            kept : (t : Bool) → t ≡ false → (if t then true else nonbasic k) ≡ false
            kept true g = absurd (true≢false g)
            kept false g = e

            by_test : (t : Bool) → (k == length fs) ≡ t → c k =ℚ whole (pos 0)
            by_test true g = subst (λ (m : ℕ). c m =ℚ whole (pos 0)) (sym (same-number k (length fs) g)) last
            by_test false g = z k (kept (k == length fs) g)

    unit-joins : (Contains fs unit → ⊥) → IsBasis (fs ++ unit ∷ []) after
    unit-joins new =
        coefficients_are_unique.basis (fs ++ unit ∷ []) after
        (all-units unit b (contains-last fs unit, _))
        after-listed
        (λ i p. rows i (last_or_before i (length fs) (length (fs ++ unit ∷ [])) (length-more fs unit) p))
        (after-independent new)
      where
        rows : (i : ℕ) → (i ≡ length fs) ⊎ (i < length fs) → (c : Coefficients) × IsRow (fs ++ unit ∷ []) after i c
        rows i (inl e) = (
          alone i,
          alone-row (fs ++ unit ∷ []) after i
              (subst (λ (n : ℕ). i < n) (sym (length-more fs unit)) (omega (arith, e)))
              (after-last i e),
        )
        rows i (inr p) = let some = b.some i p in (some.0, row-stays unit b after after-less i some.0 p some.1)

  -- ---- The row that is computed

  module _ (b : IsBasis fs nonbasic) (rows : Rows) (are : AreRows fs nonbasic rows) (number : Term → ℕ) (ks : List ℕ) where
    abbrev added : Coefficients → Part → Coefficients
    added c p = (part_added ks nonbasic rows number c p).result

    -- what is added at the number of a unit
    raised : (c : Coefficients) (m : ℕ) (q : Fraction) (k : ℕ) → (if k == m then outcome Sum (c k) q else c k) =ℚ (c k +ℚ q *ℚ alone m k)
    raised c m q k = by_test (k == m)
      where
        by_test : (t : Bool) → (if t then outcome Sum (c k) q else c k) =ℚ (c k +ℚ q *ℚ (if t then whole (pos 1) else whole (pos 0)))
        by_test true = outcome-sum (c k) q ∙ℚ plus_right (c k) (=ℚ_sym (*ℚ-one q))
        by_test false = =ℚ_sym (plus_right (c k) (times_zero q) ∙ℚ +ℚ-zero (c k))

    part-row : (c : Coefficients) (p : Part) → number p.unit < length fs → (d : Coefficients) × IsRow fs nonbasic (number p.unit) d × ((k : ℕ) → added c p k =ℚ (c k +ℚ p.coefficient *ℚ d k))
    part-row c p l = by_test (nonbasic (number p.unit)) refl
      where
        m : ℕ
        m = number p.unit

        by_test : (t : Bool) → nonbasic (number p.unit) ≡ t → (d : Coefficients) × IsRow fs nonbasic (number p.unit) d
            × ((k : ℕ) → (if t then (let x : Computation Coefficients = record {
              result = λ k. if k == number p.unit then outcome Sum (c k) p.coefficient else c k;
              operations = record { operator = Sum; left = c (number p.unit); right = p.coefficient } ∷ [];
            } in x) else plus_multiple ks c p.coefficient (rows (number p.unit))).result k =ℚ (c k +ℚ p.coefficient *ℚ d k))
        by_test true e = (alone (number p.unit), alone-row fs nonbasic (number p.unit) l e, raised c (number p.unit) p.coefficient)
        by_test false e = (
          rows (number p.unit),
          are (number p.unit) l e,
          λ k.
              outcome-sum (c k) (outcome Product p.coefficient (rows (number p.unit) k))
              ∙ℚ plus_right (c k) (outcome-product p.coefficient (rows (number p.unit) k)),
        )

    added-row : (c : Coefficients) (ps : List Part) → IsZeroAtBasic nonbasic c → AreNumbered fs number ps
        → IsZeroAtBasic nonbasic (parts_added ks nonbasic rows number c ps).result
        × ((v : Valuation) → mix fs (parts_added ks nonbasic rows number c ps).result v =ℚ (mix fs c v +ℚ worth v ps))
    added-row c [] z h = (z, λ v. =ℚ_sym (+ℚ-zero (mix fs c v)))
    added-row c (p ∷ ps) z h = by_row (part-row c p h.0.0) (λ e. added-row (added c p) ps e h.1)
      where
        by_row : (d : Coefficients) × IsRow fs nonbasic (number p.unit) d × ((k : ℕ) → added c p k =ℚ (c k +ℚ p.coefficient *ℚ d k))
            → (IsZeroAtBasic nonbasic (added c p) → IsZeroAtBasic nonbasic (parts_added ks nonbasic rows number (added c p) ps).result
            × ((v : Valuation) → mix fs (parts_added ks nonbasic rows number (added c p) ps).result v =ℚ (mix fs (added c p) v +ℚ worth v ps)))
            → IsZeroAtBasic nonbasic (parts_added ks nonbasic rows number (added c p) ps).result
            × ((v : Valuation) → mix fs (parts_added ks nonbasic rows number (added c p) ps).result v =ℚ (mix fs c v +ℚ (p.coefficient *ℚ v p.unit +ℚ worth v ps)))
        by_row (d, r, e) rest =
            let q = p.coefficient in
            let later = rest (added-zero (number p.unit) c d (added c p) q z r e) in (
              later.0,
              λ v.
                  later.1 v
                  ∙ℚ plus_left (worth v ps)
                  (added-mix (number p.unit) c d (added c p) q r e v
                  ∙ℚ plus_right (mix fs c v) (times_right q (=ℚ-from_same (ap (worth v) h.0.1) ∙ℚ unit_worth v p.unit)))
                  ∙ℚ solve (mix fs c v ∷ (q *ℚ v p.unit) ∷ worth v ps ∷ []) ((Atom 0 ⊕ Atom 1) ⊕ Atom 2) (Atom 0 ⊕ (Atom 1 ⊕ Atom 2)) refl,
            )

    joining-spans : (f : List Part) → AreNumbered fs number f → Spans f (parts_added ks nonbasic rows number (λ k. whole (pos 0)) f).result
    joining-spans f h =
        let none : Coefficients = λ k. whole (pos 0) in
        let row = added-row none f (λ k e. =ℚ_refl (whole (pos 0))) h in
        record {
          at_basic = row.0;
          equal = λ v.
              =ℚ_sym (row.1 v
              ∙ℚ plus_left (worth v f) (weighted-zero (length fs) (λ k. worth v (form_at fs k)) none (λ k. =ℚ_refl (whole (pos 0))))
              ∙ℚ solve (worth v f ∷ []) (Literal (pos 0) ⊕ Atom 0) (Atom 0) refl);
        }

pub joins_keep_basis : JoinsKeepBasis
joins_keep_basis = record {
  empty = coefficients_are_unique.basis [] (λ k. false) (λ i. _) (λ k e. absurd (true≢false (sym e))) (λ i p. absurd (omega (arith, p))) (λ c z none k. z k refl);
  unit = λ fs nonbasic u b new. unit-joins fs nonbasic b u new;
  form = λ fs nonbasic f b own. form-joins fs nonbasic f b own;
  stays_by_unit = λ fs nonbasic u i c b p r. row-stays fs nonbasic (unit_form u).parts b (with_nonbasic nonbasic (length fs)) (after-less fs nonbasic b u) i c p r;
  stays_by_form = λ fs nonbasic f i c b p r. row-stays fs nonbasic f b nonbasic (λ k e. e) i c p r;
  row = λ fs nonbasic rows number f b are h.
      new-row fs nonbasic f b (joining_row (length fs) nonbasic rows number f).result
      (joining-spans fs nonbasic b rows are number (numbers (length fs) nonbasic) f h);
}
