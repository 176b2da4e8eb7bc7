-- Exchanges: adding a multiple of "the sum of form i, less form i" to coefficients keeps what they sum to. It leads from the old
-- coefficients to the new ones, and back.
use Rattle.std.proofs.Common.{◌≡◌, ℕ, ◌<◌, Bool, true, false, List, [], ◌∷◌, length, pos, negsuc, refl, sym, ap, ◌∙◌, subst, true≢false}
use Rattle.std.specs.Prelude.{◌==◌, not, ◌&&◌, if◌then◌else◌, ◌≢◌}
use Rattle.nz_ints.proofs.Ring.{Atom, Literal, ◌⊕◌, ◌⊗◌, Minus}
use Rattle.nz_lists.proofs.Numbers.{equal-number, other-number, same-number}
use Rattle.nz_fractions.specs.Fraction.{Fraction, whole, ◌=ℚ◌, ◌+ℚ◌, neg_ℚ, ◌*ℚ◌, reciprocal, Product, Quotient, outcome}
use Rattle.nz_spec.specs.numbers.Computation.{at_once}
use Rattle.nz_spec.specs.terms.Term.{is_zero}
use Rattle.nz_spec.specs.terms.Form.{Part, unit_value, parts_value}
use Rattle.nz_spec.specs.simplex.Basis.{Valuation, worth, form_at, Coefficients, weighted, mix, IsZeroAtBasic, IsRow, IsBasis, AreIndependent, alone, IsSolution}
use Rattle.nz_spec.specs.simplex.BasisMoves.{numbers, Rows, AreRows, plus_multiple, exchanged, MayExchange, solved, replaced, exchange, ExchangeKeepsBasis, SolutionsStay}
use Rattle.nz_fractions.proofs.Laws.{=ℚ_refl, =ℚ-from_same, =ℚ_sym}
use Rattle.nz_fractions.proofs.Order.{same-fraction_eq}
use Rattle.nz_fractions.proofs.Arithmetic.{+ℚ-zero, +ℚ-same, neg_ℚ-same, outcome-sum, outcome-product}
use Rattle.nz_fractions.proofs.Identities.{zero_left, zero_times, nonzero-test}
use Rattle.nz_fractions.proofs.Quotients.{reciprocal-times, outcome-quotient, zero-factor}
use Rattle.nz_fractions.proofs.Solver.{◌∙ℚ◌, solve, solve_by, plus_left, plus_right, times_left, times_right}
use Rattle.nz_spec.proofs.FormValues.{value_is_worth}
use Rattle.nz_spec.proofs.BasisRows.{weighted-same, weighted-alike, weighted-plus, alone-here, alone-there, weighted-alone, alone-row, coefficients_are_unique}

-- equal coefficients make one row
pub row-same : (fs : List (List Part)) (nonbasic : ℕ → Bool) (i : ℕ) (c d : Coefficients) → ((k : ℕ) → d k =ℚ c k) → IsRow fs nonbasic i c → IsRow fs nonbasic i d
row-same fs nonbasic i c d h r = record {
  at_basic = λ k e. h k ∙ℚ r.at_basic k e;
  equal = λ v. r.equal v ∙ℚ =ℚ_sym (weighted-same (length fs) (λ k. worth v (form_at fs k)) d c h);
}

module _ (fs : List (List Part)) (nonbasic : ℕ → Bool) (i j : ℕ) (a : Coefficients) (inside : i < length fs) (leaves : nonbasic i ≡ false) (enters : nonbasic j ≡ true) (r : IsRow fs nonbasic i a) (h : a j =ℚ whole (pos 0) → ⊥) where
  -- s times the sum of i, less i, is added
  abbrev shifted : Coefficients → Fraction → Coefficients
  shifted c s k = (c k +ℚ s *ℚ a k) +ℚ neg_ℚ s *ℚ alone i k

  -- what makes the coefficient at j 0
  abbrev factor : Coefficients → Fraction
  factor c = neg_ℚ (c j *ℚ reciprocal (a j))

  apart : j ≢ i
  apart e = true≢false (sym enters ∙ ap nonbasic e ∙ leaves)

  weighted-shifted : (c : Coefficients) (s : Fraction) (y : Coefficients) → weighted (length fs) (shifted c s) y =ℚ ((weighted (length fs) c y +ℚ s *ℚ weighted (length fs) a y) +ℚ neg_ℚ s *ℚ y i)
  weighted-shifted c s y =
      weighted-plus (length fs) y (λ k. c k +ℚ s *ℚ a k) (alone i) (neg_ℚ s)
      ∙ℚ +ℚ-same (weighted-plus (length fs) y c a s) (times_right (neg_ℚ s) (weighted-alone (length fs) i y inside))

  weighted-kept : (c : Coefficients) (s : Fraction) (y : Coefficients) → weighted (length fs) a y =ℚ y i → weighted (length fs) (shifted c s) y =ℚ weighted (length fs) c y
  weighted-kept c s y e =
      weighted-shifted c s y
      ∙ℚ plus_left (neg_ℚ s *ℚ y i) (plus_right (weighted (length fs) c y) (times_right s e))
      ∙ℚ solve (weighted (length fs) c y ∷ s ∷ y i ∷ []) ((Atom 0 ⊕ Atom 1 ⊗ Atom 2) ⊕ Minus (Atom 1) ⊗ Atom 2) (Atom 0) refl

  mix-kept : (c : Coefficients) (s : Fraction) (v : Valuation) → mix fs (shifted c s) v =ℚ mix fs c v
  mix-kept c s v = weighted-kept c s (λ k. worth v (form_at fs k)) (=ℚ_sym (r.equal v))

  -- ---- at each number

  shifted-here : (c : Coefficients) (s : Fraction) → shifted c s i =ℚ (c i +ℚ neg_ℚ s)
  shifted-here c s =
      +ℚ-same (plus_right (c i) (times_right s (r.at_basic i leaves))) (times_right (neg_ℚ s) (alone-here i))
      ∙ℚ solve (c i ∷ s ∷ []) ((Atom 0 ⊕ Atom 1 ⊗ Literal (pos 0)) ⊕ Minus (Atom 1) ⊗ Literal (pos 1)) (Atom 0 ⊕ Minus (Atom 1)) refl

  shifted-there : (c : Coefficients) (s : Fraction) (k : ℕ) → k ≢ i → shifted c s k =ℚ (c k +ℚ s *ℚ a k)
  shifted-there c s k e =
      plus_right (c k +ℚ s *ℚ a k) (times_right (neg_ℚ s) (alone-there i k e))
      ∙ℚ solve (c k ∷ s ∷ a k ∷ []) ((Atom 0 ⊕ Atom 1 ⊗ Atom 2) ⊕ Minus (Atom 1) ⊗ Literal (pos 0)) (Atom 0 ⊕ Atom 1 ⊗ Atom 2) refl

  shifted-gone : (c : Coefficients) → (c j +ℚ factor c *ℚ a j) =ℚ whole (pos 0)
  shifted-gone c =
      solve (c j ∷ reciprocal (a j) ∷ a j ∷ []) (Atom 0 ⊕ Minus (Atom 0 ⊗ Atom 1) ⊗ Atom 2) (Atom 0 ⊕ Minus (Atom 0 ⊗ (Atom 1 ⊗ Atom 2))) refl
      ∙ℚ plus_right (c j) (neg_ℚ-same (times_right (c j) (reciprocal-times (a j) h)))
      ∙ℚ solve (c j ∷ []) (Atom 0 ⊕ Minus (Atom 0 ⊗ Literal (pos 1))) (Literal (pos 0)) refl

  -- ---- forth

  forth-zero : (c : Coefficients) → IsZeroAtBasic nonbasic c → IsZeroAtBasic (exchanged nonbasic i j) (shifted c (factor c))
  forth-zero c z k = by_tests (k == i) (k == j) refl refl
    where
      by_tests : (b d : Bool) → (k == i) ≡ b → (k == j) ≡ d → (if b then true else if d then false else nonbasic k) ≡ false → shifted c (factor c) k =ℚ whole (pos 0)
      by_tests true d e f g = absurd (true≢false g)
      by_tests false true e f g =
          subst (λ (m : ℕ). shifted c (factor c) m =ℚ whole (pos 0)) (sym (same-number k j f))
          (shifted-there c (factor c) j apart ∙ℚ shifted-gone c)
      by_tests false false e f g =
          shifted-there c (factor c) k (λ (q : k ≡ i). true≢false (sym (equal-number k i q) ∙ e))
          ∙ℚ +ℚ-same (z k g) (times_right (factor c) (r.at_basic k g))
          ∙ℚ solve (factor c ∷ []) (Literal (pos 0) ⊕ Atom 0 ⊗ Literal (pos 0)) (Literal (pos 0)) refl

  forth : (k : ℕ) (c : Coefficients) → IsRow fs nonbasic k c → IsRow fs (exchanged nonbasic i j) k (shifted c (factor c))
  forth k c m = record {
    at_basic = forth-zero c m.at_basic;
    equal = λ v. m.equal v ∙ℚ =ℚ_sym (mix-kept c (factor c) v);
  }

  -- ---- back

  back-zero : (d : Coefficients) → IsZeroAtBasic (exchanged nonbasic i j) d → IsZeroAtBasic nonbasic (shifted d (d i))
  back-zero d z k e = by_test (k == i) refl
    where
      kept : (b c : Bool) → b ≡ false → c ≡ false → (if b then true else if c then false else nonbasic k) ≡ false
      kept true c p q = absurd (true≢false p)
      kept false true p q = absurd (true≢false q)
      kept false false p q = e

      by_test : (b : Bool) → (k == i) ≡ b → shifted d (d i) k =ℚ whole (pos 0)
      by_test true f =
          subst (λ (m : ℕ). shifted d (d i) m =ℚ whole (pos 0)) (sym (same-number k i f))
          (shifted-here d (d i) ∙ℚ solve (d i ∷ []) (Atom 0 ⊕ Minus (Atom 0)) (Literal (pos 0)) refl)
      by_test false f =
          let other : k ≢ j = λ (q : k ≡ j). true≢false (sym enters ∙ ap nonbasic (sym q) ∙ e) in
          shifted-there d (d i) k (λ (q : k ≡ i). true≢false (sym (equal-number k i q) ∙ f))
          ∙ℚ +ℚ-same (z k (kept (k == i) (k == j) f (other-number k j other))) (times_right (d i) (r.at_basic k e))
          ∙ℚ solve (d i ∷ []) (Literal (pos 0) ⊕ Atom 0 ⊗ Literal (pos 0)) (Literal (pos 0)) refl

  out_at_j : exchanged nonbasic i j j ≡ false
  out_at_j = by_tests (j == i) (j == j) (other-number j i apart) (equal-number j j refl)
    where
      by_tests : (b c : Bool) → b ≡ false → c ≡ true → (if b then true else if c then false else nonbasic j) ≡ false
      by_tests true c p q = absurd (true≢false p)
      by_tests false true p q = refl
      by_tests false false p q = absurd (true≢false (sym q))

  still_independent : AreIndependent fs nonbasic → AreIndependent fs (exchanged nonbasic i j)
  still_independent free d z none k = by_test (k == i) refl
    where
      all : (m : ℕ) → shifted d (d i) m =ℚ whole (pos 0)
      all = free (shifted d (d i)) (back-zero d z) (λ v. mix-kept d (d i) v ∙ℚ none v)

      at_i : d i =ℚ whole (pos 0)
      at_i =
          zero-factor (d i) (a j) h
          (=ℚ_sym (zero_left (d i *ℚ a j))
          ∙ℚ plus_left (d i *ℚ a j) (=ℚ_sym (z j out_at_j))
          ∙ℚ =ℚ_sym (shifted-there d (d i) j apart)
          ∙ℚ all j)

      by_test : (b : Bool) → (k == i) ≡ b → d k =ℚ whole (pos 0)
      by_test true f = subst (λ (m : ℕ). d m =ℚ whole (pos 0)) (sym (same-number k i f)) at_i
      by_test false f =
          =ℚ_sym (+ℚ-zero (d k))
          ∙ℚ plus_right (d k) (=ℚ_sym (times_left (a k) at_i ∙ℚ zero_times (a k)))
          ∙ℚ =ℚ_sym (shifted-there d (d i) k (λ (q : k ≡ i). true≢false (sym (equal-number k i q) ∙ f)))
          ∙ℚ all k

  still_listed : ((k : ℕ) → nonbasic k ≡ true → k < length fs) → (k : ℕ) → exchanged nonbasic i j k ≡ true → k < length fs
  still_listed listed k = by_tests (k == i) (k == j) refl
    where
      by_tests : (b c : Bool) → (k == i) ≡ b → (if b then true else if c then false else nonbasic k) ≡ true → k < length fs
      by_tests true c f e = subst (λ (m : ℕ). m < length fs) (sym (same-number k i f)) inside
      by_tests false true f e = absurd (true≢false (sym e))
      by_tests false false f e = listed k e

  still_basis : IsBasis fs nonbasic → IsBasis fs (exchanged nonbasic i j)
  still_basis b =
      coefficients_are_unique.basis fs (exchanged nonbasic i j) b.units (still_listed b.listed)
      (λ k p. let some = b.some k p in (shifted some.0 (factor some.0), forth k some.0 some.1))
      (still_independent (coefficients_are_unique.independent fs nonbasic b))

  -- ---- the coefficients that are computed

  module _ (ks : List ℕ) where
    abbrev solution : Coefficients
    solution = (solved ks i j a).result

    -- what stands in place of c at j
    abbrev filled : Coefficients → Coefficients
    filled c k = (if k == j then whole (pos 0) else c k) +ℚ c j *ℚ solution k

    filled-is : (c : Coefficients) → c i =ℚ whole (pos 0) → (k : ℕ) → filled c k =ℚ shifted c (factor c) k
    filled-is c z k = by_tests (k == i) (k == j) refl refl
      where
        recip : Fraction
        recip = reciprocal (a j)

        by_tests : (b d : Bool) → (k == i) ≡ b → (k == j) ≡ d
            → ((if d then whole (pos 0) else c k) +ℚ c j *ℚ (if b then outcome Quotient (whole (pos 1)) (a j) else if d then whole (pos 0) else neg_ℚ (outcome Quotient (a k) (a j)))) =ℚ shifted c (factor c) k
        by_tests true true e f = absurd (apart (sym (same-number k j f) ∙ same-number k i e))
        by_tests true false e f =
            subst (λ (m : ℕ). (c m +ℚ c j *ℚ outcome Quotient (whole (pos 1)) (a j)) =ℚ shifted c (factor c) m) (sym (same-number k i e))
            (+ℚ-same z (times_right (c j) (outcome-quotient (whole (pos 1)) (a j)))
            ∙ℚ solve (c j ∷ reciprocal (a j) ∷ []) (Literal (pos 0) ⊕ Atom 0 ⊗ (Literal (pos 1) ⊗ Atom 1)) (Literal (pos 0) ⊕ Minus (Minus (Atom 0 ⊗ Atom 1))) refl
            ∙ℚ plus_left (neg_ℚ (factor c)) (=ℚ_sym z)
            ∙ℚ =ℚ_sym (shifted-here c (factor c)))
        by_tests false true e f =
            solve (c j ∷ []) (Literal (pos 0) ⊕ Atom 0 ⊗ Literal (pos 0)) (Literal (pos 0)) refl
            ∙ℚ =ℚ_sym (shifted-gone c)
            ∙ℚ =ℚ_sym (shifted-there c (factor c) j apart)
            ∙ℚ =ℚ-from_same (ap (shifted c (factor c)) (sym (same-number k j f)))
        by_tests false false e f =
            plus_right (c k) (times_right (c j) (neg_ℚ-same (outcome-quotient (a k) (a j))))
            ∙ℚ solve (c k ∷ c j ∷ a k ∷ reciprocal (a j) ∷ []) (Atom 0 ⊕ Atom 1 ⊗ Minus (Atom 2 ⊗ Atom 3)) (Atom 0 ⊕ Minus (Atom 1 ⊗ Atom 3) ⊗ Atom 2) refl
            ∙ℚ =ℚ_sym (shifted-there c (factor c) k (λ (q : k ≡ i). true≢false (sym (equal-number k i q) ∙ e)))

    -- j itself
    solved-row : j < length fs → IsRow fs (exchanged nonbasic i j) j solution
    solved-row p =
        row-same fs (exchanged nonbasic i j) j (shifted (alone j) (factor (alone j))) solution same
        (forth j (alone j) (alone-row fs nonbasic j p enters))
      where
        rest : (k : ℕ) → (if k == j then whole (pos 0) else alone j k) =ℚ whole (pos 0)
        rest k = by_test (k == j) refl
          where
            by_test : (b : Bool) → (k == j) ≡ b → (if b then whole (pos 0) else alone j k) =ℚ whole (pos 0)
            by_test true e = =ℚ_refl (whole (pos 0))
            by_test false e = alone-there j k (λ (q : k ≡ j). true≢false (sym (equal-number k j q) ∙ e))

        same : (k : ℕ) → solution k =ℚ shifted (alone j) (factor (alone j)) k
        same k =
            solve (solution k ∷ []) (Atom 0) (Literal (pos 0) ⊕ Literal (pos 1) ⊗ Atom 0) refl
            ∙ℚ +ℚ-same (=ℚ_sym (rest k)) (times_left (solution k) (=ℚ_sym (alone-here j)))
            ∙ℚ filled-is (alone j) (alone-there j i (λ (q : i ≡ j). apart (sym q))) k

    -- any other
    replaced-row : (k : ℕ) (c : Coefficients) (ms : List ℕ) → IsRow fs nonbasic k c → IsRow fs (exchanged nonbasic i j) k (replaced ms j solution c).result
    replaced-row k c ms m = by_test (is_zero (c j)) refl
      where
        unmoved : c j =ℚ whole (pos 0) → (l : ℕ) → c l =ℚ shifted c (factor c) l
        unmoved z l =
            solve (c l ∷ a l ∷ alone i l ∷ reciprocal (a j) ∷ []) (Atom 0) ((Atom 0 ⊕ Minus (Literal (pos 0) ⊗ Atom 3) ⊗ Atom 1) ⊕ Minus (Minus (Literal (pos 0) ⊗ Atom 3)) ⊗ Atom 2) refl
            ∙ℚ (let f = neg_ℚ-same (times_left (reciprocal (a j)) (=ℚ_sym z)) in
            +ℚ-same (plus_right (c l) (times_left (a l) f)) (times_left (alone i l) (neg_ℚ-same f)))

        by_test : (b : Bool) → is_zero (c j) ≡ b → IsRow fs (exchanged nonbasic i j) k (if b then at_once c else plus_multiple ms (λ l. if l == j then whole (pos 0) else c l) (c j) solution).result
        by_test true e =
            row-same fs (exchanged nonbasic i j) k (shifted c (factor c)) c (unmoved (same-fraction_eq (c j) (whole (pos 0)) e)) (forth k c m)
        by_test false e =
            row-same fs (exchanged nonbasic i j) k (shifted c (factor c)) (plus_multiple ms (λ l. if l == j then whole (pos 0) else c l) (c j) solution).result
            (λ l.
            outcome-sum (if l == j then whole (pos 0) else c l) (outcome Product (c j) (solution l))
            ∙ℚ plus_right (if l == j then whole (pos 0) else c l) (outcome-product (c j) (solution l))
            ∙ℚ filled-is c (m.at_basic i leaves) l)
            (forth k c m)

  -- ---- solutions

  -- where the row of i fits, the old and the new row of a form sum to one value
  pub row-sum_stays : IsBasis fs nonbasic → (y : Coefficients) → weighted (length fs) a y =ℚ y i → (k : ℕ) (c d : Coefficients) → k < length fs → IsRow fs nonbasic k c → IsRow fs (exchanged nonbasic i j) k d
      → weighted (length fs) c y =ℚ weighted (length fs) d y
  row-sum_stays b y fits k c d p n m =
      =ℚ_sym (weighted-kept c (factor c) y fits)
      ∙ℚ weighted-same (length fs) y (shifted c (factor c)) d ((still_basis b).one k (shifted c (factor c)) d p (forth k c n) m)

  solution-forth : IsBasis fs nonbasic → (y : Coefficients) → IsSolution fs nonbasic y → IsSolution fs (exchanged nonbasic i j) y
  solution-forth b y fits k d p m = by_row (b.some k p)
    where
      by_row : (c : Coefficients) × IsRow fs nonbasic k c → y k =ℚ weighted (length fs) d y
      by_row (c, n) = fits k c p n ∙ℚ row-sum_stays b y (=ℚ_sym (fits i a inside r)) k c d p n m

  -- i is the sum of its row where j fits the new one
  fits_at_i : (y : Coefficients) → j < length fs → IsSolution fs (exchanged nonbasic i j) y → weighted (length fs) a y =ℚ y i
  fits_at_i y p fits =
      let s = factor (alone j) in
      let w = weighted (length fs) a y in
      let e : y j =ℚ ((weighted (length fs) (alone j) y +ℚ s *ℚ w) +ℚ neg_ℚ s *ℚ y i) =
      fits j (shifted (alone j) s) p (forth j (alone j) (alone-row fs nonbasic j p enters)) ∙ℚ weighted-shifted (alone j) s y
      in
      let f : y j =ℚ ((y j +ℚ s *ℚ w) +ℚ neg_ℚ s *ℚ y i) =
      e ∙ℚ plus_left (neg_ℚ s *ℚ y i) (plus_left (s *ℚ w) (weighted-alone (length fs) j y p))
      in
      let one : (s *ℚ a j) =ℚ whole (negsuc 0) =
      solve (alone j j ∷ s ∷ a j ∷ []) (Atom 1 ⊗ Atom 2) ((Atom 0 ⊕ Atom 1 ⊗ Atom 2) ⊕ Minus (Atom 0)) refl
      ∙ℚ +ℚ-same (shifted-gone (alone j)) (neg_ℚ-same (alone-here j))
      ∙ℚ solve [] (Literal (pos 0) ⊕ Minus (Literal (pos 1))) (Literal (negsuc 0)) refl
      in
      solve (w ∷ []) (Atom 0) (Minus (Literal (negsuc 0) ⊗ Atom 0)) refl
      ∙ℚ neg_ℚ-same (times_left w (=ℚ_sym one))
      ∙ℚ solve_by (s ∷ a j ∷ w ∷ y i ∷ y j ∷ []) (Minus ((Atom 0 ⊗ Atom 1) ⊗ Atom 2)) (Minus ((Atom 0 ⊗ Atom 1) ⊗ Atom 3)) (Atom 1) (Atom 4) ((Atom 4 ⊕ Atom 0 ⊗ Atom 2) ⊕ Minus (Atom 0) ⊗ Atom 3) f refl
      ∙ℚ neg_ℚ-same (times_left (y i) one)
      ∙ℚ solve (y i ∷ []) (Minus (Literal (negsuc 0) ⊗ Atom 0)) (Atom 0) refl

  solution-back : j < length fs → (y : Coefficients) → IsSolution fs (exchanged nonbasic i j) y → IsSolution fs nonbasic y
  solution-back q y fits k c p n =
      fits k (shifted c (factor c)) p (forth k c n) ∙ℚ weighted-kept c (factor c) y (fits_at_i y q fits)

-- where i may be exchanged with j, its row has a coefficient there
pub nonzero_at : (fs : List (List Part)) (nonbasic : ℕ → Bool) (i j : ℕ) (may : MayExchange fs nonbasic i j) → may.at.row j =ℚ whole (pos 0) → ⊥
nonzero_at fs nonbasic i j may z = nonzero-test may.coefficient may.nonzero (=ℚ_sym may.at.at ∙ℚ z)

pub exchange_keeps_basis : ExchangeKeepsBasis
exchange_keeps_basis = record {
  basis = λ fs nonbasic i j b may.
      still_basis fs nonbasic i j may.at.row may.listed may.leaves may.enters may.at.is_row (nonzero_at fs nonbasic i j may) b;
  rows = kept;
}
  where
    kept : (fs : List (List Part)) (nonbasic : ℕ → Bool) (rows : Rows) (i j : ℕ) → IsBasis fs nonbasic → MayExchange fs nonbasic i j → AreRows fs nonbasic rows
        → AreRows fs (exchanged nonbasic i j) (exchange (length fs) nonbasic rows i j).result
    kept fs nonbasic rows i j b may m k p = by_test (k == j) (k == i) refl
      where
        ks : List ℕ
        ks = numbers (length fs) (λ l. nonbasic l && not (l == j))

        q : Coefficients
        q = (solved (numbers (length fs) (λ l. nonbasic l && not (l == j))) i j (rows i)).result

        row : IsRow fs nonbasic i (rows i)
        row = m i may.listed may.leaves

        nonzero : rows i j =ℚ whole (pos 0) → ⊥
        nonzero z =
            nonzero_at fs nonbasic i j may
            (b.one i may.at.row (rows i) may.listed may.at.is_row (m i may.listed may.leaves) j ∙ℚ z)

        by_test : (d e : Bool) → (k == j) ≡ d → (if e then true else if d then false else nonbasic k) ≡ false
            → IsRow fs (exchanged nonbasic i j) k (if d then q else (replaced (numbers (length fs) (exchanged nonbasic i j)) j q (rows k)).result)
        by_test d true f o = absurd (true≢false o)
        by_test true false f o =
            subst (λ (l : ℕ). IsRow fs (exchanged nonbasic i j) l q) (sym (same-number k j f))
            (solved-row fs nonbasic i j (rows i) may.listed may.leaves may.enters row nonzero ks (b.listed j may.enters))
        by_test false false f o =
            replaced-row fs nonbasic i j (rows i) may.listed may.leaves may.enters row nonzero ks k (rows k) (numbers (length fs) (exchanged nonbasic i j)) (m k p o)

pub solutions_stay : SolutionsStay
solutions_stay = record {
  worth = λ fs nonbasic v i c p r. r.equal v;
  values = λ fs nonbasic a i c p r.
      subst (λ (x : Fraction). x =ℚ weighted (length fs) c (λ k. parts_value a (form_at fs k))) (sym (value_is_worth a (form_at fs i)))
      (r.equal (unit_value a)
      ∙ℚ =ℚ_sym (weighted-alike (length fs) c (λ k. parts_value a (form_at fs k)) (λ k. worth (unit_value a) (form_at fs k)) (λ k. =ℚ-from_same (value_is_worth a (form_at fs k)))));
  exchange = λ fs nonbasic i j b may y. (
    solution-forth fs nonbasic i j may.at.row may.listed may.leaves may.enters may.at.is_row (nonzero_at fs nonbasic i j may) b y,
    solution-back fs nonbasic i j may.at.row may.listed may.leaves may.enters may.at.is_row (nonzero_at fs nonbasic i j may) (b.listed j may.enters) y,
  );
}
