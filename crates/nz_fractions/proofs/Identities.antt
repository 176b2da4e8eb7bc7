-- Sums and products of fractions: with 0 and 1, with the other sign, and in another order.
use Rattle.std.proofs.Common.{◌≡◌, zero, suc, ℤ, pos, negsuc, neg_ℤ, Bool, true, false, [], ◌∷◌, refl, sym, ◌∙◌, true≢false}
use Rattle.nz_ints.proofs.Ring.{Atom, Literal, ◌⊕◌, ◌⊗◌, Minus, solve}
use Rattle.nz_fractions.specs.Fraction.{Fraction, denominator, whole, ◌=ℚ◌, ◌+ℚ◌, neg_ℚ, ◌*ℚ◌, fraction_eq}
use Rattle.nz_fractions.proofs.Laws.{=ℚ_refl, =ℚ_sym, =ℚ_trans, =ℚ-from_same}
use Rattle.nz_fractions.proofs.Order.{fraction_eq-same, same-fraction_eq}
use Rattle.nz_fractions.proofs.Arithmetic.{own_parts, sum_parts, product_parts, neg_parts, whole_parts, by_parts, +ℚ_comm, +ℚ_assoc, +ℚ-zero, +ℚ-same, neg_ℚ-same, *ℚ_comm, *ℚ-one, *ℚ-+ℚ}

-- ---- With 0 and 1

pub zero_left : (p : Fraction) → (whole (pos 0) +ℚ p) =ℚ p
zero_left p = =ℚ_trans (+ℚ_comm (whole (pos 0)) p) (+ℚ-zero p)

pub zero_times : (p : Fraction) → (whole (pos 0) *ℚ p) =ℚ whole (pos 0)
zero_times p =
    by_parts (product_parts (whole_parts (pos 0)) (own_parts p)) (whole_parts (pos 0))
    (solve (p.numerator ∷ pos (denominator p) ∷ []) ((Literal (pos 0) ⊗ Atom 0) ⊗ Literal (pos 1)) (Literal (pos 0) ⊗ (Literal (pos 1) ⊗ Atom 1)) refl)

pub times_zero : (p : Fraction) → (p *ℚ whole (pos 0)) =ℚ whole (pos 0)
times_zero p = =ℚ_trans (*ℚ_comm p (whole (pos 0))) (zero_times p)

pub one_times : (p : Fraction) → (whole (pos 1) *ℚ p) =ℚ p
one_times p = =ℚ_trans (*ℚ_comm (whole (pos 1)) p) (*ℚ-one p)

-- ---- Products of sums, and the other sign

pub +ℚ-*ℚ : (p q v : Fraction) → ((p +ℚ q) *ℚ v) =ℚ (p *ℚ v +ℚ q *ℚ v)
+ℚ-*ℚ p q v = =ℚ_trans (*ℚ_comm (p +ℚ q) v) (=ℚ_trans (*ℚ-+ℚ v p q) (+ℚ-same (*ℚ_comm v p) (*ℚ_comm v q)))

pub neg-*ℚ : (p v : Fraction) → (neg_ℚ p *ℚ v) =ℚ neg_ℚ (p *ℚ v)
neg-*ℚ p v =
    by_parts (product_parts (neg_parts (own_parts p)) (own_parts v)) (neg_parts (product_parts (own_parts p) (own_parts v)))
    (solve (p.numerator ∷ pos (denominator p) ∷ v.numerator ∷ pos (denominator v) ∷ [])
    ((Minus (Atom 0) ⊗ Atom 2) ⊗ (Atom 1 ⊗ Atom 3)) (Minus (Atom 0 ⊗ Atom 2) ⊗ (Atom 1 ⊗ Atom 3)) refl)

pub neg-+ℚ : (p q : Fraction) → neg_ℚ (p +ℚ q) =ℚ (neg_ℚ p +ℚ neg_ℚ q)
neg-+ℚ p q =
    by_parts (neg_parts (sum_parts (own_parts p) (own_parts q))) (sum_parts (neg_parts (own_parts p)) (neg_parts (own_parts q)))
    (solve (p.numerator ∷ pos (denominator p) ∷ q.numerator ∷ pos (denominator q) ∷ [])
    (Minus (Atom 0 ⊗ Atom 3 ⊕ Atom 2 ⊗ Atom 1) ⊗ (Atom 1 ⊗ Atom 3))
    ((Minus (Atom 0) ⊗ Atom 3 ⊕ Minus (Atom 2) ⊗ Atom 1) ⊗ (Atom 1 ⊗ Atom 3)) refl)

pub neg-zero : neg_ℚ (whole (pos 0)) =ℚ whole (pos 0)
unfolding neg_ℚ
neg-zero = record { cross = refl }

neg-number : (n : ℤ) → neg_ℤ (neg_ℤ n) ≡ n
neg-number (pos zero) = refl
neg-number (pos (suc n)) = refl
neg-number (negsuc n) = refl

-- the other sign twice is the very fraction
pub neg-back : (q : Fraction) → neg_ℚ (neg_ℚ q) ≡ q
unfolding neg_ℚ
neg-back q = λ i. record { numerator = neg-number q.numerator i; below = q.below }

pub neg-neg : (q : Fraction) → neg_ℚ (neg_ℚ q) =ℚ q
neg-neg q = =ℚ-from_same (neg-back q)

-- ---- Another order

-- the last two of three change places
pub swapped : (x y z : Fraction) → ((x +ℚ y) +ℚ z) =ℚ ((x +ℚ z) +ℚ y)
swapped x y z = =ℚ_trans (+ℚ_assoc x y z) (=ℚ_trans (+ℚ-same (=ℚ_refl x) (+ℚ_comm y z)) (=ℚ_sym (+ℚ_assoc x z y)))

-- the middle ones of four
pub crossed : (x y z w : Fraction) → ((x +ℚ y) +ℚ (z +ℚ w)) =ℚ ((x +ℚ z) +ℚ (y +ℚ w))
crossed x y z w =
    =ℚ_trans (=ℚ_sym (+ℚ_assoc (x +ℚ y) z w))
    (=ℚ_trans (+ℚ-same (swapped x y z) (=ℚ_refl w)) (+ℚ_assoc (x +ℚ z) y w))

-- ---- Other than 0

pub nonzero-test : (q : Fraction) → fraction_eq q (whole (pos 0)) ≡ false → q =ℚ whole (pos 0) → ⊥
nonzero-test q e h = true≢false (sym (fraction_eq-same q (whole (pos 0)) h) ∙ e)

pub neg-nonzero : (q : Fraction) → fraction_eq q (whole (pos 0)) ≡ false → fraction_eq (neg_ℚ q) (whole (pos 0)) ≡ false
neg-nonzero q h = by_test (fraction_eq (neg_ℚ q) (whole (pos 0))) refl
  where
    by_test : (b : Bool) → fraction_eq (neg_ℚ q) (whole (pos 0)) ≡ b → b ≡ false
    by_test false e = refl
    by_test true e =
        let zero : q =ℚ whole (pos 0) = =ℚ_trans (=ℚ_sym (neg-neg q)) (=ℚ_trans (neg_ℚ-same (same-fraction_eq (neg_ℚ q) (whole (pos 0)) e)) neg-zero) in
        absurd (nonzero-test q h zero)
