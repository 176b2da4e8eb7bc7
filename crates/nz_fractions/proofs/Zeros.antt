-- Operations beside 0: what they come to, and that none leaves the numbers.
use Rattle.std.proofs.Common.{◌≡◌, ℕ, ◌<◌, ◌≤◌, ◌*◌, ◌/◌, false, ◌||◌, ℤ, pos, ◌+ℤ◌, ◌*ℤ◌, refl, arith, sym, ap, ◌∙◌, subst, le-ltb}
use Rattle.std.proofs.Math.IntN.{zero-*ℤ, +ℤ_idl, +ℤ_comm}
use Rattle.std.specs.Prelude.{unsigned_abs}
use Rattle.std.proofs.Math.Nat.{div_self}
use Rattle.std.proofs.lemmas.Bool.{or_from}
use Rattle.nz_ints.specs.Division.{gcd_within, gcd, lcm}
use Rattle.nz_ints.proofs.Divisors.{gcd-one, gcd_comm}
use Rattle.nz_ints.proofs.Products.{mul-one}
use Rattle.nz_fractions.specs.Fraction.{Fraction, denominator, whole, ◌=ℚ◌, ◌*ℚ◌, ◌/ℚ◌, reciprocal, reduce, largest, exceeds, IsNumber, is_wide_sum, is_wide_product, is_wide, exact, outcome, Sum, Product, Quotient, ZerosAreNeverWide}
use Rattle.nz_fractions.proofs.Laws.{denominator_pos, IsLowest, reduce-is}
use Rattle.nz_fractions.proofs.Arithmetic.{+ℚ-zero}
use Rattle.nz_fractions.proofs.Identities.{zero_left, zero_times, times_zero}

zero : Fraction
zero = whole (pos 0)

fits : (n : ℕ) → n ≤ largest → exceeds n ≡ false
fits n h = le-ltb largest n h

-- ---- Sums

none_exceeds : (m : ℕ) (l r : ℤ) → m ≤ largest → unsigned_abs l ≤ largest → unsigned_abs r ≤ largest → unsigned_abs (l +ℤ r) ≤ largest
    → (exceeds m || exceeds (unsigned_abs l) || exceeds (unsigned_abs r) || exceeds (unsigned_abs (l +ℤ r))) ≡ false
none_exceeds m l r h i j k =
    or_from (exceeds m || exceeds (unsigned_abs l) || exceeds (unsigned_abs r)) (exceeds (unsigned_abs (l +ℤ r)))
    (or_from (exceeds m || exceeds (unsigned_abs l)) (exceeds (unsigned_abs r))
    (or_from (exceeds m) (exceeds (unsigned_abs l)) (fits m h) (fits (unsigned_abs l) i))
    (fits (unsigned_abs r) j))
    (fits (unsigned_abs (l +ℤ r)) k)

lcm-one_left : (d : ℕ) → lcm 1 d ≡ d
unfolding lcm
lcm-one_left d = ap (λ (g : ℕ). 1 / g * d) (gcd_comm 1 d ∙ gcd-one d) ∙ omega arith

lcm-one_right : (d : ℕ) → lcm d 1 ≡ d
unfolding lcm
lcm-one_right d = ap (λ (g : ℕ). d / g * 1) (gcd-one d) ∙ omega arith

whole-times : (n : ℤ) (d : ℕ) → 0 < d → n *ℤ pos (d / d) ≡ n
whole-times n d h = ap (λ (k : ℕ). n *ℤ pos k) (div_self h) ∙ mul-one n

narrow_left : (q : Fraction) → IsNumber q → is_wide_sum zero q ≡ false
unfolding is_wide_sum denominator zero
narrow_left q h =
    subst (λ (m : ℕ). (exceeds m || exceeds (unsigned_abs (pos 0 *ℤ pos (m / 1))) || exceeds (unsigned_abs (q.numerator *ℤ pos (m / denominator q))) || exceeds (unsigned_abs (pos 0 *ℤ pos (m / 1) +ℤ q.numerator *ℤ pos (m / denominator q)))) ≡ false)
    (sym (lcm-one_left (denominator q)))
    (subst (λ (l : ℤ). (exceeds (denominator q) || exceeds (unsigned_abs l) || exceeds (unsigned_abs (q.numerator *ℤ pos (denominator q / denominator q))) || exceeds (unsigned_abs (l +ℤ q.numerator *ℤ pos (denominator q / denominator q)))) ≡ false)
    (sym (zero-*ℤ (pos (denominator q / 1))))
    (subst (λ (r : ℤ). (exceeds (denominator q) || exceeds 0 || exceeds (unsigned_abs r) || exceeds (unsigned_abs (pos 0 +ℤ r))) ≡ false)
    (sym (whole-times q.numerator (denominator q) (denominator_pos q)))
    (none_exceeds (denominator q) (pos 0) q.numerator h.denominator_fits (omega arith) h.numerator_fits
    (subst (λ (z : ℤ). unsigned_abs z ≤ largest) (sym (+ℤ_idl q.numerator)) h.numerator_fits))))

narrow_right : (q : Fraction) → IsNumber q → is_wide_sum q zero ≡ false
unfolding is_wide_sum denominator zero
narrow_right q h =
    subst (λ (m : ℕ). (exceeds m || exceeds (unsigned_abs (q.numerator *ℤ pos (m / denominator q))) || exceeds (unsigned_abs (pos 0 *ℤ pos (m / 1))) || exceeds (unsigned_abs (q.numerator *ℤ pos (m / denominator q) +ℤ pos 0 *ℤ pos (m / 1)))) ≡ false)
    (sym (lcm-one_right (denominator q)))
    (subst (λ (r : ℤ). (exceeds (denominator q) || exceeds (unsigned_abs (q.numerator *ℤ pos (denominator q / denominator q))) || exceeds (unsigned_abs r) || exceeds (unsigned_abs (q.numerator *ℤ pos (denominator q / denominator q) +ℤ r))) ≡ false)
    (sym (zero-*ℤ (pos (denominator q / 1))))
    (subst (λ (l : ℤ). (exceeds (denominator q) || exceeds (unsigned_abs l) || exceeds 0 || exceeds (unsigned_abs (l +ℤ pos 0))) ≡ false)
    (sym (whole-times q.numerator (denominator q) (denominator_pos q)))
    (none_exceeds (denominator q) q.numerator (pos 0) h.denominator_fits h.numerator_fits (omega arith)
    (subst (λ (z : ℤ). unsigned_abs z ≤ largest) (sym (+ℤ_comm q.numerator (pos 0) ∙ +ℤ_idl q.numerator)) h.numerator_fits))))

lowest : (q : Fraction) → IsNumber q → IsLowest q
lowest q h = record { lowest = h.lowest }

sum-zero_left : (q : Fraction) → IsNumber q → outcome Sum zero q ≡ q
unfolding outcome exact zero
sum-zero_left q h = reduce-is (zero_left q) (lowest q h)

sum-zero_right : (q : Fraction) → IsNumber q → outcome Sum q zero ≡ q
unfolding outcome exact zero
sum-zero_right q h = reduce-is (+ℚ-zero q) (lowest q h)

-- ---- Products

lowest-zero : IsLowest zero
unfolding denominator zero gcd gcd_within
lowest-zero = record { lowest = refl }

reduce-zero : (q : Fraction) → q =ℚ zero → reduce q ≡ zero
reduce-zero q h = reduce-is h lowest-zero

narrow_zero : (p : Fraction) → reduce p ≡ zero → (exceeds (unsigned_abs (reduce p).numerator) || exceeds (denominator (reduce p))) ≡ false
unfolding denominator zero
narrow_zero p e = subst (λ (q : Fraction). (exceeds (unsigned_abs q.numerator) || exceeds (denominator q)) ≡ false) (sym e) refl

narrow_product : (p q : Fraction) → (p *ℚ q) =ℚ zero → is_wide_product p q ≡ false
unfolding is_wide_product
narrow_product p q h = narrow_zero (p *ℚ q) (reduce-zero (p *ℚ q) h)

product-zero : (p q : Fraction) → (p *ℚ q) =ℚ zero → outcome Product p q ≡ zero
unfolding outcome exact
product-zero p q h = reduce-zero (p *ℚ q) h

quotient-zero : (q : Fraction) → outcome Quotient zero q ≡ zero
unfolding outcome exact ◌/ℚ◌ zero
quotient-zero q = reduce-zero (zero *ℚ reciprocal q) (zero_times (reciprocal q))

pub zeros_are_never_wide : ZerosAreNeverWide
unfolding is_wide zero
zeros_are_never_wide = record {
  sum_left = λ q h. (narrow_left q h, sum-zero_left q h);
  sum_right = λ q h. (narrow_right q h, sum-zero_right q h);
  product_left = λ q. (narrow_product zero q (zero_times q), product-zero zero q (zero_times q));
  product_right = λ q. (narrow_product q zero (times_zero q), product-zero q zero (times_zero q));
  quotient = λ q. (narrow_product zero (reciprocal q) (zero_times (reciprocal q)), quotient-zero q);
}
