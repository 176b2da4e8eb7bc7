-- What is spelled as a number, as a fraction.
use Rattle.std.proofs.Common.{◌≡◌, ℕ, zero, suc, ◌/◌, ◌^◌, ◌<◌, ◌≤◌, not, IsTrue, nat_le, pos, ◌*ℤ◌, unsigned_abs, refl, sym, ap, subst, ◌∙◌, arith}
use Rattle.std.proofs.Math.Nat.{div-le_self, one-le-pow, pow-le-pow_right}
use Rattle.std.proofs.lemmas.Bool.Decides.{nat_tests}
use Rattle.std.proofs.lemmas.Bool.{and_parts}
use Rattle.nz_ints.proofs.Divisors.{gcd-one}
use Rattle.nz_ints.proofs.Products.{mul-one, one-mul}
use Rattle.nz_ints.proofs.FloorDivision.{unsigned_abs-int_div}
use Rattle.nz_fractions.specs.Fraction.{Fraction, denominator, over, whole, ◌/ℚ◌, flipped, reciprocal, gcd, reduce, ratio, largest, exceeds, IsNumber}
use Rattle.nz_spec.specs.terms.Term.{DecimalsAreNumbers}
use Rattle.nz_spec.specs.laws.Numerals.{NumeralsAreWhole}
use Rattle.nz_fractions.proofs.Arithmetic.{Parts, product_parts, whole_parts, by_parts}
use Rattle.nz_fractions.proofs.Laws.{numerator-reduce, denominator-reduce, reduce-lowest, reduce-is}

reciprocal_parts : (k : ℕ) → Parts (reciprocal (whole (pos (suc k)))) (pos 1) (pos (suc k))
unfolding reciprocal flipped over denominator
reciprocal_parts k = record { num = refl; den = refl }

quotient_parts : (n k : ℕ) → Parts (whole (pos n) /ℚ whole (pos (suc k))) (pos n *ℤ pos 1) (pos 1 *ℤ pos (suc k))
unfolding ◌/ℚ◌
quotient_parts n k = product_parts (whole_parts (pos n)) (reciprocal_parts k)

-- lowest terms are no longer
reduced : (q : Fraction) → unsigned_abs q.numerator ≤ largest → denominator q ≤ largest → IsNumber (reduce q)
reduced q top bottom =
    let g = gcd (unsigned_abs q.numerator) (denominator q) in
    let over_it : unsigned_abs (reduce q).numerator ≡ unsigned_abs q.numerator / g = ap unsigned_abs (numerator-reduce q) ∙ unsigned_abs-int_div q.numerator g in
    let under_it : denominator (reduce q) ≡ denominator q / g = denominator-reduce q in
    let small_top = div-le_self (unsigned_abs q.numerator) g in
    let small_bottom = div-le_self (denominator q) g in
    record {
      lowest = (reduce-lowest q).lowest;
      numerator_fits = subst (λ m. m ≤ largest) (sym over_it) (omega arith);
      denominator_fits = subst (λ m. m ≤ largest) (sym under_it) (omega arith);
    }

quotient_number : (n d : ℕ) → 0 < d → n ≤ largest → d ≤ largest → IsNumber (ratio (pos n) (pos d))
unfolding ratio
quotient_number n zero above top bottom = absurd (omega arith)
quotient_number n (suc k) above top bottom =
    let q = whole (pos n) /ℚ whole (pos (suc k)) in
    let parts = quotient_parts n k in
    let numerator_is : unsigned_abs q.numerator ≡ n = ap unsigned_abs (parts.num ∙ mul-one (pos n)) in
    let denominator_is : denominator q ≡ suc k = ap unsigned_abs (parts.den ∙ one-mul (pos (suc k))) in
    reduced q (subst (λ m. m ≤ largest) (sym numerator_is) top) (subst (λ m. m ≤ largest) (sym denominator_is) bottom)

within_largest : (n : ℕ) → IsTrue (not (exceeds n)) → n ≤ largest
within_largest n h = grind (arith, nat_tests)

within_places : (n : ℕ) → IsTrue (nat_le n 38) → n ≤ 38
within_places n h = grind (arith, nat_tests)

power_fits : (places : ℕ) → places ≤ 38 → 10 ^ places ≤ largest
power_fits places h =
    let most : 10 ^ places ≤ 10 ^ 38 = pow-le-pow_right {n = 10} (omega arith) h in
    omega arith

pub decimals_are_numbers : DecimalsAreNumbers
decimals_are_numbers digits places fits =
    let few = within_places places (and_parts (not (exceeds digits)) (nat_le places 38) fits).1 in
    let some : 1 ≤ 10 ^ places = one-le-pow places 10 (omega arith) in
    quotient_number digits (10 ^ places) (omega arith) (within_largest digits (and_parts (not (exceeds digits)) (nat_le places 38) fits).0) (power_fits places few)

pub numerals_are_whole : NumeralsAreWhole
unfolding ratio denominator
numerals_are_whole n =
    reduce-is (by_parts (quotient_parts n 0) (whole_parts (pos n)) (ap (λ z. z *ℤ pos 1) (mul-one (pos n)) ∙ ap (λ z. pos n *ℤ z) (sym (one-mul (pos 1)))))
    (record { lowest = gcd-one n })
