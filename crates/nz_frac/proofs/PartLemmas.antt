-- From the parts of a `Frac` to its value and back: casts, signs, and what a number's denominator is.
use Rattle.std.proofs.Common.{◌≡◌, ℕ, ◌/◌, ◌<◌, ◌≤◌, Bool, true, false, ℤ, pos, negsuc, ◌-ℤ◌, neg_ℤ, unsigned_abs, int_lt, int_div, refl, arith, sym, ap, ap₂, ◌∙◌, to_z, of_z, le-ltb}
use Rattle.std.proofs.lemmas.Int.{to_z_pos}
use Rattle.std.specs.Int.{w128, ◌∣◌}
use Rattle.std.proofs.Math.Nat.{div-mul_cancel}
use Rattle.nz_ints.proofs.Sizes.{cast-back, factor_pos, unsigned_abs-neg, zero_minus}
use Rattle.nz_fractions.specs.Fraction.{Fraction, denominator, over, gcd, largest, neg_ℚ, reduce, IsNumber}
use Rattle.nz_fractions.proofs.Laws.{denominator-over, reduce-lowest_is, IsLowest}
use Rattle.nz_frac.specs.Parts.{AreParts, with_sign, value_of}

-- ---- casts

pub cast_natural : (n : ℕ) → n ≤ largest → to_z w128 n ≡ pos n
cast_natural n h = to_z_pos w128 n (omega arith)

-- ---- signs

pub unsigned_abs-with_sign : (b : Bool) (n : ℕ) → unsigned_abs (with_sign b n) ≡ n
unsigned_abs-with_sign true n = unsigned_abs-neg (pos n)
unsigned_abs-with_sign false n = refl

pub with_sign-div : (z : ℤ) (g : ℕ) → with_sign (int_lt z (pos 0)) (unsigned_abs z / g) ≡ int_div z (pos g)
with_sign-div (pos n) g = ap (λ (b : Bool). with_sign b (n / g)) (le-ltb n 0 (omega arith))
with_sign-div (negsuc n) g = refl

-- ---- the value of the parts

pub over-value : (n : ℤ) (d : ℕ) → over n d ≡ value_of n d
unfolding over
over-value n d = refl

pub den_is : (n : ℤ) (d : ℕ) (q : Fraction) → AreParts n d → value_of n d ≡ q → denominator q ≡ d
den_is n d q parts v = ap denominator (sym v ∙ sym (over-value n d)) ∙ denominator-over n d parts.den_positive

pub num_is : (n : ℤ) (d : ℕ) (q : Fraction) → value_of n d ≡ q → q.numerator ≡ n
num_is n d q v = ap (λ (x : Fraction). x.numerator) (sym v)

pub number-from_parts : (n : ℤ) (d : ℕ) (q : Fraction) → AreParts n d → value_of n d ≡ q → IsNumber q
number-from_parts n d q parts v =
    let e = num_is n d q v in
    let f = den_is n d q parts v in
    record {
      lowest = ap₂ (λ (x : ℤ) (y : ℕ). gcd (unsigned_abs x) y) e f ∙ parts.lowest;
      numerator_fits = rw e parts.num_fits;
      denominator_fits = rw f parts.den_fits;
    }

pub lowest-from_parts : (n : ℤ) (d : ℕ) (q : Fraction) → AreParts n d → value_of n d ≡ q → IsLowest q
lowest-from_parts n d q parts v = record { lowest = (number-from_parts n d q parts v).lowest }

-- ---- negation and the reciprocal

pub neg-value : (n : ℤ) (d : ℕ) → value_of (neg_ℤ n) d ≡ neg_ℚ (value_of n d)
unfolding neg_ℚ
neg-value n d = refl

pub negated : (n : ℤ) → unsigned_abs n ≤ largest → to_z w128 (of_z w128 (pos 0 -ℤ to_z w128 (of_z w128 n))) ≡ neg_ℤ n
negated n h =
    let e : pos 0 -ℤ to_z w128 (of_z w128 n) ≡ neg_ℤ n = ap (λ (z : ℤ). pos 0 -ℤ z) (cast-back n h) ∙ zero_minus n in
    ap (λ (z : ℤ). to_z w128 (of_z w128 z)) e ∙ cast-back (neg_ℤ n) (rw (unsigned_abs-neg n) h)

-- ---- what an operation answers

-- the parts that the code builds are those of y; a field of 128 bits is read through its bits
pub record Answers (y : Fraction) (n : ℤ) (d : ℕ) : Type 0 where
  pub parts : AreParts (to_z w128 (of_z w128 n)) d
  pub value : value_of (to_z w128 (of_z w128 n)) d ≡ y

pub answers-from_over : (y : Fraction) (a : ℤ) (b : ℕ) (n : ℤ) (d : ℕ) → n ≡ a → d ≡ b → y ≡ over a b → 0 < b → IsLowest y → unsigned_abs a ≤ largest → b ≤ largest → Answers y n d
answers-from_over y a b n d en ed ey p l fa fb =
    let back : to_z w128 (of_z w128 n) ≡ a = ap (λ (z : ℤ). to_z w128 (of_z w128 z)) en ∙ cast-back a fa in
    let lowest : gcd (unsigned_abs a) b ≡ 1 =
    sym (ap (λ (x : Fraction). gcd (unsigned_abs x.numerator) (denominator x)) (ey ∙ over-value a b) ∙ ap (λ (m : ℕ). gcd (unsigned_abs a) m) (ap denominator (sym (over-value a b)) ∙ denominator-over a b p))
    ∙ l.lowest
    in
    record {
      parts = rw (back, ed) (record { lowest = lowest; num_fits = fa; den_positive = p; den_fits = fb });
      value = ap₂ (λ (x : ℤ) (m : ℕ). value_of x m) back ed ∙ sym (ey ∙ over-value a b);
    }

pub div_pos : (n s : ℕ) → s ∣ n → 0 < n → 0 < n / s
div_pos n s h p = factor_pos (n / s) s n (div-mul_cancel s h) p

-- ---- the parts of the value in lowest terms, which are those that the code has

pub num-reduce : {n : ℤ} {d : ℕ} {q : Fraction} → AreParts n d → value_of n d ≡ q → (reduce q).numerator ≡ n
num-reduce {n} {d} {q} s v =
    ap (λ (x : Fraction). x.numerator) (reduce-lowest_is q (lowest-from_parts n d q s v)) ∙ num_is n d q v

pub den-reduce : {n : ℤ} {d : ℕ} {q : Fraction} → AreParts n d → value_of n d ≡ q → denominator (reduce q) ≡ d
den-reduce {n} {d} {q} s v =
    ap denominator (reduce-lowest_is q (lowest-from_parts n d q s v)) ∙ den_is n d q s v
