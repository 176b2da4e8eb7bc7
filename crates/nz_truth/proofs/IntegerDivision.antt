-- Quotients and remainders of integers.
use Rattle.std.proofs.Common.{◌≡◌, ◌≢◌, ℕ, zero, suc, ◌+◌, ◌-◌, ◌*◌, ◌/◌, ◌%◌, ◌<◌, ◌≤◌, ℤ, pos, negsuc, ◌+ℤ◌, ◌*ℤ◌, neg_ℤ, unsigned_abs, int_lt, true, false, to_z, of_z, FitsSigned, refl, sym, ap, ◌∙◌, arith}
use Rattle.std.specs.Int.{int_div_euclid, int_rem_euclid, w128}
use Rattle.std.proofs.Math.IntN.{pos-*ℤ-pos, pos-*ℤ-negsuc, negsuc-*ℤ-pos, *ℤ-negsuc, *ℤ-zero, zero-*ℤ}
use Rattle.std.proofs.Math.Nat.{div-add-mod, div-le_self, div-zero, mod-lt}
use Rattle.std.proofs.lemmas.Int.{ints, to_z-of_z}
use Rattle.nz_fractions.specs.Fraction.{floor_div}
use Rattle.nz_spec.specs.terms.Term.{div_of, mod_of}

-- ---- Quotients

pub quotient_is : (m n : ℤ) → int_div_euclid m n ≡ div_of m n
unfolding div_of floor_div
quotient_is (pos a) (pos b) = refl
quotient_is (pos a) (negsuc b) = refl
quotient_is (negsuc a) (pos b) = refl
quotient_is (negsuc a) (negsuc b) = refl

pub quotient_fits : (m n : ℤ) → unsigned_abs (int_div_euclid m n) ≤ unsigned_abs m
quotient_fits (pos a) (pos b) = div-le_self a b
quotient_fits (pos a) (negsuc b) = let small = div-le_self a (suc b) in omega (arith, ints)
quotient_fits (negsuc a) (pos b) = let small = div-le_self a b in omega arith
quotient_fits (negsuc a) (negsuc b) = let small = div-le_self a (suc b) in omega arith

-- by 0
pub quotient_below : (m n : ℤ) → n ≡ pos 0 → int_lt m (pos 0) ≡ true → negsuc 0 ≡ div_of m n
unfolding div_of floor_div
quotient_below (pos a) n e low = absurd (omega (arith, ints))
quotient_below (negsuc a) n e low = sym (ap (div_of (negsuc a)) e ∙ ap negsuc (div-zero a))

pub quotient_above : (m n : ℤ) → n ≡ pos 0 → int_lt m (pos 0) ≡ false → pos 0 ≡ div_of m n
unfolding div_of floor_div
quotient_above (pos a) n e high = sym (ap (div_of (pos a)) e ∙ ap pos (div-zero a))
quotient_above (negsuc a) n e high = absurd (omega (arith, ints))

-- ---- Remainders

-- a number, its quotient and what is left
above : (a k y r : ℕ) (p : ℤ) → k * y + r ≡ a → p ≡ pos (k * y) → pos r ≡ pos a +ℤ neg_ℤ p
above a k y r p e f = omega (arith, ints)

below : (a k y r : ℕ) (p : ℤ) → k * y + r ≡ a → r < k → p ≡ neg_ℤ (pos (k * suc y)) → pos (k - 1 - r) ≡ negsuc a +ℤ neg_ℤ p
below a k y r p e l f = omega (arith, ints)

both_below : (b x : ℕ) → negsuc b *ℤ neg_ℤ (pos x) ≡ pos (suc b * x)
both_below b zero = *ℤ-zero (negsuc b) ∙ ap pos (omega arith)
both_below b (suc x) = omega (arith, ints, *ℤ-negsuc (negsuc b) x, negsuc-*ℤ-pos b (suc x))

pub remainder_is : (m n : ℤ) → n ≢ pos 0 → int_rem_euclid m n ≡ mod_of m n
unfolding mod_of div_of floor_div
remainder_is m (pos zero) other = absurd (other refl)
remainder_is (pos a) (pos (suc b)) other = above a (suc b) (a / suc b) (a % suc b) _ (div-add-mod a (suc b)) (pos-*ℤ-pos (suc b) (a / suc b))
remainder_is (pos a) (negsuc b) other = above a (suc b) (a / suc b) (a % suc b) _ (div-add-mod a (suc b)) (both_below b (a / suc b))
remainder_is (negsuc a) (pos (suc b)) other =
    below a (suc b) (a / suc b) (a % suc b) _ (div-add-mod a (suc b)) (mod-lt a (omega arith)) (pos-*ℤ-negsuc (suc b) (a / suc b))
remainder_is (negsuc a) (negsuc b) other =
    below a (suc b) (a / suc b) (a % suc b) _ (div-add-mod a (suc b)) (mod-lt a (omega arith)) (negsuc-*ℤ-pos b (suc (a / suc b)))

-- by 0
pub remainder_zero : (m n : ℤ) → n ≡ pos 0 → m ≡ mod_of m n
unfolding mod_of
remainder_zero m n e =
    let none : pos 0 *ℤ div_of m (pos 0) ≡ pos 0 = zero-*ℤ (div_of m (pos 0)) in
    sym (ap (λ k. m +ℤ neg_ℤ (k *ℤ div_of m k)) e ∙ ap (λ k. m +ℤ neg_ℤ k) none ∙ omega (arith, ints))

-- ---- Integers that are written and read back

pub read : (z : ℤ) → FitsSigned w128 z → to_z w128 (of_z w128 z) ≡ z
read z h = to_z-of_z w128 z h

pub zero_read : (z : ℤ) → FitsSigned w128 z → of_z w128 z ≡ 0 → z ≡ pos 0
zero_read z h e = sym (read z h) ∙ ap (to_z w128) e
