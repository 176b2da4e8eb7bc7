-- Sizes of integers and of factors, and integers that go to 128 bits and back.
use Rattle.std.proofs.Common.{◌≡◌, ℕ, zero, suc, ◌-◌, ◌*◌, ◌^◌, ◌<◌, ◌≤◌, ℤ, pos, negsuc, ◌-ℤ◌, neg_ℤ, unsigned_abs, to_z, of_z, refl, arith}
use Rattle.std.specs.Int.{w128}
use Rattle.std.proofs.lemmas.Int.{ints, to_z-of_z, fits_signed_from_abs}

-- ---- Sizes

pub unsigned_abs-neg : (n : ℤ) → unsigned_abs (neg_ℤ n) ≡ unsigned_abs n
unsigned_abs-neg n = omega (arith, ints)

pub abs_pos : (n : ℤ) → (n ≡ pos 0 → ⊥) → 0 < unsigned_abs n
abs_pos (pos zero) h = absurd (h refl)
abs_pos (pos (suc k)) h = omega arith
abs_pos (negsuc k) h = omega arith

pub zero_minus : (n : ℤ) → pos 0 -ℤ n ≡ neg_ℤ n
zero_minus n = omega (arith, ints)

pub factor_pos : (m n k : ℕ) → m * n ≡ k → 0 < k → 0 < m
factor_pos zero n k e p = absurd (omega arith)
factor_pos (suc m) n k e p = omega arith

-- ---- 128 bits

-- an integer of at most 127 bits goes to its bits and back
pub cast-back : (n : ℤ) → unsigned_abs n ≤ 2 ^ 127 - 1 → to_z w128 (of_z w128 n) ≡ n
cast-back n h = to_z-of_z w128 n (fits_signed_from_abs w128 n (omega arith))
