-- The common divisor of the coefficients, from the left, and where no number divides by it.
use Rattle.std.proofs.Common.{◌≡◌, ℕ, zero, suc, ◌<◌, ◌≤◌, pos, refl, arith, ◌∙◌}
use Rattle.std.proofs.Math.Nat.{dvd_trans}
use Rattle.std.proofs.lemmas.Nat.Gcd.{le_of_dvd}
use Rattle.nz_ints.proofs.Divisors.{gcd-dvd_left, gcd-dvd_right, dvd-gcd, gcd-unique, gcd_comm, gcd-zero}
use Rattle.nz_fractions.specs.Fraction.{gcd, largest, over, whole}

-- ---- One number more

pub gcd_assoc : (a b c : ℕ) → gcd (gcd a b) c ≡ gcd a (gcd b c)
gcd_assoc a b c =
    let g = gcd a (gcd b c) in
    gcd-unique (gcd a b) c g (
      dvd-gcd g a b (gcd-dvd_left a (gcd b c)) (dvd_trans g (gcd-dvd_right a (gcd b c)) (gcd-dvd_left b c)),
      dvd_trans g (gcd-dvd_right a (gcd b c)) (gcd-dvd_right b c),
      λ d h k. dvd-gcd d a (gcd b c) (dvd_trans d h (gcd-dvd_left a b)) (dvd-gcd d b c (dvd_trans d h (gcd-dvd_right a b)) k),
    )

pub gcd-zero_left : (a : ℕ) → gcd 0 a ≡ a
gcd-zero_left a = gcd_comm 0 a ∙ gcd-zero a

-- it isn't above both numbers
pub gcd_bounded : (m a b : ℕ) → a ≤ m → b ≤ m → gcd a b ≤ m
gcd_bounded m a zero h k = omega (arith, gcd-zero a, h)
gcd_bounded m a (suc b) h k = omega (arith, le_of_dvd {n = suc b} (omega arith) (gcd-dvd_right a (suc b)), k)

-- ---- 1 / d

-- where there is no such number, there is no divisor
pub no_divisor : (d : ℕ) → d ≤ largest → ((0 < d) × (d ≤ largest) → ⊥) → whole (pos 1) ≡ over (pos 1) d
unfolding over
no_divisor zero le none = refl
no_divisor (suc d) le none = absurd (none (omega arith, le))
