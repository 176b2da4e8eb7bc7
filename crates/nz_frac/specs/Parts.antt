-- What a `Frac` holds: a numerator and a denominator that are those of a number.
use Rattle.std.specs.Prelude.{◌≡◌, ℕ, zero, suc, pred, ◌<◌, ◌≤◌, Bool, true, false, not, ℤ, pos, neg_ℤ, unsigned_abs}
use Rattle.std.proofs.Common.{arith, refl, ap}
use Rattle.nz_fractions.specs.Fraction.{Fraction, gcd, largest}
use Rattle.nz_frac.specs.declared.frac.Frac.TheInside.{Inside}

-- num / den is in lowest terms, and both are at most M
pub record AreParts (num : ℤ) (den : ℕ) : Type 0 where
  pub lowest : gcd (unsigned_abs num) den ≡ 1
  pub num_fits : unsigned_abs num ≤ largest
  pub den_positive : 0 < den
  pub den_fits : den ≤ largest

-- what the parts stand for
abbrev pub value_of : ℤ → ℕ → Fraction
value_of num den = record { numerator = num; below = pred den }

-- n, or -n where the flag is set
abbrev pub with_sign : Bool → ℕ → ℤ
with_sign true n = neg_ℤ (pos n)
with_sign false n = pos n

-- exactly one of the two holds
abbrev pub differ : Bool → Bool → Bool
differ true b = not b
differ false b = b

-- a denominator is one more than what the value keeps of it
pub suc-pred_den : (den : ℕ) → 0 < den → suc (pred den) ≡ den
suc-pred_den zero p = absurd (omega arith)
suc-pred_den (suc d) p = refl

pub parts_back : (num : ℤ) (den : ℕ) → AreParts num den → (let back : Inside = record { num = num; den = suc (pred den) } in back) ≡ record { num = num; den = den }
parts_back num den parts = ap (λ (d : ℕ). let inside : Inside = record { num = num; den = d } in inside) (suc-pred_den den parts.den_positive)
