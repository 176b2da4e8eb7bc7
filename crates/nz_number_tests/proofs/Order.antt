-- What the comparison of fractions tells.
use Rattle.std.proofs.Common.{◌≡◌, true, ℤ, ◌*ℤ◌, ◌<ℤ◌, pos, is_lt, arith}
use Rattle.std.proofs.lemmas.Int.{ints}
use Rattle.std.specs.Ordering.{int_cmp}
use Rattle.nz_fractions.specs.Fraction.{Fraction, denominator, fraction_cmp, ◌<ℚ◌}

pub below-from_cmp : (p q : Fraction) → true ≡ is_lt (fraction_cmp p q) → p <ℚ q
unfolding fraction_cmp
below-from_cmp p q e = record { cross = below (p.numerator *ℤ pos (denominator q)) (q.numerator *ℤ pos (denominator p)) e }
  where
    below : (m n : ℤ) → true ≡ is_lt (int_cmp m n) → m <ℤ n
    below m n e = grind (arith, ints)
