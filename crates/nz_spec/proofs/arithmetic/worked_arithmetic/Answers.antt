-- Each clause is computed.
use Rattle.std.proofs.Common.{refl}
use Rattle.nz_ints.specs.Division.{gcd_within, gcd, lcm, floor_div}
use Rattle.nz_fractions.specs.Fraction.{denominator, over, fraction_eq, fraction_lt, neg_ℚ, ◌+ℚ◌, ◌-ℚ◌, ◌*ℚ◌, floor, ceiling, reduce, is_wide_sum, is_wide_product, exact, outcome, is_wide, first_wide}
use Rattle.nz_spec.proofs.arithmetic.worked_arithmetic.Goals as goal

pub returns : goal.returns
unfolding gcd_within gcd lcm floor_div denominator over fraction_eq fraction_lt neg_ℚ ◌+ℚ◌ ◌-ℚ◌ ◌*ℚ◌ floor ceiling reduce is_wide_sum is_wide_product exact outcome is_wide first_wide
returns c =
    record {
      links = record { below = refl; most = refl; equations = refl; integers = refl; truths = refl; numbers = refl };
      units = record {
        choices = refl;
        quotients = refl;
        negative_divisors = refl;
        remainders = refl;
        magnitudes = refl;
        floors = refl;
        constants = refl;
      };
      sums = record { lower = refl; strict = refl; met = refl; unit_left = refl; not_positive = refl; no_sum = refl };
      cuts = record {
        floors = refl;
        below = refl;
        fractions = refl;
        real_units = refl;
        branches = refl;
        halves = refl;
        tight = refl;
        tight_already = refl;
      };
      wide = record { product = refl; next = refl; none = refl };
      refutation = refl;
    }
