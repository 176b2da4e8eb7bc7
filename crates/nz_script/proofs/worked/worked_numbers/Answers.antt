-- Each value is computed.
use Rattle.std.proofs.Common.{refl}
use Rattle.nz_ints.specs.Division.{gcd_within, gcd, lcm, floor_div}
use Rattle.nz_fractions.specs.Fraction.{denominator, over, fraction_eq, fraction_le, fraction_lt, neg_ℚ, ◌+ℚ◌, ◌-ℚ◌, ◌*ℚ◌, ◌/ℚ◌, flipped, reciprocal, floor, reduce, ratio, is_wide_sum, is_wide_product, exact, outcome, is_wide, first_wide}
use Rattle.nz_spec.specs.terms.Term.{div_of, mod_of}
use Rattle.nz_script.proofs.worked.worked_numbers.Goals as goal

pub returns : goal.returns
unfolding gcd_within gcd lcm floor_div denominator over fraction_eq fraction_le fraction_lt neg_ℚ ◌+ℚ◌ ◌-ℚ◌ ◌*ℚ◌ ◌/ℚ◌ flipped reciprocal floor reduce ratio is_wide_sum is_wide_product exact outcome is_wide first_wide div_of mod_of
returns c =
    record {
      divisions = record { quotients = refl; remainders = refl; exact = refl; grouped = refl };
      rounding = record { floors = refl; tests = refl; sizes = refl };
      arithmetic = record { whole = refl; lowest = refl; unbounded = refl };
      comparisons = record { rising = refl; falling = refl; equal = refl; differs = refl; between = refl };
    }
