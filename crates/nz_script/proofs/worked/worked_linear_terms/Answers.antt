-- Each is computed.
use Rattle.std.proofs.Common.{refl}
use Rattle.nz_ints.specs.Division.{gcd_within, gcd, lcm, floor_div}
use Rattle.nz_fractions.specs.Fraction.{denominator, over, fraction_eq, fraction_le, fraction_lt, neg_ℚ, ◌+ℚ◌, ◌-ℚ◌, ◌*ℚ◌, ◌/ℚ◌, flipped, reciprocal, floor, reduce, ratio, is_wide_sum, is_wide_product, exact, outcome, is_wide, first_wide}
use Rattle.nz_spec.specs.terms.Term.{div_of, mod_of}
use Rattle.nz_script.proofs.worked.worked_linear_terms.Goals as goal

pub returns : goal.returns
unfolding gcd_within gcd lcm floor_div denominator over fraction_eq fraction_le fraction_lt neg_ℚ ◌+ℚ◌ ◌-ℚ◌ ◌*ℚ◌ ◌/ℚ◌ flipped reciprocal floor reduce ratio is_wide_sum is_wide_product exact outcome is_wide first_wide div_of mod_of
returns c =
    record {
      linear = record { linear = refl; nonlinear = refl };
      constants = record { whole_numbers = refl; quotients = refl; none = refl };
    }
