-- Each text is computed.
use Rattle.std.proofs.Common.{refl}
use Rattle.std.specs.Fmt.{digits}
use Rattle.nz_ints.specs.Division.{gcd_within, gcd, lcm, floor_div}
use Rattle.nz_fractions.specs.Fraction.{denominator, over, fraction_eq, fraction_le, fraction_lt, neg_ℚ, ◌+ℚ◌, ◌-ℚ◌, ◌*ℚ◌, ◌/ℚ◌, flipped, reciprocal, floor, reduce, ratio, is_wide_sum, is_wide_product, exact, outcome, is_wide, first_wide}
use Rattle.nz_spec.specs.terms.Term.{div_of, mod_of}
use Rattle.nz_script.proofs.worked.worked_replies.Goals as goal

pub returns : goal.returns
unfolding digits gcd_within gcd lcm floor_div denominator over fraction_eq fraction_le fraction_lt neg_ℚ ◌+ℚ◌ ◌-ℚ◌ ◌*ℚ◌ ◌/ℚ◌ flipped reciprocal floor reduce ratio is_wide_sum is_wide_product exact outcome is_wide first_wide div_of mod_of
returns c =
    record {
      values = record { truths = refl; integers = refl; reals = refl; wide = refl };
      spellings = record { blanks = refl; bars = refl; tokens = refl; nested = refl };
      readings = record { reals = refl; long = refl; integers = refl };
      told = record { integers = refl; negatives = refl; reals = refl; truths = refl; wide_sum = refl; first_wide = refl; both_branches = refl; small = refl; through_truth = refl };
      replies = record { answers = refl; done = refl; no_constants = refl; models = refl; quoted_names = refl; reasons = refl; infos = refl; echoes = refl };
      errors = record { syntax = refl; unknown_symbol = refl; sorts = refl; nonlinear = refl; width = refl; limits = refl; no_answer = refl; below_zero = refl; declared_before = refl; incomplete = refl; memory = refl };
    }
