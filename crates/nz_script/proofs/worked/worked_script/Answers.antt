-- Each outcome is computed.
use Rattle.std.proofs.Common.{refl}
use Rattle.std.specs.Fmt.{digits}
use Rattle.nz_ints.specs.Division.{gcd_within, gcd, lcm, floor_div}
use Rattle.nz_fractions.specs.Fraction.{denominator, over, fraction_eq, fraction_le, fraction_lt, neg_ℚ, ◌+ℚ◌, ◌-ℚ◌, ◌*ℚ◌, ◌/ℚ◌, flipped, reciprocal, floor, reduce, is_wide_sum, is_wide_product, exact, outcome, is_wide, first_wide}
use Rattle.nz_spec.specs.terms.Term.{div_of, mod_of}
use Rattle.nz_script.proofs.worked.worked_script.Goals as goal

pub returns : goal.returns
unfolding digits gcd_within gcd lcm floor_div denominator over fraction_eq fraction_le fraction_lt neg_ℚ ◌+ℚ◌ ◌-ℚ◌ ◌*ℚ◌ ◌/ℚ◌ flipped reciprocal floor reduce is_wide_sum is_wide_product exact outcome is_wide first_wide div_of mod_of
returns c =
    record {
      refusals = record { syntax = refl; limits = refl; width = refl; others = refl; unknown = refl; known = refl; sorts = refl; linear = refl };
      additions = record { constants = refl; functions = refl; sort_names = refl; halves = refl; over_constant = refl; parameters_hide = refl; widened = refl; hides_definition = refl; asserts = refl; vanishes = refl; greatest = refl; most_places = refl };
      asking = record { shows = refl; models = refl; names = refl; levels = refl; reasons = refl; echoes = refl; reports = refl; is_quiet = refl; unheeded = refl; ends = refl };
      effects = record { declares = refl; asserts = refl; shows = refl; refuses = refl; passes = refl; lacks_memory = refl; wants_memory = refl; denies = refl; sets = refl };
      levels = record { pushes = refl; pops = refl; takes_off = refl; wide = refl; resets = refl; assumes = refl; none = refl; unknown = refl; sorts = refl; reals = refl; integers = refl; live_integers = refl; begins = refl; ends = refl; stays = refl; starts_anew = refl; keeps_options = refl };
    }
