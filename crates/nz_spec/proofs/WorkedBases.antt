-- The worked basis computes.
use Rattle.std.proofs.Common.{refl}
use Rattle.nz_ints.specs.Division.{gcd_within, gcd}
use Rattle.nz_fractions.specs.Fraction.{denominator, over, ◌+ℚ◌, neg_ℚ, ◌*ℚ◌, ◌/ℚ◌, flipped, reciprocal, reduce, exact, outcome, fraction_eq}
use Rattle.nz_spec.specs.worked.WorkedBasis.{HasJoiningRow, HasExchange}

pub worked_joining : HasJoiningRow
unfolding denominator over ◌+ℚ◌ reduce gcd gcd_within exact outcome
worked_joining = record { row = refl; operations = refl }

pub worked_exchange : HasExchange
unfolding denominator over ◌+ℚ◌ neg_ℚ ◌*ℚ◌ ◌/ℚ◌ flipped reciprocal reduce gcd gcd_within exact outcome fraction_eq
worked_exchange = record { solved = refl; replaced = refl; operations = refl }
