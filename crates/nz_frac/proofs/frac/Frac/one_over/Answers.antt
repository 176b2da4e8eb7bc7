-- 1 has no divisor but itself.
use Rattle.std.proofs.Common.{◌∙◌, arith, refl}
use Rattle.nz_ints.proofs.Divisors.{gcd_comm, gcd-one}
use Rattle.nz_fractions.specs.Fraction.{over}
use Rattle.nz_frac.proofs.frac.Frac.one_over.Goals as goal

pub invariant_of-result : goal.invariant_of-result
invariant_of-result c = record {
  lowest = gcd_comm 1 c.args.den ∙ gcd-one c.args.den;
  num_fits = omega arith;
  den_positive = omega arith;
  den_fits = omega arith;
}

pub returns : goal.returns
unfolding over
returns c = ((omega arith, omega arith), refl)
