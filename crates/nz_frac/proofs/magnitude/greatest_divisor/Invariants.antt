use Rattle.std.proofs.Common.{◌≡◌}
use Rattle.nz_fractions.specs.Fraction.{gcd}
use Rattle.nz_frac.proofs.magnitude.greatest_divisor.Given as goal

abbrev pub invariant-loop-b : goal.invariant-loop-b
invariant-loop-b l = gcd l.a l.b ≡ gcd l.first l.second

abbrev pub decreases-loop-b : goal.decreases-loop-b
decreases-loop-b l = l.b
