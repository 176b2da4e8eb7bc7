-- Where one over the divisor is there, and where it isn't.
use Rattle.std.proofs.Common.{ap, pos, ◌∙◌}
use Rattle.nz_fractions.specs.Fraction.{over}
use Rattle.nz_lin.proofs.CommonDivisors.{no_divisor}
use Rattle.nz_lin.proofs.tight.tight_multiplier.Goals as goal

pub returns-in-Some : goal.returns-in-Some
returns-in-Some c = record { multiplier = λ ns. c.in-Some.ensures.1 ∙ ap (over (pos 1)) (c.common_divisor.ensures.divisor ns) }

pub returns-in-None : goal.returns-in-None
returns-in-None c = record {
  multiplier = λ ns. c.whole.ensures ∙ no_divisor c.common_divisor.result c.common_divisor.ensures.fits c.in-None.ensures ∙ ap (over (pos 1)) (c.common_divisor.ensures.divisor ns);
}
