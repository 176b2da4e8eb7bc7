use Rattle.std.proofs.Common.{ap, ◌∙◌}
use Rattle.nz_fractions.specs.Fraction.{fraction_lt}
use Rattle.nz_truth.proofs.Comparisons.{less_is}
use Rattle.nz_truth.proofs.chains.is_less.Goals as goal

pub returns : goal.returns
returns c = record {
  less = c.lt.ensures ∙ less_is c.number_of.result c.number_of-2.result
      ∙ ap (λ p. fraction_lt p c.number_of-2.result) c.number_of.ensures.number
      ∙ ap (fraction_lt _) c.number_of-2.ensures.number;
}
