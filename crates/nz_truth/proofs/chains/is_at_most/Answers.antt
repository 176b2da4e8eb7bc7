use Rattle.std.proofs.Common.{ap, ◌∙◌}
use Rattle.nz_fractions.specs.Fraction.{fraction_le}
use Rattle.nz_truth.proofs.Comparisons.{at_most_is}
use Rattle.nz_truth.proofs.chains.is_at_most.Goals as goal

pub returns : goal.returns
returns c = record {
  at_most = c.le.ensures ∙ at_most_is c.number_of.result c.number_of-2.result
      ∙ ap (λ p. fraction_le p c.number_of-2.result) c.number_of.ensures.number
      ∙ ap (fraction_le _) c.number_of-2.ensures.number;
}
