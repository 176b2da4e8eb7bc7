use Rattle.nz_frac.proofs.RoundLemmas.{rounded_below, rounded_above}
use Rattle.nz_frac.proofs.frac.rounded_down.Goals as goal

pub returns-then-num-lt0-clause-value : goal.returns-then-num-lt0-clause-value
returns-then-num-lt0-clause-value c =
    rounded_below c.args.num c.args.den c.requires.numerator c.if-num-lt0.true c.unsigned_abs.ensures.value c.quotient.ensures

pub returns-else-num-lt0-clause-value : goal.returns-else-num-lt0-clause-value
returns-else-num-lt0-clause-value c =
    rounded_above c.args.num c.args.den c.requires.numerator c.if-num-lt0.false c.unsigned_abs-else-num-lt0.ensures.value c.quotient-else-num-lt0.ensures
