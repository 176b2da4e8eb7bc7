use Rattle.nz_fractions.specs.Fraction.{is_wide}
use Rattle.nz_frac.proofs.WideLemmas.{not_wide, some_wide}
use Rattle.nz_frac.proofs.frac.Frac.add.Goals as goal

pub returns-in-Some-clause-wide : goal.returns-in-Some-clause-wide
unfolding is_wide
returns-in-Some-clause-wide c = not_wide _ c.in-Some.ensures.0

pub returns-in-None-clause-wide : goal.returns-in-None-clause-wide
unfolding is_wide
returns-in-None-clause-wide c = some_wide _ c.in-None.ensures
