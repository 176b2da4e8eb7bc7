use Rattle.nz_frac.proofs.RoundLemmas.{ceiling_value}
use Rattle.nz_frac.proofs.frac.Frac.ceil.Goals as goal

pub returns : goal.returns
returns c = ceiling_value _ c.neg.ensures c.floor.ensures c.neg-2.ensures
