use Rattle.nz_frac.proofs.PartLemmas.{number-from_parts}
use Rattle.nz_frac.proofs.frac.Frac.num.Goals as goal

pub returns-clause-number : goal.returns-clause-number
returns-clause-number c = number-from_parts c.self.inside.num c.self.inside.den _ c.self.invariant c.self.view_is
