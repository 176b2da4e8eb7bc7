use Rattle.nz_frac.proofs.RoundLemmas.{reciprocal_answers}
use Rattle.nz_frac.proofs.frac.Frac.turned.Goals as goal

pub invariant_of-result : goal.invariant_of-result
invariant_of-result c = (reciprocal_answers c.self.invariant c.self.view_is c.requires c.unsigned_abs.ensures.value c.signed.ensures).parts

pub returns : goal.returns
returns c = (reciprocal_answers c.self.invariant c.self.view_is c.requires c.unsigned_abs.ensures.value c.signed.ensures).value
