use Rattle.nz_frac.proofs.RoundLemmas.{whole_parts, whole_value, floor_value}
use Rattle.nz_frac.proofs.frac.Frac.floor.Goals as goal

pub returns-then-self-eq1 : goal.returns-then-self-eq1
returns-then-self-eq1 c = whole_value c.self.invariant c.self.view_is c.if-self-eq1.true

pub invariant_of-result-2 : goal.invariant_of-result-2
invariant_of-result-2 c = whole_parts c.rounded_down.result c.rounded_down.ensures.fits

pub returns : goal.returns
returns c = floor_value c.self.invariant c.self.view_is c.rounded_down.ensures.value c.rounded_down.ensures.fits
