use Rattle.nz_frac.proofs.RoundLemmas.{whole_parts}
use Rattle.nz_frac.proofs.frac.Frac.integer.Goals as goal

pub invariant_of-result : goal.invariant_of-result
invariant_of-result c = whole_parts c.args.n c.requires.fits
