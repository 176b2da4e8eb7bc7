use Rattle.std.proofs.Common.{leb-true, leb-false}
use Rattle.nz_frac.proofs.Room.{product_below, product_above}
use Rattle.nz_frac.proofs.magnitude.has_room.Goals as goal

pub returns-clause-yes : goal.returns-clause-yes
returns-clause-yes c = λ t. product_below c.args.m c.args.n c.ranges.m.fits c.ranges.n.fits (leb-true _ _ t)

pub returns-clause-no : goal.returns-clause-no
returns-clause-no c = λ t. product_above c.args.m c.args.n c.ranges.m.fits c.ranges.n.fits (leb-false _ _ t)
