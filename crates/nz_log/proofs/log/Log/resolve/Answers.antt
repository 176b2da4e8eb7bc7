-- It is the chain of one link.
use Rattle.std.proofs.Common.{rules}
use Rattle.nz_log.proofs.log.Log.resolve.Goals as goal

pub returns-clause-sound : goal.returns-clause-sound
returns-clause-sound c ns levels within order =
    c.chain.ensures.sound ns levels (search rules) order
