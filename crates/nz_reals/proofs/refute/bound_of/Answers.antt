use Rattle.std.proofs.Common.{rules}
use Rattle.nz_reals.proofs.RefutationClauses.{units_handed}
use Rattle.nz_reals.proofs.refute.bound_of.Goals as goal

pub returns-clause-units : goal.returns-clause-units
returns-clause-units c =
    units_handed c.not.result c.args.log.now.atoms c.args.literal c.in-AtMost.bound (search rules) c.not.ensures.units
