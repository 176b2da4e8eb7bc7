-- One key is looked at.
use Rattle.nz_sat.proofs.Departures.{goes_one, stays_one}
use Rattle.nz_sat.proofs.propagation.Propagation.keep_one.Goals as goal

pub returns-then-goes-clause-keeps : goal.returns-then-goes-clause-keeps
returns-then-goes-clause-keeps c =
    let l = c.leave.ensures in
    goes_one c.args.part c.args.self.now c.leave.new.self c.args.key (c.goes.ensures.goes c.if-goes.true) l.gone l.listed l.room l.head

pub returns-else-goes-clause-keeps : goal.returns-else-goes-clause-keeps
returns-else-goes-clause-keeps c = stays_one c.args.part c.args.self.now c.args.key (c.goes.ensures.stays c.if-goes.false)
