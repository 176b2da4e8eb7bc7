-- What propagation tells of the clauses that are held.
use Rattle.nz_sat.proofs.Propagations.{follows_so}
use Rattle.nz_sat.proofs.search.Search.follow.Goals as goal

pub returns-clause-comes : goal.returns-clause-comes
returns-clause-comes c held may =
    let p = c.propagate.ensures in
    follows_so c.args.log.now held c.args.self.now c.propagate.new.trail c.propagate.new.self may p.visits p.keeps p.watched c.propagate.result p.all p.falsified

pub returns-clause-goes_on : goal.returns-clause-goes_on
returns-clause-goes_on c = c.propagate.ensures.visits.goes_on
