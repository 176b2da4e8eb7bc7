use Rattle.std.proofs.Common.{subst}
use Rattle.nz_reals.specs.State.{Theory}
use Rattle.nz_sat.specs.Sats.{SatState}
use Rattle.nz_engine.specs.Checking.{LearnsMore}
use Rattle.nz_engine.proofs.prepared.theory.learn_on.Goals as goal

pub returns-clause-learns : goal.returns-clause-learns
returns-clause-learns c =
    subst (λ (s : SatState Theory). LearnsMore c.args.log.now.atoms c.args.atoms.now c.args.from s.theory c.learn_more.new.theory c.args.work.now c.learn_more.new.work c.learn_more.result) c.sat.view_is c.learn_more.ensures.learns
