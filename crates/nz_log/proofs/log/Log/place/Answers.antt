-- What is told of terms doesn't matter for what clauses rest on, nor for their order.
use Rattle.std.proofs.Common.{ap}
use Rattle.nz_log.specs.Logs.{LogState}
use Rattle.nz_log.specs.Stored.{log_of}
use Rattle.nz_log.proofs.DroppedLevels.{told_in_order}
use Rattle.nz_log.proofs.PremiseOrder.{told_ordered}
use Rattle.nz_log.proofs.log.Log.place.Goals as goal

pub invariant_of-self : goal.invariant_of-self
invariant_of-self c = (told_ordered _ _ _ _ _ c.self.invariant.0, c.self.invariant.1)

pub returns-clause-sound : goal.returns-clause-sound
returns-clause-sound c ns levels order =
    told_in_order c.args.self.now (log_of c.self.inside.clauses.items c.tell.new.told.items c.self.inside.atoms) (ap (λ (s : LogState). s.entries) c.self.view_is)
    (ap (λ (s : LogState). s.atoms) c.self.view_is) ns levels order
