use Rattle.nz_spec.proofs.Instances.{instance_keeps_normal}
use Rattle.nz_spec.proofs.term.instance_keeps_normal.Goals as goal

pub returns : goal.returns
returns c = record { keeps = instance_keeps_normal }
