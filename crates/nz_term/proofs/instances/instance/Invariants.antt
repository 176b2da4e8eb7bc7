use Rattle.nz_term.specs.Instances.{instance_in}
use Rattle.nz_term.proofs.InstanceTerms.{AreOnWay}
use Rattle.nz_term.proofs.instances.instance.Given as goal

abbrev pub invariant-loop-id : goal.invariant-loop-id
invariant-loop-id l = AreOnWay l.fn.terms l.terms l.arguments l.id-items (instance_in l.made) l.id-index
