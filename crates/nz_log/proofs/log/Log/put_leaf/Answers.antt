-- What rests on nothing may stand anywhere.
use Rattle.nz_log.specs.Stored.{origin_of}
use Rattle.nz_log.proofs.PremiseOrder.{leaf_rests}
use Rattle.nz_log.proofs.log.Log.put_leaf.Goals as goal

pub put-requires : goal.put-requires
put-requires c = record { rests = λ id above. leaf_rests c.args.self.now id _ (origin_of c.args.origin) c.requires.leaf }
