use Rattle.nz_engine_tests.proofs.ToldLevels.{kept_in_order}
use Rattle.nz_engine_tests.proofs.bench.Bench.add.Goals as goal

pub invariant_of-self : goal.invariant_of-self
invariant_of-self c =
    kept_in_order c.self.inside.terms c.self.inside.engine c.add_to.new.engine c.self.inside.depth c.self.invariant c.add_to.ensures.ready c.add_to.ensures.count
