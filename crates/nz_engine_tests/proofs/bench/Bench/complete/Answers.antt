use Rattle.nz_engine_tests.proofs.Growth.{completed_in_order}
use Rattle.nz_engine_tests.proofs.bench.Bench.complete.Goals as goal

-- whether there was memory for them or not
pub invariant_of-self : goal.invariant_of-self
invariant_of-self c =
    completed_in_order c.self.inside.terms c.add_companions.new.terms c.self.inside.engine c.self.inside.depth c.add_companions.ensures.grows c.self.invariant
