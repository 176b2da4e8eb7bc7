use Rattle.nz_engine_tests.proofs.ToldLevels.{popped}
use Rattle.nz_engine_tests.proofs.bench.Bench.pop.Goals as goal

pub invariant_of-self : goal.invariant_of-self
invariant_of-self c =
    popped c.self.inside.terms c.self.inside.engine c.pop.new.self c.self.inside.depth c.self.invariant c.if-self-gt0.true c.pop.ensures.rest c.pop.ensures.table
