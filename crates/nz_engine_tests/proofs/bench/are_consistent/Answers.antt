use Rattle.std.proofs.Common.{rules}
use Rattle.nz_engine_tests.proofs.ConsistentLiterals.{one_consistent}
use Rattle.nz_engine_tests.proofs.bench.are_consistent.Goals as goal

pub loop-i-preserved : goal.loop-i-preserved
loop-i-preserved c = one_consistent c.args.literals.now c.loop-i.i c.not.result _ c.loop-i-test.true c.not.ensures.negation c.if-contains.ensures.cases c.loop-i.invariant

pub returns : goal.returns
returns c = record { consistent = λ k d below. c.loop-i.invariant k d (search rules) }
