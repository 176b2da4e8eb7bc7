use Rattle.std.proofs.Common.{ap, rules, ◌∙◌}
use Rattle.nz_log.specs.Lits.{negated_lit}
use Rattle.nz_sat_tests.proofs.ConsistentLiterals.{one_consistent}
use Rattle.nz_sat_tests.proofs.problem.are_consistent.Goals as goal

pub loop-i-preserved : goal.loop-i-preserved
loop-i-preserved c =
    one_consistent c.args.literals.now c.loop-i.i c.not.result c.index-literals-i.result c.loop-i-test.true (c.not.ensures.negation ∙ ap negated_lit c.index-literals-i.is)
    c.if-contains.ensures.cases c.loop-i.invariant

pub returns : goal.returns
returns c = record { consistent = λ k d below. c.loop-i.invariant k d (search rules) }
