-- A clause that has one literal of the last level is the learned one.
use Rattle.std.proofs.Common.{List, subst}
use Rattle.nz_log.specs.declared.lits.Lit.{Lit}
use Rattle.nz_sat.specs.Conflicts.{IsLoneLast}
use Rattle.nz_sat.proofs.LearnedClauses.{IsAsserting, lone_taught}
use Rattle.nz_sat.proofs.analyze.learned_clause.Goals as goal

pub returns-in-Some-clause-learned : goal.returns-in-Some-clause-learned
returns-in-Some-clause-learned c =
    let es = c.args.trail.now.entries in
    let l = c.in-Some.literal in
    let is = c.clause-literals.ensures.literals in
    let told = c.asserting.ensures in
    lone_taught c.args.trail.now.size es c.requires.order c.args.log.now c.args.falsified l c.requires.live c.requires.falsified c.requires.once c.requires.decided
    (subst (λ (d : List Lit). IsLoneLast es d l) is c.in-Some.ensures.lone) c.asserting.result
    (subst (λ (d : List Lit). IsAsserting es d c.args.falsified l c.asserting.result) is
    (record { clause = told.clause; literal = told.literal; kept = told.kept; others = told.others; beside = told.beside }))
