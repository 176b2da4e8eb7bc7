use Rattle.std.proofs.Common.{rules, subst}
use Rattle.std.specs.Prelude.{All, Contains}
use Rattle.nz_log.specs.declared.lits.Lit.{Lit}
use Rattle.nz_sat_tests.proofs.HeldClauses.{add_posed}
use Rattle.nz_sat_tests.proofs.problem.Held.hold.Goals as goal

pub add-requires-clause-since : goal.add-requires-clause-since
add-requires-clause-since c = c.self.invariant.since

pub invariant_of-self : goal.invariant_of-self
invariant_of-self c =
    let atoms = c.self.inside.atoms.items in
    let among : All (λ (l : Lit). Contains atoms l.atom) c.clause.result.now = subst (λ xs. All (λ (l : Lit). Contains xs l.atom) c.clause.result.now) c.deref.ensures.value c.if-not-are_on.ensures.among in
    add_posed c.self.inside.log c.self.inside.sat c.add.new.self atoms c.args.id c.add.result (search rules) (subst (All (λ (l : Lit). Contains atoms l.atom)) c.clause.ensures.literals among)
    c.add.ensures.added c.add.ensures.seen c.add.ensures.unchanged c.self.invariant
