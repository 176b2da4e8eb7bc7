-- The level of the clause is the same beside what is there then.
use Rattle.std.proofs.Common.{refl}
use Rattle.nz_spec.specs.clauses.Literal.{once}
use Rattle.nz_log.specs.Lits.{are_same_lit}
use Rattle.nz_log.specs.Logs.{axiom_of}
use Rattle.nz_log.specs.Stored.{axiom_in}
use Rattle.nz_log.proofs.JoinedAtoms.{nothing_joins, puts_made}
use Rattle.nz_log.proofs.log.Log.put_axiom.Goals as goal

pub returns-clause-made : goal.returns-clause-made
returns-clause-made c =
    let s = c.args.self.now in
    let literals = once are_same_lit c.args.literals.now in
    puts_made s s c.put_leaf.new.self 0 literals literals (axiom_of (axiom_in c.args.reason)) c.put_leaf.result (nothing_joins s) c.put_leaf.ensures.atoms refl c.put_leaf.ensures.made
