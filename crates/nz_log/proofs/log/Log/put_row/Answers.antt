-- The literals' atoms join, and then the clause is put.
use Rattle.std.proofs.Common.{ap}
use Rattle.nz_spec.specs.clauses.Literal.{once}
use Rattle.nz_log.specs.Lits.{are_same_lit}
use Rattle.nz_log.specs.Logs.{axiom_entry}
use Rattle.nz_log.specs.Stored.{axiom_in}
use Rattle.nz_log.proofs.OnlyJoined.{clause_only}
use Rattle.nz_log.proofs.TableClauses.{row_put}
use Rattle.nz_log.proofs.log.Log.put_row.Goals as goal

pub returns-clause-made : goal.returns-clause-made
returns-clause-made c =
    row_put c.args.self.now c.row_lits.new.self c.put_axiom.new.self (axiom_in c.args.reason) c.args.row.items c.in_ok-literals.literals.items c.deref.result.now c.put_axiom.result
    c.deref.ensures.value c.in_ok-literals.ensures.joins c.put_axiom.ensures.atoms c.in_ok-literals.ensures.literals c.put_axiom.ensures.made

pub returns-clause-only : goal.returns-clause-only
returns-clause-only c =
    let mid = c.row_lits.new.self in
    let new = c.put_axiom.new.self in
    clause_only c.args.self.now.atoms mid new mid c.in_ok-literals.literals.items (axiom_entry new (axiom_in c.args.reason) (once are_same_lit c.deref.result.now)) c.put_axiom.result
    c.in_ok-literals.ensures.only c.put_axiom.ensures.atoms (ap (once are_same_lit) c.deref.ensures.value) c.put_axiom.ensures.made
