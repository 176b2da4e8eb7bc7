-- The clause of the row is put.
use Rattle.std.specs.Prelude.{IfOk}
use Rattle.nz_spec.specs.terms.Table.{term_in}
use Rattle.nz_rows.specs.Rows.{unit_rows}
use Rattle.nz_log.specs.Axioms.{unit_of}
use Rattle.nz_log.specs.Logs.{PutsAxiom}
use Rattle.nz_log.proofs.LiteralAgreement.{literals_agree}
use Rattle.nz_log.proofs.UnitPreservation.{unit_axiom}
use Rattle.nz_log.proofs.ArithmeticRules.{rule_put_in_order}
use Rattle.nz_log.proofs.TableClauses.{row_puts, unit_taken}
use Rattle.nz_log.proofs.log.Log.unit_axiom.Goals as goal
use Rattle.nz_log.proofs.log.Log.unit_axiom.Goals.{After-put_row}

puts : (c : After-put_row) → IfOk c.put_row.result (λ id. PutsAxiom c.args.terms.now c.args.self.now id (unit_of c.args.term c.args.j) c.put_row.new.self)
puts c =
    let ns = c.args.terms.now in
    let new = c.put_row.new.self in
    let t = term_in ns c.args.term in
    let agree = literals_agree c.tells_literals.ensures.tells c.one_number.ensures.one ns c.known_table.ensures.table new.atoms c.put_row.ensures.atoms in
    row_puts ns (unit_of c.args.term c.args.j) (unit_rows ns t) c.args.j c.args.self.now new (unit_taken ns t c.args.j) agree c.args.row.items c.requires.row c.put_row.result c.put_row.ensures.made

pub returns-clause-made : goal.returns-clause-made
returns-clause-made c = puts (goal.at.returns-clause-made c).After-put_row

pub returns-clause-sound : goal.returns-clause-sound
returns-clause-sound c levels arithmetic order =
    let ns = c.args.terms.now in
    let new = c.put_row.new.self in
    rule_put_in_order ns c.args.self.now new (unit_of c.args.term c.args.j) c.put_row.result (puts (goal.at.returns-clause-sound c).After-put_row) c.put_row.ensures.unchanged c.put_row.ensures.atoms
    (λ lits is. unit_axiom c.term_has_its_number.ensures.number c.term_stays.ensures.stays c.term_of_node.ensures.node ns c.known_table.ensures.table c.requires.companions new.atoms c.args.term c.args.j lits c.requires.within arithmetic is)
    levels order
