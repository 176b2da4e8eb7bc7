-- The atoms of the clause's terms join, and then the clause is put.
use Rattle.std.proofs.Common.{◌≡◌, List, [], All, ap, refl, sym, subst, ◌∙◌, rules}
use Rattle.std.specs.Prelude.{IfOk, slice_get, unwrap_or}
use Rattle.std.proofs.lemmas.Option.{slice_get_within}
use Rattle.nz_spec.specs.clauses.Literal.{once}
use Rattle.nz_log.specs.declared.atoms.Atom.{Atom}
use Rattle.nz_log.specs.declared.lits.Lit.{Lit}
use Rattle.nz_term.specs.declared.term_lits.TermLit.{TermLit}
use Rattle.nz_log.specs.Atoms.{AreAtoms, HasTerm, lits_of}
use Rattle.nz_log.specs.Lits.{are_same_lit}
use Rattle.nz_log.specs.Logs.{gate_entry, gate_of, made_entry, Puts}
use Rattle.nz_rows.specs.GateRows.{gates_at}
use Rattle.nz_log.proofs.DroppedLevels.{joined_in_order}
use Rattle.nz_log.proofs.GatesInOrder.{gate_in_order}
use Rattle.nz_log.proofs.JoinedAtoms.{err_joins, puts_made}
use Rattle.nz_log.proofs.OnlyJoined.{clause_only}
use Rattle.nz_log.proofs.Soundness.{rule_in_order}
use Rattle.nz_log.proofs.log.Log.gate.Goals as goal
use Rattle.nz_log.proofs.log.Log.gate.Goals.{After-put_leaf}

abbrev clause_of_table : After-put_leaf → List TermLit
clause_of_table c = unwrap_or (slice_get (gates_at c.args.terms.now c.args.term) c.args.j) []

is_row : (c : After-put_leaf) → clause_of_table c ≡ c.args.row.items
is_row c = ap (λ o. unwrap_or o []) c.requires.row

put_entry : (c : After-put_leaf) → IfOk c.put_leaf.result (λ id. Puts c.args.self.now id (gate_entry c.args.terms.now c.put_leaf.new.self c.args.term c.args.j) c.put_leaf.new.self)
put_entry c =
    let m = c.lits_of.new.self in
    let r = c.put_leaf.new.self in
    let ls : List Lit = c.in_ok-literals.literals.items in
    let are : ls ≡ lits_of m.atoms (clause_of_table c) = search (rules, is_row c) in
    let same : once are_same_lit ls ≡ once are_same_lit (lits_of r.atoms (clause_of_table c)) =
    ap (once are_same_lit) are ∙ ap (λ (list : List Atom). once are_same_lit (lits_of list (clause_of_table c))) (sym c.put_leaf.ensures.atoms) in
    let made : IfOk c.put_leaf.result (λ id. Puts m id (made_entry m 0 (once are_same_lit ls) (gate_of c.args.term c.args.j)) r) = search rules in
    puts_made c.args.self.now m r 0 (once are_same_lit ls) (once are_same_lit (lits_of r.atoms (clause_of_table c))) (gate_of c.args.term c.args.j) c.put_leaf.result
    c.lits_of.ensures.joins c.put_leaf.ensures.atoms same made

pub returns-clause-made : goal.returns-clause-made
returns-clause-made c = put_entry (goal.at.returns-clause-made c).After-put_leaf

pub returns-clause-only : goal.returns-clause-only
returns-clause-only c =
    let m = c.lits_of.new.self in
    let ls : List Lit = c.in_ok-literals.literals.items in
    let e = made_entry m 0 (once are_same_lit ls) (gate_of c.args.term c.args.j) in
    let made : IfOk c.put_leaf.result (λ id. Puts m id e c.put_leaf.new.self) = search rules in
    clause_only c.args.self.now.atoms m c.put_leaf.new.self m ls e c.put_leaf.result c.in_ok-literals.ensures.only c.put_leaf.ensures.atoms refl made

pub returns-clause-unchanged : goal.returns-clause-unchanged
returns-clause-unchanged c =
    err_joins c.args.self.now c.lits_of.new.self c.put_leaf.new.self c.put_leaf.result c.lits_of.ensures.joins c.put_leaf.ensures.unchanged

pub returns-clause-sound : goal.returns-clause-sound
returns-clause-sound c levels boolean order =
    let ns = c.args.terms.now in
    let s = c.args.self.now in
    let r = c.put_leaf.new.self in
    let e = gate_entry ns r c.args.term c.args.j in
    let here = (goal.at.returns-clause-sound c).After-put_leaf in
    let atoms = subst AreAtoms (sym c.put_leaf.ensures.atoms) c.lits_of.ensures.atoms in
    let has : All (λ (l : TermLit). HasTerm r.atoms l.term) (clause_of_table here) = search (rules, is_row here) in
    rule_in_order s r e c.put_leaf.result (put_entry here)
    (err_joins s c.lits_of.new.self r c.put_leaf.result c.lits_of.ensures.joins c.put_leaf.ensures.unchanged) atoms ns levels
    (λ id above. gate_in_order c.tells_literals.ensures.tells c.one_number.ensures.one c.term_of_node.ensures.node ns c.len.ensures.table c.args.term c.args.j
    c.requires.within (slice_get_within (gates_at ns c.args.term) c.args.j c.args.row.items c.requires.row) levels (record s { atoms = r.atoms }) id _ atoms has boolean)
    order

pub returns-in_err-literals-clause-sound : goal.returns-in_err-literals-clause-sound
returns-in_err-literals-clause-sound c levels boolean order =
    let joins = c.lits_of.ensures.joins in
    joined_in_order c.args.self.now c.lits_of.new.self joins.entries joins.atoms c.lits_of.ensures.atoms c.args.terms.now levels order
