-- The atom of the term joins, and then the clause is put.
use Rattle.std.proofs.Common.{◌≡◌, List, [], ◌∷◌, ap, refl, sym, subst, ◌∙◌, rules}
use Rattle.std.specs.Prelude.{IfOk}
use Rattle.nz_spec.specs.clauses.Literal.{once}
use Rattle.nz_log.specs.declared.atoms.Atom.{Atom}
use Rattle.nz_log.specs.declared.lits.Lit.{Lit}
use Rattle.nz_log.specs.Atoms.{AreAtoms, HasTerm, lit_of}
use Rattle.nz_log.specs.Lits.{are_same_lit}
use Rattle.nz_log.specs.Logs.{assertion_of, given_entry, made_entry, Puts}
use Rattle.nz_term.specs.TermLits.{yes}
use Rattle.nz_log.proofs.DroppedLevels.{joined_in_order}
use Rattle.nz_log.proofs.JoinedAtoms.{err_joins, puts_made}
use Rattle.nz_log.proofs.OnlyJoined.{clause_only, last_joins}
use Rattle.nz_log.proofs.Soundness.{given_in_order, level_grows, rule_in_order}
use Rattle.nz_log.proofs.log.Log.given.Goals as goal
use Rattle.nz_log.proofs.log.Log.given.Goals.{After-put_leaf}

put_entry : (c : After-put_leaf) → IfOk c.put_leaf.result (λ id. Puts c.args.self.now id (given_entry c.put_leaf.new.self c.args.k c.args.term c.args.level) c.put_leaf.new.self)
put_entry c =
    let m = c.term_lit.new.self in
    let r = c.put_leaf.new.self in
    let l = c.in_ok-literal.literal in
    let one : l ≡ lit_of r.atoms (yes c.args.term) =
    c.in_ok-literal.ensures.literal ∙ ap (lit_of m.atoms) c.holds.ensures.literal ∙ ap (λ (list : List Atom). lit_of list (yes c.args.term)) (sym c.put_leaf.ensures.atoms) in
    let made : IfOk c.put_leaf.result (λ id. Puts m id (made_entry m c.args.level (once are_same_lit (l ∷ [])) (assertion_of c.args.k)) r) = search rules in
    puts_made c.args.self.now m r c.args.level (once are_same_lit (l ∷ [])) (lit_of r.atoms (yes c.args.term) ∷ []) (assertion_of c.args.k) c.put_leaf.result
    c.term_lit.ensures.joins c.put_leaf.ensures.atoms (ap (λ (k : Lit). k ∷ []) one) made

pub returns-clause-made : goal.returns-clause-made
returns-clause-made c = put_entry (goal.at.returns-clause-made c).After-put_leaf

pub returns-clause-only : goal.returns-clause-only
returns-clause-only c =
    let m = c.term_lit.new.self in
    let l = c.in_ok-literal.literal in
    let e = made_entry m c.args.level (once are_same_lit (l ∷ [])) (assertion_of c.args.k) in
    let made : IfOk c.put_leaf.result (λ id. Puts m id e c.put_leaf.new.self) = search rules in
    clause_only c.args.self.now.atoms m c.put_leaf.new.self m (l ∷ []) e c.put_leaf.result (last_joins c.args.self.now.atoms m.atoms [] l c.in_ok-literal.ensures.only)
    c.put_leaf.ensures.atoms refl made

pub returns-clause-unchanged : goal.returns-clause-unchanged
returns-clause-unchanged c =
    err_joins c.args.self.now c.term_lit.new.self c.put_leaf.new.self c.put_leaf.result c.term_lit.ensures.joins c.put_leaf.ensures.unchanged

pub returns-clause-sound : goal.returns-clause-sound
returns-clause-sound c ns levels within live order =
    let s = c.args.self.now in
    let r = c.put_leaf.new.self in
    let e = given_entry r c.args.k c.args.term c.args.level in
    let has : HasTerm r.atoms c.args.term = search rules in
    let atoms = subst AreAtoms (sym c.put_leaf.ensures.atoms) c.term_lit.ensures.atoms in
    rule_in_order s r e c.put_leaf.result (put_entry (goal.at.returns-clause-sound c).After-put_leaf)
    (err_joins s c.term_lit.new.self r c.put_leaf.result c.term_lit.ensures.joins c.put_leaf.ensures.unchanged) atoms ns levels
    (λ id above. given_in_order ns levels (record s { atoms = r.atoms }) id c.args.k c.args.term c.args.level _ (level_grows r c.args.level (lit_of r.atoms (yes c.args.term) ∷ [])) within has live) order

pub returns-in_err-literal-clause-sound : goal.returns-in_err-literal-clause-sound
returns-in_err-literal-clause-sound c ns levels within live order =
    let joins = c.term_lit.ensures.joins in
    joined_in_order c.args.self.now c.term_lit.new.self joins.entries joins.atoms c.term_lit.ensures.atoms ns levels order
