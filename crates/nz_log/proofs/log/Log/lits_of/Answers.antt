-- One literal more.
use Rattle.std.proofs.Common.{◌≡◌, ◌∷◌, [], ◌++◌, List, get_or, false, sym, subst, rules}
use Rattle.nz_term.specs.declared.term_lits.TermLit.{TermLit}
use Rattle.nz_log.specs.declared.lits.Lit.{Lit}
use Rattle.nz_log.specs.Atoms.{HasTerm, IsAtomOf, JoinOnly, lit_of}
use Rattle.nz_log.proofs.AtomLiterals.{lits_more}
use Rattle.nz_log.proofs.JoinedAtoms.{joins_twice}
use Rattle.nz_log.proofs.OnlyJoined.{lit_more, none_joins}
use Rattle.nz_log.proofs.log.Log.lits_of.Goals as goal

pub loop-literal-init : goal.loop-literal-init
loop-literal-init c = record {
  so_far = search rules;
  there = search rules;
  joins = search rules;
  atoms = search rules;
  only = none_joins c.args.self.now.atoms (IsAtomOf c.new-literals.result.items);
}

pub loop-literal-preserved : goal.loop-literal-preserved
loop-literal-preserved c =
    let d : TermLit = record { term = 0; sign = false } in
    let i = c.loop-literal.literal-index in
    let x = get_or c.args.clause.now i d in
    let old = c.loop-literal.self in
    let new = c.term_lit.new.self in
    let pushed : c.push.new.self.items ≡ c.loop-literal.literals.items ++ lit_of new.atoms x ∷ [] = search rules in
    let own : HasTerm new.atoms x.term = search rules in
    let more = lits_more old.atoms new.atoms c.term_lit.ensures.joins.atoms c.term_lit.ensures.atoms c.args.clause.now i d c.loop-literal-test.true c.loop-literal.invariant.there own
    c.loop-literal.literals.items c.push.new.self.items c.loop-literal.invariant.so_far pushed in
    record {
      so_far = more.0;
      there = more.1;
      joins = joins_twice c.args.self.now old new c.loop-literal.invariant.joins c.term_lit.ensures.joins;
      atoms = c.term_lit.ensures.atoms;
      only = subst (λ (ls : List Lit). JoinOnly c.args.self.now.atoms new.atoms (IsAtomOf ls)) (sym c.in_ok-push.ensures.items)
          (lit_more c.args.self.now.atoms old.atoms new.atoms c.loop-literal.literals.items c.in_ok-next.next c.loop-literal.invariant.only c.in_ok-next.ensures.only);
    }
