use Rattle.std.proofs.Common.{rules, ◌≡◌, ℕ, ◌++◌, ◌∷◌, [], refl, sym, subst, ◌∙◌}
use Rattle.nz_log.specs.declared.lits.Lit.{Lit}
use Rattle.nz_log.specs.Atoms.{IsLitIn}
use Rattle.nz_reals.specs.Joins.{IsAtomFor}
use Rattle.nz_reals.specs.State.{told_lits}
use Rattle.nz_reals_tests.specs.Systems.{IsSum}
use Rattle.nz_reals_tests.proofs.TheoryOverLog.{learnable, order_joined, untold}
use Rattle.nz_reals_tests.proofs.system.learn.Goals as goal

pub add_atom-requires-clause-atom : goal.add_atom-requires-clause-atom
add_atom-requires-clause-atom c =
    let log = c.bound_literal.new.self in
    let at = c.atom-atom.ensures.atom in
    subst (IsAtomFor c.args.reals.now log.atoms) (sym at)
    (learnable c.args.terms.now log c.in_ok-literal.literal (c.in_ok-literal.ensures.within c.args.terms.now c.requires.units) (subst (IsSum log) at c.if-not-is_sum.ensures.sum)
    c.args.reals.now c.requires.order.over)

pub add_atom-requires-clause-untold : goal.add_atom-requires-clause-untold
add_atom-requires-clause-untold c = untold c.args.reals.now (sym (c.mark.ensures.count (told_lits c.args.reals.now) refl) ∙ c.if-mark-ne0.false)

pub returns : goal.returns
returns c =
    let ns = c.args.terms.now in
    let l = c.in_ok-literal.literal in
    let atom = c.atom-atom.result in
    let own : Lit = record { atom = atom; sign = l.sign } in
    let within : IsLitIn ns c.bound_literal.new.self.atoms own =
    subst (λ (i : ℕ). IsLitIn ns c.bound_literal.new.self.atoms (record { atom = i; sign = l.sign })) (sym c.atom-atom.ensures.atom) (c.in_ok-literal.ensures.within ns c.requires.units) in
    let pushed : c.push.new.self.items ≡ c.args.atoms.now.items ++ atom ∷ [] = search rules in
    record {
      order =
          order_joined ns c.args.log.now c.bound_literal.new.self c.args.reals.now c.add_atom.new.self c.args.atoms.now.items c.push.new.self.items own pushed c.requires.order c.in_ok-literal.ensures.joins
          within c.if-not-is_sum.ensures.sum c.in_ok-add_atom.ensures.of c.in_ok-add_atom.ensures.over c.in_ok-add_atom.ensures.untold;
    }
