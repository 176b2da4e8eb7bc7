-- The literal of a strict bound is on the atom of its negation.
use Rattle.std.proofs.Common.{◌≡◌, false, true, List, sym, subst, ◌∙◌}
use Rattle.nz_spec.specs.terms.Table.{Node}
use Rattle.nz_lin.specs.Bounds.{literal_over}
use Rattle.nz_log.specs.declared.lits.Lit.{Lit}
use Rattle.nz_log.specs.Atoms.{IsLitIn, JoinOnly, literal_in}
use Rattle.nz_log.proofs.AtomLiterals.{bound_within, other_normal, other_said}
use Rattle.nz_log.proofs.log.Log.bound_literal.Goals as goal

pub bound_atom-requires : goal.bound_atom-requires
bound_atom-requires c = record {
  normal = other_normal c.args.bound c.in_ok-other.other (sym c.is_strict.ensures.strict ∙ c.if-is_strict.true) c.in_ok-other.ensures.literal;
}

pub returns-in_ok-atom-clause-literal : goal.returns-in_ok-atom-clause-literal
returns-in_ok-atom-clause-literal c =
    subst (λ (l : Lit). (ns : List Node) → literal_in ns c.bound_atom.new.self.atoms l ≡ literal_over ns c.args.bound) (sym c.new.ensures.literal)
    (other_said c.bound_atom.new.self.atoms c.in_ok-atom.atom c.args.bound c.in_ok-other.other c.in_ok-atom.ensures.there c.in_ok-other.ensures.literal)

pub returns-in_ok-atom-clause-within : goal.returns-in_ok-atom-clause-within
returns-in_ok-atom-clause-within c ns units =
    subst (λ (l : Lit). IsLitIn ns c.bound_atom.new.self.atoms l) (sym c.new.ensures.literal)
    (bound_within c.bound_atom.new.self.atoms c.in_ok-atom.atom false c.in_ok-other.other c.in_ok-atom.ensures.there ns (c.in_ok-other.ensures.units ns units))

pub returns-in_ok-atom-clause-only : goal.returns-in_ok-atom-clause-only
returns-in_ok-atom-clause-only c =
    subst (λ (l : Lit). JoinOnly c.args.self.now.atoms c.bound_atom.new.self.atoms (λ i. i ≡ l.atom)) (sym c.new.ensures.literal) c.in_ok-atom.ensures.only

pub returns-in_ok-atom-2-clause-within : goal.returns-in_ok-atom-2-clause-within
returns-in_ok-atom-2-clause-within c ns units =
    subst (λ (l : Lit). IsLitIn ns c.bound_atom-else-is_strict.new.self.atoms l) (sym c.new-else-is_strict.ensures.literal)
    (bound_within c.bound_atom-else-is_strict.new.self.atoms c.in_ok-atom-2.atom true c.args.bound c.in_ok-atom-2.ensures.there ns units)

pub returns-in_ok-atom-2-clause-only : goal.returns-in_ok-atom-2-clause-only
returns-in_ok-atom-2-clause-only c =
    subst (λ (l : Lit). JoinOnly c.args.self.now.atoms c.bound_atom-else-is_strict.new.self.atoms (λ i. i ≡ l.atom)) (sym c.new-else-is_strict.ensures.literal) c.in_ok-atom-2.ensures.only
