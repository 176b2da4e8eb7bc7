-- The term has a level, and its atom is among the log's.
use Rattle.std.proofs.Common.{sym, subst}
use Rattle.nz_sat_tests.specs.Problems.{IsPosed}
use Rattle.nz_sat_tests.proofs.HeldClauses.{joined_placed, named_placed}
use Rattle.nz_sat_tests.proofs.problem.Held.name.Goals as goal

pub invariant_of-self-in_err-atom : goal.invariant_of-self-in_err-atom
invariant_of-self-in_err-atom c =
    joined_placed c.self.inside.log c.place.new.self c.self.inside.sat c.self.inside.atoms.items c.args.term _ c.in_ok-place.ensures.told c.place.ensures.others c.place.ensures.clauses
    c.place.ensures.atoms c.term_atom.new.self c.term_atom.ensures.joins c.self.invariant

pub invariant_of-self-in_err-push : goal.invariant_of-self-in_err-push
invariant_of-self-in_err-push c =
    subst (IsPosed c.term_atom.new.self c.self.inside.sat) (sym c.in_err-push.ensures.items)
    (joined_placed c.self.inside.log c.place.new.self c.self.inside.sat c.self.inside.atoms.items c.args.term _ c.in_ok-place.ensures.told c.place.ensures.others c.place.ensures.clauses
    c.place.ensures.atoms c.term_atom.new.self c.term_atom.ensures.joins c.self.invariant)

pub invariant_of-self-in-Continue-branch-3 : goal.invariant_of-self-in-Continue-branch-3
invariant_of-self-in-Continue-branch-3 c =
    subst (IsPosed c.term_atom.new.self c.self.inside.sat) (sym c.in_ok-push.ensures.items)
    (named_placed c.self.inside.log c.place.new.self c.self.inside.sat c.self.inside.atoms.items c.args.term _ c.in_ok-place.ensures.told c.place.ensures.others c.place.ensures.clauses
    c.place.ensures.atoms c.term_atom.new.self c.term_atom.ensures.joins _ c.in_ok-atom.ensures.number c.in_ok-atom.ensures.there c.self.invariant)

pub invariant_of-self-else-not-contains : goal.invariant_of-self-else-not-contains
invariant_of-self-else-not-contains c =
    joined_placed c.self.inside.log c.place.new.self c.self.inside.sat c.self.inside.atoms.items c.args.term _ c.in_ok-place.ensures.told c.place.ensures.others c.place.ensures.clauses
    c.place.ensures.atoms c.term_atom.new.self c.term_atom.ensures.joins c.self.invariant
