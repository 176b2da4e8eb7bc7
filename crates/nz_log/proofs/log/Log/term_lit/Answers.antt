-- At most the atom of the literal joins.
use Rattle.std.proofs.Common.{◌≡◌, sym, subst}
use Rattle.nz_log.specs.declared.lits.Lit.{Lit}
use Rattle.nz_log.specs.Atoms.{JoinOnly}
use Rattle.nz_log.proofs.log.Log.term_lit.Goals as goal

pub returns-clause-only : goal.returns-clause-only
returns-clause-only c =
    subst (λ (l : Lit). JoinOnly c.args.self.now.atoms c.term_atom.new.self.atoms (λ i. i ≡ l.atom)) (sym c.new.ensures.literal) c.in_ok-atom.ensures.only
