-- The atom has one place.
use Rattle.std.proofs.Common.{◌≡◌, subst}
use Rattle.std.specs.Prelude.{IfOk}
use Rattle.nz_log.specs.Atoms.{JoinOnly}
use Rattle.nz_log.specs.Logs.{JoinsAtoms, LogState}
use Rattle.nz_log.specs.Stored.{log_of}
use Rattle.nz_log.proofs.AtomLiterals.{log_joins, numbered, term_there}
use Rattle.nz_log.proofs.PremiseOrder.{told_ordered}
use Rattle.nz_log.proofs.log.Log.term_atom.Goals as goal

pub invariant_of-self : goal.invariant_of-self
invariant_of-self c = (told_ordered _ _ _ _ _ c.self.invariant.0, c.self.invariant.1)

pub returns-clause-number : goal.returns-clause-number
returns-clause-number c = numbered c.put.new.self c.args.term c.put.result c.put.ensures.atoms c.put.ensures.there

pub returns-clause-there : goal.returns-clause-there
returns-clause-there c = term_there c.put.new.self c.args.term c.put.result c.put.ensures.there

pub returns-clause-joins : goal.returns-clause-joins
returns-clause-joins c =
    subst (λ (s : LogState). JoinsAtoms s (log_of c.self.inside.clauses.items c.self.inside.told.items c.put.new.self)) c.self.view_is
    (log_joins c.self.inside.clauses.items c.self.inside.told.items c.self.inside.atoms c.put.new.self c.put.ensures.stay)

pub returns-clause-only : goal.returns-clause-only
returns-clause-only c =
    subst (λ (s : LogState). IfOk c.put.result (λ id. JoinOnly s.atoms c.put.new.self (λ i. i ≡ id))) c.self.view_is c.put.ensures.only
