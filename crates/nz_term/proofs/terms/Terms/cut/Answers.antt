-- The front of a table is a table, and what is known of it is the front of what is known.
use Rattle.std.proofs.Common.{take, sym, ap, subst, ◌∙◌}
use Rattle.nz_term.specs.Facts.{IsKnown}
use Rattle.nz_term.proofs.Knowledge.{front_known}
use Rattle.nz_term.proofs.terms.Terms.cut.Goals as goal

pub invariant_of-self : goal.invariant_of-self
invariant_of-self c =
    subst (λ l. IsKnown l c.truncate-2.new.self) (sym c.truncate.ensures.front)
    (subst (IsKnown (take c.args.mark c.self.inside.nodes)) (sym c.truncate-2.ensures.front) (front_known c.self.inside.nodes c.self.inside.facts c.args.mark c.self.invariant))

pub returns-clause-front : goal.returns-clause-front
returns-clause-front c = c.truncate.ensures.front ∙ ap (take c.args.mark) c.self.view_is

pub returns-clause-table : goal.returns-clause-table
returns-clause-table c = (invariant_of-self c).table
