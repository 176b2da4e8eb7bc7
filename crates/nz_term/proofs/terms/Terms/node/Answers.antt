-- The term of a number by its node.
use Rattle.std.proofs.Common.{◌≡◌, subst}
use Rattle.nz_spec.specs.terms.Term.{apply}
use Rattle.nz_spec.specs.terms.Table.{term_in, terms_at}
use Rattle.nz_term.specs.Heads.{head_of}
use Rattle.nz_term.specs.Nodes.{node_of}
use Rattle.nz_term.proofs.terms.Terms.node.Goals as goal

pub returns-clause-term : goal.returns-clause-term
returns-clause-term c =
    let n = c.get.result in
    subst (λ l. term_in l c.args.id ≡ apply (head_of n.head) (terms_at (term_in l) n.kids.now)) c.self.view_is
    (c.term_of_node.ensures.node c.self.inside.nodes c.self.invariant.table c.args.id (node_of n) c.get.ensures.node)

pub returns-clause-before : goal.returns-clause-before
returns-clause-before c = c.self.invariant.table.before c.args.id (node_of c.get.result) c.get.ensures.node

pub returns-clause-fits : goal.returns-clause-fits
returns-clause-fits c = c.self.invariant.table.fits c.args.id (node_of c.get.result) c.get.ensures.node

pub returns-clause-leaves : goal.returns-clause-leaves
returns-clause-leaves c = c.self.invariant.table.leaves c.args.id (node_of c.get.result) c.get.ensures.node
