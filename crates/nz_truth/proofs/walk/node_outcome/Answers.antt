-- A node with an argument that has no value, and one without.
use Rattle.std.proofs.Common.{◌≡◌, List, Some, map, sym, subst, ◌∙◌}
use Rattle.nz_spec.specs.terms.Operations.{head_operations}
use Rattle.nz_spec.specs.terms.Term.{head_value}
use Rattle.nz_spec.specs.terms.Table.{term_in, terms_at}
use Rattle.nz_term.specs.Nodes.{node_of}
use Rattle.nz_term.specs.declared.assign.Value.{Value}
use Rattle.nz_term.specs.Values.{value_of}
use Rattle.nz_truth.specs.Outcomes.{IsOutcomeOf, first_stop, outcome_in, values_in}
use Rattle.nz_truth.proofs.TermOutcomes.{stopped_node, valued_node}
use Rattle.nz_truth.proofs.walk.node_outcome.Goals as goal

pub returns-in-Some : goal.returns-in-Some
returns-in-Some c =
    let n = node_of c.node-node.result in
    let os = outcome_in c.args.outcomes.now in
    let stop : Some c.in-Some.wide ≡ first_stop (map os n.kids) = sym c.in-Some.is ∙ c.in_ok-wide.ensures.stop in
    record { outcome = λ a given known. stopped_node c.args.terms.now a os c.args.id n.head n.kids c.node-node.ensures.term (known n c.node-node.ensures.node) c.in-Some.wide stop }

pub returns-in-None : goal.returns-in-None
returns-in-None c =
    let ns = c.args.terms.now in
    let n = node_of c.node-node.result in
    let os = outcome_in c.args.outcomes.now in
    let vs = c.gather.new.values.items in
    let here = sym c.in_ok-wide.ensures.stop ∙ c.in-None.is in
    let args : vs ≡ values_in (map os n.kids) = c.in_ok-wide.ensures.values here in
    record {
      outcome = λ a given known.
          valued_node ns a os c.args.id n.head n.kids c.node-node.ensures.term (known n c.node-node.ensures.node) vs c.outcome_over.result (sym here) args
          (subst (λ (l : List Value). IsOutcomeOf (head_operations n.head (map value_of l)) (head_value a n.head (map value_of l)) c.outcome_over.result) c.deref.ensures.value
          (c.outcome_over.ensures.outcome a (c.leaf.ensures.given a given n c.node-node.ensures.node (terms_at (term_in ns) n.kids) c.node-node.ensures.term)));
    }
