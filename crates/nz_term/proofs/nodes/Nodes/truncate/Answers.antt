-- The nodes in front.
use Rattle.std.proofs.Common.{take, sym, ap, ◌∙◌}
use Rattle.std.specs.List.{take-map}
use Rattle.nz_term.specs.Stored.{node_in, nodes_in}
use Rattle.nz_term.proofs.nodes.Nodes.truncate.Goals as goal

pub returns : goal.returns
returns c =
    let ls = c.self.inside.leaves.keys in
    record {
      front = ap (nodes_in ls) c.truncate.ensures.keys ∙ sym (take-map (node_in ls) c.args.len c.self.inside.nodes.keys) ∙ ap (take c.args.len) c.self.view_is;
    }
