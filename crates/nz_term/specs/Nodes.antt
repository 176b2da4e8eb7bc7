-- What a node of the code is.
use Rattle.std.specs.Prelude.{ℕ, List}
use Rattle.nz_spec.specs.terms.Table as table
use Rattle.nz_term.specs.declared.heads.Head.{Head}
use Rattle.nz_term.specs.declared.nodes.Node.{Node}
use Rattle.nz_term.specs.Heads.{head_of}

-- the node of a head and the numbers of its arguments
abbrev pub node_with : Head → List ℕ → table.Node
node_with h ks = record { head = head_of h; kids = ks }

abbrev pub node_of : Node → table.Node
node_of n = node_with n.head n.kids.now
