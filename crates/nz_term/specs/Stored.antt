-- What stored nodes are beside a table of leaves.
use Rattle.std.specs.Prelude.{List, map}
use Rattle.std.specs.List.{AllByRecursion}
use Rattle.nz_spec.specs.terms.Table as table
use Rattle.nz_term.specs.declared.leaves.Leaf.{Leaf}
use Rattle.nz_term.specs.declared.nodes.Stored.{Stored}
use Rattle.nz_term.specs.Leaves.{AreDistinctLeaves}
use Rattle.nz_term.specs.Symbols.{HasLeaf, head_in}

abbrev pub node_in : List Leaf → Stored → table.Node
node_in ls n = record { head = head_in ls n.symbol; kids = n.kids }

abbrev pub nodes_in : List Leaf → List Stored → List table.Node
nodes_in ls ns = map (node_in ls) ns

-- No leaf stands twice, and the leaf of each node is there.
pub record AreStored (ls : List Leaf) (ns : List Stored) : Type 0 where
  pub distinct : AreDistinctLeaves ls
  pub within : AllByRecursion (λ (n : Stored). HasLeaf ls n.symbol) ns
