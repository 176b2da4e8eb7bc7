-- How large a tree is: the measure of a recursion down it.
use Rattle.std.specs.Prelude.{ℕ, suc, ◌+◌}
use Rattle.nz_script.specs.text.Tree.{Tree, leaf, node, Trees, no_trees, trees}

abbrev mutual
  pub tree_size : Tree → ℕ
  tree_size (leaf t) = 1
  tree_size (node ts) = suc (trees_size ts)

  pub trees_size : Trees → ℕ
  trees_size no_trees = 0
  trees_size (trees t ts) = suc (tree_size t + trees_size ts)
