-- The bytes so far, and those of the trees that are left, are those of all.
use Rattle.std.proofs.Common.{◌≡◌, ◌++◌, drop}
use Rattle.nz_sexpr.specs.Packed.{packed_trees}
use Rattle.nz_sexpr.specs.View.{seen}
use Rattle.nz_sexpr.proofs.packed.+tree.Given as goal

abbrev pub invariant-pack_trees-loop-tree : goal.invariant-pack_trees-loop-tree
invariant-pack_trees-loop-tree l = l.bytes.items ++ packed_trees (seen (drop l.tree-index l.trees)) ≡ l.fn.bytes.items ++ packed_trees (seen l.trees)
