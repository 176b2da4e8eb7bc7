use Rattle.nz_sexpr.proofs.PackedTrees.{packed-next, piece_more}
use Rattle.nz_sexpr.proofs.packed.+tree.Goals as goal

pub pack_trees-loop-tree-preserved : goal.pack_trees-loop-tree-preserved
pack_trees-loop-tree-preserved t c =
    piece_more _ _ _ _ _ _ c.loop-tree.invariant (packed-next c.args.trees.now c.loop-tree.tree-index c.tree-item.result c.loop-tree-test.true c.tree-item.is) c.in_ok-pack_tree.ensures.packed
