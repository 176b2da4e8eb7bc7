use Rattle.std.proofs.Common.{◌≡◌, ◌<◌, suc, ap, refl, rules}
use Rattle.nz_sexpr.specs.View.{view, seen}
use Rattle.nz_sexpr.specs.Sizes.{tree_size, trees_size}
use Rattle.nz_sexpr.specs.declared.tree.Tree.TheFolds.{fold-roll-Tree, fold_out-Tree, fold-roll-TreeList, fold_out-TreeList}
use Rattle.nz_script.specs.text.Tree.{node}
use Rattle.nz_reply.proofs.Spaces.{tree_smaller, trees_end, trees_next}
use Rattle.nz_reply.proofs.TextPieces.{cut_off, rest_written, written_as, written_behind, written_on}
use Rattle.nz_reply.proofs.tree.TreeSpell.+write.Goals as goal
use Rattle.nz_sexpr.specs.declared.tree.Tree.TheViews.{the_lemmas}

pub returns-in_err-write-in-List-2 : goal.returns-in_err-write-in-List-2
returns-in_err-write-in-List-2 g t c =
    record {
      written =
          rest_written c.loop-index.invariant
          (cut_off _ (trees_next c.as_slice-trees.result.now c.loop-index.index c.index-trees-index.result c.loop-index-test.true c.index-trees-index.is) c.in_err-write-in-List-2.ensures.written c.from_residual-in_err-write-in-List-2.ensures.0);
    }

pub write-requires-in-loop-index-2 : goal.write-requires-in-loop-index-2
write-requires-in-loop-index-2 g t c κs within =
    let smaller : tree_size (view c.index-trees-index.result) < trees_size (seen c.as_slice-trees.result.now) =
    tree_smaller c.as_slice-trees.result.now c.loop-index.index c.index-trees-index.result c.loop-index-test.true c.index-trees-index.is in
    let shape : view c.args.self.now ≡ node (seen c.as_slice-trees.result.now) = search (rules, the_lemmas, fold-roll-Tree, fold_out-Tree, fold-roll-TreeList, fold_out-TreeList) in
    let size : tree_size (view c.args.self.now) ≡ suc (trees_size (seen c.as_slice-trees.result.now)) = ap tree_size shape in
    (search rules, search rules)

pub returns-in_err-write-in-List-3 : goal.returns-in_err-write-in-List-3
returns-in_err-write-in-List-3 g t c =
    record {
      written =
          rest_written c.loop-index.invariant
          (written_behind (trees_next c.as_slice-trees.result.now c.loop-index.index c.index-trees-index.result c.loop-index-test.true c.index-trees-index.is) c.in_ok-write-in-List-2.ensures.written
          (cut_off _ refl c.in_err-write-in-List-3.ensures.written c.from_residual-in_err-write-in-List-3.ensures.0));
    }

pub loop-index-preserved : goal.loop-index-preserved
loop-index-preserved g t c =
    written_on
    (written_on c.loop-index.invariant
    (trees_next c.as_slice-trees.result.now c.loop-index.index c.index-trees-index.result c.loop-index-test.true c.index-trees-index.is) c.in_ok-write-in-List-2.ensures.written)
    refl c.in_ok-write-in-List-3.ensures.written

pub returns-after-loop-index : goal.returns-after-loop-index
returns-after-loop-index g t c =
    record { written = rest_written c.loop-index.invariant (written_as (trees_end c.as_slice-trees.result.now c.loop-index.index c.loop-index-test.false) c.write-in-List-2.ensures.written) }
