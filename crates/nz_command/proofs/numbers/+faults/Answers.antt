use Rattle.std.proofs.Common.{◌<◌, arith}
use Rattle.nz_sexpr.specs.View.{view, seen}
use Rattle.nz_sexpr.specs.Sizes.{tree_size, trees_size}
use Rattle.nz_command.proofs.Sizes.{item_smaller}
use Rattle.nz_command.proofs.numbers.+faults.Goals as goal

pub list_faults-number_faults-requires : goal.list_faults-number_faults-requires
list_faults-number_faults-requires t c =
    let smaller : tree_size (view c.tree-item.result) < trees_size (seen c.args.list.now) =
    item_smaller view c.args.list.now c.loop-tree.tree-index c.tree-item.result c.loop-tree-test.true c.tree-item.is in
    (omega arith, tt)
