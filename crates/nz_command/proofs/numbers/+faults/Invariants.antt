use Rattle.std.proofs.Common.{◌≡◌, ◌||◌, drop}
use Rattle.nz_sexpr.specs.View.{view, seen}
use Rattle.nz_sexpr.specs.Sizes.{tree_size, trees_size}
use Rattle.nz_script.specs.text.Bounds.{have_token, is_wide_token, is_long_decimal}
use Rattle.nz_command.proofs.numbers.+faults.Given as goal

abbrev pub decreases-number_faults : goal.decreases-number_faults
decreases-number_faults l = tree_size (view l.tree.now)

abbrev pub decreases-list_faults : goal.decreases-list_faults
decreases-list_faults l = trees_size (seen l.list.now)

abbrev pub invariant-list_faults-loop-tree : goal.invariant-list_faults-loop-tree
invariant-list_faults-loop-tree l = record {
  wide : have_token is_wide_token (seen l.list) ≡ (l.found.wide || have_token is_wide_token (seen (drop l.tree-index l.list)));
  long : have_token is_long_decimal (seen l.list) ≡ (l.found.long || have_token is_long_decimal (seen (drop l.tree-index l.list)));
}
