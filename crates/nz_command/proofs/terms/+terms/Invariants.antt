use Rattle.std.proofs.Common.{◌≡◌, suc, drop, map}
use Rattle.nz_sexpr.specs.View.{view, seen}
use Rattle.nz_sexpr.specs.Sizes.{tree_size, trees_size}
use Rattle.nz_script.specs.commands.Parse.{expressions_of, locals_of, expressions_onto, locals_onto}
use Rattle.nz_command.specs.View as views
use Rattle.nz_command.proofs.ParsedLists.{before}
use Rattle.nz_command.proofs.terms.+terms.Given as goal

abbrev pub decreases-expression : goal.decreases-expression
decreases-expression l = tree_size (view l.tree.now)

abbrev pub decreases-list_expression : goal.decreases-list_expression
decreases-list_expression l = trees_size (seen l.list.now)

abbrev pub decreases-use_of : goal.decreases-use_of
decreases-use_of l = suc (trees_size (seen l.arguments.now))

abbrev pub decreases-expressions : goal.decreases-expressions
decreases-expressions l = trees_size (seen l.list.now)

abbrev pub decreases-let_expression : goal.decreases-let_expression
decreases-let_expression l = trees_size (seen l.list.now)

abbrev pub decreases-listed_locals : goal.decreases-listed_locals
decreases-listed_locals l = tree_size (view l.tree.now)

abbrev pub decreases-locals : goal.decreases-locals
decreases-locals l = trees_size (seen l.bindings.now)

abbrev pub decreases-local : goal.decreases-local
decreases-local l = tree_size (view l.binding.now)

abbrev pub decreases-named_term : goal.decreases-named_term
decreases-named_term l = trees_size (seen l.list.now)

abbrev pub invariant-expressions-loop-tree : goal.invariant-expressions-loop-tree
invariant-expressions-loop-tree l = expressions_of (seen l.list) ≡ before expressions_onto (map views.view l.items.items) (expressions_of (seen (drop l.tree-index l.list)))

abbrev pub invariant-locals-loop-binding : goal.invariant-locals-loop-binding
invariant-locals-loop-binding l = locals_of (seen l.bindings) ≡ before locals_onto (map views.local_view l.items.items) (locals_of (seen (drop l.binding-index l.bindings)))
