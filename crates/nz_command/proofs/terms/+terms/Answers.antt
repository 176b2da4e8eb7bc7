use Rattle.std.proofs.Common.{◌≡◌, ◌<◌, ◌+◌, map, drop, arith, refl, sym, ap, ◌∙◌, subst, option_map, Vec, Global, rules}
use Rattle.std.proofs.lemmas.Bool.Decides.{nat_tests}
use Rattle.nz_command.specs.declared.expression.Expression.{Expression}
use Rattle.nz_command.specs.declared.expression.Local.{Local}
use Rattle.nz_command.specs.declared.expression.Expression.TheViews.{the_lemmas}
use Rattle.nz_command.specs.declared.expression.Expression.TheFolds.{fold-roll-Expression, fold_out-Expression, fold-roll-Local, fold_out-Local}
use Rattle.nz_sexpr.specs.View.{view, seen}
use Rattle.nz_sexpr.specs.Sizes.{tree_size, trees_size}
use Rattle.nz_script.specs.commands.Parse.{expression_of, expressions_of, local_of, locals_of, expressions_onto, locals_onto}
use Rattle.nz_command.specs.View as views
use Rattle.nz_command.proofs.Sizes.{item_smaller}
use Rattle.nz_command.proofs.ParsedLists.{before, parsed_next, parsed_none}
use Rattle.nz_command.proofs.TermLists.{expressions_end, locals_end, expressions_fail, locals_fail, used_parsed, bound_parsed}
use Rattle.nz_command.proofs.terms.+terms.Goals as goal

pub expressions-expression-requires : goal.expressions-expression-requires
expressions-expression-requires t c =
    let smaller : tree_size (view c.tree-item.result) < trees_size (seen c.args.list.now) =
    item_smaller view c.args.list.now c.loop-tree.tree-index c.tree-item.result c.loop-tree-test.true c.tree-item.is in
    (omega arith, tt)

pub locals-local-requires : goal.locals-local-requires
locals-local-requires t c =
    let smaller : tree_size (view c.binding-item.result) < trees_size (seen c.args.bindings.now) =
    item_smaller view c.args.bindings.now c.loop-binding.binding-index c.binding-item.result c.loop-binding-test.true c.binding-item.is in
    (omega arith, tt)

pub expressions-loop-tree-preserved : goal.expressions-loop-tree-preserved
expressions-loop-tree-preserved t c =
    subst (λ l. expressions_of (seen c.args.list.now) ≡ before expressions_onto (map views.view l) (expressions_of (seen (drop (c.loop-tree.tree-index + 1) c.args.list.now)))) (sym c.in_ok-push-in-Some.ensures.items)
    (parsed_next expressions_onto views.view (λ x. expression_of (view x)) (λ xs. expressions_of (seen xs)) (λ x xs. refl) c.args.list.now c.loop-tree.tree-index c.tree-item.result _
    c.loop-tree.items.items c.in-Some.item c.loop-tree-test.true
    (ap (option_map views.view) (sym c.in-Some.is) ∙ c.in_ok-item.ensures.parsed ∙ ap (λ x. expression_of (view x)) c.tree-item.is) c.loop-tree.invariant)

pub expressions-returns-in-None : goal.expressions-returns-in-None
expressions-returns-in-None t c =
    record {
      parsed = parsed_none expressions_onto views.view (λ x. expression_of (view x)) (λ xs. expressions_of (seen xs)) (λ x xs. refl) expressions_fail (λ e. refl) c.args.list.now c.loop-tree.tree-index
          c.tree-item.result _ (map views.view c.loop-tree.items.items) c.loop-tree-test.true
          (ap (option_map views.view) (sym c.in-None.is) ∙ c.in_ok-item.ensures.parsed ∙ ap (λ x. expression_of (view x)) c.tree-item.is) c.loop-tree.invariant;
    }

pub expressions-returns : goal.expressions-returns
expressions-returns t c = record { parsed = expressions_end c.args.list.now c.loop-tree.tree-index _ (map views.view c.loop-tree.items.items) c.loop-tree-test.false c.loop-tree.invariant }

pub locals-loop-binding-preserved : goal.locals-loop-binding-preserved
locals-loop-binding-preserved t c =
    subst (λ l. locals_of (seen c.args.bindings.now) ≡ before locals_onto (map views.local_view l) (locals_of (seen (drop (c.loop-binding.binding-index + 1) c.args.bindings.now)))) (sym c.in_ok-push-in-Some.ensures.items)
    (parsed_next locals_onto views.local_view (λ x. local_of (view x)) (λ xs. locals_of (seen xs)) (λ x xs. refl) c.args.bindings.now c.loop-binding.binding-index c.binding-item.result _
    c.loop-binding.items.items c.in-Some.item c.loop-binding-test.true
    (ap (option_map views.local_view) (sym c.in-Some.is) ∙ c.in_ok-item.ensures.parsed ∙ ap (λ x. local_of (view x)) c.binding-item.is) c.loop-binding.invariant)

pub locals-returns-in-None : goal.locals-returns-in-None
locals-returns-in-None t c =
    record {
      parsed = parsed_none locals_onto views.local_view (λ x. local_of (view x)) (λ xs. locals_of (seen xs)) (λ x xs. refl) locals_fail (λ l. refl) c.args.bindings.now c.loop-binding.binding-index
          c.binding-item.result _ (map views.local_view c.loop-binding.items.items) c.loop-binding-test.true
          (ap (option_map views.local_view) (sym c.in-None.is) ∙ c.in_ok-item.ensures.parsed ∙ ap (λ x. local_of (view x)) c.binding-item.is) c.loop-binding.invariant;
    }

pub locals-returns : goal.locals-returns
locals-returns t c = record { parsed = locals_end c.args.bindings.now c.loop-binding.binding-index _ (map views.local_view c.loop-binding.items.items) c.loop-binding-test.false c.loop-binding.invariant }

pub use_of-returns-in-Some : goal.use_of-returns-in-Some
use_of-returns-in-Some t c =
    let whole = ap (option_map (λ (v : Vec Expression Global). views.seen v.items)) (sym c.in-Some.is) ∙ c.in_ok-arguments.ensures.parsed in
    let made = used_parsed c.args.name.now c.args.arguments.now (views.seen c.in-Some.arguments.items) (λ e. grind (arith, nat_tests, e)) whole in
    search (rules, made, the_lemmas, fold_out-Expression)

pub let_expression-returns : goal.let_expression-returns
let_expression-returns t c =
    let made = bound_parsed views.local_view c.in-Some-2.locals.items (views.view c.in-Some-3.body) _ _ (λ e. grind (arith, nat_tests, e))
    (ap (option_map (λ (v : Vec Local Global). views.seen_locals v.items)) (sym c.in-Some-2.is) ∙ c.in_ok-locals.ensures.parsed)
    (ap (option_map views.view) (sym c.in-Some-3.is) ∙ c.in_ok-body.ensures.parsed) in
    search (rules, made, c.in-Some.ensures.two, c.in_ok-new.ensures.ok, the_lemmas, fold-roll-Expression, fold_out-Expression, fold-roll-Local, fold_out-Local)
