-- The stack leads to the order, step by step.
use Rattle.std.proofs.Common.{◌<◌, List, ◌++◌, ◌∷◌, [], reverse, sym, ap, subst, ◌∙◌, arith}
use Rattle.std.specs.Prelude.{nat_eq}
use Rattle.std.specs.HashSet.{contains}
use Rattle.std.specs.List.{list_any}
use Rattle.std.proofs.lemmas.List.{nil_from_length}
use Rattle.nz_spec.specs.terms.Table.{term_in}
use Rattle.nz_term.specs.declared.order.Step.{Step}
use Rattle.nz_term.specs.Steps.{entries, EntersArguments}
use Rattle.nz_term.proofs.Places.{come_behind, roots_listed}
use Rattle.nz_term.proofs.Traversal.{effort}
use Rattle.nz_term.proofs.Walks.{IsWalk, none_taken, start_walk, finish_walk, skip_walk, enter_walk, leave_walk, skip_less, enter_less}
use Rattle.nz_term.proofs.order.post_order.Goals as goal

pub loop-step-init : goal.loop-step-init
loop-step-init c =
    start_walk c.args.terms.now c.args.roots.now c.enter_each.new.steps.items (contains nat_eq c.new-done.result) c.new-order.result.items c.requires.within
    (c.in_ok-enter_each.ensures.entered ∙ ap (λ (l : List Step). l ++ entries c.args.roots.now) c.new-steps.ensures.items)
    (λ i. ap (list_any (nat_eq i)) c.new-done.ensures.empty) c.new-order.ensures.items

-- ---- A term to be entered

pub loop-step-smaller-in-Continue-branch-3 : goal.loop-step-smaller-in-Continue-branch-3
loop-step-smaller-in-Continue-branch-3 c =
    let ns = c.args.terms.now in
    let after = c.enter_arguments.new.steps.items in
    let more = subst (λ l. EntersArguments ns c.in-Enter.id l after) c.in_ok-push-in-Enter.ensures.items c.in_ok-enter_arguments-in-Enter.ensures.entered in
    let before = c.in-Some.ensures.items ∙ ap (λ s. c.pop.new.self.items ++ s ∷ []) c.in-Enter.is in
    subst (λ l. effort (term_in ns) (reverse after) < effort (term_in ns) (reverse l)) (sym before)
    (enter_less ns c.args.roots.now c.pop.new.self.items after c.in-Enter.id more)

pub loop-step-preserved-in-Continue-branch-3 : goal.loop-step-preserved-in-Continue-branch-3
loop-step-preserved-in-Continue-branch-3 c =
    let ns = c.args.terms.now in
    let roots = c.args.roots.now in
    let steps = c.pop.new.self.items in
    let after = c.enter_arguments.new.steps.items in
    let done = contains nat_eq c.loop-step.done in
    let order = c.loop-step.order.items in
    let more = subst (λ l. EntersArguments ns c.in-Enter.id l after) c.in_ok-push-in-Enter.ensures.items c.in_ok-enter_arguments-in-Enter.ensures.entered in
    let before = c.in-Some.ensures.items ∙ ap (λ s. steps ++ s ∷ []) c.in-Enter.is in
    enter_walk ns roots steps after c.in-Enter.id done order (sym c.contains.ensures ∙ c.if-not-contains.true) more (subst (λ l. IsWalk ns roots l done order) before c.loop-step.invariant)

pub loop-step-smaller-else-not-contains : goal.loop-step-smaller-else-not-contains
loop-step-smaller-else-not-contains c =
    let ns = c.args.terms.now in
    let steps = c.pop.new.self.items in
    let before = c.in-Some.ensures.items ∙ ap (λ s. steps ++ s ∷ []) c.in-Enter.is in
    subst (λ l. effort (term_in ns) (reverse steps) < effort (term_in ns) (reverse l)) (sym before) (skip_less ns c.args.roots.now steps c.in-Enter.id)

pub loop-step-preserved-else-not-contains : goal.loop-step-preserved-else-not-contains
loop-step-preserved-else-not-contains c =
    let ns = c.args.terms.now in
    let roots = c.args.roots.now in
    let steps = c.pop.new.self.items in
    let done = contains nat_eq c.loop-step.done in
    let order = c.loop-step.order.items in
    let before = c.in-Some.ensures.items ∙ ap (λ s. steps ++ s ∷ []) c.in-Enter.is in
    skip_walk ns roots steps c.in-Enter.id done order (sym c.contains.ensures ∙ c.if-not-contains.false) (subst (λ l. IsWalk ns roots l done order) before c.loop-step.invariant)

-- ---- A term to be left

pub loop-step-preserved : goal.loop-step-preserved
loop-step-preserved c =
    let ns = c.args.terms.now in
    let roots = c.args.roots.now in
    let steps = c.pop.new.self.items in
    let old = contains nat_eq c.loop-step.done in
    let new = contains nat_eq c.insert.new.self in
    let order = c.loop-step.order.items in
    let before = c.in-Some.ensures.items ∙ ap (λ s. steps ++ s ∷ []) c.in-Leave.is in
    let one = c.one_number.ensures.one ns c.known_table.ensures.table in
    let left = leave_walk ns roots one steps c.in-Leave.id old new order c.in_ok-insert-in-Leave.ensures.updates.0 (subst (λ l. IsWalk ns roots l old order) before c.loop-step.invariant) in
    subst (IsWalk ns roots steps new) (sym c.in_ok-push-in-Leave.ensures.items) left

-- ---- The end

pub returns-clause-order : goal.returns-clause-order
returns-clause-order c =
    let gone = none_taken c.pop.result _ _ c.in_default.not-Some c.pop.ensures.cases in
    let empty = nil_from_length c.loop-step.steps.items (omega (arith, gone.0, c.loop-step.steps.ok.0)) in
    finish_walk c.args.terms.now c.args.roots.now c.loop-step.steps.items (contains nat_eq c.loop-step.done) c.loop-step.order.items empty c.loop-step.invariant

pub returns-clause-behind : goal.returns-clause-behind
returns-clause-behind c =
    let ns = c.args.terms.now in
    let table = c.known_table.ensures.table in
    come_behind ns (c.one_number.ensures.one ns table) c.args.roots.now c.loop-step.order.items c.loop-step.invariant.listed (returns-clause-order c) table c.term_of_node.ensures.node

pub returns-clause-roots : goal.returns-clause-roots
returns-clause-roots c =
    let ns = c.args.terms.now in
    roots_listed ns (c.one_number.ensures.one ns c.known_table.ensures.table) c.args.roots.now c.loop-step.order.items c.loop-step.invariant.listed (returns-clause-order c) c.requires.within
