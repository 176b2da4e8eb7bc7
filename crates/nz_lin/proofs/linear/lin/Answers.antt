-- One step after another, and then the form of the first term.
use Rattle.std.proofs.Common.{List, sym, subst, ◌∙◌}
use Rattle.std.specs.Prelude.{nat_eq, reverse, slice_get}
use Rattle.std.specs.HashMap.{get}
use Rattle.nz_lin.specs.declared.linear.Step.{Step}
use Rattle.nz_lin.specs.declared.linear.Step.TheVariants.{Enter}
use Rattle.nz_lin.proofs.TermForms.{inside_some, node_by}
use Rattle.nz_lin.proofs.Sizes.{less_on, less_opened}
use Rattle.nz_lin.proofs.TermStack.{Ready, entered, left_now, popped}
use Rattle.nz_lin.proofs.linear.lin.Goals as goal

-- ---- A term is entered

pub loop-step-smaller-in-Continue-branch-2 : goal.loop-step-smaller-in-Continue-branch-2
loop-step-smaller-in-Continue-branch-2 c =
    let ns = c.args.terms.now in
    let rest = c.pop.new.self.items in
    let term = c.in-Enter.term in
    let ready = popped ns c.args.id (get nat_eq c.loop-step.forms) c.loop-step.steps.items rest c.in-Some.step (Enter term) c.in-Some.ensures.items c.in-Enter.is c.loop-step.invariant.ready in
    let n = node_by (slice_get ns term) (inside_some ns term ready.0.within) in
    less_opened ns c.term_of_node.ensures.node c.known_table.ensures.table c.loop-step.steps.items c.enter.new.steps.items rest c.in-Some.step term n.0 n.1
    c.in-Some.ensures.items c.in-Enter.is c.in_ok-enter-in-Enter.ensures.steps

pub loop-step-preserved-in-Continue-branch-2 : goal.loop-step-preserved-in-Continue-branch-2
loop-step-preserved-in-Continue-branch-2 c =
    let ns = c.args.terms.now in
    let m = get nat_eq c.loop-step.forms in
    let rest = c.pop.new.self.items in
    let term = c.in-Enter.term in
    let ready = popped ns c.args.id m c.loop-step.steps.items rest c.in-Some.step (Enter term) c.in-Some.ensures.items c.in-Enter.is c.loop-step.invariant.ready in
    let n = node_by (slice_get ns term) (inside_some ns term ready.0.within) in
    record {
      made = c.loop-step.invariant.made;
      ready = subst (λ (l : List Step). Ready ns c.args.id m (reverse l)) (sym c.in_ok-enter-in-Enter.ensures.steps)
          (entered c.term_of_node.ensures.node ns c.known_table.ensures.table c.args.id m c.loop-step.invariant.made term n.0 n.1 rest ready);
    }

pub loop-step-smaller-else-not-contains_key : goal.loop-step-smaller-else-not-contains_key
loop-step-smaller-else-not-contains_key c = less_on c.args.terms.now c.loop-step.steps.items c.pop.new.self.items c.in-Some.step c.in-Some.ensures.items

-- ---- A term is left, for the first time or once more

pub loop-step-smaller-in_ok-insert-in-Leave : goal.loop-step-smaller-in_ok-insert-in-Leave
loop-step-smaller-in_ok-insert-in-Leave c = less_on c.args.terms.now c.loop-step.steps.items c.pop.new.self.items c.in-Some.step c.in-Some.ensures.items

pub loop-step-preserved-in_ok-insert-in-Leave : goal.loop-step-preserved-in_ok-insert-in-Leave
loop-step-preserved-in_ok-insert-in-Leave c =
    let now = left_now c.args.terms.now c.args.id (get nat_eq c.loop-step.forms) (get nat_eq c.insert.new.self) c.in-Leave.term c.in_ok-form-in-Leave.form c.in_ok-insert-in-Leave.ensures.updates.0
    c.in_ok-form-in-Leave.ensures.formed c.loop-step.invariant.made c.loop-step.steps.items c.pop.new.self.items c.in-Some.step c.in-Some.ensures.items c.in-Leave.is c.loop-step.invariant.ready in
    record { made = now.0; ready = now.1 }

pub loop-step-smaller : goal.loop-step-smaller
loop-step-smaller c = less_on c.args.terms.now c.loop-step.steps.items c.pop.new.self.items c.in-Some.step c.in-Some.ensures.items

pub loop-step-preserved : goal.loop-step-preserved
loop-step-preserved c =
    let now = left_now c.args.terms.now c.args.id (get nat_eq c.loop-step.forms) (get nat_eq c.insert.new.self) c.in-Leave.term c.in_ok-form-in-Leave.form c.in_ok-insert-in-Leave.ensures.updates.0
    c.in_ok-form-in-Leave.ensures.formed c.loop-step.invariant.made c.loop-step.steps.items c.pop.new.self.items c.in-Some.step c.in-Some.ensures.items c.in-Leave.is c.loop-step.invariant.ready in
    record { made = now.0; ready = now.1 }

-- ---- The end

pub returns-clause-form : goal.returns-clause-form
returns-clause-form c = c.loop-step.invariant.made c.args.id c.unwrap.result (sym c.remove.ensures.value ∙ c.unwrap.ensures)
