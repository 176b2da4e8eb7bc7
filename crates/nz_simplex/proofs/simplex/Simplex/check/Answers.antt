-- The states are a run of check steps, each noted, and the last one tells the answer.
use Rattle.std.proofs.Common.{rules, ◌≡◌, ℕ, true, false, List, Ok, sym, ap, ◌∙◌, subst}
use Rattle.nz_spec.specs.simplex.Bland as bland
use Rattle.nz_spec.specs.simplex.Bland.{CanHelp}
use Rattle.nz_spec.specs.terms.Table.{Node}
use Rattle.nz_simplex.specs.Standing.{half}
use Rattle.nz_simplex.specs.State.{State, IsOver, position_over}
use Rattle.nz_simplex.proofs.StepSequences.{over_forms, stepped_itself, stepped_more, stepped_renewed, stepped_same, stepped_why}
use Rattle.nz_simplex.proofs.simplex.Simplex.check.Goals as goal

pub returns-in_err-renew-clause-steps : goal.returns-in_err-renew-clause-steps
returns-in_err-renew-clause-steps g c =
    stepped_renewed g.W.Steps.with_step (stepped_itself g.W.Steps.with_step c.args.work.now c.args.self.now) c.renew.ensures.renewed

pub loop-broken-init : goal.loop-broken-init
loop-broken-init g c = record {
  stepped = stepped_renewed g.W.Steps.with_step (stepped_itself g.W.Steps.with_step c.args.work.now c.args.self.now) c.renew.ensures.renewed;
  known = c.in_ok-renew.ensures.valued;
  why = ap (λ (s : State). s.why) c.renew.ensures.renewed.rest;
}

pub first_broken-requires : goal.first_broken-requires
first_broken-requires g c = record { valued = c.loop-broken.invariant.known }

pub step-requires-clause-valued : goal.step-requires-clause-valued
step-requires-clause-valued g c = c.loop-broken.invariant.known c.in-Some.broken.var c.in-Some.ensures.known

pub returns-in_err-step-clause-steps : goal.returns-in_err-step-clause-steps
returns-in_err-step-clause-steps g c =
    let same : c.step.new.self ≡ c.loop-broken.self = c.in_err-step.ensures.unchanged (λ e. absurd (cc)) in
    let unnoted : c.step.new.work ≡ c.loop-broken.work = c.in_err-step.ensures.unnoted (λ e. absurd (cc)) in
    stepped_same g.W.Steps.with_step c.step.new.work c.step.new.self c.loop-broken.invariant.stepped unnoted same

pub returns-in_err-step-clause-why : goal.returns-in_err-step-clause-why
returns-in_err-step-clause-why g c = λ n. c.step.ensures.why ∙ c.loop-broken.invariant.why

pub explain-requires-clause-helpless : goal.explain-requires-clause-helpless
explain-requires-clause-helpless g c =
    let failed : c.in_ok-step.field-0 ≡ false = search rules in
    let is : c.step.result ≡ Ok false = c.in_ok-step.was ∙ ap Ok failed in
    let same : c.step.new.self ≡ c.loop-broken.self = c.step.ensures.unchanged (λ e. absurd (cc)) in
    let b = c.in-Some.broken in
    subst (λ (s : State). (ns : List Node) → IsOver ns s → (j : ℕ) → CanHelp (position_over ns s) b.var (bland.other_side (half b.side)) j → ⊥) (sym same)
    (c.step.ensures.helpless is)

pub returns-then-not-branch-clause-steps : goal.returns-then-not-branch-clause-steps
returns-then-not-branch-clause-steps g c =
    let failed : c.in_ok-step.field-0 ≡ false = search rules in
    let is : c.step.result ≡ Ok false = c.in_ok-step.was ∙ ap Ok failed in
    let same : c.step.new.self ≡ c.loop-broken.self = c.step.ensures.unchanged (λ e. absurd (cc)) in
    let unnoted : c.step.new.work ≡ c.loop-broken.work = c.step.ensures.unnoted (λ e. absurd (cc)) in
    stepped_why g.W.Steps.with_step c.explain.new.self c.explain.new.self.why
    (stepped_same g.W.Steps.with_step c.step.new.work c.step.new.self c.loop-broken.invariant.stepped unnoted same)
    c.explain.ensures.rest

pub returns-then-not-branch-clause-answer : goal.returns-then-not-branch-clause-answer
returns-then-not-branch-clause-answer g c =
    let forms = ap (λ (s : State). s.forms) (sym c.explain.ensures.rest) in
    λ ns over. c.explain.ensures.refuted ns (over_forms ns c.explain.new.self c.step.new.self forms over)

pub loop-broken-smaller : goal.loop-broken-smaller
loop-broken-smaller g c =
    let moved : c.in_ok-step.field-0 ≡ true = search rules in
    c.step.ensures.paid (c.in_ok-step.was ∙ ap Ok moved)

pub loop-broken-preserved : goal.loop-broken-preserved
loop-broken-preserved g c =
    let moved : c.in_ok-step.field-0 ≡ true = search rules in
    let taken = c.step.ensures.taken (c.in_ok-step.was ∙ ap Ok moved) in
    record {
      stepped =
          stepped_renewed g.W.Steps.with_step
          (stepped_more g.W.Steps.with_step c.pivots_are_runs.ensures.runs c.step.new.work c.step.new.self c.in-Some.broken.var taken.0 c.loop-broken.invariant.stepped taken.1 taken.2 c.step.ensures.forms c.step.ensures.asserted)
          c.renew-in-Some.ensures.renewed;
      known = c.in_ok-renew-2.ensures.valued;
      why = ap (λ (s : State). s.why) c.renew-in-Some.ensures.renewed.rest ∙ c.step.ensures.why ∙ c.loop-broken.invariant.why;
    }

pub returns-in_err-renew-2-clause-steps : goal.returns-in_err-renew-2-clause-steps
returns-in_err-renew-2-clause-steps g c =
    let moved : c.in_ok-step.field-0 ≡ true = search rules in
    let taken = c.step.ensures.taken (c.in_ok-step.was ∙ ap Ok moved) in
    stepped_renewed g.W.Steps.with_step
    (stepped_more g.W.Steps.with_step c.pivots_are_runs.ensures.runs c.step.new.work c.step.new.self c.in-Some.broken.var taken.0 c.loop-broken.invariant.stepped taken.1 taken.2 c.step.ensures.forms c.step.ensures.asserted)
    c.renew-in-Some.ensures.renewed

pub returns-in_err-renew-2-clause-why : goal.returns-in_err-renew-2-clause-why
returns-in_err-renew-2-clause-why g c = λ n. ap (λ (s : State). s.why) c.renew-in-Some.ensures.renewed.rest ∙ c.step.ensures.why ∙ c.loop-broken.invariant.why

pub returns-clause-steps : goal.returns-clause-steps
returns-clause-steps g c = c.loop-broken.invariant.stepped

pub returns-clause-why : goal.returns-clause-why
returns-clause-why g c = λ n. c.loop-broken.invariant.why
