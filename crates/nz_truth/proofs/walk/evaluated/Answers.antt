-- One term after another, and so the roots in the end.
use Rattle.std.proofs.Common.{◌≡◌, ◌<◌, length, get_or, slice_get, Some, false, sym, subst, arith}
use Rattle.std.specs.Prelude.{All, Contains, nat_eq}
use Rattle.std.specs.HashMap.{get}
use Rattle.std.proofs.lemmas.List.{take_all, take_more}
use Rattle.std.proofs.lemmas.Option.{slice_get-get_or}
use Rattle.nz_spec.specs.terms.Table.{assignment_by}
use Rattle.nz_spec.specs.terms.Order.{ComeBehindArguments}
use Rattle.nz_term.specs.declared.assign.Value.TheVariants as value
use Rattle.nz_truth.specs.declared.walk.Outcome.TheVariants as outcome
use Rattle.nz_truth.specs.Outcomes.{AreEvaluated, outcome_in}
use Rattle.nz_truth.proofs.TermOutcomes.{given, kids_known, one_more}
use Rattle.nz_truth.proofs.walk.evaluated.Goals as goal

pub loop-id-preserved : goal.loop-id-preserved
loop-id-preserved c =
    let ns = c.args.terms.now in
    let a = assignment_by ns c.args.assign.now in
    let ids = c.deref-id-items.result.now in
    let k = c.loop-id.id-index in
    let i = get_or ids k 0 in
    let old = c.loop-id.outcomes in
    let new = c.insert.new.self in
    let behind = subst (ComeBehindArguments ns) (sym c.deref-id-items.ensures.value) c.in_ok-order.ensures.behind in
    let inside : k < length ids = omega arith in
    let place : slice_get ids k ≡ Some i = slice_get-get_or ids k 0 inside in
    let kids = kids_known ns a ids (outcome_in old) behind k i place c.loop-id.invariant in
    let here = c.in_ok-outcome.ensures.outcome a (given c.assigns_by_number.ensures.listed ns c.known_table.ensures.table c.args.assign.now) kids in
    subst (λ l. AreEvaluated ns a l (outcome_in new)) (sym (take_more ids k 0 inside))
    (one_more ns a _ (get nat_eq old) (get nat_eq new) (outcome.Value (value.Truth false)) i c.in_ok-outcome.outcome c.in_ok-insert.ensures.updates.0 here c.loop-id.invariant)

pub returns : goal.returns
returns c =
    let ns = c.args.terms.now in
    let a = assignment_by ns c.args.assign.now in
    let ids = c.deref-id-items.result.now in
    let listed = subst (λ l. All (Contains l) c.args.roots.now) (sym c.deref-id-items.ensures.value) c.in_ok-order.ensures.roots in
    let all = take_all c.loop-id.id-index ids (omega arith) in
    let done = subst (λ l. AreEvaluated ns a l (outcome_in c.loop-id.outcomes)) all c.loop-id.invariant in
    record { roots = λ i m. done i (subst (Contains ids) m.2 (listed m.0 i m.1)) }
