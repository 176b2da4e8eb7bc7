-- One operation more, which is carried out or leaves the numbers.
use Rattle.std.proofs.Common.{◌≡◌, ◌+◌, List, ◌∷◌, drop, map, sym, ap, subst, ◌∙◌, arith}
use Rattle.nz_lists.proofs.Places.{drop_read}
use Rattle.nz_fractions.specs.Fraction.{Fraction, first_wide}
use Rattle.nz_spec.specs.terms.Operations.{operations_by}
use Rattle.nz_spec.specs.terms.Term.{carried_out, combined, number_of}
use Rattle.nz_frac.specs.Operations.{IsCarriedOut, IsStopped, operator_of}
use Rattle.nz_term.specs.declared.assign.Value.{Value}
use Rattle.nz_term.specs.Values.{value_of}
use Rattle.nz_truth.proofs.OperationSequences.{same_stop, same_value, stop_here}
use Rattle.nz_truth.proofs.arithmetic.operated_on.Goals as goal

pub returns-in-Err : goal.returns-in-Err
returns-in-Err c =
    let op = operator_of c.args.op in
    let k = c.loop-other.other-index in
    let v = value_of c.loop-other.value in
    let w = value_of c.other-item.result in
    let rest = drop (k + 1) c.args.others.now in
    let left : drop k c.args.others.now ≡ c.other-item.result ∷ rest = drop_read c.args.others.now k c.other-item.result (omega arith) c.other-item.is in
    let here : IsStopped op (number_of v) (number_of w) c.in-Err.wide =
    subst (λ (q : Fraction). IsStopped op (number_of v) q c.in-Err.wide) c.number_of-in-loop-other.ensures.number
    (subst (λ (p : Fraction). IsStopped op p c.number_of-in-loop-other.result c.in-Err.wide) c.number_of.ensures.number c.in-Err.ensures.stopped) in
    record {
      outcome = sym c.loop-other.invariant.stop ∙ ap (λ (l : List Value). first_wide (operations_by op v (map value_of l))) left ∙ stop_here op v w (map value_of rest) c.in-Err.wide here;
    }

pub loop-other-preserved : goal.loop-other-preserved
loop-other-preserved c =
    let op = operator_of c.args.op in
    let k = c.loop-other.other-index in
    let v = value_of c.loop-other.value in
    let w = value_of c.other-item.result in
    let rest = drop (k + 1) c.args.others.now in
    let left : drop k c.args.others.now ≡ c.other-item.result ∷ rest = drop_read c.args.others.now k c.other-item.result (omega arith) c.other-item.is in
    let here : IsCarriedOut op (number_of v) (number_of w) c.in-Ok.number =
    subst (λ (q : Fraction). IsCarriedOut op (number_of v) q c.in-Ok.number) c.number_of-in-loop-other.ensures.number
    (subst (λ (p : Fraction). IsCarriedOut op p c.number_of-in-loop-other.result c.in-Ok.number) c.number_of.ensures.number c.in-Ok.ensures.carried) in
    record {
      value =
          same_value op v w (map value_of rest) c.in-Ok.number here
          ∙ ap (λ (l : List Value). combined (carried_out op) v (map value_of l)) (sym left) ∙ c.loop-other.invariant.value;
      stop =
          same_stop op v w (map value_of rest) c.in-Ok.number here
          ∙ ap (λ (l : List Value). first_wide (operations_by op v (map value_of l))) (sym left) ∙ c.loop-other.invariant.stop;
    }
