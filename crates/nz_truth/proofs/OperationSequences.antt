-- Operations one after another, up to the first that leaves the numbers.
use Rattle.std.proofs.Common.{◌≡◌, List, [], ◌∷◌, Some, sym, ap, subst, ◌∙◌}
use Rattle.nz_frac.specs.Operations.{IsCarriedOut, IsStopped, operation_of}
use Rattle.nz_frac.specs.declared.frac.Wide.{Wide}
use Rattle.nz_fractions.proofs.FirstOperations.{first_wide-none, first_wide-some}
use Rattle.nz_fractions.specs.Fraction.{Fraction, Arithmetic, first_wide}
use Rattle.nz_spec.specs.terms.Operations.{head_operations, operation_on, operations_by}
use Rattle.nz_spec.specs.terms.Term.{Assignment, Head, Value, carried_out, combined, head_value, number, number_of}
use Rattle.nz_term.specs.declared.assign.Value as own
use Rattle.nz_term.specs.declared.heads.Operator.{Operator}
use Rattle.nz_term.specs.Heads.{operator_of}
use Rattle.nz_term.specs.Values.{value_of}
use Rattle.nz_truth.specs.Outcomes.{IsOutcomeOf}
use Rattle.nz_truth.specs.declared.walk.Outcome.{Outcome}
use Rattle.nz_truth.specs.declared.walk.Outcome.TheVariants as outcome

-- ---- An operation over values

-- one step that is carried out
pub same_value : (op : Arithmetic) (v w : Value) (ws : List Value) (r : Fraction) → IsCarriedOut op (number_of v) (number_of w) r
    → combined (carried_out op) (number r) ws ≡ combined (carried_out op) v (w ∷ ws)
same_value op v w ws r h = ap (λ x. combined (carried_out op) x ws) h.1

pub same_stop : (op : Arithmetic) (v w : Value) (ws : List Value) (r : Fraction) → IsCarriedOut op (number_of v) (number_of w) r
    → first_wide (operations_by op (number r) ws) ≡ first_wide (operations_by op v (w ∷ ws))
same_stop op v w ws r h =
    ap (λ x. first_wide (operations_by op x ws)) h.1
    ∙ sym (first_wide-none (operation_on op (number_of v) (number_of w)) (operations_by op (carried_out op v w) ws) h.0)

-- and one that isn't
pub stop_here : (op : Arithmetic) (v w : Value) (ws : List Value) (x : Wide) → IsStopped op (number_of v) (number_of w) x
    → first_wide (operations_by op v (w ∷ ws)) ≡ Some (operation_of x)
stop_here op v w ws x h = first_wide-some (operation_on op (number_of v) (number_of w)) (operations_by op (carried_out op v w) ws) (operation_of x) h

-- ---- What a head comes to

-- the outcome is that of another head, which is the same
pub of_head : (h k : Head) (a : Assignment) (vs : List Value) (o : Outcome) → h ≡ k → IsOutcomeOf (head_operations k vs) (head_value a k vs) o
    → IsOutcomeOf (head_operations h vs) (head_value a h vs) o
of_head h k a vs o e is = subst (λ x. IsOutcomeOf (head_operations x vs) (head_value a x vs) o) (sym e) is

-- an operator that takes no operation comes to its value
pub plain : {o k : Operator} (vs : List Value) (v : own.Value) → o ≡ k → head_operations (operator_of k) vs ≡ [] → ((a : Assignment) → value_of v ≡ head_value a (operator_of k) vs)
    → (a : Assignment) → IsOutcomeOf (head_operations (operator_of o) vs) (head_value a (operator_of o) vs) (outcome.Value v)
unfolding first_wide
plain {o} {k} vs v e none is a = of_head (operator_of o) (operator_of k) a vs (outcome.Value v) (ap operator_of e) (ap first_wide none, is a)
