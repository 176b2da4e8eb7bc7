-- The value so far, with the arguments that are left, gives the whole, and no operation so far has left the numbers.
use Rattle.std.proofs.Common.{◌≡◌, drop, map}
use Rattle.nz_fractions.specs.Fraction.{first_wide}
use Rattle.nz_spec.specs.terms.Operations.{operations_by}
use Rattle.nz_spec.specs.terms.Term.{carried_out, combined}
use Rattle.nz_frac.specs.Operations.{operator_of}
use Rattle.nz_term.specs.Values.{value_of}
use Rattle.nz_truth.proofs.arithmetic.operated_on.Given as goal

abbrev pub invariant-loop-other : goal.invariant-loop-other
invariant-loop-other l = record {
  value :
      combined (carried_out (operator_of l.op)) (value_of l.value) (map value_of (drop l.other-index l.others))
      ≡ combined (carried_out (operator_of l.op)) (value_of l.first) (map value_of l.others);
  stop :
      first_wide (operations_by (operator_of l.op) (value_of l.value) (map value_of (drop l.other-index l.others)))
      ≡ first_wide (operations_by (operator_of l.op) (value_of l.first) (map value_of l.others));
}
