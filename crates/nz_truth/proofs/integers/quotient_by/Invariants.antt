-- The quotient so far, by the arguments that are left, is the whole.
use Rattle.std.proofs.Common.{◌≡◌, drop, map}
use Rattle.nz_spec.specs.terms.Term.{combined, divided}
use Rattle.nz_term.specs.Values.{value_of}
use Rattle.nz_truth.proofs.integers.quotient_by.Given as goal

abbrev pub invariant-loop-other : goal.invariant-loop-other
invariant-loop-other l = combined divided (value_of l.value) (map value_of (drop l.other-index l.others)) ≡ combined divided (value_of l.first) (map value_of l.others)
