-- The answer so far, with the arguments that are left, gives the whole.
use Rattle.std.proofs.Common.{◌≡◌, drop, map}
use Rattle.nz_spec.specs.terms.Term.{combined, excluded}
use Rattle.nz_term.specs.Values.{value_of}
use Rattle.nz_truth.proofs.bools.excluded.Given as goal

abbrev pub invariant-loop-other : goal.invariant-loop-other
invariant-loop-other l = combined excluded (value_of l.value) (map value_of (drop l.other-index l.others)) ≡ combined excluded (value_of l.first) (map value_of l.others)
