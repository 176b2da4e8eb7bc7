-- What is folded so far, and then over what is left, is what comes of all.
use Rattle.std.proofs.Common.{◌≡◌, drop}
use Rattle.nz_spec.specs.terms.Linear.{folded}
use Rattle.nz_term.specs.Facts.{constants_at}
use Rattle.nz_frac.specs.Operations.{operator_of}
use Rattle.nz_term.proofs.facts.folded_on.Given as goal

abbrev pub invariant-loop-kid : goal.invariant-loop-kid
invariant-loop-kid l =
    folded (operator_of l.op) l.value (constants_at l.facts (drop l.kid-index l.kids)) ≡ folded (operator_of l.op) l.fn.first (constants_at l.facts l.kids)
