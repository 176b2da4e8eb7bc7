use Rattle.std.proofs.Common.{◌≡◌, drop}
use Rattle.nz_spec.specs.terms.Linear.{are_divisors}
use Rattle.nz_term.specs.Facts.{constants_at}
use Rattle.nz_term.proofs.facts.are_divisors.Given as goal

abbrev pub invariant-loop-kid : goal.invariant-loop-kid
invariant-loop-kid l = are_divisors (constants_at l.facts (drop l.kid-index l.kids)) ≡ are_divisors (constants_at l.facts l.kids)
