use Rattle.std.proofs.Common.{◌≡◌, ◌+◌, ◌≤◌, drop}
use Rattle.nz_spec.specs.terms.Linear.{variable_count}
use Rattle.nz_term.specs.Facts.{constants_at}
use Rattle.nz_term.proofs.facts.variables.Given as goal

abbrev pub invariant-loop-kid : goal.invariant-loop-kid
invariant-loop-kid l =
    (l.count ≤ l.kid-index) × (l.count + variable_count (constants_at l.facts (drop l.kid-index l.kids)) ≡ variable_count (constants_at l.facts l.kids))
