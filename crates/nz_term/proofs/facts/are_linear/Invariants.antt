use Rattle.std.proofs.Common.{◌≡◌, drop}
use Rattle.nz_term.specs.Facts.{are_linear_at}
use Rattle.nz_term.proofs.facts.are_linear.Given as goal

abbrev pub invariant-loop-kid : goal.invariant-loop-kid
invariant-loop-kid l = are_linear_at l.facts (drop l.kid-index l.kids) ≡ are_linear_at l.facts l.kids
