use Rattle.std.proofs.Common.{◌≡◌, drop}
use Rattle.nz_term.specs.Facts.{hold_integer_at}
use Rattle.nz_term.proofs.facts.hold_integer.Given as goal

abbrev pub invariant-loop-kid : goal.invariant-loop-kid
invariant-loop-kid l = hold_integer_at l.facts (drop l.kid-index l.kids) ≡ hold_integer_at l.facts l.kids
