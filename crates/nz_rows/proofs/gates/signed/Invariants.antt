use Rattle.std.proofs.Common.{◌≡◌, ◌∷◌, take}
use Rattle.nz_rows.specs.GateRows.{signed}
use Rattle.nz_rows.proofs.gates.signed.Given as goal

-- the terms so far are listed
abbrev pub invariant-loop-kid : goal.invariant-loop-kid
invariant-loop-kid l = l.literals.items ≡ l.fn.first ∷ signed l.sign (take l.kid-index l.kids)
