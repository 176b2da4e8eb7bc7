use Rattle.std.proofs.Common.{◌≡◌, take}
use Rattle.nz_rows.specs.GateRows.{lists_of, paired}
use Rattle.nz_rows.proofs.gates.paired_rows.Given as goal

-- the terms so far have their rows
abbrev pub invariant-loop-kid : goal.invariant-loop-kid
invariant-loop-kid l = lists_of l.rows.items ≡ paired l.literal l.sign (take l.kid-index l.kids)
