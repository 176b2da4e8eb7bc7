use Rattle.std.proofs.Common.{◌≡◌, take}
use Rattle.nz_rows.specs.GateRows.{lists_of}
use Rattle.nz_rows.proofs.gates.rows_of.Given as goal

-- the rows so far
abbrev pub invariant-loop-row : goal.invariant-loop-row
invariant-loop-row o l = lists_of l.lists.items ≡ take l.row-index l.rows
