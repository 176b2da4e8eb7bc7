use Rattle.std.proofs.Common.{◌≤◌, take}
use Rattle.nz_sat.specs.Conflicts.{MarksCounted}
use Rattle.nz_sat.proofs.analyze.mark.Given as goal

-- the literals so far are marked and counted
abbrev pub invariant-loop-literal : goal.invariant-loop-literal
invariant-loop-literal l =
    (l.count ≤ l.literal-index) × MarksCounted l.trail.entries (take l.literal-index l.literals) l.level l.fn.seen l.seen l.count
