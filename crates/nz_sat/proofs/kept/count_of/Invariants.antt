use Rattle.std.proofs.Common.{◌≡◌, ◌≤◌, length, take}
use Rattle.nz_sat.specs.Sats.{held_part}
use Rattle.nz_sat.proofs.kept.count_of.Given as goal

-- so many of those so far
abbrev pub invariant-loop-one : goal.invariant-loop-one
invariant-loop-one l =
    record {
      is : l.count ≡ length (held_part l.part (take l.one-index l.held));
      most : l.count ≤ l.one-index;
    }
