use Rattle.std.proofs.Common.{◌≡◌, drop, length}
use Rattle.nz_log.specs.Keys.{are_same_units}
use Rattle.nz_log.proofs.atoms.are_same_units.Given as goal

-- what is left is the same where all is
abbrev pub invariant-loop-i : goal.invariant-loop-i
invariant-loop-i l =
    record {
      long : length l.parts ≡ length l.others;
      left : are_same_units (drop l.i l.parts) (drop l.i l.others) ≡ are_same_units l.parts l.others;
    }
