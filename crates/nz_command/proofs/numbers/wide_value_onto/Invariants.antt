use Rattle.std.proofs.Common.{◌≡◌, ◌≤◌, drop}
use Rattle.nz_script.specs.text.Bounds.{value_onto}
use Rattle.nz_fractions.specs.Fraction.{largest}
use Rattle.nz_command.proofs.numbers.wide_value_onto.Given as goal

abbrev pub invariant-loop-byte : goal.invariant-loop-byte
invariant-loop-byte l = record {
  value : value_onto l.fn.start l.digits ≡ value_onto l.value (drop l.byte-index l.digits);
  bounded : l.value ≤ largest;
}
