use Rattle.std.proofs.Common.{◌≡◌, drop}
use Rattle.nz_script.specs.text.Bounds.{value_onto}
use Rattle.nz_command.proofs.numbers.narrow_value_onto.Given as goal

abbrev pub invariant-loop-index : goal.invariant-loop-index
invariant-loop-index l = value_onto l.fn.start l.digits ≡ value_onto l.value (drop l.index l.digits)
