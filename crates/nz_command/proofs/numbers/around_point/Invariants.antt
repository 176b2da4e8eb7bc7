use Rattle.std.proofs.Common.{◌≡◌, ◌++◌, take, drop}
use Rattle.nz_script.specs.text.Tree.{before_point, after_point}
use Rattle.nz_command.proofs.numbers.around_point.Given as goal

abbrev pub invariant-loop-index : goal.invariant-loop-index
invariant-loop-index l = record {
  front : before_point l.bytes ≡ take l.index l.bytes ++ before_point (drop l.index l.bytes);
  places : after_point l.bytes ≡ after_point (drop l.index l.bytes);
}
