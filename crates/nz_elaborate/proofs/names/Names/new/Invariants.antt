use Rattle.std.proofs.Common.{◌≡◌, true, map, take, drop}
use Rattle.nz_script.specs.commands.Elaboration.{operator_table}
use Rattle.nz_elaborate.specs.Operators.{entry_meaning}
use Rattle.nz_elaborate.specs.Names.{operator_entry}
use Rattle.nz_elaborate.proofs.OperatorNames.{word, all_fresh}
use Rattle.nz_elaborate.proofs.names.Names.new.Given as goal

-- the operators so far are there, and none of those that are left
abbrev pub invariant-loop-word : goal.invariant-loop-word
invariant-loop-word l = record {
  added : l.names ≡ map operator_entry (take l.word-index l.word-items);
  fresh : all_fresh (map word (take l.word-index l.word-items)) (map word (drop l.word-index l.word-items)) ≡ true;
  table : map entry_meaning l.word-items ≡ operator_table;
}
