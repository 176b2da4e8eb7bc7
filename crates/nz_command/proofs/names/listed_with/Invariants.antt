use Rattle.std.proofs.Common.{◌≡◌, map, drop}
use Rattle.nz_script.specs.commands.Parse.{listed_with}
use Rattle.nz_command.specs.Requests.{entry}
use Rattle.nz_command.proofs.names.listed_with.Given as goal

abbrev pub invariant-loop-listed : goal.invariant-loop-listed
invariant-loop-listed g l = listed_with (map entry l.table) l.word ≡ listed_with (map entry (drop l.listed-index l.table)) l.word
