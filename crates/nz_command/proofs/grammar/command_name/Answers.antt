use Rattle.nz_command.proofs.Members.{listed_if}
use Rattle.nz_command.specs.Names.{arguments_of}
use Rattle.nz_command.proofs.grammar.command_name.Goals as goal

pub returns : goal.returns
returns c = record { named = rw (c.listed_with.ensures.listed, c.as_bytes.ensures.bytes) (simp (listed_if arguments_of)) }
