use Rattle.std.proofs.Common.{arith}
use Rattle.std.proofs.lemmas.Bool.Decides.{nat_tests}
use Rattle.nz_command.proofs.ListLengths.{lone_attribute}
use Rattle.nz_command.proofs.parts.found_before.Goals as goal

pub returns-else-is_empty : goal.returns-else-is_empty
returns-else-is_empty c = record { parsed = lone_attribute _ c.args.list.now c.requires.short (λ e. grind (arith, nat_tests, e)) }
