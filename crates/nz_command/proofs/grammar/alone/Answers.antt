use Rattle.std.proofs.Common.{arith}
use Rattle.std.proofs.lemmas.Bool.Decides.{nat_tests}
use Rattle.nz_command.proofs.ListLengths.{none_left}
use Rattle.nz_command.proofs.grammar.alone.Goals as goal

pub returns : goal.returns
returns c = record { parsed = none_left _ c.args.arguments.now (λ e. grind (arith, nat_tests, e)) }
