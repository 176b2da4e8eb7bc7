use Rattle.std.proofs.Common.{arith}
use Rattle.std.proofs.lemmas.Bool.Decides.{nat_tests}
use Rattle.nz_command.proofs.ListLengths.{no_info}
use Rattle.nz_command.proofs.grammar.info_value.Goals as goal

pub returns-in_err-value : goal.returns-in_err-value
returns-in_err-value c = record { parsed = λ key. rw c.from_residual.ensures (no_info key c.args.values.now (λ e. grind (arith, nat_tests, e)) c.in_err-value.ensures.none) }
