use Rattle.std.proofs.Common.{arith}
use Rattle.std.proofs.lemmas.Bool.Decides.{nat_tests}
use Rattle.nz_command.proofs.ListLengths.{no_levels}
use Rattle.nz_command.proofs.parts.level_count.Goals as goal

pub returns-in_err-only : goal.returns-in_err-only
returns-in_err-only c = record { parsed = rw c.from_residual.ensures (no_levels c.args.arguments.now (λ e. grind (arith, nat_tests, e)) c.in_err-only.ensures.none) }
