use Rattle.std.proofs.Common.{arith}
use Rattle.std.proofs.lemmas.Bool.Decides.{nat_tests}
use Rattle.nz_reply.proofs.Arguments.{no_argument}
use Rattle.nz_reply.proofs.text.argument_in.Goals as goal
use Rattle.nz_reply.proofs.text.argument_in.Goals.{in_default-via-then-list-lt2, in_default-via-else-list-lt2+else-list-lt3}

pub returns-in_default-clause-none : goal.returns-in_default-clause-none
returns-in_default-clause-none c =
    no_argument c.args.list.now (elim c.in_default.branch [
      | in_default-via-then-list-lt2 w ↦ λ e. grind (arith, nat_tests, e)
      | in_default-via-else-list-lt2+else-list-lt3 w ↦ λ e. grind (arith, nat_tests, e)
    ])
