use Rattle.std.proofs.Common.{arith}
use Rattle.std.proofs.lemmas.Bool.Decides.{nat_tests}
use Rattle.nz_command.proofs.ListLengths.{not_one}
use Rattle.nz_command.proofs.lists.only.Goals as goal
use Rattle.nz_command.proofs.lists.only.Goals.{in_default-via-then-list-lt1, in_default-via-else-list-lt1+else-list-lt2}

pub returns-in_default-clause-none : goal.returns-in_default-clause-none
returns-in_default-clause-none c =
    not_one c.args.list.now (elim c.in_default.branch [
      | in_default-via-then-list-lt1 w ↦ λ e. grind (arith, nat_tests, e)
      | in_default-via-else-list-lt1+else-list-lt2 w ↦ λ e. grind (arith, nat_tests, e)
    ])
