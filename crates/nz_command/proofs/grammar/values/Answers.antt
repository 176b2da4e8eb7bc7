use Rattle.std.proofs.Common.{◌∙◌, arith, rules}
use Rattle.std.proofs.lemmas.Bool.Decides.{nat_tests}
use Rattle.nz_command.proofs.ListLengths.{some_listed}
use Rattle.nz_command.proofs.grammar.values.Goals as goal

pub returns : goal.returns
returns c =
    let asked = c.in_ok-all_parts.ensures.parsed ∙ some_listed c.in-Some.list.now (λ e. grind (arith, nat_tests, e)) in
    search rules
