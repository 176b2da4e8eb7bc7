-- All are.
use Rattle.std.proofs.Common.{arith}
use Rattle.nz_log_tests.proofs.Multiples.{all_multiples}
use Rattle.nz_log_tests.proofs.rules.are_multiples.Goals as goal

pub returns : goal.returns
returns c =
    record { multiples = λ ns table within. all_multiples c.args.log.now.atoms c.args.multiples.now (λ k d below. c.loop-i.invariant k d (omega arith)) ns }
