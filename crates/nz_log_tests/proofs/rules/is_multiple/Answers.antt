-- It is one of the bound that the literal is read as.
use Rattle.std.proofs.Common.{refl}
use Rattle.nz_log_tests.proofs.Multiples.{of_bound, on_true, told_less}
use Rattle.nz_log_tests.proofs.rules.is_multiple.Goals as goal

pub returns-in-AtMost : goal.returns-in-AtMost
returns-in-AtMost c =
    record {
      multiple = on_true c.lt.result (λ t ns.
          of_bound ns c.args.log.now.atoms c.args.multiple c.in-AtMost.field-0.now c.in-AtMost.field-1 (c.in-AtMost.ensures.reads ns) (told_less c.lt.ensures c.whole.ensures refl t));
    }
