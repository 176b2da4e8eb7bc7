-- The literal is read as the bound.
use Rattle.std.proofs.Common.{◌≡◌, true, refl, rules}
use Rattle.nz_log_tests.proofs.Multiples.{false_alone, from_true, on_true, told_less}
use Rattle.nz_log_tests.proofs.rules.is_false.Goals as goal

pub returns-else-not-is_above : goal.returns-else-not-is_above
returns-else-not-is_above c =
    let m = c.args.multiple in
    let test = c.excludes_zero in
    let sign : c.in-AtMost.sign ≡ true = search rules in
    let above : c.lt-is_above.result ≡ true = search rules in
    record {
      refuted = on_true test.result (λ t ns table within.
          let excludes = from_true test.result test.ensures.excludes t in
          false_alone ns c.args.log.now.atoms m c.in-AtMost.bound.now c.in-AtMost.sign (c.in-AtMost.ensures.reads ns) sign excludes.none excludes.below
          (told_less c.lt-is_above.ensures c.whole.ensures refl above));
    }
