-- The parts' own sorts are those of their units over each table.
use Rattle.std.proofs.Common.{sym, ap, ◌∙◌}
use Rattle.std.specs.List.{list_all}
use Rattle.nz_lin.specs.Bounds.{is_integral}
use Rattle.nz_log_tests.proofs.Multiples.{on_true}
use Rattle.nz_log_tests.proofs.MultipleSums.{integral_each}
use Rattle.nz_log_tests.proofs.rules.is_of_integers.Goals as goal

pub returns : goal.returns
returns c =
    record {
      integers = on_true c.are_integral.result (λ t ns h.
          sym (integral_each ns c.args.bound.now.sides.parts h.names) ∙ ap (list_all is_integral) (sym c.parts.ensures.parts) ∙ sym c.are_integral.ensures.integral ∙ t);
    }
