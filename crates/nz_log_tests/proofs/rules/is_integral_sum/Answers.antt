-- What is tested is the sum over each table.
use Rattle.std.proofs.Common.{sym, ap, ◌∙◌}
use Rattle.nz_spec.specs.clauses.Farkas as farkas
use Rattle.nz_spec.specs.clauses.LinearLiteral.{are_integral}
use Rattle.nz_log_tests.proofs.Multiples.{from_true, on_true}
use Rattle.nz_log_tests.proofs.rules.is_integral_sum.Goals as goal

pub returns : goal.returns
returns c =
    let test = c.is_of_integers in
    record {
      integral = on_true test.result (λ t ns table within.
          let over = c.in_ok-sum.ensures.sum ns table within in
          ap (λ (b : farkas.Bound). are_integral b.parts) (sym over.sum) ∙ from_true test.result test.ensures.integers t ns over.units);
    }
