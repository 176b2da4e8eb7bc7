-- What is tested is the sum over each table.
use Rattle.std.proofs.Common.{sym, ap, ◌∙◌}
use Rattle.nz_spec.specs.clauses.Farkas.{is_contradiction}
use Rattle.nz_log_tests.proofs.Multiples.{on_true}
use Rattle.nz_log_tests.proofs.rules.is_refuted.Goals as goal

pub returns : goal.returns
returns c =
    let test = c.is_contradiction in
    record {
      refuted = on_true test.result (λ t ns table within.
          ap is_contradiction (sym (c.in_ok-sum.ensures.sum ns table within).sum) ∙ sym (test.ensures.contradiction ns) ∙ t);
    }
