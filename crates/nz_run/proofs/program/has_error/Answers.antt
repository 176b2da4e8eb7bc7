use Rattle.std.proofs.Common.{sym, ◌∙◌}
use Rattle.nz_script.specs.run.Run.{is_error}
use Rattle.nz_run.proofs.Statuses.{any_at, none_next}
use Rattle.nz_run.proofs.program.has_error.Goals as goal

pub returns-then-is_an_error : goal.returns-then-is_an_error
returns-then-is_an_error c =
    record {
      any = λ ns. sym (any_at ns is_error c.args.kept.now c.loop-kept.kept-index c.kept-item.result c.loop-kept-test.true c.kept-item.is (sym (c.is_an_error.ensures.error ns) ∙ c.if-is_an_error.true));
    }

pub loop-kept-preserved : goal.loop-kept-preserved
loop-kept-preserved c =
    λ ns. none_next ns is_error c.args.kept.now c.loop-kept.kept-index c.kept-item.result c.loop-kept-test.true c.kept-item.is (c.loop-kept.invariant ns)
    (sym (c.is_an_error.ensures.error ns) ∙ c.if-is_an_error.false)
