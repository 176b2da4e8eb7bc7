use Rattle.std.proofs.Common.{sym, ◌∙◌}
use Rattle.nz_script.specs.run.Run.{is_memory_error}
use Rattle.nz_run.proofs.Statuses.{any_at, none_next}
use Rattle.nz_run.proofs.program.wants_memory.Goals as goal

pub returns-then-is_out_of_memory : goal.returns-then-is_out_of_memory
returns-then-is_out_of_memory c =
    record {
      any = λ ns. sym (any_at ns is_memory_error c.args.kept.now c.loop-kept.kept-index c.kept-item.result c.loop-kept-test.true c.kept-item.is (sym (c.is_out_of_memory.ensures.memory ns) ∙ c.if-is_out_of_memory.true));
    }

pub loop-kept-preserved : goal.loop-kept-preserved
loop-kept-preserved c =
    λ ns. none_next ns is_memory_error c.args.kept.now c.loop-kept.kept-index c.kept-item.result c.loop-kept-test.true c.kept-item.is (c.loop-kept.invariant ns)
    (sym (c.is_out_of_memory.ensures.memory ns) ∙ c.if-is_out_of_memory.false)
