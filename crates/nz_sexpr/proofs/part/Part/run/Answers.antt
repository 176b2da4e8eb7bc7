use Rattle.std.proofs.Common.{◌∙◌, add-one, arith, sym}
use Rattle.nz_sexpr.specs.Part.{ends}
use Rattle.nz_sexpr.proofs.Runs.{none_more}
use Rattle.nz_sexpr.proofs.part.Part.run.Goals as goal

pub loop-run-preserved : goal.loop-run-preserved
loop-run-preserved c = rw add-one (none_more (ends c.args.self) c.args.bytes.now c.loop-run.run (omega arith) c.loop-run.invariant (sym c.ends_at.ensures ∙ c.if-ends_at.false))
