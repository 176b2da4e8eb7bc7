use Rattle.std.proofs.Common.{below_more}
use Rattle.nz_spec.specs.terms.Table.{term_in}
use Rattle.nz_spec.specs.terms.Taken.{IsTaken}
use Rattle.nz_taken_samples.proofs.taken.need_taken.Goals as goal

pub loop-id-preserved : goal.loop-id-preserved
loop-id-preserved c = below_more (λ i. IsTaken (term_in c.args.terms.now i)) c.loop-id.id c.loop-id.invariant (c.in_ok-need_next.ensures.next c.loop-id.invariant)
