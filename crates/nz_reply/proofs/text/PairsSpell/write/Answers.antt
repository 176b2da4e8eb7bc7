use Rattle.std.proofs.Common.{arith, ap, ◌∙◌}
use Rattle.nz_reply.proofs.Pairs.{pairs_end, pairs_next}
use Rattle.nz_reply.proofs.Spaces.{spaced_end, spaced_from}
use Rattle.nz_reply.proofs.TextPieces.{all_written, cut_off, rest_written, written_on}
use Rattle.nz_reply.proofs.text.PairsSpell.write.Goals as goal

pub returns-in_err-write : goal.returns-in_err-write
returns-in_err-write g c =
    record {
      written =
          rest_written c.loop-index.invariant
          (cut_off _ (pairs_next c.args.self.now.0.now c.args.self.now.1.now c.loop-index.index c.index-trees-index.result c.index-shows-index.result (omega (arith, c.min-index-end.ensures)) (omega (arith, c.min-index-end.ensures)) c.index-trees-index.is c.index-shows-index.is)
          c.in_err-write.ensures.written c.from_residual.ensures.0);
    }

pub loop-index-preserved : goal.loop-index-preserved
loop-index-preserved g c =
    written_on c.loop-index.invariant
    (pairs_next c.args.self.now.0.now c.args.self.now.1.now c.loop-index.index c.index-trees-index.result c.index-shows-index.result (omega (arith, c.min-index-end.ensures)) (omega (arith, c.min-index-end.ensures)) c.index-trees-index.is c.index-shows-index.is)
    c.in_ok-write.ensures.written

pub returns : goal.returns
returns g c =
    record { written = all_written c.loop-index.invariant (ap (spaced_from c.loop-index.index) (pairs_end c.args.self.now.0.now c.args.self.now.1.now c.loop-index.index (omega (arith, c.min-index-end.ensures))) ∙ spaced_end c.loop-index.index) }
