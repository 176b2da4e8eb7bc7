use Rattle.nz_reply.proofs.TextPieces.{cut_off, rest_written, texts_next, written_on}
use Rattle.nz_reply.proofs.write.AllSpell.write.Goals as goal

pub returns-in_err-write : goal.returns-in_err-write
returns-in_err-write g c =
    record {
      written =
          rest_written c.loop-text.invariant
          (cut_off _ (texts_next g.T.Spell.text c.args.self.now.0.now c.loop-text.text-index c.text-item.result c.loop-text-test.true c.text-item.is) c.in_err-write.ensures.written c.from_residual.ensures.0);
    }

pub loop-text-preserved : goal.loop-text-preserved
loop-text-preserved g c =
    written_on c.loop-text.invariant (texts_next g.T.Spell.text c.args.self.now.0.now c.loop-text.text-index c.text-item.result c.loop-text-test.true c.text-item.is) c.in_ok-write.ensures.written
