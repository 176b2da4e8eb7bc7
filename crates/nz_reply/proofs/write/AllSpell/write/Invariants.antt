-- The texts so far are written.
use Rattle.std.proofs.Common.{drop, flat_map}
use Rattle.nz_reply.proofs.TextPieces.{HasWrittenTo}
use Rattle.nz_reply.proofs.write.AllSpell.write.Given as goal

abbrev pub invariant-loop-text : goal.invariant-loop-text
invariant-loop-text g l =
    HasWrittenTo g.K.Sink.held g.K.Sink.faults l.fn.sink l.sink (flat_map g.T.Spell.text l.text-items) (flat_map g.T.Spell.text (drop l.text-index l.text-items))
