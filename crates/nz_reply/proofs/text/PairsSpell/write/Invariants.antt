-- The pairs so far are written.
use Rattle.std.proofs.Common.{drop}
use Rattle.nz_reply.proofs.Pairs.{pair_texts}
use Rattle.nz_reply.proofs.Spaces.{spaced_from}
use Rattle.nz_reply.proofs.TextPieces.{HasWrittenTo}
use Rattle.nz_reply.proofs.text.PairsSpell.write.Given as goal

abbrev pub invariant-loop-index : goal.invariant-loop-index
invariant-loop-index g l =
    HasWrittenTo g.K.Sink.held g.K.Sink.faults l.fn.sink l.sink (spaced_from 0 (pair_texts l.trees l.shows)) (spaced_from l.index (pair_texts (drop l.index l.trees) (drop l.index l.shows)))
