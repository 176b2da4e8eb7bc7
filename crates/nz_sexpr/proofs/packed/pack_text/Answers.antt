use Rattle.nz_sexpr.proofs.PackedTrees.{escaped-next, piece_more}
use Rattle.nz_sexpr.proofs.packed.pack_text.Goals as goal

pub loop-byte-preserved : goal.loop-byte-preserved
loop-byte-preserved c = piece_more _ _ _ _ _ _ c.loop-byte.invariant (escaped-next c.args.text.now c.loop-byte.byte-index 0 c.loop-byte-test.true) c.in_ok-pack_byte.ensures.packed
