use Rattle.std.proofs.Common.{refl}
use Rattle.nz_reply.proofs.TextPieces.{written_behind}
use Rattle.nz_reply.proofs.write.Tuple2Spell.write.Goals as goal

pub returns : goal.returns
returns g c = record { written = written_behind refl c.in_ok-write.ensures.written c.write-2.ensures.written }
