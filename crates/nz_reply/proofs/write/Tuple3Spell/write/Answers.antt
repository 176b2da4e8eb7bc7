use Rattle.std.proofs.Common.{append_assoc, refl}
use Rattle.nz_reply.proofs.TextPieces.{cut_off, written_behind}
use Rattle.nz_reply.proofs.write.Tuple3Spell.write.Goals as goal

pub returns-in_err-write-2 : goal.returns-in_err-write-2
returns-in_err-write-2 g c =
    let all = c.args.self.now in
    record {
      written =
          written_behind (append_assoc (g.A.Spell.text all.0) (g.B.Spell.text all.1) (g.C.Spell.text all.2)) c.in_ok-write.ensures.written
          (cut_off (g.C.Spell.text all.2) refl c.in_err-write-2.ensures.written c.from_residual-in_err-write-2.ensures.0);
    }

pub returns : goal.returns
returns g c =
    let all = c.args.self.now in
    record {
      written =
          written_behind (append_assoc (g.A.Spell.text all.0) (g.B.Spell.text all.1) (g.C.Spell.text all.2)) c.in_ok-write.ensures.written
          (written_behind refl c.in_ok-write-2.ensures.written c.write-3.ensures.written);
    }
