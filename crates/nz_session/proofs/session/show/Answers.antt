-- Where the flush failed, the whole text was written before.
use Rattle.std.proofs.Common.{rules}
use Rattle.nz_script.specs.replies.Reply.{reply_text}
use Rattle.nz_reply.specs.Replies.{reply_of}
use Rattle.nz_session.proofs.InputPieces.{front_whole}
use Rattle.nz_sexpr.specs.View.{what_view}
use Rattle.nz_session.proofs.session.show.Goals as goal

pub returns-in-Err-flush-clause-front : goal.returns-in-Err-flush-clause-front
returns-in-Err-flush-clause-front g c =
    search (
      rules,
      front_whole (g.K.Sink.held c.args.sink.now) (g.K.Sink.held c.write_reply.new.sink) (g.K.Sink.held c.flush.new.self) (reply_text (reply_of (what_view c.args.what.now) c.args.reply.now))
          c.in_default.ensures.written.whole c.in-Err-flush.ensures.bytes,
    )
