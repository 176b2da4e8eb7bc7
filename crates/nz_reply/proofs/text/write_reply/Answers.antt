use Rattle.std.proofs.Common.{◌++◌, codes, flat_map, ap, sym, ◌∙◌}
use Rattle.nz_script.specs.replies.Reply.{binding_text, reply_text}
use Rattle.nz_sexpr.specs.View.{what_view}
use Rattle.nz_reply.specs.Replies.{reply_of}
use Rattle.nz_reply.specs.declared.reply.Reply.{Reply}
use Rattle.nz_reply.proofs.Models.{bindings_text}
use Rattle.nz_reply.proofs.TextPieces.{written_as}
use Rattle.nz_reply.proofs.text.write_reply.Goals as goal

-- The texts are long for a search.
pub returns-in-Unsupported : goal.returns-in-Unsupported
returns-in-Unsupported g c = record { written = written_as (ap (λ (r : Reply). reply_text (reply_of (what_view c.args.what.now) r)) c.in-Unsupported.is) c.write-in-Unsupported.ensures.written }

pub returns-in-Levels : goal.returns-in-Levels
returns-in-Levels g c = record { written = written_as (ap (λ (r : Reply). reply_text (reply_of (what_view c.args.what.now) r)) c.in-Levels.is) c.write-in-Levels.ensures.written }

pub returns-in-Model : goal.returns-in-Model
returns-in-Model g c =
    record {
      written =
          written_as
          (ap (λ (r : Reply). reply_text (reply_of (what_view c.args.what.now) r)) c.in-Model.is
          ∙ ap (λ bs. codes "(\n" ++ flat_map binding_text bs ++ codes ")\n") (sym c.deref.ensures ∙ sym c.as_slice.ensures.entries)
          ∙ ap (λ l. codes "(\n" ++ l ++ codes ")\n") (bindings_text c.as_slice.result.now))
          c.write-in-Model.ensures.written;
    }
