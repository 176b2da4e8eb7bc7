use Rattle.std.proofs.Common.{ℕ, List, ap}
use Rattle.nz_script.specs.replies.Reply.{info as info_reply, reply_text}
use Rattle.nz_reply.specs.Infos.{info_of}
use Rattle.nz_reply.specs.declared.reply.Info.{Info}
use Rattle.nz_reply.proofs.TextPieces.{written_as}
use Rattle.nz_reply.proofs.text.InfoSpell.write.Goals as goal

-- The texts are long for a search.
abbrev line : Info → List ℕ
line i = reply_text (info_reply (info_of i))

pub returns-in-Name : goal.returns-in-Name
returns-in-Name g c = record { written = written_as (ap line c.in-Name.is) c.write.ensures.written }

pub returns-in-Version : goal.returns-in-Version
returns-in-Version g c = record { written = written_as (ap line c.in-Version.is) c.write-in-Version.ensures.written }

pub returns-in-Authors : goal.returns-in-Authors
returns-in-Authors g c = record { written = written_as (ap line c.in-Authors.is) c.write-in-Authors.ensures.written }

pub returns-in-ErrorBehavior : goal.returns-in-ErrorBehavior
returns-in-ErrorBehavior g c = record { written = written_as (ap line c.in-ErrorBehavior.is) c.write-in-ErrorBehavior.ensures.written }
