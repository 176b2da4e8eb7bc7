-- What a journal holds, where its numbers are those of a table.
use Rattle.std.specs.Prelude.{List}
use Rattle.nz_spec.specs.terms.Table.{Node}
use Rattle.nz_script.specs.run.Transcript.{Kept}
use Rattle.nz_reply.specs.Replies.{all_kept}
use Rattle.nz_reply.specs.declared.reply.Journal.{Journal}

abbrev pub journal_of : List Node → Journal → List Kept
journal_of ns j = all_kept ns j.kept.items
