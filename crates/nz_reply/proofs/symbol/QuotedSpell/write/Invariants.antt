-- What stands before the run's start is written, and the run has come to this place.
use Rattle.std.proofs.Common.{◌≤◌}
use Rattle.nz_script.specs.text.Text.{with_quotes_doubled}
use Rattle.nz_reply.proofs.Quotes.{rest_of_run}
use Rattle.nz_reply.proofs.TextPieces.{HasWrittenTo}
use Rattle.nz_reply.proofs.symbol.QuotedSpell.write.Given as goal

abbrev pub invariant-loop-index : goal.invariant-loop-index
invariant-loop-index g l =
    record {
      before : l.start ≤ l.index;
      written : HasWrittenTo g.K.Sink.held g.K.Sink.faults l.fn.sink l.sink (with_quotes_doubled l.text) (rest_of_run l.text l.start l.index);
    }
