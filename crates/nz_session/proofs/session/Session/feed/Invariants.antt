-- What was read of the piece, answered, written and handed on so far, with no fault.
use Rattle.std.proofs.Common.{◌≡◌, length, ◌+◌, ◌*◌, cond}
use Rattle.nz_sexpr.specs.Fits.{owes}
use Rattle.nz_session.proofs.InputPieces.{IsFeeding}
use Rattle.nz_session.proofs.session.Session.feed.Given as goal

abbrev pub invariant-heard : goal.invariant-heard
invariant-heard g l =
    record {
      feeding : IsFeeding g.E.Decide.levels g.E.Decide.table g.E.Decide.begins l.fn.self l.self l.piece l.rest (g.K.Sink.held l.fn.sink) (g.K.Sink.held l.sink);
      faults : g.K.Sink.faults l.sink ≡ g.K.Sink.faults l.fn.sink;
      handed : g.K.Sink.handed l.fn.sink ≡ g.K.Sink.held l.fn.sink → g.K.Sink.handed l.sink ≡ g.K.Sink.held l.sink;
    }

abbrev pub decreases-heard : goal.decreases-heard
decreases-heard g l = 2 * length l.rest + cond (owes l.self.reader) 1 0
