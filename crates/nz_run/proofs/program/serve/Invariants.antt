-- So many reads were made, and all is well.
use Rattle.std.proofs.Common.{◌≡◌, ℕ, Bool}
use Rattle.nz_run.specs.Reading.{IsInTime, IsReading}
use Rattle.nz_run.proofs.program.serve.Given as goal

abbrev pub invariant-loop-read : goal.invariant-loop-read
invariant-loop-read g l =
    record {
      reading : (limit : ℕ) → IsReading g.E.Decide.levels g.E.Decide.table g.E.Decide.begins limit l.fn.session (g.S.Source.left l.fn.input) (g.S.Source.left l.fn.input) (g.K.Sink.held l.fn.out) (g.K.Sink.held l.fn.out) 0
          → IsReading g.E.Decide.levels g.E.Decide.table g.E.Decide.begins limit l.session (g.S.Source.left l.fn.input) (g.S.Source.left l.input) (g.K.Sink.held l.fn.out) (g.K.Sink.held l.out) l.read;
      in_time : (first : Bool) → IsInTime (g.S.Source.has_ended l.fn.input) (g.S.Source.read_late l.fn.input) first → IsInTime (g.S.Source.has_ended l.input) (g.S.Source.read_late l.input) first;
      input_faults : g.S.Source.faults l.input ≡ g.S.Source.faults l.fn.input;
      output_faults : g.K.Sink.faults l.out ≡ g.K.Sink.faults l.fn.out;
      handed : g.K.Sink.handed l.fn.out ≡ g.K.Sink.held l.fn.out → g.K.Sink.handed l.out ≡ g.K.Sink.held l.out;
    }
