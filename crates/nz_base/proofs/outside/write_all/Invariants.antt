use Rattle.std.proofs.Common.{◌≡◌, ◌≤◌, ◌-◌, length, take}
use Rattle.std.specs.Io.KnownBytes.{Appends}
use Rattle.nz_spec.specs.outside.Outside.{TellsAlike}
use Rattle.nz_base.proofs.outside.write_all.Given as goal

abbrev pub invariant-pieces : goal.invariant-pieces
invariant-pieces g l = record {
  within : l.at ≤ length l.bytes;
  added : Appends (g.K.Sink.held l.initial.sink) (g.K.Sink.held l.sink) (take l.at l.bytes);
  told : TellsAlike (g.K.Sink.held l.initial.sink) (g.K.Sink.held l.sink);
  no_fault : g.K.Sink.faults l.sink ≡ g.K.Sink.faults l.initial.sink;
}

abbrev pub decreases-pieces : goal.decreases-pieces
decreases-pieces g l = length l.bytes - l.at
