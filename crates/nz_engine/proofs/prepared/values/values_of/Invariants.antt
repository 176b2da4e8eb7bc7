-- The values so far are those of the terms so far.
use Rattle.std.proofs.Common.{◌≡◌, take}
use Rattle.std.specs.Prelude.{flat_map}
use Rattle.nz_engine.specs.Checking.{value_at}
use Rattle.nz_engine.proofs.prepared.values.values_of.Given as goal

abbrev pub invariant-loop-term : goal.invariant-loop-term
invariant-loop-term l = l.values ≡ flat_map (value_at l.terms l.prepared) (take l.term-index l.covered)
