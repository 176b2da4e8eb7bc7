-- The numbers of the clauses so far.
use Rattle.std.proofs.Common.{◌≡◌, take}
use Rattle.nz_engine.specs.Preparing.{ids_held}
use Rattle.nz_engine.proofs.prepared.exclusions.ids_of.Given as goal

abbrev pub invariant-loop-one : goal.invariant-loop-one
invariant-loop-one l = l.ids.items ≡ ids_held (take l.one-index l.held)
