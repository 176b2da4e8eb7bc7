-- What is told so far, and then what is told of the terms that are left, is all of it.
use Rattle.std.proofs.Common.{◌≡◌, ◌++◌}
use Rattle.std.specs.Iterator.Adapters.{zip_first, zip_second}
use Rattle.std.specs.Slice.Iter.{iter_rest}
use Rattle.nz_session.specs.Valued.{outcomes_shown}
use Rattle.nz_session.proofs.values.shows_of.Given as goal

abbrev pub invariant-loop-typed : goal.invariant-loop-typed
invariant-loop-typed l = l.shows ++ outcomes_shown (iter_rest (zip_first l.typed-iterator)) (iter_rest (zip_second l.typed-iterator)) ≡ outcomes_shown l.asked l.found
