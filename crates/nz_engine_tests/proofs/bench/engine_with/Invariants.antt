-- The engine is new, and has its level.
use Rattle.nz_engine_tests.specs.Benches.{IsNew}
use Rattle.nz_engine_tests.proofs.bench.engine_with.Given as goal

abbrev pub invariant-loop-i : goal.invariant-loop-i
invariant-loop-i l = IsNew l.terms l.engine
