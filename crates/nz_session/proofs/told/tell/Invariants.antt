-- The level at the place is the last that the engine knows.
use Rattle.std.proofs.Common.{◌≡◌, ◌+◌, List}
use Rattle.nz_spec.specs.terms.Term.{Term}
use Rattle.nz_sort.specs.Live.{asserted_by}
use Rattle.nz_session.specs.Told.{IsTold}
use Rattle.nz_session.proofs.told.tell.Given as goal

abbrev pub invariant-loop-place : goal.invariant-loop-place
invariant-loop-place g l =
    record {
      told : IsTold (g.E.Decide.levels l.engine) l.told (asserted_by l.live);
      count : l.told.levels ≡ l.place + 1;
      table : g.E.Decide.table l.engine ≡ g.E.Decide.table l.fn.engine;
      begins : (ts : List Term) → g.E.Decide.begins l.fn.engine ts → g.E.Decide.begins l.engine ts;
    }
