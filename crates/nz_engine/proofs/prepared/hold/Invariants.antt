-- The clauses so far are held too, as the search saw them, over the same theory.
use Rattle.std.proofs.Common.{◌≡◌, ◌++◌, map, take}
use Rattle.nz_sat.specs.Sats.{AreSameSince, held_of}
use Rattle.nz_engine.proofs.prepared.hold.Given as goal

abbrev pub invariant-loop-clause : goal.invariant-loop-clause
invariant-loop-clause l =
    record {
      clauses : l.sat.clauses ≡ l.fn.sat.clauses ++ map (held_of l.log) (take l.clause-index l.clauses);
      since : AreSameSince l.sat.seen l.log l.sat.clauses;
      theory : l.sat.theory ≡ l.fn.sat.theory;
    }
