use Rattle.std.proofs.Common.{◌≡◌, ◌+◌, ◌*◌, ◌≤◌, ℕ, ◌<◌, length, get_or, Contains}
use Rattle.nz_sat.specs.declared.clauses.Held.{Held}
use Rattle.nz_sat.specs.Trails.{empty_trail}
use Rattle.nz_sat.specs.Watched.{AreWatched, HoldsAs, watch_state}
use Rattle.nz_sat.proofs.search.Search.new.Given as goal

-- those that were kept are held, and the clauses so far
abbrev pub invariant-loop-clause : goal.invariant-loop-clause
invariant-loop-clause l =
    record {
      room : 2 * l.size ≤ length l.propagation.watches.lists.items;
      head : l.propagation.head ≡ 0;
      only : (h : Held) → HoldsAs l.propagation h → Contains l.held h;
      covered : (k : ℕ) (d : Held) → k < l.count + l.clause-index → HoldsAs l.propagation (get_or l.held k d);
      watched : AreWatched l.log (watch_state l.propagation (empty_trail l.size));
    }
