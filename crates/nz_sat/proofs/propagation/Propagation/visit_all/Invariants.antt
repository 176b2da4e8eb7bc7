use Rattle.std.proofs.Common.{◌≡◌, ◌<◌}
use Rattle.nz_sat.specs.Trails.{IsFalseOn, IsTrail}
use Rattle.nz_sat.specs.Watched.{IsAhead, left_from, watch_state}
use Rattle.nz_sat.proofs.Visiting.{IsOnWay}
use Rattle.nz_sat.proofs.propagation.Propagation.visit_all.Given as goal

-- each clause in which the literal is watched has a true literal, or is still ahead
abbrev pub invariant-loop-i : goal.invariant-loop-i
invariant-loop-i l =
    record {
      way : IsOnWay l.log l.fn.self l.self l.fn.trail l.trail;
      head : l.self.head ≡ l.fn.self.head;
      order : IsTrail l.trail;
      falls : IsFalseOn l.trail.entries l.literal;
      within : l.literal.atom < l.trail.size;
      ahead : IsAhead l.log (watch_state l.self l.trail) l.literal l.i;
    }

abbrev pub decreases-loop-i : goal.decreases-loop-i
decreases-loop-i l = left_from (watch_state l.self l.trail) l.literal l.i
