-- The bounds stay, and there are no fewer variables.
use Rattle.std.proofs.Common.{◌≡◌, ◌≤◌, ◌-◌}
use Rattle.nz_simplex.proofs.room.add_vars.Given as goal

abbrev pub invariant-loop-trail : goal.invariant-loop-trail
invariant-loop-trail g l = record {
  asserted : l.trail.asserted ≡ l.fn.trail.asserted;
  vars : l.fn.trail.vars ≤ l.trail.vars;
}

abbrev pub decreases-loop-trail : goal.decreases-loop-trail
decreases-loop-trail g l = l.count - l.trail.vars
