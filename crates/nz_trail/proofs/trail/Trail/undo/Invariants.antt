-- What is left has the bounds at the mark at its front.
use Rattle.std.proofs.Common.{◌≡◌, ◌≤◌, length, take}
use Rattle.nz_trail.proofs.trail.Trail.undo.Given as goal

abbrev pub invariant-loop-self : goal.invariant-loop-self
invariant-loop-self g l = record {
  reached : l.mark ≤ length l.self.asserted;
  front : take l.mark l.self.asserted ≡ take l.mark l.fn.self.asserted;
  vars : l.self.vars ≡ l.fn.self.vars;
}

abbrev pub decreases-loop-self : goal.decreases-loop-self
decreases-loop-self g l = length l.self.asserted
