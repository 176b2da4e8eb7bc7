-- The difference, and its negation.
use Rattle.std.proofs.Common.{subst}
use Rattle.nz_lin.specs.Comes.{IsFormed}
use Rattle.nz_rows.proofs.Formed.{turned_round}
use Rattle.nz_rows.proofs.bounds.differences.Goals as goal

pub returns : goal.returns
returns c = record {
  differ = λ ns d e table first second.
      let own = subst (IsFormed ns d) c.in_ok-left.was first in
      let other = subst (IsFormed ns e) c.in_ok-right.was second in
      turned_round c.differences_are_opposite.ensures.opposite ns table d e c.in_ok-left.left c.in_ok-right.right (record { forward = c.in_ok-forward.forward; backward = c.in_ok-backward.backward }) own other
      (c.in_ok-forward.ensures.formed ns table own.1 other.1) (c.in_ok-backward.ensures.negated ns) (c.in_ok-backward.ensures.units ns);
}
