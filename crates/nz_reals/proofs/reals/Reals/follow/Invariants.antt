-- All is arranged so far, and at most one exchange was made for each sum.
use Rattle.std.proofs.Common.{◌≤◌}
use Rattle.nz_reals.specs.Arranging.{IsArranged, sum_count}
use Rattle.nz_reals.proofs.reals.Reals.follow.Given as goal

abbrev pub invariant-loop-exchanged : goal.invariant-loop-exchanged
invariant-loop-exchanged l = record { arranged : IsArranged l.log.atoms l.atoms l.self; counted : l.exchanges ≤ sum_count l.self.simplex.forms }

abbrev pub invariant-loop-place : goal.invariant-loop-place
invariant-loop-place l = record { arranged : IsArranged l.log.atoms l.atoms l.self; counted : l.exchanges ≤ sum_count l.self.simplex.forms }
