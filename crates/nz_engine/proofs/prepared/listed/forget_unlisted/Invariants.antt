-- From the place on all are looked at.
use Rattle.std.proofs.Common.{◌≡◌}
use Rattle.nz_engine.proofs.UnlistedClauses.{IsForgotten}
use Rattle.nz_engine.proofs.prepared.listed.forget_unlisted.Given as goal

abbrev pub invariant-loop-place : goal.invariant-loop-place
invariant-loop-place l =
    record {
      forgotten : IsForgotten l.log l.form.bounds l.fn.sat.clauses l.sat.clauses l.place;
      theory : l.sat.theory ≡ l.fn.sat.theory;
      seen : l.sat.seen ≡ l.fn.sat.seen;
    }

abbrev pub decreases-loop-place : goal.decreases-loop-place
decreases-loop-place l = l.place
