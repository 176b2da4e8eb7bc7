use Rattle.std.proofs.Common.{ℕ, ◌<◌, get_or, All, Contains}
use Rattle.nz_log.specs.Logs.{literals_at}
use Rattle.nz_sat.specs.Clauses.{HasTrue, Visits}
use Rattle.nz_sat.specs.Watched.{lone_ids}
use Rattle.nz_sat.proofs.propagation.Propagation.assert_lone.Given as goal

-- each clause so far has a true literal
abbrev pub invariant-loop-held : goal.invariant-loop-held
invariant-loop-held l =
    record {
      visits : Visits l.log (λ us. All (Contains us) (lone_ids l.self)) l.fn.trail l.trail;
      hold : (k d : ℕ) → k < l.held-index → HasTrue l.trail.entries (literals_at l.log (get_or (lone_ids l.self) k d));
    }
