use Rattle.std.proofs.Common.{◌≡◌, ◌≤◌}
use Rattle.nz_sat.specs.Watched.{KeepsWatched}
use Rattle.nz_sat.proofs.propagation.Propagation.keep.Given as goal

-- under the keys so far, which are the last ones, just the clauses of the part are left
abbrev pub invariant-loop-key : goal.invariant-loop-key
invariant-loop-key l =
    record {
      keeps : KeepsWatched l.part (λ k. l.key ≤ k) l.fn.self l.self;
      lone : l.self.lone ≡ l.fn.self.lone;
    }
