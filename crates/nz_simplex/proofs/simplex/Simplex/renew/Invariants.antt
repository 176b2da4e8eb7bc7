-- The values of the forms so far are known.
use Rattle.std.proofs.Common.{ℕ, ◌<◌}
use Rattle.std.specs.Prelude.{IsSome}
use Rattle.nz_simplex.specs.Checks.{IsRenewed}
use Rattle.nz_simplex.specs.State.{value_in}
use Rattle.nz_simplex.proofs.simplex.Simplex.renew.Given as goal

abbrev pub invariant-loop-var : goal.invariant-loop-var
invariant-loop-var g l = record {
  renewed : IsRenewed l.fn.self l.self;
  known : (k : ℕ) → k < l.var → IsSome (value_in l.self k);
}
