-- Check steps led here, and the value of each form is known.
use Rattle.std.proofs.Common.{◌≡◌, ℕ, ◌<◌, length}
use Rattle.std.specs.Prelude.{IsSome}
use Rattle.nz_simplex.specs.Checks.{IsStepped}
use Rattle.nz_simplex.specs.State.{value_in}
use Rattle.nz_simplex.proofs.simplex.Simplex.check.Given as goal

abbrev pub invariant-loop-broken : goal.invariant-loop-broken
invariant-loop-broken g l = record {
  stepped : IsStepped g.W.Steps.with_step l.fn.work l.work l.fn.self l.self;
  known : (k : ℕ) → k < length l.self.forms → IsSome (value_in l.self k);
  why : l.self.why ≡ l.fn.self.why;
}

abbrev pub decreases-loop-broken : goal.decreases-loop-broken
decreases-loop-broken g l = g.W.Steps.units_left l.work
