-- The order in which the sums of atoms join a theory.
use Rattle.std.specs.Prelude.{ℕ, ◌<◌, List, Contains}

-- These are the numbers below n: each of them is there, and no other.
pub record AreNumbersBelow (n : ℕ) (ks : List ℕ) : Type 0 where
  pub each : (k : ℕ) → k < n → Contains ks k
  pub below : (k : ℕ) → Contains ks k → k < n
