-- Runs of check steps: none comes back to where it was.
-- Source: Bland, New finite pivoting rules for the simplex method, 1977; for these steps Dutertre and de Moura, A Fast
-- Linear-Arithmetic Solver for DPLL(T), CAV 2006, section 3 (termination of checking).
use Rattle.std.specs.Prelude.{◌≡◌, ℕ, suc, ◌<◌, ◌≤◌, ◌^◌, length}
use Rattle.nz_spec.specs.simplex.Bland.{Position, posture_of, IsCheckStep}
use Rattle.nz_spec.specs.simplex.PositionMoves.{IsReadyToCheck}

-- so many check steps, and where they lead one after another
pub record IsRun (n : ℕ) (p : ℕ → Position) : Type 0 where
  pub leaving : ℕ → ℕ
  pub entering : ℕ → ℕ
  pub step : (t : ℕ) → t < n → IsCheckStep (p t) (p (suc t)) (leaving t) (entering t)

-- ---- Laws

-- In a run of check steps no posture returns.
abbrev pub NoPostureReturns : Type 0
NoPostureReturns = (n : ℕ) (p : ℕ → Position) → IsReadyToCheck (p 0) → IsRun n p
    → (a b : ℕ) → a < b → b ≤ n → ((k : ℕ) → posture_of (p a) k ≡ posture_of (p b) k) → ⊥

-- So it has fewer steps than there are postures: each form is basic, or stands in one of three ways.
abbrev pub RunsAreShort : Type 0
RunsAreShort = (n : ℕ) (p : ℕ → Position) → IsReadyToCheck (p 0) → IsRun n p → n < 4 ^ length (p 0).forms
