-- Check steps in a work list: what the next one may be, and where those before it lead.
-- Source: Dutertre and de Moura, A Fast Linear-Arithmetic Solver for DPLL(T), CAV 2006, section 3 (checking).
use Rattle.std.specs.Prelude.{◌≡◌, ℕ, ◌<◌, ◌^◌, List, [], ◌∷◌, ◌++◌, length}
use Rattle.nz_spec.specs.simplex.Bland.{Position, IsCheckStep}
use Rattle.nz_spec.specs.laws.BlandRuns.{IsRun}
use Rattle.nz_spec.specs.simplex.PositionMoves.{IsReadyToCheck}

-- a step that counts as one unit of work: the numbers of the forms that are exchanged
pub record Pivot : Type 0 where
  pub leaves : ℕ
  pub enters : ℕ

abbrev pub pivot : ℕ → ℕ → Pivot
pivot i j = record { leaves = i; enters = j }

-- ---- Rules

-- What is exchanged next are the forms of a check step.
pub record MayPivot (s : Position) (p : Pivot) : Type 0 where
  pub after : Position
  pub step : IsCheckStep s after p.leaves p.enters

-- These pivots, each one that may be next, lead from a position to another one.
abbrev pub Lead : Position → List Pivot → Position → Type 0
Lead s [] t = t ≡ s
Lead s (p ∷ ps) t = (mid : Position) × IsCheckStep s mid p.leaves p.enters × Lead mid ps t

-- ---- Laws

-- a run of check steps from one position to another
pub record IsRunBetween (n : ℕ) (s t : Position) : Type 0 where
  pub at : ℕ → Position
  pub first : at 0 ≡ s
  pub last : at n ≡ t
  pub run : IsRun n at

-- Pivots that lead somewhere go on by one that may be next, are a run of check steps, keep what a check takes for granted, and are fewer than there are
-- postures.
pub record PivotsAreRuns : Type 0 where
  pub goes_on : (s t u : Position) (ps : List Pivot) (p : Pivot) → Lead s ps t → IsCheckStep t u p.leaves p.enters → Lead s (ps ++ p ∷ []) u
  pub run : (s t : Position) (ps : List Pivot) → Lead s ps t → IsRunBetween (length ps) s t
  pub ready : (s t : Position) (ps : List Pivot) → IsReadyToCheck s → Lead s ps t → IsReadyToCheck t
  pub few : (s t : Position) (ps : List Pivot) → IsReadyToCheck s → Lead s ps t → length ps < 4 ^ length s.forms
