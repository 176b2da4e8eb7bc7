-- Pivots that lead from a position to another one, as runs of check steps.
use Rattle.std.proofs.Common.{◌≡◌, ℕ, zero, suc, ◌<◌, ◌^◌, List, [], ◌∷◌, ◌++◌, length, refl, sym, subst, arith}
use Rattle.nz_spec.specs.simplex.Bland.{Position, IsCheckStep}
use Rattle.nz_spec.specs.laws.BlandRuns.{IsRun}
use Rattle.nz_spec.specs.simplex.PositionMoves.{IsReadyToCheck}
use Rattle.nz_spec.specs.simplex.Pivots.{Pivot, Lead, IsRunBetween, PivotsAreRuns}
use Rattle.nz_spec.proofs.PositionMovesKeep.{moves_keep_ready}
use Rattle.nz_spec.proofs.BlandCounts.{runs_are_short}

lead-goes_on : (s t u : Position) (ps : List Pivot) (p : Pivot) → Lead s ps t → IsCheckStep t u p.leaves p.enters → Lead s (ps ++ p ∷ []) u
lead-goes_on s t u [] p e step = (u, subst (λ (x : Position). IsCheckStep x u p.leaves p.enters) e step, refl)
lead-goes_on s t u (q ∷ qs) p (mid, first, rest) step = (mid, first, lead-goes_on mid t u qs p rest step)

lead-ready : (s t : Position) (ps : List Pivot) → IsReadyToCheck s → Lead s ps t → IsReadyToCheck t
lead-ready s t [] ready e = subst (λ (x : Position). IsReadyToCheck x) (sym e) ready
lead-ready s t (p ∷ ps) ready (mid, first, rest) = lead-ready mid t ps (moves_keep_ready.step s mid p.leaves p.enters ready first) rest

-- ---- One step before a run

abbrev before : {A : Type 0} → A → (ℕ → A) → ℕ → A
before x f zero = x
before x f (suc k) = f k

step_before : (n : ℕ) (s mid : Position) (p : Pivot) (at : ℕ → Position) (run : IsRun n at) → at 0 ≡ mid → IsCheckStep s mid p.leaves p.enters
    → (t : ℕ) → t < suc n → IsCheckStep (before s at t) (before s at (suc t)) (before p.leaves run.leaving t) (before p.enters run.entering t)
step_before n s mid p at run first step zero h = subst (λ (x : Position). IsCheckStep s x p.leaves p.enters) (sym first) step
step_before n s mid p at run first step (suc t) h = run.step t (omega (arith, h))

lead-run : (s t : Position) (ps : List Pivot) → Lead s ps t → IsRunBetween (length ps) s t
lead-run s t [] e = record {
  at = λ k. s;
  first = refl;
  last = sym e;
  run = record { leaving = λ k. 0; entering = λ k. 0; step = λ k h. absurd (omega (arith, h)) };
}
lead-run s t (p ∷ ps) (mid, first, rest) =
    let later : IsRunBetween (length ps) mid t = lead-run mid t ps rest in
    record {
      at = before s later.at;
      first = refl;
      last = later.last;
      run = record {
        leaving = before p.leaves later.run.leaving;
        entering = before p.enters later.run.entering;
        step = step_before (length ps) s mid p later.at later.run later.first first;
      };
    }

lead-few : (s t : Position) (ps : List Pivot) → IsReadyToCheck s → Lead s ps t → length ps < 4 ^ length s.forms
lead-few s t ps ready lead =
    let between : IsRunBetween (length ps) s t = lead-run s t ps lead in
    subst (λ (x : Position). length ps < 4 ^ length x.forms) between.first
    (runs_are_short (length ps) between.at (subst (λ (x : Position). IsReadyToCheck x) (sym between.first) ready) between.run)

pub pivots_are_runs : PivotsAreRuns
pivots_are_runs = record { goes_on = lead-goes_on; run = lead-run; ready = lead-ready; few = lead-few }
