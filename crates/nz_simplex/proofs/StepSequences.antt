-- One check step more, and what keeps the position.
use Rattle.std.proofs.Common.{◌≡◌, ℕ, ◌<◌, length, List, [], ◌∷◌, ◌++◌, refl, sym, ap, ◌∙◌, subst}
use Rattle.std.specs.Prelude.{Result, Ok, Err, IfErr, IsSome, OnOk}
use Rattle.std.specs.List.{AllByRecursion}
use Rattle.std.proofs.lemmas.List.Sums.{fold_push}
use Rattle.nz_fractions.specs.Fraction.{Fraction}
use Rattle.nz_spec.specs.simplex.Bland.{IsCheckStep, Position}
use Rattle.nz_spec.specs.simplex.Pivots.{Lead, Pivot, PivotsAreRuns, pivot}
use Rattle.nz_spec.specs.terms.Table.{Node}
use Rattle.nz_lin.specs.declared.form.Part.{Part}
use Rattle.nz_lin.specs.Forms.{AreUnits}
use Rattle.nz_simplex.specs.declared.answer.SimplexStop.{SimplexStop}
use Rattle.nz_simplex.specs.Checks.{IsRenewed, IsStepped, Renews, StopsAt}
use Rattle.nz_simplex.specs.State.{State, IsOver, position_over, value_in}
use Rattle.nz_simplex.proofs.RenewedValues.{renewed_forms, renewed_position}

pub over_forms : (ns : List Node) (s t : State) → t.forms ≡ s.forms → IsOver ns s → IsOver ns t
over_forms ns s t e over = record { table = over.table; units = subst (λ (fs : List (List Part)). AllByRecursion (AreUnits ns) fs) (sym e) over.units }

-- what a call that only computes values tells, by its two ends
pub renews_told : {A : Type 0} (s : State) (r : Result A SimplexStop) → OnOk r ((k : ℕ) → k < length s.forms → IsSome (value_in s k))
    → ((ns : List Node) → IsOver ns s → IfErr r (λ e. StopsAt ns s e)) → (ns : List Node) → IsOver ns s → Renews ns s r
renews_told s (Ok x) valued stops ns over = valued
renews_told s (Err e) valued stops ns over = stops ns over

module _ {W : Type 0} (with_step : W → ℕ → ℕ → W) where
  pub stepped_itself : (w : W) (s : State) → IsStepped with_step w w s s
  stepped_itself w s = record { pivots = []; noted = refl; lead = λ ns over. refl; forms = refl; asserted = refl }

  -- to a state with the same position
  pub stepped_on : {w v : W} {s t : State} (u : State) → IsStepped with_step w v s t → u.forms ≡ t.forms → u.asserted ≡ t.asserted → ((ns : List Node) → position_over ns u ≡ position_over ns t)
      → IsStepped with_step w v s u
  stepped_on {w} {v} {s} {t} u h forms asserted same = record {
    pivots = h.pivots;
    noted = h.noted;
    lead = λ ns over. subst (λ (p : Position). Lead (position_over ns s) h.pivots p) (sym (same ns)) (h.lead ns over);
    forms = forms ∙ h.forms;
    asserted = asserted ∙ h.asserted;
  }

  pub stepped_renewed : {w v : W} {s t u : State} → IsStepped with_step w v s t → IsRenewed t u → IsStepped with_step w v s u
  stepped_renewed {w} {v} {s} {t} {u} h r = stepped_on u h (renewed_forms r) (ap (λ (x : State). x.asserted) r.rest) (λ ns. renewed_position ns r)

  pub stepped_why : {w v : W} {s t : State} (u : State) (why : List (ℕ × Fraction)) → IsStepped with_step w v s t → u ≡ record t { why = why } → IsStepped with_step w v s u
  stepped_why {w} {v} {s} {t} u why h e = stepped_on u h (ap (λ (x : State). x.forms) e) (ap (λ (x : State). x.asserted) e) (λ ns. ap (λ (x : State). position_over ns x) e)

  -- one step more
  pub stepped_more : PivotsAreRuns → {w v : W} {s t : State} (later : W) (u : State) (i j : ℕ) → IsStepped with_step w v s t → later ≡ with_step v i j
      → ((ns : List Node) → IsOver ns t → IsCheckStep (position_over ns t) (position_over ns u) i j) → u.forms ≡ t.forms → u.asserted ≡ t.asserted → IsStepped with_step w later s u
  stepped_more law {w} {v} {s} {t} later u i j h noted step forms asserted = record {
    pivots = h.pivots ++ pivot i j ∷ [];
    noted =
        noted
        ∙ ap (λ (x : W). with_step x i j) h.noted
        ∙ sym (fold_push (λ (x : W) (p : Pivot). with_step x p.leaves p.enters) w h.pivots (pivot i j));
    lead = λ ns over.
        law.goes_on (position_over ns s) (position_over ns t) (position_over ns u) h.pivots (pivot i j) (h.lead ns over) (step ns (over_forms ns s t h.forms over));
    forms = forms ∙ h.forms;
    asserted = asserted ∙ h.asserted;
  }

  -- where nothing has changed
  pub stepped_same : {w v : W} {s t : State} (now : W) (u : State) → IsStepped with_step w v s t → now ≡ v → u ≡ t → IsStepped with_step w now s u
  stepped_same {w} {v} {s} {t} now u h noted same =
      subst (λ (x : W). IsStepped with_step w x s u) (sym noted) (subst (λ (x : State). IsStepped with_step w v s x) (sym same) h)
