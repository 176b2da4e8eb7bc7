-- Climb steps: what blocks first may be exchanged, or is the form that goes.
use Rattle.std.proofs.Common.{◌≡◌, ℕ, Bool, true, false, ◌⊎◌, inl, inr, Some, None, pos, refl, sym, ap, ◌∙◌, subst, true≢false}
use Rattle.std.specs.Prelude.{◌==◌, if◌then◌else◌, ◌≢◌, is_some}
use Rattle.nz_lists.proofs.Numbers.{equal-number, same-number}
use Rattle.nz_fractions.specs.Fraction.{Fraction, whole, ◌=ℚ◌, ◌<ℚ◌}
use Rattle.nz_fractions.proofs.Laws.{=ℚ_sym, ≤ℚ-from_eq, <ℚ_irrefl}
use Rattle.nz_fractions.proofs.Solver.{◌∙ℚ◌}
use Rattle.nz_spec.specs.numbers.Infinitesimal.{Infinitesimal}
use Rattle.nz_spec.specs.simplex.Basis.{IsBasis, alone}
use Rattle.nz_spec.specs.simplex.BasisMoves.{exchanged, MayExchange}
use Rattle.nz_spec.specs.simplex.Bland.{Point, is_nonbasic, Position, HasBasis, HasValue, Side, IsLed, Blocks, exchanged_point, IsClimbStep, ClimbStepsKeepBasis}
use Rattle.nz_spec.proofs.BasisRows.{alone-there, nonbasic_form_is_itself}
use Rattle.nz_spec.proofs.BasisExchange.{exchange_keeps_basis}
use Rattle.nz_spec.proofs.BlandSteps.{signed-nonzero, nonbasic-exchanged, standing_at, stands-at}

-- a coefficient that leads a form isn't 0
led-sign : (way : Side) (q : Fraction) (side : Side) → IsLed way q side → (whole (pos 0) <ℚ q) ⊎ (q <ℚ whole (pos 0))
led-sign way q side (inl h) = inl h.0
led-sign way q side (inr h) = inr h.0

led-nonzero : (way : Side) (q : Fraction) (side : Side) → IsLed way q side → q =ℚ whole (pos 0) → ⊥
led-nonzero way q side (inl h) e = <ℚ_irrefl h.0 (≤ℚ-from_eq e)
led-nonzero way q side (inr h) e = <ℚ_irrefl h.0 (≤ℚ-from_eq (=ℚ_sym e))

-- a nonbasic form blocks no other one, since its coefficient there is 0
blocker-basic : (s : Position) (i j : ℕ) (way : Side) (move : Infinitesimal) → HasBasis s → Blocks s j way i move → i ≢ j → is_nonbasic s.point i ≡ false
blocker-basic s i j way move b h apart = by_test (is_nonbasic s.point i) refl
  where
    by_test : (t : Bool) → is_nonbasic s.point i ≡ t → t ≡ false
    by_test false e = refl
    by_test true e =
        absurd
        (led-nonzero way h.coefficient h.side h.led
        (=ℚ_sym h.at.at
        ∙ℚ b.one i h.at.row (alone i) h.listed h.at.is_row (nonbasic_form_is_itself.row s.forms (is_nonbasic s.point) i b e) j
        ∙ℚ alone-there i j (λ g. apart (sym g))))

-- a nonbasic form that moves stays one
nonbasic-moved : (x : Point) (j : ℕ) (b : Infinitesimal) → is_nonbasic x j ≡ true → (k : ℕ) → is_nonbasic x k ≡ is_nonbasic (exchanged_point x j j b) k
nonbasic-moved x j b e k = by_test (k == j) refl
  where
    by_test : (d : Bool) → (k == j) ≡ d → is_some (x k) ≡ is_some (if d then Some b else if d then None else x k)
    by_test true f = ap (λ m. is_some (x m)) (same-number k j f) ∙ e
    by_test false f = refl

module _ (s t : Position) (goal : ℕ) (up : Side) (i j : ℕ) (b : HasBasis s) (step : IsClimbStep s t goal up i j) where
  abbrev next : Position
  next = standing_at s i j step.blocks.bound

  may : i ≢ j → MayExchange s.forms (is_nonbasic s.point) i j
  may apart = record {
    listed = step.blocks.listed;
    leaves = blocker-basic s i j step.way step.move b step.blocks apart;
    enters = step.helps.nonbasic;
    coefficient = step.blocks.coefficient;
    at = step.blocks.at;
    nonzero = signed-nonzero step.blocks.coefficient (led-sign step.way step.blocks.coefficient step.blocks.side step.blocks.led);
  }

  next-basis : HasBasis next
  next-basis = by_test (i == j) refl
    where
      apart : (i == j) ≡ false → i ≢ j
      apart e f = true≢false (sym (equal-number i j f) ∙ e)

      exchange : i ≢ j → HasBasis next
      exchange h =
          let tests : exchanged (is_nonbasic s.point) i j ≡ is_nonbasic next.point = λ e k. nonbasic-exchanged s.point i j step.blocks.bound k e in
          subst (λ (test : ℕ → Bool). IsBasis s.forms test) tests
          (exchange_keeps_basis.basis s.forms (is_nonbasic s.point) i j b (may h))

      moved : i ≡ j → HasBasis next
      moved e =
          let tests : is_nonbasic s.point ≡ is_nonbasic (exchanged_point s.point j j step.blocks.bound) = λ f k. nonbasic-moved s.point j step.blocks.bound step.helps.nonbasic k f in
          subst (λ (m : ℕ). IsBasis s.forms (is_nonbasic (exchanged_point s.point m j step.blocks.bound))) (sym e)
          (subst (λ (test : ℕ → Bool). IsBasis s.forms test) tests b)

      by_test : (d : Bool) → (i == j) ≡ d → HasBasis next
      by_test true e = moved (same-number i j e)
      by_test false e = exchange (apart e)

pub climb_steps_keep_basis : ClimbStepsKeepBasis
climb_steps_keep_basis = record {
  basis = λ s t goal up i j b step. subst (λ (u : Position). HasBasis u) (sym step.after) (next-basis s t goal up i j b step);
  stands = λ s t goal up i j b step.
      subst (λ (u : Position). HasValue u i step.blocks.bound) (sym step.after) (stands-at s i j step.blocks.bound step.blocks.listed (next-basis s t goal up i j b step));
}
