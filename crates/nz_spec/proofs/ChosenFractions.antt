-- The fraction that is chosen for δ is above 0, and keeps values that meet the bounds within them.
use Rattle.std.proofs.Common.{◌≡◌, ℕ, ◌<◌, List, ◌∷◌, length, Some, pos, refl, sym, subst}
use Rattle.std.proofs.lemmas.List.Elements.{All-weaker, All-contains}
use Rattle.nz_fractions.specs.Fraction.{Fraction, whole, ◌≤ℚ◌, ◌<ℚ◌}
use Rattle.nz_spec.specs.numbers.Infinitesimal.{Infinitesimal, ◌≤δ◌, at, Pair, limits, IsLeastLimit, chosen_delta, AreOrdered, AreOrderedAt}
use Rattle.nz_spec.specs.simplex.Bland.{Position, HasBasis, HasValue, Side, lower_side, upper_side, bound_on, IsOutside, NonbasicFormsFit, MeetsBounds, IsWithinBounds}
use Rattle.nz_spec.specs.search.Places.{in_order, IsPairOf, IsChosen}
use Rattle.nz_spec.specs.laws.ToldBounds.{IsWithinAt, AreWithinAt, AreNumbers, ChosenFractionsKeepBounds}
use Rattle.nz_fractions.proofs.Laws.{<ℚ-≤ℚ_trans}
use Rattle.nz_spec.proofs.InfinitesimalLaws.{chosen-above, chosen-keeps, chosen-least}
use Rattle.nz_spec.proofs.InfinitesimalOrder.{at_most_parts, not_less}
use Rattle.nz_spec.proofs.BlandRefutes.{outside-equal}
use Rattle.nz_spec.proofs.BlandPositions.{positions_have_values}

-- ---- Least limits: whichever of them is taken, it serves as the first does

least-at_most : (pairs : List Pair) (d e : Fraction) → IsLeastLimit pairs d → IsLeastLimit pairs e → d ≤ℚ e
least-at_most pairs d e h k = All-contains (λ (q : Fraction). d ≤ℚ q) (whole (pos 1) ∷ limits pairs) e h.at_most k.reached

pub least-above : (pairs : List Pair) (e : Fraction) → AreOrdered pairs → IsLeastLimit pairs e → whole (pos 0) <ℚ e
least-above pairs e o h = <ℚ-≤ℚ_trans (chosen-above pairs o) (least-at_most pairs (chosen_delta pairs) e (chosen-least pairs) h)

pub least-keeps : (pairs : List Pair) (e : Fraction) → AreOrdered pairs → IsLeastLimit pairs e → AreOrderedAt pairs e
least-keeps pairs e o h = chosen-keeps pairs e o (least-above pairs e o h) (least-at_most pairs e (chosen_delta pairs) h (chosen-least pairs))

-- ---- A value and its bound: they stand in order where the value is not outside

abbrev IsOrdered : Pair → Type 0
IsOrdered pair = pair.0 ≤δ pair.1

abbrev IsOrderedAt : Fraction → Pair → Type 0
IsOrderedAt e pair = at pair.0 e ≤ℚ at pair.1 e

inside-ordered : (side : Side) (bound x : Infinitesimal) → (IsOutside side bound x → ⊥) → IsOrdered (in_order side bound x)
inside-ordered lower_side bound x h = at_most_parts bound x (not_less bound x h)
inside-ordered upper_side bound x h = at_most_parts x bound (not_less x bound h)

ordered-within : (e : Fraction) (side : Side) (bound x : Infinitesimal) → IsOrderedAt e (in_order side bound x) → IsWithinAt e side bound x
ordered-within e lower_side bound x h = h
ordered-within e upper_side bound x h = h

-- ---- Values of all forms that meet the bounds

module _ (p : Position) (y : ℕ → Infinitesimal) (e : Fraction) (basis : HasBasis p) (chosen : IsChosen p e)
    (has : (k : ℕ) → k < length p.forms → HasValue p k (y k)) (meets : MeetsBounds p y) where
  pair-ordered : (form : ℕ) (side : Side) (pair : Pair) → IsPairOf p form side pair → IsOrdered pair
  pair-ordered form side pair h =
      let same = positions_have_values.one p form h.value (y form) basis h.listed h.has (has form h.listed) in
      subst IsOrdered (sym h.is)
      (inside-ordered side h.bound h.value
      (λ o. meets side form h.bound h.listed h.bounded (outside-equal side h.bound h.value (y form) same o)))

  pairs-ordered : AreOrdered chosen.pairs
  pairs-ordered =
      All-weaker (λ (pair : Pair). (form : ℕ) × (side : Side) × IsPairOf p form side pair) IsOrdered
      (λ pair h. pair-ordered h.0 h.1 pair h.2)
      chosen.pairs chosen.each

  chosen-above_zero : whole (pos 0) <ℚ e
  chosen-above_zero = least-above chosen.pairs e pairs-ordered chosen.least

  module _ (numbers : AreNumbers (length p.forms) y) where
    value-within : (side : Side) (k : ℕ) (bound : Infinitesimal) → k < length p.forms → bound_on side p k ≡ Some bound
        → IsWithinAt e side bound (y k)
    value-within side k bound h f =
        let pair = in_order side bound (y k) in
        let is : IsPairOf p k side pair =
        record { listed = h; bound = bound; bounded = f; value = y k; has = has k h; numbers = numbers k h; is = refl } in
        ordered-within e side bound (y k)
        (All-contains (IsOrderedAt e) chosen.pairs pair (least-keeps chosen.pairs e pairs-ordered chosen.least) (chosen.all k side pair is))

    chosen-within : AreWithinAt p y e
    chosen-within = record { values = has; within = value-within }

-- ---- The law, a field at a time

above_zero : (p : Position) (e : Fraction) → HasBasis p → IsWithinBounds p → NonbasicFormsFit p → IsChosen p e → whole (pos 0) <ℚ e
above_zero p e basis within fit chosen =
    let some = positions_have_values.some p basis in
    chosen-above_zero p some.0 e basis chosen some.1 (positions_have_values.feasible p some.0 basis some.1 fit within)

pub chosen_fractions_keep_bounds : ChosenFractionsKeepBounds
chosen_fractions_keep_bounds = record {
  above_zero = above_zero;
  within = λ p y e basis chosen has numbers meets. chosen-within p y e basis chosen has meets numbers;
}
