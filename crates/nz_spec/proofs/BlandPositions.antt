-- The values of all forms at a position: they fit its basis, and meet the bounds where no form breaks one.
use Rattle.std.proofs.Common.{◌≡◌, ℕ, ◌<◌, ◌≤◌, Bool, true, false, ◌⊎◌, inl, inr, [], ◌∷◌, length, pos, refl, arith}
use Rattle.nz_ints.proofs.Ring.{Atom, ◌⊕◌, ◌⊗◌}
use Rattle.nz_fractions.specs.Fraction.{Fraction, whole, ◌=ℚ◌, ◌+ℚ◌, ◌*ℚ◌}
use Rattle.nz_spec.specs.numbers.Infinitesimal.{Infinitesimal, ◌=δ◌, at}
use Rattle.nz_spec.specs.simplex.Basis.{Coefficients, weighted, IsRow, alone, IsSolution}
use Rattle.nz_spec.specs.simplex.Bland.{is_nonbasic, value_in, sum_at, Position, HasBasis, HasValue, Side, NonbasicFormsFit, Breaks, MeetsBounds, PositionsHaveValues}
use Rattle.nz_fractions.proofs.Laws.{=ℚ_refl, =ℚ_sym}
use Rattle.nz_fractions.proofs.Arithmetic.{+ℚ-same}
use Rattle.nz_fractions.proofs.Identities.{zero_times}
use Rattle.nz_fractions.proofs.Solver.{◌∙ℚ◌, solve, plus_right, times_left, times_right}
use Rattle.nz_spec.proofs.BasisSums.{sum-same, sum-plus, sum-scaled}
use Rattle.nz_spec.proofs.BasisRows.{weighted-same, weighted-alone, nonbasic_form_is_itself}
use Rattle.nz_spec.proofs.SumsLonger.{sum_longer}
use Rattle.nz_spec.proofs.InfinitesimalOrder.{=δ_sym, =δ_trans}
use Rattle.nz_spec.proofs.BlandRefutes.{outside-equal}

pub place : (k n : ℕ) → (k < n) ⊎ (n ≤ k)
place k n = grind arith

module _ (u : Position) (b : HasBasis u) where
  row_by : (k : ℕ) → (k < length u.forms) ⊎ (length u.forms ≤ k) → Coefficients
  row_by k (inl p) = (b.some k p).0
  row_by k (inr p) = λ l. whole (pos 0)

  row-is_by : (k : ℕ) (o : (k < length u.forms) ⊎ (length u.forms ≤ k)) → k < length u.forms → IsRow u.forms (is_nonbasic u.point) k (row_by k o)
  unfolding row_by
  row-is_by k (inl p) h = (b.some k p).1
  row-is_by k (inr p) h = absurd (omega (arith, p, h))

  pub all_rows : ℕ → Coefficients
  all_rows k = row_by k (place k (length u.forms))

  row-is : (k : ℕ) → k < length u.forms → IsRow u.forms (is_nonbasic u.point) k (all_rows k)
  unfolding all_rows
  row-is k h = row-is_by k (place k (length u.forms)) h

  -- the value of each form
  abbrev pub all_values : ℕ → Infinitesimal
  all_values k = sum_at (length u.forms) (all_rows k) (value_in u.point)

  pub all-have : (k : ℕ) → k < length u.forms → HasValue u k (all_values k)
  all-have k h = record {
    row = all_rows k;
    is_row = row-is k h;
    at = record { standard = =ℚ_refl (all_values k).standard; coefficient = =ℚ_refl (all_values k).coefficient };
  }

  -- one form has one value
  pub one-value : (k : ℕ) (v : Infinitesimal) → k < length u.forms → HasValue u k v → v =δ all_values k
  one-value k v h has = record {
    standard = has.at.standard ∙ℚ weighted-same (length u.forms) (λ l. (value_in u.point l).standard) has.row (all_rows k) (b.one k has.row (all_rows k) h has.is_row (row-is k h));
    coefficient = has.at.coefficient ∙ℚ weighted-same (length u.forms) (λ l. (value_in u.point l).coefficient) has.row (all_rows k) (b.one k has.row (all_rows k) h has.is_row (row-is k h));
  }

  pub nonbasic-value : (k : ℕ) → is_nonbasic u.point k ≡ true → value_in u.point k =δ all_values k
  nonbasic-value k e =
      let h = b.listed k e in
      one-value k (value_in u.point k) h (record {
        row = alone k;
        is_row = nonbasic_form_is_itself.row u.forms (is_nonbasic u.point) k b e;
        at = record {
          standard = =ℚ_sym (weighted-alone (length u.forms) k (λ l. (value_in u.point l).standard) h);
          coefficient = =ℚ_sym (weighted-alone (length u.forms) k (λ l. (value_in u.point l).coefficient) h);
        };
      })

  -- one part of the values fits
  part-fits : (x : Coefficients) → ((k : ℕ) → is_nonbasic u.point k ≡ true → x k =ℚ weighted (length u.forms) (all_rows k) x) → IsSolution u.forms (is_nonbasic u.point) (λ k. weighted (length u.forms) (all_rows k) x)
  part-fits x same i c p r =
      weighted-same (length u.forms) x (all_rows i) c (b.one i (all_rows i) c p (row-is i p) r)
      ∙ℚ sum-same (length u.forms) (λ k. c k *ℚ x k) (λ k. c k *ℚ weighted (length u.forms) (all_rows k) x) (λ k q. by_test k (is_nonbasic u.point k) refl)
    where
      by_test : (k : ℕ) (t : Bool) → is_nonbasic u.point k ≡ t → (c k *ℚ x k) =ℚ (c k *ℚ weighted (length u.forms) (all_rows k) x)
      by_test k true e = times_right (c k) (same k e)
      by_test k false e =
          times_left (x k) (r.at_basic k e)
          ∙ℚ zero_times (x k)
          ∙ℚ =ℚ_sym (times_left (weighted (length u.forms) (all_rows k) x) (r.at_basic k e) ∙ℚ zero_times (weighted (length u.forms) (all_rows k) x))

  pub standard-fits : IsSolution u.forms (is_nonbasic u.point) (λ k. (all_values k).standard)
  standard-fits = part-fits (λ l. (value_in u.point l).standard) (λ k e. (nonbasic-value k e).standard)

  pub coefficient-fits : IsSolution u.forms (is_nonbasic u.point) (λ k. (all_values k).coefficient)
  coefficient-fits = part-fits (λ l. (value_in u.point l).coefficient) (λ k e. (nonbasic-value k e).coefficient)

-- ---- Any values of the forms

module _ (s : Position) (y : ℕ → Infinitesimal) (b : HasBasis s) (has : (k : ℕ) → k < length s.forms → HasValue s k (y k)) where
  same-values : (k : ℕ) → k < length s.forms → y k =δ all_values s b k
  same-values k h = one-value s b k (y k) h (has k h)

  y-fits_standard : IsSolution s.forms (is_nonbasic s.point) (λ k. (y k).standard)
  y-fits_standard i c p r =
      (same-values i p).standard
      ∙ℚ standard-fits s b i c p r
      ∙ℚ sum-same (length s.forms) (λ k. c k *ℚ (all_values s b k).standard) (λ k. c k *ℚ (y k).standard) (λ k q. times_right (c k) (=ℚ_sym (same-values k q).standard))

  y-fits_coefficient : IsSolution s.forms (is_nonbasic s.point) (λ k. (y k).coefficient)
  y-fits_coefficient i c p r =
      (same-values i p).coefficient
      ∙ℚ coefficient-fits s b i c p r
      ∙ℚ sum-same (length s.forms) (λ k. c k *ℚ (all_values s b k).coefficient) (λ k. c k *ℚ (y k).coefficient) (λ k q. times_right (c k) (=ℚ_sym (same-values k q).coefficient))

  fits-at : (e : Fraction) → IsSolution s.forms (is_nonbasic s.point) (λ k. at (y k) e)
  unfolding at
  fits-at e i c p r =
      +ℚ-same (y-fits_standard i c p r) (times_left e (y-fits_coefficient i c p r))
      ∙ℚ solve (weighted (length s.forms) c (λ k. (y k).standard) ∷ weighted (length s.forms) c (λ k. (y k).coefficient) ∷ e ∷ []) (Atom 0 ⊕ Atom 1 ⊗ Atom 2) (Atom 0 ⊕ Atom 2 ⊗ Atom 1) refl
      ∙ℚ =ℚ_sym (sum-same (length s.forms) (λ k. c k *ℚ ((y k).standard +ℚ (y k).coefficient *ℚ e)) (λ k. c k *ℚ (y k).standard +ℚ e *ℚ (c k *ℚ (y k).coefficient))
      (λ k q. solve (c k ∷ (y k).standard ∷ (y k).coefficient ∷ e ∷ []) (Atom 0 ⊗ (Atom 1 ⊕ Atom 2 ⊗ Atom 3)) (Atom 0 ⊗ Atom 1 ⊕ Atom 3 ⊗ (Atom 0 ⊗ Atom 2)) refl)
      ∙ℚ sum-plus (length s.forms) (λ k. c k *ℚ (y k).standard) (λ k. e *ℚ (c k *ℚ (y k).coefficient))
      ∙ℚ plus_right (weighted (length s.forms) c (λ k. (y k).standard)) (sum-scaled (length s.forms) e (λ k. c k *ℚ (y k).coefficient)))

  all-meet : NonbasicFormsFit s → ((side : Side) (bound : Infinitesimal) (i : ℕ) → Breaks s side bound i → ⊥) → MeetsBounds s y
  all-meet fit none side k bound h e o = by_test (is_nonbasic s.point k) refl
    where
      by_test : (t : Bool) → is_nonbasic s.point k ≡ t → ⊥
      by_test true f =
          fit side k bound f e
          (outside-equal side bound (y k) (value_in s.point k) (=δ_trans (same-values k h) (=δ_sym (nonbasic-value s b k f))) o)
      by_test false f = none side bound k (record { listed = h; basic = f; bounded = e; value = y k; has = has k h; outside = o })

pub positions_have_values : PositionsHaveValues
positions_have_values = record {
  some = λ s b. (all_values s b, all-have s b);
  one = λ s k x y b h p q. =δ_trans (one-value s b k x h p) (=δ_sym (one-value s b k y h q));
  fit = λ s y e b has. fits-at s y b has e;
  feasible = λ s y b has fit none. all-meet s y b has fit none;
  longer = sum_longer;
}
