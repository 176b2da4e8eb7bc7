-- A sum over more forms, where the others have the value 0.
use Rattle.std.proofs.Common.{◌≡◌, ℕ, zero, suc, ◌<◌, ◌≤◌, ◌⊎◌, inl, inr, pos, ap, subst, arith}
use Rattle.nz_fractions.specs.Fraction.{Fraction, whole, ◌=ℚ◌, ◌*ℚ◌}
use Rattle.nz_fractions.proofs.Laws.{=ℚ-from_same}
use Rattle.nz_fractions.proofs.Arithmetic.{+ℚ-zero}
use Rattle.nz_fractions.proofs.Identities.{times_zero}
use Rattle.nz_fractions.proofs.Solver.{◌∙ℚ◌, plus_right, times_right}
use Rattle.nz_spec.specs.numbers.Infinitesimal.{Infinitesimal, ◌=δ◌}
use Rattle.nz_spec.specs.simplex.Basis.{Coefficients, weighted}
use Rattle.nz_spec.specs.simplex.Bland.{sum_at, zero_infinitesimal}
use Rattle.nz_spec.proofs.BasisSums.{sum-same}

module _ (n : ℕ) (c : Coefficients) (x y : ℕ → Fraction) (same : (k : ℕ) → k < n → y k ≡ x k) (zeros : (k : ℕ) → n ≤ k → y k ≡ whole (pos 0)) where
  longer : (m : ℕ) → n ≤ m → weighted m c y =ℚ weighted n c x
  longer zero h = at_end 0 (omega (arith, h))
    where
      at_end : (m : ℕ) → n ≡ m → weighted m c y =ℚ weighted n c x
      at_end m e = subst (λ (k : ℕ). weighted k c y =ℚ weighted n c x) e (sum-same n (λ k. c k *ℚ y k) (λ k. c k *ℚ x k) (λ k p. times_right (c k) (=ℚ-from_same (same k p))))
  longer (suc m) h = by_place (place n m h) (longer m)
    where
      place : (n m : ℕ) → n ≤ suc m → (n ≡ suc m) ⊎ (n ≤ m)
      place n m h = grind (arith, h)

      by_place : (n ≡ suc m) ⊎ (n ≤ m) → (n ≤ m → weighted m c y =ℚ weighted n c x) → weighted (suc m) c y =ℚ weighted n c x
      by_place (inl e) rest = subst (λ (k : ℕ). weighted k c y =ℚ weighted n c x) e (sum-same n (λ k. c k *ℚ y k) (λ k. c k *ℚ x k) (λ k p. times_right (c k) (=ℚ-from_same (same k p))))
      by_place (inr g) rest =
          plus_right (weighted m c y) (times_right (c m) (=ℚ-from_same (zeros m g)) ∙ℚ times_zero (c m))
          ∙ℚ +ℚ-zero (weighted m c y)
          ∙ℚ rest g

pub sum_longer : (n m : ℕ) (c : Coefficients) (x y : ℕ → Infinitesimal) → n ≤ m → ((k : ℕ) → k < n → y k ≡ x k) → ((k : ℕ) → n ≤ k → y k ≡ zero_infinitesimal) → sum_at m c y =δ sum_at n c x
sum_longer n m c x y h same zeros = record {
  standard =
      longer n c (λ k. (x k).standard) (λ k. (y k).standard) (λ k p. ap (λ (z : Infinitesimal). z.standard) (same k p)) (λ k p. ap (λ (z : Infinitesimal). z.standard) (zeros k p)) m h;
  coefficient =
      longer n c (λ k. (x k).coefficient) (λ k. (y k).coefficient) (λ k p. ap (λ (z : Infinitesimal). z.coefficient) (same k p)) (λ k p. ap (λ (z : Infinitesimal). z.coefficient) (zeros k p)) m h;
}
