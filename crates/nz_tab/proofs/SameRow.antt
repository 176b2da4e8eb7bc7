-- Equal coefficients make the same row.
use Rattle.std.proofs.Common.{ℕ, zero, suc, Bool, List, length, pos}
use Rattle.nz_fractions.specs.Fraction.{Fraction, whole, ◌=ℚ◌}
use Rattle.nz_fractions.proofs.Arithmetic.{+ℚ-same, *ℚ-same}
use Rattle.nz_fractions.proofs.Laws.{=ℚ_refl, =ℚ_sym, =ℚ_trans}
use Rattle.nz_spec.specs.terms.Form.{Part}
use Rattle.nz_spec.specs.simplex.Basis.{Coefficients, IsRow, form_at, weighted, worth}

same_sums : (n : ℕ) (y : ℕ → Fraction) (c d : Coefficients) → ((k : ℕ) → c k =ℚ d k) → weighted n c y =ℚ weighted n d y
same_sums zero y c d h = =ℚ_refl (whole (pos 0))
same_sums (suc n) y c d h = +ℚ-same (same_sums n y c d h) (*ℚ-same (h n) (=ℚ_refl (y n)))

pub same_row : (fs : List (List Part)) (nonbasic : ℕ → Bool) (i : ℕ) (c d : Coefficients) → ((k : ℕ) → d k =ℚ c k) → IsRow fs nonbasic i c → IsRow fs nonbasic i d
same_row fs nonbasic i c d h r = record {
  at_basic = λ k e. =ℚ_trans (h k) (r.at_basic k e);
  equal = λ v. =ℚ_trans (r.equal v) (same_sums (length fs) (λ k. worth v (form_at fs k)) c d (λ k. =ℚ_sym (h k)));
}
