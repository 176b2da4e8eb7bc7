-- Rows over a basis: mixes of coefficients, and what is independent has one coefficient each.
use Rattle.std.proofs.Common.{◌≡◌, ℕ, ◌<◌, Bool, true, false, List, [], ◌∷◌, length, pos, negsuc, refl, sym, ap, ◌∙◌, true≢false}
use Rattle.std.specs.Prelude.{◌==◌, if◌then◌else◌, ◌≢◌}
use Rattle.nz_lists.proofs.Numbers.{equal-number, other-number}
use Rattle.nz_ints.proofs.Ring.{Atom, Literal, ◌⊕◌, ◌⊗◌}
use Rattle.nz_fractions.specs.Fraction.{Fraction, whole, ◌=ℚ◌, ◌+ℚ◌, ◌*ℚ◌}
use Rattle.nz_spec.specs.terms.Form.{Part}
use Rattle.nz_spec.specs.simplex.Basis.{Valuation, worth, form_at, Coefficients, weighted, mix, IsZeroAtBasic, IsRow, IsBasis, IsCoefficient, AreIndependent, CoefficientsAreUnique, alone, NonbasicFormIsItself}
use Rattle.nz_fractions.proofs.Laws.{=ℚ_refl, =ℚ_sym}
use Rattle.nz_fractions.proofs.Arithmetic.{+ℚ-zero, +ℚ-same}
use Rattle.nz_fractions.proofs.Identities.{zero_times, times_zero, one_times}
use Rattle.nz_fractions.proofs.Solver.{◌∙ℚ◌, solve, solve_by, plus_right, times_left, times_right}
use Rattle.nz_spec.proofs.BasisSums.{sum-same, sum-plus, sum-scaled, sum-zero, sum-single}

-- ---- Sums with coefficients, over any values of the forms

-- equal values
pub weighted-alike : (n : ℕ) (c x y : Coefficients) → ((k : ℕ) → x k =ℚ y k) → weighted n c x =ℚ weighted n c y
weighted-alike n c x y h = sum-same n (λ k. c k *ℚ x k) (λ k. c k *ℚ y k) (λ k p. times_right (c k) (h k))

module _ (n : ℕ) (y : Coefficients) where
  pub weighted-same : (c d : Coefficients) → ((k : ℕ) → c k =ℚ d k) → weighted n c y =ℚ weighted n d y
  weighted-same c d h = sum-same n (λ k. c k *ℚ y k) (λ k. d k *ℚ y k) (λ k p. times_left (y k) (h k))

  -- one sum and a multiple of another
  pub weighted-plus : (c d : Coefficients) (s : Fraction) → weighted n (λ k. c k +ℚ s *ℚ d k) y =ℚ (weighted n c y +ℚ s *ℚ weighted n d y)
  weighted-plus c d s =
      sum-same n (λ k. (c k +ℚ s *ℚ d k) *ℚ y k) (λ k. c k *ℚ y k +ℚ s *ℚ (d k *ℚ y k))
      (λ k p. solve (c k ∷ s ∷ d k ∷ y k ∷ []) ((Atom 0 ⊕ Atom 1 ⊗ Atom 2) ⊗ Atom 3) (Atom 0 ⊗ Atom 3 ⊕ Atom 1 ⊗ (Atom 2 ⊗ Atom 3)) refl)
      ∙ℚ sum-plus n (λ k. c k *ℚ y k) (λ k. s *ℚ (d k *ℚ y k))
      ∙ℚ plus_right (weighted n c y) (sum-scaled n s (λ k. d k *ℚ y k))

  pub weighted-zero : (c : Coefficients) → ((k : ℕ) → c k =ℚ whole (pos 0)) → weighted n c y =ℚ whole (pos 0)
  weighted-zero c h = sum-zero n (λ k. c k *ℚ y k) (λ k p. times_left (y k) (h k) ∙ℚ zero_times (y k))

pub alone-here : (i : ℕ) → alone i i =ℚ whole (pos 1)
alone-here i = by_test (i == i) (equal-number i i refl)
  where
    by_test : (b : Bool) → b ≡ true → (if b then whole (pos 1) else whole (pos 0)) =ℚ whole (pos 1)
    by_test true e = =ℚ_refl (whole (pos 1))
    by_test false e = absurd (cc)

pub alone-there : (i k : ℕ) → k ≢ i → alone i k =ℚ whole (pos 0)
alone-there i k h = by_test (k == i) (other-number k i h)
  where
    by_test : (b : Bool) → b ≡ false → (if b then whole (pos 1) else whole (pos 0)) =ℚ whole (pos 0)
    by_test true e = absurd (cc)
    by_test false e = =ℚ_refl (whole (pos 0))

pub weighted-alone : (n i : ℕ) (y : Coefficients) → i < n → weighted n (alone i) y =ℚ y i
weighted-alone n i y h =
    sum-single n i (λ k. alone i k *ℚ y k) h (λ k p q. times_left (y k) (alone-there i k q) ∙ℚ zero_times (y k))
    ∙ℚ times_left (y i) (alone-here i)
    ∙ℚ one_times (y i)

-- ---- Independence

-- c less d
abbrev less : Coefficients → Coefficients → Coefficients
less c d k = c k +ℚ whole (negsuc 0) *ℚ d k

module _ (fs : List (List Part)) (nonbasic : ℕ → Bool) where
  pub nonbasic-plus : (c d : Coefficients) (s : Fraction) → IsZeroAtBasic nonbasic c → IsZeroAtBasic nonbasic d → IsZeroAtBasic nonbasic (λ k. c k +ℚ s *ℚ d k)
  nonbasic-plus c d s h m k e = +ℚ-same (h k e) (times_right s (m k e) ∙ℚ times_zero s) ∙ℚ +ℚ-zero (whole (pos 0))

  one_from_independent : AreIndependent fs nonbasic → (i : ℕ) (c d : Coefficients) → IsRow fs nonbasic i c → IsRow fs nonbasic i d → (k : ℕ) → c k =ℚ d k
  one_from_independent free i c d h m k =
      solve_by (c k ∷ d k ∷ []) (Atom 0) (Atom 1) (Literal (pos 1)) (Atom 0 ⊕ Literal (negsuc 0) ⊗ Atom 1) (Literal (pos 0))
      (free (less c d) (nonbasic-plus c d (whole (negsuc 0)) h.at_basic m.at_basic) nothing k) refl
    where
      nothing : (v : Valuation) → mix fs (less c d) v =ℚ whole (pos 0)
      nothing v =
          let y : Coefficients = λ j. worth v (form_at fs j) in
          weighted-plus (length fs) y c d (whole (negsuc 0))
          ∙ℚ +ℚ-same (=ℚ_sym (h.equal v)) (times_right (whole (negsuc 0)) (=ℚ_sym (m.equal v)))
          ∙ℚ solve (worth v (form_at fs i) ∷ []) (Atom 0 ⊕ Literal (negsuc 0) ⊗ Atom 0) (Literal (pos 0)) refl

  independent_from_basis : IsBasis fs nonbasic → AreIndependent fs nonbasic
  independent_from_basis b c h none k = by_test (nonbasic k) refl
    where
      by_row : k < length fs → (d : Coefficients) × IsRow fs nonbasic k d → c k =ℚ whole (pos 0)
      by_row p (d, r) =
          solve_by (d k ∷ c k ∷ []) (Atom 1) (Literal (pos 0)) (Literal (pos 1)) (Atom 0 ⊕ Literal (pos 1) ⊗ Atom 1) (Atom 0)
          (b.one k (λ j. d j +ℚ whole (pos 1) *ℚ c j) d p more r k) refl
        where
          more : IsRow fs nonbasic k (λ j. d j +ℚ whole (pos 1) *ℚ c j)
          more = record {
            at_basic = nonbasic-plus d c (whole (pos 1)) r.at_basic h;
            equal = λ v.
                r.equal v
                ∙ℚ =ℚ_sym (weighted-plus (length fs) (λ j. worth v (form_at fs j)) d c (whole (pos 1))
                ∙ℚ plus_right (mix fs d v) (times_right (whole (pos 1)) (none v))
                ∙ℚ solve (mix fs d v ∷ []) (Atom 0 ⊕ Literal (pos 1) ⊗ Literal (pos 0)) (Atom 0) refl);
          }

      by_test : (t : Bool) → nonbasic k ≡ t → c k =ℚ whole (pos 0)
      by_test true e = by_row (b.listed k e) (b.some k (b.listed k e))
      by_test false e = h k e

  coefficient_is_one : (i j : ℕ) (p q : Fraction) → IsBasis fs nonbasic → i < length fs → IsCoefficient fs nonbasic i j p → IsCoefficient fs nonbasic i j q → p =ℚ q
  coefficient_is_one i j p q b h c d = =ℚ_sym c.at ∙ℚ b.one i c.row d.row h c.is_row d.is_row j ∙ℚ d.at

  -- a form of the list alone
  pub alone-row : (i : ℕ) → i < length fs → nonbasic i ≡ true → IsRow fs nonbasic i (alone i)
  alone-row i h e = record {
    at_basic = λ k o. alone-there i k (λ (q : k ≡ i). true≢false (sym e ∙ ap nonbasic (sym q) ∙ o));
    equal = λ v. =ℚ_sym (weighted-alone (length fs) i (λ k. worth v (form_at fs k)) h);
  }

pub coefficients_are_unique : CoefficientsAreUnique
coefficients_are_unique = record {
  independent = independent_from_basis;
  one = coefficient_is_one;
  basis = λ fs nonbasic units listed some free. record {
    units = units;
    listed = listed;
    some = some;
    one = λ i c d h. one_from_independent fs nonbasic free i c d;
  };
}

pub nonbasic_form_is_itself : NonbasicFormIsItself
nonbasic_form_is_itself = record {
  row = λ fs nonbasic i b e. alone-row fs nonbasic i (b.listed i e) e;
  value = weighted-alone;
}
