-- Tests of what stands in atoms, step by step.
use Rattle.std.proofs.Common.{◌≡◌, ℕ, suc, ◌==◌, ◌&&◌, Bool, true, false, List, [], ◌∷◌, length, pos, refl, ap, ◌∙◌, eqb-true, eq-eqb}
use Rattle.std.specs.Cmp.{signed_Decides}
use Rattle.std.specs.Ordering.{int_eq}
use Rattle.nz_lists.proofs.Tests.{same_tests}
use Rattle.nz_fractions.specs.Fraction.{Fraction, denominator}
use Rattle.nz_spec.specs.terms.Same.{are_same_fraction}
use Rattle.nz_lin.specs.declared.form.Part.{Part}
use Rattle.nz_log.specs.Keys.{are_same_part, are_same_units}

-- denominators are the same where what they keep is
below_same : (m n : ℕ) → int_eq (pos (suc m)) (pos (suc n)) ≡ (m == n)
below_same m n =
    same_tests (int_eq (pos (suc m)) (pos (suc n))) (m == n)
    (λ e. let both : pos (suc m) ≡ pos (suc n) = (signed_Decides (pos (suc m)) (pos (suc n))).0 e in let same : m ≡ n = cc in eq-eqb m n same)
    (λ e. (signed_Decides (pos (suc m)) (pos (suc n))).1 (ap (λ k. pos (suc k)) (eqb-true m n e)))

pub same_number_is : (p q : Fraction) → (int_eq p.numerator q.numerator && int_eq (pos (denominator p)) (pos (denominator q))) ≡ are_same_fraction p q
unfolding denominator
same_number_is p q = ap (λ (b : Bool). int_eq p.numerator q.numerator && b) (below_same p.below q.below)

-- ---- Units

pub other_lengths : (ps qs : List Part) → (length ps ≡ length qs → ⊥) → are_same_units ps qs ≡ false
other_lengths [] [] h = absurd (h refl)
other_lengths [] (q ∷ qs) h = refl
other_lengths (p ∷ ps) [] h = refl
other_lengths (p ∷ ps) (q ∷ qs) h =
    ap (λ (b : Bool). are_same_part p q && b) (other_lengths ps qs (λ e. h (ap suc e))) ∙ and_false (are_same_part p q)
  where
    and_false : (b : Bool) → (b && false) ≡ false
    and_false true = refl
    and_false false = refl
