-- Sums by number: alike, added, scaled, and of one summand.
use Rattle.std.proofs.Common.{◌≡◌, ℕ, zero, suc, ◌<◌, ◌⊎◌, inl, inr, [], ◌∷◌, pos, refl, sym, subst, arith}
use Rattle.std.specs.Prelude.{◌≢◌}
use Rattle.nz_ints.proofs.Ring.{Atom, ◌⊕◌, ◌⊗◌}
use Rattle.nz_fractions.specs.Fraction.{Fraction, whole, ◌=ℚ◌, ◌+ℚ◌, ◌*ℚ◌}
use Rattle.nz_spec.specs.simplex.Basis.{sum_of}
use Rattle.nz_fractions.proofs.Laws.{=ℚ_refl, =ℚ_sym}
use Rattle.nz_fractions.proofs.Arithmetic.{+ℚ-zero, +ℚ-same}
use Rattle.nz_fractions.proofs.Identities.{zero_left, times_zero}
use Rattle.nz_fractions.proofs.Solver.{◌∙ℚ◌, solve, plus_left, plus_right}

pub sum-same : (n : ℕ) (f g : ℕ → Fraction) → ((k : ℕ) → k < n → f k =ℚ g k) → sum_of n f =ℚ sum_of n g
sum-same zero f g h = =ℚ_refl (whole (pos 0))
sum-same (suc n) f g h = +ℚ-same (sum-same n f g (λ k p. h k (omega (arith, p)))) (h n (omega arith))

pub sum-plus : (n : ℕ) (f g : ℕ → Fraction) → sum_of n (λ k. f k +ℚ g k) =ℚ (sum_of n f +ℚ sum_of n g)
sum-plus zero f g = =ℚ_sym (+ℚ-zero (whole (pos 0)))
sum-plus (suc n) f g =
    plus_left (f n +ℚ g n) (sum-plus n f g)
    ∙ℚ solve (sum_of n f ∷ sum_of n g ∷ f n ∷ g n ∷ []) ((Atom 0 ⊕ Atom 1) ⊕ (Atom 2 ⊕ Atom 3)) ((Atom 0 ⊕ Atom 2) ⊕ (Atom 1 ⊕ Atom 3)) refl

pub sum-scaled : (n : ℕ) (s : Fraction) (f : ℕ → Fraction) → sum_of n (λ k. s *ℚ f k) =ℚ (s *ℚ sum_of n f)
sum-scaled zero s f = =ℚ_sym (times_zero s)
sum-scaled (suc n) s f =
    plus_left (s *ℚ f n) (sum-scaled n s f)
    ∙ℚ solve (s ∷ sum_of n f ∷ f n ∷ []) (Atom 0 ⊗ Atom 1 ⊕ Atom 0 ⊗ Atom 2) (Atom 0 ⊗ (Atom 1 ⊕ Atom 2)) refl

pub sum-zero : (n : ℕ) (f : ℕ → Fraction) → ((k : ℕ) → k < n → f k =ℚ whole (pos 0)) → sum_of n f =ℚ whole (pos 0)
sum-zero zero f h = =ℚ_refl (whole (pos 0))
sum-zero (suc n) f h = +ℚ-same (sum-zero n f (λ k p. h k (omega (arith, p)))) (h n (omega arith)) ∙ℚ +ℚ-zero (whole (pos 0))

at_end : (i n : ℕ) → i < suc n → (i ≡ n) ⊎ (i < n)
at_end i n h = grind (arith, h)

-- all but one are 0
pub sum-single : (n i : ℕ) (f : ℕ → Fraction) → i < n → ((k : ℕ) → k < n → k ≢ i → f k =ℚ whole (pos 0)) → sum_of n f =ℚ f i
sum-single zero i f h only = absurd (omega (arith, h))
sum-single (suc n) i f h only = by_place (at_end i n h) (λ p. sum-single n i f p (λ k l. only k (omega (arith, l))))
  where
    by_place : (i ≡ n) ⊎ (i < n) → (i < n → sum_of n f =ℚ f i) → (sum_of n f +ℚ f n) =ℚ f i
    by_place (inl e) before =
        subst (λ (m : ℕ). (sum_of n f +ℚ f n) =ℚ f m) (sym e)
        (plus_left (f n) (sum-zero n f (λ k p. only k (omega (arith, p)) (λ q. omega (arith, p, q, e)))) ∙ℚ zero_left (f n))
    by_place (inr p) before =
        plus_right (sum_of n f) (only n (omega arith) (λ q. omega (arith, p, q))) ∙ℚ +ℚ-zero (sum_of n f) ∙ℚ before p
