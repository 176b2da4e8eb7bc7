-- Values at points: what is computed, what moves with one value, and what a check step leaves.
use Rattle.std.proofs.Common.{◌≡◌, ℕ, zero, suc, ◌<◌, Bool, true, false, List, [], ◌∷◌, ◌++◌, pos, refl}
use Rattle.std.specs.Prelude.{if◌then◌else◌}
use Rattle.nz_ints.proofs.Ring.{Atom, Literal, ◌⊕◌, ◌⊗◌, Minus}
use Rattle.nz_fractions.specs.Fraction.{Fraction, whole, ◌=ℚ◌, ◌+ℚ◌, ◌-ℚ◌, neg_ℚ, ◌*ℚ◌, Sum, Product, outcome}
use Rattle.nz_spec.specs.numbers.Infinitesimal.{Infinitesimal, ◌+δ◌, ◌-δ◌, scaled}
use Rattle.nz_spec.specs.simplex.Basis.{sum_of, Coefficients, weighted}
use Rattle.nz_spec.specs.simplex.BasisMoves.{numbers}
use Rattle.nz_spec.specs.simplex.Bland.{is_nonbasic, zero_infinitesimal, value_in, value_onto, ValueIsComputed, SumMoves}
use Rattle.nz_fractions.proofs.Laws.{=ℚ_refl, =ℚ_sym}
use Rattle.nz_fractions.proofs.Arithmetic.{+ℚ-zero, outcome-sum, outcome-product}
use Rattle.nz_fractions.proofs.Identities.{zero_left, zero_times}
use Rattle.nz_fractions.proofs.Solver.{◌∙ℚ◌, solve, plus_left, plus_right, times_left, times_right}
use Rattle.nz_spec.proofs.BasisSums.{sum-same, sum-plus, sum-single}

-- ---- Computed values

-- the sum over a list of numbers
abbrev listed : List ℕ → (ℕ → Fraction) → Fraction
listed [] f = whole (pos 0)
listed (k ∷ ks) f = f k +ℚ listed ks f

listed-last : (ks : List ℕ) (n : ℕ) (f : ℕ → Fraction) → listed (ks ++ n ∷ []) f =ℚ (listed ks f +ℚ f n)
listed-last [] n f = solve (f n ∷ []) (Atom 0 ⊕ Literal (pos 0)) (Literal (pos 0) ⊕ Atom 0) refl
listed-last (k ∷ ks) n f =
    plus_right (f k) (listed-last ks n f)
    ∙ℚ solve (f k ∷ listed ks f ∷ f n ∷ []) (Atom 0 ⊕ (Atom 1 ⊕ Atom 2)) ((Atom 0 ⊕ Atom 1) ⊕ Atom 2) refl

listed-numbers : (n : ℕ) (test : ℕ → Bool) (f : ℕ → Fraction) → ((k : ℕ) → test k ≡ false → f k =ℚ whole (pos 0)) → listed (numbers n test) f =ℚ sum_of n f
listed-numbers zero test f h = =ℚ_refl (whole (pos 0))
listed-numbers (suc n) test f h = by_test (test n) refl (listed-numbers n test f h)
  where
    by_test : (b : Bool) → test n ≡ b → listed (numbers n test) f =ℚ sum_of n f → listed (if b then numbers n test ++ n ∷ [] else numbers n test) f =ℚ (sum_of n f +ℚ f n)
    by_test true e before = listed-last (numbers n test) n f ∙ℚ plus_left (f n) before
    by_test false e before = before ∙ℚ =ℚ_sym (plus_right (sum_of n f) (h n e) ∙ℚ +ℚ-zero (sum_of n f))

onto-part : (t x q : Fraction) → outcome Sum t (outcome Product x q) =ℚ (t +ℚ q *ℚ x)
onto-part t x q =
    outcome-sum t (outcome Product x q)
    ∙ℚ plus_right t (outcome-product x q)
    ∙ℚ solve (t ∷ x ∷ q ∷ []) (Atom 0 ⊕ Atom 1 ⊗ Atom 2) (Atom 0 ⊕ Atom 2 ⊗ Atom 1) refl

onto-standard : (c : Coefficients) (x : ℕ → Infinitesimal) (t : Infinitesimal) (ks : List ℕ) → (value_onto c x t ks).result.standard =ℚ (t.standard +ℚ listed ks (λ k. c k *ℚ (x k).standard))
onto-standard c x t [] = =ℚ_sym (+ℚ-zero t.standard)
onto-standard c x t (k ∷ ks) =
    let rest = listed ks (λ k. c k *ℚ (x k).standard) in
    onto-standard c x (record {
      standard = outcome Sum t.standard (outcome Product (x k).standard (c k));
      coefficient = outcome Sum t.coefficient (outcome Product (x k).coefficient (c k));
    }) ks
    ∙ℚ plus_left rest (onto-part t.standard (x k).standard (c k))
    ∙ℚ solve (t.standard ∷ (c k *ℚ (x k).standard) ∷ rest ∷ []) ((Atom 0 ⊕ Atom 1) ⊕ Atom 2) (Atom 0 ⊕ (Atom 1 ⊕ Atom 2)) refl

onto-coefficient : (c : Coefficients) (x : ℕ → Infinitesimal) (t : Infinitesimal) (ks : List ℕ) → (value_onto c x t ks).result.coefficient =ℚ (t.coefficient +ℚ listed ks (λ k. c k *ℚ (x k).coefficient))
onto-coefficient c x t [] = =ℚ_sym (+ℚ-zero t.coefficient)
onto-coefficient c x t (k ∷ ks) =
    let rest = listed ks (λ k. c k *ℚ (x k).coefficient) in
    onto-coefficient c x (record {
      standard = outcome Sum t.standard (outcome Product (x k).standard (c k));
      coefficient = outcome Sum t.coefficient (outcome Product (x k).coefficient (c k));
    }) ks
    ∙ℚ plus_left rest (onto-part t.coefficient (x k).coefficient (c k))
    ∙ℚ solve (t.coefficient ∷ (c k *ℚ (x k).coefficient) ∷ rest ∷ []) ((Atom 0 ⊕ Atom 1) ⊕ Atom 2) (Atom 0 ⊕ (Atom 1 ⊕ Atom 2)) refl

pub value_is_computed : ValueIsComputed
value_is_computed n c x z = record {
  standard =
      onto-standard c (value_in x) zero_infinitesimal (numbers n (is_nonbasic x))
      ∙ℚ zero_left (listed (numbers n (is_nonbasic x)) (λ k. c k *ℚ (value_in x k).standard))
      ∙ℚ listed-numbers n (is_nonbasic x) (λ k. c k *ℚ (value_in x k).standard) (λ k e. times_left (value_in x k).standard (z k e) ∙ℚ zero_times (value_in x k).standard);
  coefficient =
      onto-coefficient c (value_in x) zero_infinitesimal (numbers n (is_nonbasic x))
      ∙ℚ zero_left (listed (numbers n (is_nonbasic x)) (λ k. c k *ℚ (value_in x k).coefficient))
      ∙ℚ listed-numbers n (is_nonbasic x) (λ k. c k *ℚ (value_in x k).coefficient) (λ k e. times_left (value_in x k).coefficient (z k e) ∙ℚ zero_times (value_in x k).coefficient);
}

-- ---- One value moves

weighted-moves : (n : ℕ) (c x y : Coefficients) (j : ℕ) → j < n → ((k : ℕ) → (k ≡ j → ⊥) → y k =ℚ x k) → weighted n c y =ℚ (weighted n c x +ℚ (y j +ℚ neg_ℚ (x j)) *ℚ c j)
weighted-moves n c x y j p h =
    sum-same n (λ k. c k *ℚ y k) (λ k. c k *ℚ x k +ℚ c k *ℚ (y k +ℚ neg_ℚ (x k)))
    (λ k l. solve (c k ∷ y k ∷ x k ∷ []) (Atom 0 ⊗ Atom 1) (Atom 0 ⊗ Atom 2 ⊕ Atom 0 ⊗ (Atom 1 ⊕ Minus (Atom 2))) refl)
    ∙ℚ sum-plus n (λ k. c k *ℚ x k) (λ k. c k *ℚ (y k +ℚ neg_ℚ (x k)))
    ∙ℚ plus_right (weighted n c x)
    (sum-single n j (λ k. c k *ℚ (y k +ℚ neg_ℚ (x k))) p
    (λ k l e.
    times_right (c k) (plus_left (neg_ℚ (x k)) (h k e))
    ∙ℚ solve (c k ∷ x k ∷ []) (Atom 0 ⊗ (Atom 1 ⊕ Minus (Atom 1))) (Literal (pos 0)) refl)
    ∙ℚ solve (c j ∷ y j ∷ x j ∷ []) (Atom 0 ⊗ (Atom 1 ⊕ Minus (Atom 2))) ((Atom 1 ⊕ Minus (Atom 2)) ⊗ Atom 0) refl)

pub sum_moves : SumMoves
unfolding ◌+δ◌ ◌-δ◌ scaled ◌-ℚ◌
sum_moves n c x y j p h = record {
  standard = weighted-moves n c (λ k. (x k).standard) (λ k. (y k).standard) j p (λ k e. (h k e).standard);
  coefficient = weighted-moves n c (λ k. (x k).coefficient) (λ k. (y k).coefficient) j p (λ k e. (h k e).coefficient);
}
