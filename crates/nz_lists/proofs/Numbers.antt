-- Tests of two numbers, and how two numbers can stand to each other.
use Rattle.std.proofs.Common.{◌≡◌, ℕ, zero, suc, ◌<◌, ◌≤◌, true, false, ◌⊎◌, inl, inr, refl, ap, arith}
use Rattle.std.specs.Prelude.{◌==◌, ◌≢◌, nat_lt}
use Rattle.std.proofs.lemmas.Bool.Decides.{nat_tests}

-- ---- Tests

pub equal-number : (k i : ℕ) → k ≡ i → (k == i) ≡ true
equal-number k i e = grind (arith, e)

pub same-number : (k i : ℕ) → (k == i) ≡ true → k ≡ i
same-number k i e = grind (arith, e)

pub other-number : (k i : ℕ) → k ≢ i → (k == i) ≡ false
other-number k i h = grind (arith, h)

pub below : (k n : ℕ) → k < n → nat_lt k n ≡ true
below k n h = grind (arith, nat_tests, h)

pub not_below : (k n : ℕ) → n ≤ k → nat_lt k n ≡ false
not_below k n h = grind (arith, nat_tests, h)

-- ---- Cases

pub same_or_other : (i j : ℕ) → (i ≡ j) ⊎ (i ≢ j)
same_or_other zero zero = inl refl
same_or_other zero (suc j) = inr (λ e. omega arith)
same_or_other (suc i) zero = inr (λ e. omega arith)
same_or_other (suc i) (suc j) = elim (same_or_other i j) [ inl e ↦ inl (ap suc e) | inr other ↦ inr (λ e. other (omega arith)) ]

pub below_or_past : (k n : ℕ) → (k < n) ⊎ (n ≤ k)
below_or_past k n = grind arith

pub below_same_or_past : (k n : ℕ) → (k < n) ⊎ ((k ≡ n) ⊎ (n < k))
below_same_or_past k n = grind arith

pub same_or_below : (k n : ℕ) → k < suc n → (k ≡ n) ⊎ (k < n)
same_or_below k n h = grind (arith, h)
