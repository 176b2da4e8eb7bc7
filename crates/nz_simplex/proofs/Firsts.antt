-- The first of the numbers that passes a test is the least one that does.
use Rattle.std.proofs.Common.{◌≡◌, ℕ, zero, suc, ◌<◌, ◌⊎◌, inl, inr, Bool, true, false, List, [], ◌∷◌, ◌++◌, Option, Some, None, refl, sym, ap, ◌∙◌, subst, true≢false, arith}
use Rattle.std.specs.Prelude.{if◌then◌else◌}
use Rattle.nz_lists.proofs.Numbers.{same_or_below}
use Rattle.nz_spec.specs.simplex.BasisMoves.{numbers}
use Rattle.nz_simplex.specs.Stored.{first_passing}

-- ---- Lists

-- what passes in the front is the first one of the whole
first_kept : (t : ℕ → Bool) (ks ms : List ℕ) (j : ℕ) → first_passing t ks ≡ Some j → first_passing t (ks ++ ms) ≡ Some j
first_kept t [] ms j e = absurd (cc)
first_kept t (k ∷ ks) ms j e = by_test (t k) e (first_kept t ks ms j)
  where
    by_test : (b : Bool) → (if b then Some k else first_passing t ks) ≡ Some j → (first_passing t ks ≡ Some j → first_passing t (ks ++ ms) ≡ Some j)
        → (if b then Some k else first_passing t (ks ++ ms)) ≡ Some j
    by_test true h rest = h
    by_test false h rest = rest h

-- where none passes in the front, the rest decides
first_later : (t : ℕ → Bool) (ks ms : List ℕ) → first_passing t ks ≡ None → first_passing t (ks ++ ms) ≡ first_passing t ms
first_later t [] ms e = refl
first_later t (k ∷ ks) ms e = by_test (t k) e (first_later t ks ms)
  where
    by_test : (b : Bool) → (if b then Some k else first_passing t ks) ≡ None → (first_passing t ks ≡ None → first_passing t (ks ++ ms) ≡ first_passing t ms)
        → (if b then Some k else first_passing t (ks ++ ms)) ≡ first_passing t ms
    by_test true h rest = absurd (cc)
    by_test false h rest = rest h

-- ---- Numbers

-- j is the least number below n that is listed and passes
pub record IsLeast (n : ℕ) (listed test : ℕ → Bool) (j : ℕ) : Type 0 where
  pub below : j < n
  pub is_listed : listed j ≡ true
  pub passes : test j ≡ true
  pub least : (k : ℕ) → k < j → listed k ≡ true → test k ≡ false

-- what it says that this is the first one, or that there is none
abbrev IsFirstFound : ℕ → (ℕ → Bool) → (ℕ → Bool) → Option ℕ → Type 0
IsFirstFound n f t None = (k : ℕ) → k < n → f k ≡ true → t k ≡ false
IsFirstFound n f t (Some j) = IsLeast n f t j

module _ (n : ℕ) (f t : ℕ → Bool) where
  -- the last number is the first that passes, or doesn't pass either
  last_found : ((k : ℕ) → k < n → f k ≡ true → t k ≡ false) → f n ≡ true → IsFirstFound (suc n) f t (if t n then Some n else None)
  last_found none e = by_test (t n) refl
    where
      either : t n ≡ false → (k : ℕ) → (k ≡ n) ⊎ (k < n) → f k ≡ true → t k ≡ false
      either p k (inl same) g = ap t same ∙ p
      either p k (inr below) g = none k below g

      by_test : (b : Bool) → t n ≡ b → IsFirstFound (suc n) f t (if b then Some n else None)
      by_test true p = record { below = omega arith; is_listed = e; passes = p; least = none }
      by_test false p = λ k h g. either p k (same_or_below k n h) g

  found_more : (b : Bool) → f n ≡ b → (o : Option ℕ) → first_passing t (numbers n f) ≡ o → IsFirstFound n f t o
      → IsFirstFound (suc n) f t (first_passing t (if b then numbers n f ++ n ∷ [] else numbers n f))
  found_more true e None is none =
      subst (IsFirstFound (suc n) f t) (sym (first_later t (numbers n f) (n ∷ []) is)) (last_found none e)
  found_more true e (Some j) is found =
      subst (IsFirstFound (suc n) f t) (sym (first_kept t (numbers n f) (n ∷ []) j is))
      (record { below = omega (arith, found.below); is_listed = found.is_listed; passes = found.passes; least = found.least })
  found_more false e None is none = subst (IsFirstFound (suc n) f t) (sym is) (λ k h g. either k (same_or_below k n h) g)
    where
      either : (k : ℕ) → (k ≡ n) ⊎ (k < n) → f k ≡ true → t k ≡ false
      either k (inl same) g = absurd (true≢false (sym g ∙ ap f same ∙ e))
      either k (inr below) g = none k below g
  found_more false e (Some j) is found =
      subst (IsFirstFound (suc n) f t) (sym is)
      (record { below = omega (arith, found.below); is_listed = found.is_listed; passes = found.passes; least = found.least })

first_found : (n : ℕ) (f t : ℕ → Bool) → IsFirstFound n f t (first_passing t (numbers n f))
first_found zero f t = λ k h g. absurd (omega (arith, h))
first_found (suc n) f t = found_more n f t (f n) refl (first_passing t (numbers n f)) refl (first_found n f t)

pub first_least : (n : ℕ) (f t : ℕ → Bool) (j : ℕ) → first_passing t (numbers n f) ≡ Some j → IsLeast n f t j
first_least n f t j e = subst (IsFirstFound n f t) e (first_found n f t)

pub first_none : (n : ℕ) (f t : ℕ → Bool) → first_passing t (numbers n f) ≡ None → (k : ℕ) → k < n → f k ≡ true → t k ≡ false
first_none n f t e = subst (IsFirstFound n f t) e (first_found n f t)
