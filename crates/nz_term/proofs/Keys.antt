-- Keys of a set, seen by a function that tells apart just those that are not equal.
use Rattle.std.proofs.Common.{◌≡◌, ℕ, zero, suc, Bool, true, false, List, [], ◌∷◌, map, Some, refl, sym, ap, ◌∙◌, true≢false}
use Rattle.std.specs.Prelude.{slice_get}
use Rattle.std.specs.List.{IsDistinct, AllByRecursion}

module _ {K V : Type 0} (eq : K → K → Bool) (view : K → V) (IsSound : K → Type 0)
    (tells : (x y : K) → IsSound x → IsSound y → view x ≡ view y → eq x y ≡ true) where
  -- a key that none of the list is equal to is not in the list
  pub absent : (x : K) (ks : List K) → IsSound x → AllByRecursion IsSound ks → AllByRecursion (λ y. eq x y ≡ false) ks
      → (i : ℕ) → slice_get (map view ks) i ≡ Some (view x) → ⊥
  absent x [] s all h i at = cc
  absent x (y ∷ ys) s all h zero at =
      let same : view x ≡ view y = cc in
      true≢false (sym (tells x y s all.0 same) ∙ h.0)
  absent x (y ∷ ys) s all h (suc i) at = absent x ys s all.1 h.1 i at

  -- no view stands twice in a list of distinct keys
  pub once : (ks : List K) → AllByRecursion IsSound ks → IsDistinct eq ks
      → (i j : ℕ) (v : V) → slice_get (map view ks) i ≡ Some v → slice_get (map view ks) j ≡ Some v → i ≡ j
  unfolding IsDistinct
  once [] all h i j v at beside = cc
  once (x ∷ xs) all h zero zero v at beside = refl
  once (x ∷ xs) all h zero (suc j) v at beside = absurd (absent x xs all.0 all.1 h.0 j (beside ∙ sym at))
  once (x ∷ xs) all h (suc i) zero v at beside = absurd (absent x xs all.0 all.1 h.0 i (at ∙ sym beside))
  once (x ∷ xs) all h (suc i) (suc j) v at beside = ap suc (once xs all.1 h.1 i j v at beside)
