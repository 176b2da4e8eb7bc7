-- The numbers below another one, in any order.
use Rattle.std.proofs.Common.{◌≡◌, ℕ, ◌+◌, inl, inr, List, [], ◌∷◌, ◌++◌, subst, arith}
use Rattle.std.specs.Prelude.{Contains}
use Rattle.std.specs.List.Sorted.{IsPermutation}
use Rattle.std.proofs.lemmas.List.Elements.{Contains-append_left, Contains-push, Contains-push_cases}
use Rattle.std.proofs.lemmas.List.Sorted.{Contains-permutation, IsPermutation-sym}
use Rattle.nz_engine.specs.Joining.{AreNumbersBelow}
use Rattle.nz_engine.proofs.AssertionPlaces.{lower_or_not}

-- the next number joins them
pub one_more : (n : ℕ) (ks : List ℕ) → AreNumbersBelow n ks → AreNumbersBelow (n + 1) (ks ++ n ∷ [])
one_more n ks h =
    record {
      each = λ k below. elim (lower_or_not k n) [
        | inl lower ↦ Contains-append_left ks (n ∷ []) k (h.each k lower)
        | inr above ↦ let same : n ≡ k = omega (arith, below, above) in subst (Contains (ks ++ n ∷ [])) same (Contains-push ks n)
      ];
      below = λ k there. elim (Contains-push_cases ks n k there) [
        | inl before ↦ let lower = h.below k before in omega (arith, lower)
        | inr same ↦ omega (arith, same)
      ];
    }

-- they may be moved
pub in_order : (n : ℕ) (ks ls : List ℕ) → IsPermutation ks ls → AreNumbersBelow n ks → AreNumbersBelow n ls
in_order n ks ls moved h =
    record {
      each = λ k below. Contains-permutation ks ls k moved (h.each k below);
      below = λ k there. h.below k (Contains-permutation ls ks k (IsPermutation-sym ks ls moved) there);
    }
