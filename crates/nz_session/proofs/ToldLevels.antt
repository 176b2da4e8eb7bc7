-- Levels in which terms are asserted, and to which nothing else was added.
use Rattle.std.proofs.Common.{◌≡◌, ℕ, zero, suc, true, List, [], ◌∷◌, ◌++◌, map, Some, append-nil, refl, sym, ap, ◌∙◌, subst}
use Rattle.std.specs.Prelude.{All, Contains, if◌then◌else◌, slice_get}
use Rattle.std.proofs.lemmas.List.Elements.{All-contains, All-contains_itself, Contains-append_left, Contains-append_right}
use Rattle.nz_spec.specs.clauses.Gates.{is_boolean_term}
use Rattle.nz_spec.specs.search.Decide.{asserted_numbers}
use Rattle.nz_spec.specs.terms.Table.{Node, term_in}
use Rattle.nz_search.specs.Levels.{Level, added_by_level, asserted_by_level, numbers_by_level, with_added, with_term}
use Rattle.nz_session.specs.Told.{only_asserted}

-- what is asserted of them is what it was
pub asserted_only : (ls : List (List ℕ)) → asserted_by_level (map only_asserted ls) ≡ ls
asserted_only [] = refl
asserted_only (l ∷ ls) = ap (λ ks. l ∷ ks) (asserted_only ls)

-- so is all that was added
pub added_only : (ls : List (List ℕ)) → added_by_level (map only_asserted ls) ≡ ls
added_only [] = refl
added_only (l ∷ ls) = ap (λ k. k ∷ added_by_level (map only_asserted ls)) (append-nil l) ∙ ap (λ ks. l ∷ ks) (added_only ls)

pub no_numbers : (ls : List (List ℕ)) → asserted_numbers (numbers_by_level (map only_asserted ls)) ≡ []
no_numbers [] = refl
no_numbers (l ∷ ls) = no_numbers ls

-- ---- One assertion more

module _ (ns : List Node) (i : ℕ) (boolean : is_boolean_term (term_in ns i) ≡ true) where
  with_only : (l : List ℕ) → with_term ns i (only_asserted l) ≡ only_asserted (l ++ i ∷ [])
  with_only l = ap (λ b. let k : Level = only_asserted l in if b then record k { asserted = l ++ i ∷ [] } else record k { numbers = i ∷ [] }) boolean

  -- in the last of some levels
  added_last : (ls : List (List ℕ)) (l : List ℕ) → with_added ns (map only_asserted (ls ++ l ∷ [])) i ≡ map only_asserted (ls ++ (l ++ i ∷ []) ∷ [])
  added_last [] l = ap (λ (k : Level). k ∷ []) (with_only l)
  added_last (k ∷ []) l = ap (λ (m : Level). only_asserted k ∷ m ∷ []) (with_only l)
  added_last (k ∷ m ∷ ls) l = ap (λ ms. only_asserted k ∷ ms) (added_last (m ∷ ls) l)

  -- so where the levels are those
  pub added_to_last : (ls : List (List ℕ)) (l : List ℕ) (levels after : List Level) → levels ≡ map only_asserted (ls ++ l ∷ []) → after ≡ with_added ns levels i
      → after ≡ map only_asserted (ls ++ (l ++ i ∷ []) ∷ [])
  added_to_last ls l levels after e f = f ∙ ap (λ ks. with_added ns ks i) e ∙ added_last ls l

-- ---- What holds of all that is asserted holds of each level

level_has : (levels : List (List ℕ)) (place : ℕ) (level : List ℕ) → slice_get levels place ≡ Some level → (i : ℕ) → Contains level i → Contains (asserted_numbers levels) i
level_has [] place level at i has = cc
level_has (l ∷ ls) zero level at i has =
    let same : l ≡ level = cc in
    Contains-append_left l (asserted_numbers ls) i (subst (λ k. Contains k i) (sym same) has)
level_has (l ∷ ls) (suc place) level at i has = Contains-append_right l (asserted_numbers ls) i (level_has ls place level at i has)

pub all_in_level : (P : ℕ → Type 0) (levels : List (List ℕ)) (place : ℕ) (level : List ℕ) → slice_get levels place ≡ Some level → All P (asserted_numbers levels) → All P level
all_in_level P levels place level at all =
    λ k d below. let has = All-contains_itself level k d below in All-contains P (asserted_numbers levels) _ all (level_has levels place level at _ has)
