-- Lists of numbers in which none stands twice, and the Boolean ones of some terms.
use Rattle.std.proofs.Common.{◌≡◌, ◌⊎◌, inl, inr, ℕ, zero, suc, Bool, true, false, true≢false, List, [], ◌∷◌, ◌++◌, Some, refl, sym, ap, ◌∙◌, arith}
use Rattle.std.specs.Prelude.{Contains, if◌then◌else◌, ⊤}
use Rattle.nz_lists.proofs.Members.{has_cases, has_first, has_more, has_none, has_found}
use Rattle.nz_spec.specs.clauses.Gates.{is_boolean_term}
use Rattle.nz_spec.specs.clauses.Literal.{StandOnce}
use Rattle.nz_spec.specs.terms.Table.{Node, term_in}
use Rattle.nz_engine.specs.Preparing.{boolean_terms}
use Rattle.nz_engine.proofs.AssertionPlaces.{place_of}

-- no number is among those behind it
abbrev pub IsOnce : List ℕ → Type 0
IsOnce [] = ⊤
IsOnce (x ∷ xs) = (Contains xs x → ⊥) × IsOnce xs

pub once_from_stand : (xs : List ℕ) → StandOnce xs → IsOnce xs
once_from_stand [] h = tt
once_from_stand (x ∷ xs) h = (
  (λ c. let k = place_of xs x c in let same : 0 ≡ suc k.0 = h 0 (suc k.0) x refl k.1 in omega (arith, same)),
  once_from_stand xs (λ i j y a b. let same : suc i ≡ suc j = h (suc i) (suc j) y a b in omega (arith, same)),
)

pub stand_from_once : (xs : List ℕ) → IsOnce xs → StandOnce xs
stand_from_once [] h i j y a b = cc
stand_from_once (x ∷ xs) h zero zero y a b = refl
stand_from_once (x ∷ xs) h zero (suc j) y a b =
    let same : x ≡ y = cc in
    absurd (h.0 (has_found xs j x (b ∙ ap Some (sym same))))
stand_from_once (x ∷ xs) h (suc i) zero y a b =
    let same : x ≡ y = cc in
    absurd (h.0 (has_found xs i x (a ∙ ap Some (sym same))))
stand_from_once (x ∷ xs) h (suc i) (suc j) y a b = ap suc (stand_from_once xs h.1 i j y a b)

in_either : (xs ys : List ℕ) (y : ℕ) → Contains (xs ++ ys) y → Contains xs y ⊎ Contains ys y
in_either [] ys y c = inr c
in_either (x ∷ xs) ys y c =
    elim (has_cases x y (xs ++ ys) c) [
      | inl same ↦ inl (subst_first same)
      | inr more ↦ elim (in_either xs ys y more) [ inl a ↦ inl (has_more x y xs a) | inr b ↦ inr b ]
    ]
  where
    subst_first : x ≡ y → Contains (x ∷ xs) y
    subst_first e = (0, omega arith, e)

pub once_append : (xs ys : List ℕ) → IsOnce xs → IsOnce ys → ((x : ℕ) → Contains xs x → Contains ys x → ⊥) → IsOnce (xs ++ ys)
once_append [] ys h k apart = k
once_append (x ∷ xs) ys h k apart = (
  (λ c. elim (in_either xs ys x c) [ inl a ↦ h.0 a | inr b ↦ apart x (has_first x xs) b ]),
  once_append xs ys h.1 k (λ y a b. apart y (has_more x y xs a) b),
)

-- ---- Boolean terms

module _ (ns : List Node) where
  abbrev behind : ℕ → Bool → List ℕ → List ℕ
  behind t b rest = (if b then t ∷ [] else []) ++ rest

  was_by : (t : ℕ) (ts : List ℕ) (u : ℕ) (b : Bool) → is_boolean_term (term_in ns t) ≡ b → (Contains (boolean_terms ns ts) u → Contains ts u × (is_boolean_term (term_in ns u) ≡ true))
      → Contains (behind t b (boolean_terms ns ts)) u → Contains (t ∷ ts) u × (is_boolean_term (term_in ns u) ≡ true)
  was_by t ts u false e f c = let of = f c in (has_more t u ts of.0, of.1)
  was_by t ts u true e f c =
      elim (has_cases t u (boolean_terms ns ts) c) [
        | inl same ↦ ((0, omega arith, same), ap (λ (n : ℕ). is_boolean_term (term_in ns n)) (sym same) ∙ e)
        | inr more ↦ let of = f more in (has_more t u ts of.0, of.1)
      ]

  -- each of them was there, and is Boolean
  pub boolean_was : (ts : List ℕ) (u : ℕ) → Contains (boolean_terms ns ts) u → Contains ts u × (is_boolean_term (term_in ns u) ≡ true)
  boolean_was [] u c = absurd (has_none u c)
  boolean_was (t ∷ ts) u c = was_by t ts u (is_boolean_term (term_in ns t)) refl (boolean_was ts u) c

  there_by : (t : ℕ) (ts : List ℕ) (u : ℕ) (b : Bool) → is_boolean_term (term_in ns t) ≡ b → (t ≡ u) ⊎ Contains (boolean_terms ns ts) u → is_boolean_term (term_in ns u) ≡ true
      → Contains (behind t b (boolean_terms ns ts)) u
  there_by t ts u true e (inl same) k = (0, omega arith, same)
  there_by t ts u true e (inr more) k = has_more t u (boolean_terms ns ts) more
  there_by t ts u false e (inl same) k = absurd (true≢false (sym k ∙ ap (λ (n : ℕ). is_boolean_term (term_in ns n)) (sym same) ∙ e))
  there_by t ts u false e (inr more) k = more

  -- and each Boolean one is there
  pub boolean_there : (ts : List ℕ) (u : ℕ) → Contains ts u → is_boolean_term (term_in ns u) ≡ true → Contains (boolean_terms ns ts) u
  boolean_there [] u c k = absurd (has_none u c)
  boolean_there (t ∷ ts) u c k =
      there_by t ts u (is_boolean_term (term_in ns t)) refl
      (elim (has_cases t u ts c) [ inl same ↦ inl same | inr more ↦ inr (boolean_there ts u more k) ]) k
