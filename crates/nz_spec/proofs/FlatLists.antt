-- What stands in lists of lists in one, and among those that pass a test.
use Rattle.std.proofs.Common.{◌≡◌, ◌⊎◌, ◌≤◌, Bool, true, false, List, [], ◌∷◌, Contains, cond, filter, flat_map, inl, inr, refl, sym, ap, ◌∙◌, subst, true≢false, arith}
use Rattle.std.specs.Prelude.{count_by, get_or}
use Rattle.std.specs.List.{list_all}
use Rattle.std.proofs.lemmas.List.Elements.{All-contains, Contains-append_cases, Contains-append_left, Contains-append_right, Contains-get_or}
use Rattle.std.proofs.lemmas.List.Sums.{AllPass-from_list_all, list_all-from_AllPass, sum_by-cons}
use Rattle.nz_lists.proofs.Members.{has_cases, has_first, has_more, has_none}

module _ {A B : Type 0} (f : A → List B) where
  pub flat_from : (xs : List A) (y : B) → Contains (flat_map f xs) y → (x : A) × Contains xs x × Contains (f x) y
  flat_from [] y has = absurd (has_none y has)
  flat_from (x ∷ xs) y has =
      elim (Contains-append_cases (f x) (flat_map f xs) y has) [
        | inl here ↦ (x, has_first x xs, here)
        | inr there ↦ let found = flat_from xs y there in (found.0, has_more x found.0 xs found.1, found.2)
      ]

  pub flat_has : (xs : List A) (x : A) (y : B) → Contains xs x → Contains (f x) y → Contains (flat_map f xs) y
  flat_has [] x y has own = absurd (has_none x has)
  flat_has (z ∷ xs) x y has own =
      elim (has_cases z x xs has) [
        | inl is ↦ Contains-append_left (f z) (flat_map f xs) y (subst (λ w. Contains (f w) y) (sym is) own)
        | inr later ↦ Contains-append_right (f z) (flat_map f xs) y (flat_has xs x y later own)
      ]

module _ {A : Type 0} (p : A → Bool) where
  -- what stands among those that pass, and that it passes
  pub filter_from : (xs : List A) (y : A) → Contains (filter p xs) y → Contains xs y × (p y ≡ true)
  filter_from [] y has = absurd (has_none y has)
  filter_from (x ∷ xs) y has = by_test (p x) refl (filter_from xs y) has
    where
      by_test : (b : Bool) → p x ≡ b → (Contains (filter p xs) y → Contains xs y × (p y ≡ true)) → Contains (cond b (x ∷ filter p xs) (filter p xs)) y → Contains (x ∷ xs) y × (p y ≡ true)
      by_test true e later h =
          elim (has_cases x y (filter p xs) h) [
            | inl is ↦ (subst (Contains (x ∷ xs)) is (has_first x xs), ap p (sym is) ∙ e)
            | inr more ↦ (has_more x y xs (later more).0, (later more).1)
          ]
      by_test false e later h = (has_more x y xs (later h).0, (later h).1)

  pub filter_has : (xs : List A) (y : A) → Contains xs y → p y ≡ true → Contains (filter p xs) y
  filter_has [] y has e = has
  filter_has (x ∷ xs) y has e = by_test (p x) refl (λ later. filter_has xs y later e) (has_cases x y xs has)
    where
      by_test : (b : Bool) → p x ≡ b → (Contains xs y → Contains (filter p xs) y) → (x ≡ y) ⊎ Contains xs y → Contains (cond b (x ∷ filter p xs) (filter p xs)) y
      by_test true t later (inl is) = subst (Contains (x ∷ filter p xs)) is (has_first x (filter p xs))
      by_test true t later (inr more) = has_more x y (filter p xs) (later more)
      by_test false t later (inl is) = absurd (true≢false (sym e ∙ ap p (sym is) ∙ t))
      by_test false t later (inr more) = later more

  -- all of fewer pass
  pub all_fewer : (xs ys : List A) → ((x : A) → Contains xs x → Contains ys x) → list_all p ys ≡ true → list_all p xs ≡ true
  all_fewer xs ys within e =
      list_all-from_AllPass p xs
      (λ k d inside.
      let x = get_or xs k d in
      All-contains (λ y. p y ≡ true) ys x (λ i z inner. AllPass-from_list_all p ys e i z inner) (within x (Contains-get_or xs k d inside)))

-- of two tests the one that says less passes more
pub count_more : {A : Type 0} (p r : A → Bool) → ((x : A) → p x ≡ true → r x ≡ true) → (xs : List A) → count_by p xs ≤ count_by r xs
count_more p r says [] = omega arith
count_more p r says (x ∷ xs) =
    omega (arith, count_more p r says xs, sum_by-cons (λ y. cond (p y) 1 0) x xs, sum_by-cons (λ y. cond (r y) 1 0) x xs, one (p x) (r x) (says x))
  where
    one : (a b : Bool) → (a ≡ true → b ≡ true) → cond a 1 0 ≤ cond b 1 0
    one true true h = omega arith
    one true false h = absurd (true≢false (sym (h refl)))
    one false true h = omega arith
    one false false h = omega arith
