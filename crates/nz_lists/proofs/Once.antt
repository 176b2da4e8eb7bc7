-- Lists that have each element once.
use Rattle.std.proofs.Common.{◌≡◌, ℕ, Bool, true, false, ◌||◌, ◌⊎◌, inl, inr, if◌then◌else◌, List, [], ◌∷◌, ◌++◌, slice_get, Some, refl, sym, ap, subst, ◌∙◌, true≢false}
use Rattle.std.specs.Prelude.{Contains, fold}
use Rattle.std.specs.List.{AllByRecursion, list_any}
use Rattle.std.proofs.lemmas.List.Elements.{Contains-append_left, Contains-push, Contains-push_cases}
use Rattle.std.proofs.lemmas.List.Folds.{list_any_at}
use Rattle.nz_lists.proofs.Elements.{AllByRecursion-put}
use Rattle.nz_lists.proofs.Members.{has_cases, has_first, has_found, has_more, has_none}
use Rattle.nz_lists.proofs.Places.{slice_get-push_cases}

module _ {X : Type 0} where
  -- each stands at one place
  abbrev pub StandOnce : List X → Type 0
  StandOnce xs = (i j : ℕ) (x : X) → slice_get xs i ≡ Some x → slice_get xs j ≡ Some x → i ≡ j

  -- one more that is new
  pub push_once : (ys : List X) (x : X) → (Contains ys x → ⊥) → StandOnce ys → StandOnce (ys ++ x ∷ [])
  push_once ys x new h i j z at to =
      elim (slice_get-push_cases ys x i z at) [
        | inl a ↦ elim (slice_get-push_cases ys x j z to) [
          | inl b ↦ h i j z a b
          | inr b ↦ absurd (new (subst (Contains ys) (sym b.1) (has_found ys i z a)))
        ]
        | inr a ↦ elim (slice_get-push_cases ys x j z to) [
          | inl b ↦ absurd (new (subst (Contains ys) (sym a.1) (has_found ys j z b)))
          | inr b ↦ a.0 ∙ sym b.0
        ]
      ]

  -- two that differ
  pub two_once : (x y : X) → (x ≡ y → ⊥) → StandOnce (x ∷ y ∷ [])
  two_once x y two =
      push_once (x ∷ []) y (λ has. elim (Contains-push_cases [] x y has) [ inl none ↦ has_none y none | inr is ↦ two is ]) (push_once [] x (has_none x) (λ i j z at to. cc))

  -- ---- Lists into which each is put that isn't there, by a test of which are the same

  module _ (same : X → X → Bool) where
    abbrev with_one : List X → X → List X
    with_one ys x = if list_any (same x) ys then ys else ys ++ x ∷ []

    abbrev once : List X → List X
    once xs = fold (λ ys x. with_one ys x) [] xs

    -- what holds of each holds of each that is put
    pub each_once : (P : X → Type 0) (xs : List X) → AllByRecursion P xs → AllByRecursion P (once xs)
    each_once P xs h = AllByRecursion-put P same xs [] tt h

    with_from : (b : Bool) (ys : List X) (x y : X) → Contains (if b then ys else ys ++ x ∷ []) y → Contains ys y ⊎ (x ≡ y)
    with_from true ys x y h = inl h
    with_from false ys x y h = Contains-push_cases ys x y h

    put_from : (xs ys : List X) (y : X) → Contains (fold (λ ys x. with_one ys x) ys xs) y → Contains ys y ⊎ Contains xs y
    put_from [] ys y h = inl h
    put_from (x ∷ xs) ys y h =
        elim (put_from xs (with_one ys x) y h) [
          | inl set ↦ elim (with_from (list_any (same x) ys) ys x y set) [
            | inl old ↦ inl old
            | inr is ↦ inr (subst (Contains (x ∷ xs)) is (has_first x xs))
          ]
          | inr more ↦ inr (has_more x y xs more)
        ]

    -- no other is put
    pub once_from : (xs : List X) (y : X) → Contains (once xs) y → Contains xs y
    once_from xs y h = elim (put_from xs [] y h) [ inl none ↦ absurd (has_none y none) | inr has ↦ has ]

    module _ (tells : (x y : X) → same x y ≡ true → x ≡ y) where
      or_tells : (b : Bool) (x y : X) (ys : List X) → same x y ≡ b → (list_any (same x) ys ≡ true → Contains ys x) → (b || list_any (same x) ys) ≡ true → Contains (y ∷ ys) x
      or_tells true x y ys e f h = subst (λ z. Contains (z ∷ ys) x) (tells x y e) (has_first x ys)
      or_tells false x y ys e f h = has_more y x ys (f h)

      any_tells : (x : X) (ys : List X) → list_any (same x) ys ≡ true → Contains ys x
      any_tells x [] h = absurd (true≢false (sym h))
      any_tells x (y ∷ ys) h = or_tells (same x y) x y ys refl (any_tells x ys) h

      with_has : (b : Bool) (ys : List X) (x y : X) → Contains ys y → Contains (if b then ys else ys ++ x ∷ []) y
      with_has true ys x y h = h
      with_has false ys x y h = Contains-append_left ys (x ∷ []) y h

      with_new : (b : Bool) (ys : List X) (x : X) → (b ≡ true → Contains ys x) → Contains (if b then ys else ys ++ x ∷ []) x
      with_new true ys x f = f refl
      with_new false ys x f = Contains-push ys x

      put_has : (xs ys : List X) (y : X) → Contains ys y → Contains (fold (λ ys x. with_one ys x) ys xs) y
      put_has [] ys y h = h
      put_has (x ∷ xs) ys y h = put_has xs (with_one ys x) y (with_has (list_any (same x) ys) ys x y h)

      put_new : (xs ys : List X) (y : X) → Contains xs y → Contains (fold (λ ys x. with_one ys x) ys xs) y
      put_new [] ys y h = absurd (has_none y h)
      put_new (x ∷ xs) ys y h =
          elim (has_cases x y xs h) [
            | inl is ↦ put_has xs (with_one ys x) y (subst (Contains (with_one ys x)) is (with_new (list_any (same x) ys) ys x (any_tells x ys)))
            | inr more ↦ put_new xs (with_one ys x) y more
          ]

      -- each is
      pub once_has : (xs : List X) (y : X) → Contains xs y → Contains (once xs) y
      once_has xs y h = put_new xs [] y h

    module _ (one : (x : X) → same x x ≡ true) where
      tells_any : (x : X) (ys : List X) → Contains ys x → list_any (same x) ys ≡ true
      tells_any x ys h = list_any_at (same x) ys h.0 x h.1 (ap (same x) h.2 ∙ one x)

      with_once : (b : Bool) (ys : List X) (x : X) → (b ≡ false → Contains ys x → ⊥) → StandOnce ys → StandOnce (if b then ys else ys ++ x ∷ [])
      with_once true ys x new h = h
      with_once false ys x new h = push_once ys x (new refl) h

      put_once : (xs ys : List X) → StandOnce ys → StandOnce (fold (λ ys x. with_one ys x) ys xs)
      put_once [] ys h = h
      put_once (x ∷ xs) ys h =
          put_once xs (with_one ys x)
          (with_once (list_any (same x) ys) ys x (λ none has. true≢false (sym (tells_any x ys has) ∙ none)) h)

      -- and stands at one place
      pub once_once : (xs : List X) → StandOnce (once xs)
      once_once xs = put_once xs [] (λ i j x at to. cc)
