-- What a list has.
use Rattle.std.proofs.Common.{◌≡◌, ℕ, zero, suc, ◌<◌, ◌⊎◌, inl, inr, List, [], ◌∷◌, length, map, slice_get, slice_index_or, Some, refl, subst, arith}
use Rattle.std.specs.Prelude.{Contains}
use Rattle.std.specs.List.{AllByRecursion}
use Rattle.std.proofs.lemmas.Option.{slice_get_within, get_or_from_slice_get}

module _ {X : Type 0} where
  has_at : (x y : X) (xs : List X) (k : ℕ) → k < length (x ∷ xs) → slice_index_or (x ∷ xs) k y ≡ y → (x ≡ y) ⊎ Contains xs y
  has_at x y xs zero less e = inl e
  has_at x y xs (suc k) less e = inr (k, omega arith, e)

  pub has_cases : (x y : X) (xs : List X) → Contains (x ∷ xs) y → (x ≡ y) ⊎ Contains xs y
  has_cases x y xs h = has_at x y xs h.0 h.1 h.2

  pub has_first : (x : X) (xs : List X) → Contains (x ∷ xs) x
  has_first x xs = (0, omega arith, refl)

  pub has_more : (x y : X) (xs : List X) → Contains xs y → Contains (x ∷ xs) y
  has_more x y xs h = (suc h.0, omega (arith, h.1), h.2)

  pub has_none : (y : X) → Contains [] y → ⊥
  has_none y h = omega (arith, h.1)

  pub has_found : (xs : List X) (i : ℕ) (x : X) → slice_get xs i ≡ Some x → Contains xs x
  has_found xs i x at = (i, slice_get_within xs i x at, get_or_from_slice_get xs i x x at)

  -- what holds by recursion holds of each
  pub each_of : (P : X → Type 0) (xs : List X) → AllByRecursion P xs → (x : X) → Contains xs x → P x
  each_of P [] h x has = absurd (has_none x has)
  each_of P (y ∷ ys) h x has = elim (has_cases y x ys has) [ inl same ↦ subst P same h.0 | inr more ↦ each_of P ys h.1 x more ]

  pub by_each : (P : X → Type 0) (xs : List X) → ((x : X) → Contains xs x → P x) → AllByRecursion P xs
  by_each P [] f = tt
  by_each P (x ∷ xs) f = (f x (has_first x xs), by_each P xs (λ y has. f y (has_more x y xs has)))

  pub at_of : (P : X → Type 0) (xs : List X) → AllByRecursion P xs → (i : ℕ) (x : X) → slice_get xs i ≡ Some x → P x
  at_of P xs h i x at = each_of P xs h x (has_found xs i x at)

-- what a map has
pub map_from : {X Y : Type 0} (f : X → Y) (xs : List X) (y : Y) → Contains (map f xs) y → (x : X) × Contains xs x × (f x ≡ y)
map_from f [] y h = absurd (has_none y h)
map_from f (x ∷ xs) y h =
    elim (has_cases (f x) y (map f xs) h) [
      | inl is ↦ (x, has_first x xs, is)
      | inr more ↦ let z = map_from f xs y more in (z.0, has_more x z.0 xs z.1, z.2)
    ]

pub map_has : {X Y : Type 0} (f : X → Y) (xs : List X) (x : X) → Contains xs x → Contains (map f xs) (f x)
map_has f [] x h = absurd (has_none x h)
map_has f (y ∷ ys) x h =
    elim (has_cases y x ys h) [
      | inl is ↦ subst (λ z. Contains (map f (y ∷ ys)) (f z)) is (has_first (f y) (map f ys))
      | inr more ↦ has_more (f y) (f x) (map f ys) (map_has f ys x more)
    ]
