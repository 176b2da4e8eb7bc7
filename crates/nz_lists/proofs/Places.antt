-- What stands at a place of a list, where the list grows, is mapped, or is gone along.
use Rattle.std.proofs.Common.{◌≡◌, ℕ, zero, suc, ◌+◌, ◌<◌, ◌⊎◌, inl, inr, List, [], ◌∷◌, ◌++◌, length, map, drop, get_or, slice_get, slice_index_or, Some, refl, sym, ap, ◌∙◌, arith}
use Rattle.std.proofs.lemmas.List.{drop_more}

-- ---- Lists that grow

-- an element keeps its place
pub slice_get_kept : {X : Type 0} (xs ys : List X) (i : ℕ) (x : X) → slice_get xs i ≡ Some x → slice_get (xs ++ ys) i ≡ Some x
slice_get_kept [] ys i x at = cc
slice_get_kept (z ∷ zs) ys zero x at = at
slice_get_kept (z ∷ zs) ys (suc i) x at = slice_get_kept zs ys i x at

-- a list that is the same has the same at each place
pub slice_get-same : {X : Type 0} (xs ys : List X) → ys ≡ xs → (i : ℕ) (x : X) → slice_get xs i ≡ Some x → slice_get ys i ≡ Some x
slice_get-same xs ys same i x at = ap (λ zs. slice_get zs i) same ∙ at

-- one more element stands last, or else it was there
pub slice_get-push_cases : {X : Type 0} (xs : List X) (y : X) (i : ℕ) (x : X) → slice_get (xs ++ y ∷ []) i ≡ Some x
    → (slice_get xs i ≡ Some x) ⊎ ((i ≡ length xs) × (y ≡ x))
slice_get-push_cases [] y zero x at =
    let same : y ≡ x = cc in
    inr (refl, same)
slice_get-push_cases [] y (suc i) x at = cc
slice_get-push_cases (z ∷ zs) y zero x at = inl at
slice_get-push_cases (z ∷ zs) y (suc i) x at = elim (slice_get-push_cases zs y i x at) [ inl l ↦ inl l | inr r ↦ inr (omega (arith, r.0), r.1) ]

-- ---- Lists that are mapped

-- also past the end, at defaults that correspond
pub slice_index_or-map : {X Y : Type 0} (f : X → Y) (xs : List X) (i : ℕ) (d : X) → slice_index_or (map f xs) i (f d) ≡ f (slice_index_or xs i d)
slice_index_or-map f [] i d = refl
slice_index_or-map f (x ∷ xs) zero d = refl
slice_index_or-map f (x ∷ xs) (suc i) d = slice_index_or-map f xs i d

-- ---- Lists that are gone along

-- what is left begins with the item that is read
pub drop_read : {X : Type 0} (xs : List X) (i : ℕ) (x : X) → i < length xs → x ≡ get_or xs i x → drop i xs ≡ x ∷ drop (i + 1) xs
drop_read xs i x inside is = drop_more xs i x inside ∙ ap (λ y. y ∷ drop (i + 1) xs) (sym is)

-- or that is found there
pub drop_found : {X : Type 0} (xs : List X) (i : ℕ) (x : X) → slice_get xs i ≡ Some x → drop i xs ≡ x ∷ drop (suc i) xs
drop_found [] i x at = cc
drop_found (y ∷ ys) zero x at =
    let same : y ≡ x = cc in
    ap (λ z. z ∷ ys) same
drop_found (y ∷ ys) (suc i) x at = drop_found ys i x at
