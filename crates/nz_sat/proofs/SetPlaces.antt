-- Lists of which one place is set, and fronts of them.
use Rattle.std.proofs.Common.{◌≡◌, ◌≢◌, ℕ, zero, suc, ◌<◌, List, [], ◌∷◌, ◌++◌, length, take, Some, refl, ap, arith}
use Rattle.std.specs.Prelude.{slice_get, slice_set}

pub set_there : {X : Type 0} (xs : List X) (i : ℕ) (y : X) → i < length xs → slice_get (slice_set xs i y) i ≡ Some y
set_there [] i y within = absurd (omega (arith, within))
set_there (x ∷ xs) zero y within = refl
set_there (x ∷ xs) (suc i) y within = set_there xs i y (omega (arith, within))

pub set_beside : {X : Type 0} (xs : List X) (i j : ℕ) (y : X) → i ≢ j → slice_get (slice_set xs i y) j ≡ slice_get xs j
set_beside [] i j y other = refl
set_beside (x ∷ xs) zero zero y other = absurd (other refl)
set_beside (x ∷ xs) zero (suc j) y other = refl
set_beside (x ∷ xs) (suc i) zero y other = refl
set_beside (x ∷ xs) (suc i) (suc j) y other = set_beside xs i j y (λ same. other (ap suc same))

pub take_read : {X : Type 0} (n : ℕ) (xs : List X) (j : ℕ) (x : X) → slice_get (take n xs) j ≡ Some x → (j < n) × (slice_get xs j ≡ Some x)
take_read zero xs j x at = cc
take_read (suc n) [] j x at = cc
take_read (suc n) (y ∷ ys) zero x at = (omega arith, at)
take_read (suc n) (y ∷ ys) (suc j) x at = let rest = take_read n ys j x at in (let below : j < n = rest.0 in omega (arith, below), rest.1)

pub read_take : {X : Type 0} (n : ℕ) (xs : List X) (j : ℕ) (x : X) → j < n → slice_get xs j ≡ Some x → slice_get (take n xs) j ≡ Some x
read_take zero xs j x below at = absurd (omega (arith, below))
read_take (suc n) [] j x below at = cc
read_take (suc n) (y ∷ ys) zero x below at = at
read_take (suc n) (y ∷ ys) (suc j) x below at = read_take n ys j x (omega (arith, below)) at

pub push_at : {X : Type 0} (xs : List X) (x : X) → slice_get (xs ++ x ∷ []) (length xs) ≡ Some x
push_at [] x = refl
push_at (y ∷ ys) x = push_at ys x
