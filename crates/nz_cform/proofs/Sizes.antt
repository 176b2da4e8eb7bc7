-- Sizes of terms, by which the covering of terms comes to an end.
use Rattle.std.proofs.Common.{◌≡◌, ℕ, suc, ◌+◌, ◌<◌, List, [], ◌∷◌, ◌++◌, map, refl, ap, ◌∙◌, arith}
use Rattle.nz_spec.specs.terms.Term.{Head, modulus, is_int, Term, apply, Terms, no_terms, terms}
use Rattle.nz_spec.specs.terms.Table.{terms_at}
use Rattle.nz_spec.specs.terms.Order.{companions, companions_of}

-- the size of a companion over arguments of this size, where a head has one
abbrev pub size_beside : Head → ℕ → ℕ
size_beside modulus n = suc n
size_beside is_int n = suc n
size_beside h n = 0

-- how many terms one is made of, where companions count each time
abbrev mutual
  pub size : Term → ℕ
  size (apply h ts) = suc (sizes ts + size_beside h (sizes ts))

  pub sizes : Terms → ℕ
  sizes no_terms = 0
  sizes (terms t ts) = size t + sizes ts

-- and those of these numbers
abbrev pub total : (ℕ → Term) → List ℕ → ℕ
total term [] = 0
total term (i ∷ is) = size (term i) + total term is

-- and those of these terms
abbrev listed_size : List Term → ℕ
listed_size [] = 0
listed_size (t ∷ ts) = size t + listed_size ts

companions_size : (h : Head) (ts : Terms) → listed_size (companions h ts) ≡ size_beside h (sizes ts)
companions_size modulus ts = omega arith
companions_size is_int ts = omega arith
companions_size h ts = refl

module _ (term : ℕ → Term) where
  total_listed : (is : List ℕ) → total term is ≡ listed_size (map term is)
  total_listed [] = refl
  total_listed (i ∷ is) = ap (λ n. size (term i) + n) (total_listed is)

  -- the sizes of arguments are those of their numbers
  pub sizes_at : (is : List ℕ) → sizes (terms_at term is) ≡ total term is
  sizes_at [] = refl
  sizes_at (i ∷ is) = ap (λ n. size (term i) + n) (sizes_at is)

  -- of two lists
  pub total-append : (is js : List ℕ) → total term (is ++ js) ≡ total term is + total term js
  total-append [] js = omega arith
  total-append (i ∷ is) js = let more = total-append is js in omega arith

  -- a term is made of one at least
  some_size : (t : Term) → 0 < size t
  some_size (apply h ts) = omega arith

  -- one that waited is gone
  pub less_gone : (is : List ℕ) (i : ℕ) → total term is < total term (is ++ i ∷ [])
  less_gone is i =
      let whole = total-append is (i ∷ []) in
      let some = some_size (term i) in
      omega arith

  -- its arguments and its companions wait in its place
  pub less_opened : (is kids beside : List ℕ) (i : ℕ) (h : Head) → term i ≡ apply h (terms_at term kids) → map term beside ≡ companions_of (term i)
      → total term (is ++ kids ++ beside) < total term (is ++ i ∷ [])
  less_opened is kids beside i h e companions_are =
      let whole = total-append is (i ∷ []) in
      let both = total-append (is ++ kids) beside in
      let parts = total-append is kids in
      let of : size (term i) ≡ suc (total term kids + size_beside h (total term kids)) =
      ap size e ∙ ap (λ n. suc (n + size_beside h n)) (sizes_at kids) in
      let more : total term beside ≡ size_beside h (total term kids) =
      total_listed beside ∙ ap listed_size companions_are ∙ ap (λ t. listed_size (companions_of t)) e ∙ companions_size h (terms_at term kids)
      ∙ ap (size_beside h) (sizes_at kids) in
      omega arith
