-- The order in which shared terms are taken: what a term is made of comes before it.
use Rattle.std.specs.Prelude.{◌≡◌, ◌⊎◌, ℕ, ◌<◌, List, [], ◌∷◌, ◌++◌, length, take, Some, All, Contains, slice_get}
use Rattle.std.specs.List.{AllByRecursion}
use Rattle.nz_spec.specs.terms.Term.{Head, integer_quotient, modulus, to_int, is_int, Term, apply, Terms, no_terms, terms}
use Rattle.nz_spec.specs.terms.Table.{Node, term_in}

-- The subterms of a term in post-order: those of its arguments, from the left, and then itself.
abbrev mutual
  pub post_order : Term → List Term
  post_order (apply h ts) = post_orders ts ++ apply h ts ∷ []

  pub post_orders : Terms → List Term
  post_orders no_terms = []
  post_orders (terms t ts) = post_order t ++ post_orders ts

-- What a term list has besides what a term is made of: the quotient with the remainder that it leaves, and the rounded
-- number with the test whether rounding changes it.
abbrev pub companions : Head → Terms → List Term
companions modulus ts = apply integer_quotient ts ∷ []
companions is_int ts = apply to_int ts ∷ []
companions h ts = []

abbrev pub companions_of : Term → List Term
companions_of (apply h ts) = companions h ts

-- The same order, where the companions of a term come just before it.
abbrev mutual
  pub listing_order : Term → List Term
  listing_order (apply h ts) = listing_orders ts ++ companions h ts ++ apply h ts ∷ []

  pub listing_orders : Terms → List Term
  listing_orders no_terms = []
  listing_orders (terms t ts) = listing_order t ++ listing_orders ts

-- The list has each of these terms once, where it stands first, but none of those that were seen before.
abbrev pub AreFirst : (seen all list : List Term) → Type 0
AreFirst seen [] list = list ≡ []
AreFirst seen (t ∷ ts) list =
    (Contains seen t × AreFirst seen ts list)
    ⊎ ((Contains seen t → ⊥) × (rest : List Term) × (list ≡ t ∷ rest) × AreFirst (t ∷ seen) ts rest)

-- some number of the table is the term's
abbrev pub IsInTable : List Node → Term → Type 0
IsInTable ns t = (i : ℕ) × (i < length ns) × (term_in ns i ≡ t)

-- In this list of numbers each comes behind the arguments of its node.
abbrev pub ComeBehindArguments : List Node → List ℕ → Type 0
ComeBehindArguments ns ids = (k i : ℕ) (n : Node) → slice_get ids k ≡ Some i → slice_get ns i ≡ Some n → All (Contains (take k ids)) n.kids

-- The table has the companions of each of its terms.
abbrev pub HasCompanions : List Node → Type 0
HasCompanions ns = (i : ℕ) → i < length ns → AllByRecursion (IsInTable ns) (companions_of (term_in ns i))
