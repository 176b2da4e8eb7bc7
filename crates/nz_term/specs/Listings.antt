-- Term lists that are being made.
use Rattle.std.specs.Prelude.{◌≡◌, ℕ, ◌<◌, ◌↔◌, List, [], ◌∷◌, ◌++◌, map, length, true, false, slice_index_or, All, Contains, Option, Some, None}
use Rattle.nz_spec.specs.terms.Term.{Head, integer_quotient, modulus, to_int, is_int, Term}
use Rattle.nz_spec.specs.terms.Table.{Node, term_in}
use Rattle.nz_spec.specs.terms.Order.{companions_of, AreFirst}
use Rattle.nz_term.specs.declared.listings.Listing.{Listing}

-- the head of the companion of a term
abbrev pub companion_head : Head → Option Head
companion_head modulus = Some integer_quotient
companion_head is_int = Some to_int
companion_head h = None

-- a term as a term list takes it, behind its companions
abbrev pub with_companions : Term → List Term
with_companions t = companions_of t ++ t ∷ []

-- The term of this number is the companion of a term; with no number, it has none.
abbrev pub AreCompanions : List Node → Term → Option ℕ → Type 0
AreCompanions ns t None = companions_of t ≡ []
AreCompanions ns t (Some i) = (i < length ns) × (companions_of t ≡ term_in ns i ∷ [])

-- The listing has each of these terms once, where it stands first, by its number in the table.
pub record IsListing (ns : List Node) (all : List Term) (s : Listing) : Type 0 where
  pub first : AreFirst [] all (map (term_in ns) s.ids.items)
  pub told : (i : ℕ) → i < length ns → (slice_index_or s.is_listed.items i false ≡ true) ↔ Contains s.ids.items i
  pub room : length s.is_listed.items ≡ length ns
  pub within : All (λ i. i < length ns) s.ids.items
