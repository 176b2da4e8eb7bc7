-- Which terms are covered, and which bounds their clauses have.
use Rattle.std.specs.Prelude.{ℕ, Option}
use Rattle.nz_cform.specs.Listings as listings
use Rattle.nz_cform.specs.Listings.{ListingState, empty_listing, listed_at, IsListedWithin}

-- The covered terms, and by the numbers of atoms in the log the bounds.
pub record FormState : Type 0 where
  pub terms : ListingState
  pub bounds : ListingState

abbrev pub empty_form : FormState
empty_form = record { terms = empty_listing; bounds = empty_listing }

-- the level at which a term is covered, where it is
abbrev pub covered_at : FormState → ℕ → Option ℕ
covered_at s t = listed_at s.terms t

-- it is covered at or below this level
abbrev pub IsCoveredWithin : FormState → ℕ → ℕ → Type 0
IsCoveredWithin s n t = IsListedWithin s.terms n t

-- ---- Changes

-- What was covered stays so, and so do the bounds; what is covered besides, or a bound besides, is so at this level.
pub record Grows (old : FormState) (level : ℕ) (new : FormState) : Type 0 where
  pub terms : listings.Grows old.terms level new.terms
  pub bounds : listings.Grows old.bounds level new.bounds

-- Just what is covered at or below the level stays, and just those bounds.
pub record Cuts (old : FormState) (level : ℕ) (new : FormState) : Type 0 where
  pub terms : listings.Cuts old.terms level new.terms
  pub bounds : listings.Cuts old.bounds level new.bounds
