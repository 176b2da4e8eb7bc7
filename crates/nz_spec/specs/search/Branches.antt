-- Branches of a search over integers: at each of them a sum lies between two neighbouring integers. How many there may be.
-- Sources: Land and Doig, An Automatic Method of Solving Discrete Programming Problems, 1960; Gomory, Outline of an algorithm for integer
-- solutions to linear programs, 1958 (cuts).
use Rattle.std.specs.Prelude.{◌≡◌, ℕ, zero, suc, ◌≤◌, ◌+◌, ◌*◌, Bool, false, ◌&&◌, List, [], ◌∷◌, map, flat_map, length, Contains, Option, Some, None, slice_get, ℤ, pos, negsuc, ◌+ℤ◌, neg_ℤ, if◌then◌else◌}
use Rattle.std.specs.List.{list_any}
use Rattle.nz_fractions.specs.Fraction.{whole, fraction_lt}
use Rattle.nz_spec.specs.terms.Term.{Term, int_sort, are_same_sort, sort_of}
use Rattle.nz_spec.specs.terms.Form.{Part, negated_part}
use Rattle.nz_spec.specs.terms.FormOf.{is_taken_whole}
use Rattle.nz_spec.specs.clauses.Literal.{are_same_term}
use Rattle.nz_spec.specs.simplex.LiteralBounds.{is_unit_form}

-- A sum whose first coefficient isn't below 0, above an integer and below the next one.
pub record Branch : Type 0 where
  pub parts : List Part
  pub above : ℤ

-- whether the first coefficient is below 0
abbrev pub is_turned : List Part → Bool
is_turned [] = false
is_turned (p ∷ ps) = fraction_lt p.coefficient (whole (pos 0))

-- what is branched on where a sum is at most k, or at least k + 1
abbrev pub branch_at : List Part → ℤ → Branch
branch_at ps k = if is_turned ps then record { parts = map negated_part ps; above = neg_ℤ k +ℤ negsuc 0 } else record { parts = ps; above = k }

-- ---- Branches on units

-- a unit of sort Int that is one of these terms
abbrev pub is_integer_of : List Term → Term → Bool
is_integer_of ts u = is_taken_whole u && (are_same_sort (sort_of u) int_sort && list_any (are_same_term u) ts)

-- Whether the sum is an integer unit of these terms alone.
abbrev pub is_plain : List Term → List Part → Bool
is_plain ts [] = false
is_plain ts (p ∷ ps) = is_unit_form (p ∷ ps) && is_integer_of ts p.unit

-- between an integer and the next one, on the values of a unit
pub record Gap : Type 0 where
  pub unit : Term
  pub above : ℤ

-- the gap of a plain branch
abbrev pub gap_of : List Term → Branch → Option Gap
gap_of ts b = gap_in ts b.parts b.above
  where
    gap_in : List Term → List Part → ℤ → Option Gap
    gap_in ts [] k = None
    gap_in ts (p ∷ ps) k = if is_plain ts (p ∷ ps) then Some (record { unit = p.unit; above = k }) else None

-- ---- How many

-- A unit is at least one integer, and at most another.
pub record Range : Type 0 where
  pub unit : Term
  pub low : ℤ
  pub high : ℤ

abbrev pub natural_part : ℤ → ℕ
natural_part (pos n) = n
natural_part (negsuc n) = 0

-- how many gaps lie in a range, and in all of these
abbrev pub width : Range → ℕ
width r = natural_part (r.high +ℤ neg_ℤ r.low)

abbrev pub total_width : List Range → ℕ
total_width [] = 0
total_width (r ∷ rs) = width r + total_width rs

-- so many gaps of a unit from an integer on, and those of these ranges
abbrev pub gaps_from : Term → ℤ → ℕ → List Gap
gaps_from u k zero = []
gaps_from u k (suc n) = record { unit = u; above = k +ℤ pos n } ∷ gaps_from u k n

abbrev pub gaps_of : List Range → List Gap
gaps_of rs = flat_map (λ (r : Range). gaps_from r.unit r.low (width r)) rs

-- Each gap is one of these and stands once, and of two neighbours one is a gap.
pub record AreApart (gaps : List Gap) (marks : List (Option Gap)) : Type 0 where
  pub within : (i : ℕ) (g : Gap) → slice_get marks i ≡ Some (Some g) → Contains gaps g
  pub once : (i j : ℕ) (g : Gap) → slice_get marks i ≡ Some (Some g) → slice_get marks j ≡ Some (Some g) → i ≡ j
  pub alternate : (i : ℕ) → slice_get marks i ≡ Some None → slice_get marks (suc i) ≡ Some None → ⊥

-- ---- Laws

-- There are at most twice as many as gaps, and one more; and as many gaps as the ranges are wide.
pub record BranchesAreFew : Type 0 where
  pub few : (gaps : List Gap) (marks : List (Option Gap)) → AreApart gaps marks → length marks ≤ 2 * length gaps + 1
  pub wide : (rs : List Range) → length (gaps_of rs) ≡ total_width rs
