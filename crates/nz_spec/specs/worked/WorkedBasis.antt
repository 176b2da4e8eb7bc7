-- A worked basis: two units, forms that join them, and an exchange, computed from the definitions.
use Rattle.std.specs.Prelude.{◌≡◌, ℕ, nat_lt, Bool, List, [], ◌∷◌, map, slice_index_or, pos, negsuc, if◌then◌else◌}
use Rattle.nz_fractions.specs.Fraction.{Fraction, whole, over, Arithmetic, Sum, Product, Quotient, Operation}
use Rattle.nz_spec.specs.terms.Term.{Term}
use Rattle.nz_spec.specs.clauses.Literal.{are_same_term}
use Rattle.nz_spec.specs.terms.Form.{Part}
use Rattle.nz_spec.specs.worked.TermSamples.{x_term, y_term}
use Rattle.nz_spec.specs.simplex.Basis.{Coefficients}
use Rattle.nz_spec.specs.simplex.BasisMoves.{Rows, joining_row, exchange}

abbrev pub part_of : ℕ → Term → Part
part_of n t = record { coefficient = whole (pos n); unit = t }

abbrev pub operation : Arithmetic → Fraction → Fraction → Operation
operation op p q = record { operator = op; left = p; right = q }

-- x has number 0, and y number 1
abbrev pub unit_number : Term → ℕ
unit_number t = if are_same_term t x_term then 0 else 1

abbrev pub are_units : ℕ → Bool
are_units k = nat_lt k 2

-- 2x + 3y has number 2, and x + y number 3
abbrev pub larger_form : List Part
larger_form = part_of 2 x_term ∷ part_of 3 y_term ∷ []

abbrev pub listed_row : List Fraction → Coefficients
listed_row qs k = slice_index_or qs k (whole (pos 0))

abbrev pub form_rows : Rows
form_rows r = if nat_lt r 3 then listed_row (whole (pos 2) ∷ whole (pos 3) ∷ []) else listed_row (whole (pos 1) ∷ whole (pos 1) ∷ [])

-- the coefficients at the numbers 0 to 3
abbrev pub first_four : Coefficients → List Fraction
first_four c = map c (0 ∷ 1 ∷ 2 ∷ 3 ∷ [])

abbrev pub half : Fraction
half = over (pos 1) 2

abbrev pub minus_half : Fraction
minus_half = over (negsuc 0) 2

abbrev pub minus_three_halves : Fraction
minus_three_halves = over (negsuc 2) 2

-- 2x + 3y joins with the coefficients 2 and 3.
pub record HasJoiningRow : Type 0 where
  pub row : first_four (joining_row 2 are_units form_rows unit_number larger_form).result ≡ whole (pos 2) ∷ whole (pos 3) ∷ whole (pos 0) ∷ whole (pos 0) ∷ []
  pub operations : (joining_row 2 are_units form_rows unit_number larger_form).operations
      ≡ operation Sum (whole (pos 0)) (whole (pos 2)) ∷ operation Sum (whole (pos 0)) (whole (pos 3)) ∷ []

-- It is exchanged with x: then x is f/2 - (3/2)y, and x + y is f/2 - y/2.
pub record HasExchange : Type 0 where
  pub solved : first_four ((exchange 4 are_units form_rows 2 0).result 0) ≡ whole (pos 0) ∷ minus_three_halves ∷ half ∷ whole (pos 0) ∷ []
  pub replaced : first_four ((exchange 4 are_units form_rows 2 0).result 3) ≡ whole (pos 0) ∷ minus_half ∷ half ∷ whole (pos 0) ∷ []
  pub operations : (exchange 4 are_units form_rows 2 0).operations
      ≡ operation Quotient (whole (pos 1)) (whole (pos 2)) ∷ operation Quotient (whole (pos 3)) (whole (pos 2))
      ∷ operation Product (whole (pos 1)) minus_three_halves ∷ operation Sum (whole (pos 1)) minus_three_halves
      ∷ operation Product (whole (pos 1)) half ∷ operation Sum (whole (pos 0)) half ∷ []
