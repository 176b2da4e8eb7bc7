-- An exchange, coefficient by coefficient and row by row.
use Rattle.std.specs.Prelude.{◌≡◌, ◌≢◌, ℕ, ◌<◌, ◌==◌, ◌&&◌, ◌++◌, Bool, true, false, not, All, List, [], ◌∷◌, length, set, slice_index_or, pos, if◌then◌else◌}
use Rattle.nz_fractions.specs.Fraction.{Fraction, whole, neg_ℚ, Quotient}
use Rattle.nz_spec.specs.numbers.Computation.{Computation, operated, at_once, turned_into, and_then}
use Rattle.nz_spec.specs.simplex.Basis.{Coefficients}
use Rattle.nz_spec.specs.simplex.BasisMoves.{Rows, exchange, exchanged, numbers}
use Rattle.nz_spec.specs.terms.Term.{is_zero}
use Rattle.nz_tab.specs.Each.{alone, each, with_multiple}
use Rattle.nz_tab.specs.Rows.{Grid, coefficients_at, is_nonbasic, place_in, row_in, rows_of, slot_at}

-- ---- The row of the form that enters

-- the coefficient at a form, where that at the form that leaves is known
abbrev pub solved_part : ℕ → Fraction → Fraction → Coefficients → ℕ → Computation Fraction
solved_part i divisor inverse a k = if k == i then at_once inverse else turned_into neg_ℚ (operated Quotient (a k) divisor)

-- the coefficients at these forms
abbrev pub solved_parts : List ℕ → ℕ → Fraction → Fraction → Coefficients → Computation (List Fraction)
solved_parts ks i divisor inverse a = each (λ k. alone (solved_part i divisor inverse a k)) ks

abbrev pub solved_row : List ℕ → ℕ → ℕ → Coefficients → Computation (List Fraction)
solved_row ks i j a = and_then (operated Quotient (whole (pos 1)) (a j)) (λ inverse. solved_parts ks i (a j) inverse a)

-- ---- The other rows

-- the sum of a row and a multiple of another, over these forms
abbrev pub sum_row : List ℕ → Fraction → Coefficients → Coefficients → Computation (List Fraction)
sum_row ks s d c = each (λ k. alone (with_multiple s d c k)) ks

-- a row changes that has a coefficient at the form that enters, other than that of the form that leaves
abbrev pub changes : (ℕ → Bool) → Rows → ℕ → ℕ → ℕ → Bool
changes nonbasic rows i j r = (not (nonbasic r) && not (r == i)) && not (is_zero (rows r j))

-- the forms whose rows are written: those whose rows change, and the one that enters
abbrev pub written_forms : Grid → ℕ → ℕ → List ℕ
written_forms g i j = numbers (length g.marks) (changes (is_nonbasic g) (rows_of g) i j) ++ j ∷ []

-- the rows of these forms with what the form that enters was solved to in place of it, over these columns
abbrev pub changed_rows : Rows → List ℕ → List ℕ → ℕ → Coefficients → Computation (List Fraction)
changed_rows rows rs ks j q = each (λ r. sum_row ks (rows r j) q (rows r)) rs

-- ---- What is written

-- i takes the slot of j, and j that of i
abbrev pub places_exchanged : List ℕ → ℕ → ℕ → List ℕ
places_exchanged places i j = set (set places i (place_in places j)) j (place_in places i)

-- In the rows of the first forms of a list the coefficients at these columns are those of a block; the other rows stay.
pub record IsRewritten (places ks rs : List ℕ) (block : List Fraction) (done : ℕ) (old new : List (List Fraction)) : Type 0 where
  pub count : length new ≡ length old
  pub written : (p : ℕ) → p < done → coefficients_at places ks (slice_index_or new (slot_at places rs p) []) ≡ row_in block (length ks) p
  pub others : (s : ℕ) → ((p : ℕ) → p < done → slot_at places rs p ≢ s) → slice_index_or new s [] ≡ slice_index_or old s []
  pub full : All (λ row. length row ≡ length ks) new

-- i and j have exchanged their slots, and the rows of some forms are written
pub record IsReplaced (old new : Grid) (i j : ℕ) (ks rs : List ℕ) (block : List Fraction) : Type 0 where
  pub marks : new.marks ≡ set (set old.marks i true) j false
  pub places : new.places ≡ places_exchanged old.places i j
  pub rows : IsRewritten new.places ks rs block (length rs) old.rows new.rows

-- ---- What an exchange leaves

-- As many forms with i and j exchanged. At the nonbasic ones each row has the coefficients that are computed, and at the others none.
pub record IsExchanged (old new : Grid) (i j : ℕ) : Type 0 where
  pub count : length new.marks ≡ length old.marks
  pub nonbasic : (k : ℕ) → is_nonbasic new k ≡ exchanged (is_nonbasic old) i j k
  pub rows : (r k : ℕ) → r < length old.marks → k < length old.marks → is_nonbasic new r ≡ false → is_nonbasic new k ≡ true
      → rows_of new r k ≡ (exchange (length old.marks) (is_nonbasic old) (rows_of old) i j).result r k
  pub zeros : (r k : ℕ) → is_nonbasic new k ≡ false → rows_of new r k ≡ whole (pos 0)
