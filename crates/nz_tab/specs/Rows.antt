-- Rows as lists of coefficients. Each form has a slot: a nonbasic one a column, a basic one a row.
use Rattle.std.specs.Prelude.{◌≡◌, ℕ, ◌*◌, ◌<◌, ◌≤◌, Bool, true, false, not, All, List, [], map, length, take, drop, slice_index_or, pos, if◌then◌else◌}
use Rattle.nz_fractions.specs.Fraction.{Fraction, whole}
use Rattle.nz_spec.specs.simplex.Basis.{Coefficients}
use Rattle.nz_spec.specs.simplex.BasisMoves.{Rows, numbers}

-- ---- Numbers of forms

-- whether a number is marked
abbrev pub is_marked : List Bool → ℕ → Bool
is_marked marks k = slice_index_or marks k false

-- the basic forms
abbrev pub basic : (ℕ → Bool) → ℕ → Bool
basic nonbasic k = not (nonbasic k)

-- how many coefficients there are
abbrev pub size_of : ℕ → (ℕ → Bool) → ℕ
size_of n nonbasic = length (numbers n (basic nonbasic)) * length (numbers n nonbasic)

-- ---- Slots

-- the slot of a form
abbrev pub place_in : List ℕ → ℕ → ℕ
place_in places k = slice_index_or places k 0

-- the slot of a form of a list
abbrev pub slot_at : List ℕ → List ℕ → ℕ → ℕ
slot_at places ks p = place_in places (slice_index_or ks p 0)

-- Each form below n that passes a test has a slot of its own, below a bound.
pub record HaveSlots (places : List ℕ) (n : ℕ) (test : ℕ → Bool) (bound : ℕ) : Type 0 where
  pub within : (k : ℕ) → k < n → test k ≡ true → place_in places k < bound
  pub apart : (k m : ℕ) → k < n → m < n → test k ≡ true → test m ≡ true → place_in places k ≡ place_in places m → k ≡ m

-- Each form of a list has a slot of its own, below a bound.
pub record AreSlotted (places ks : List ℕ) (bound : ℕ) : Type 0 where
  pub listed : (p : ℕ) → p < length ks → slice_index_or ks p 0 < length places
  pub within : (p : ℕ) → p < length ks → slot_at places ks p < bound
  pub apart : (p q : ℕ) → p < length ks → q < length ks → slot_at places ks p ≡ slot_at places ks q → p ≡ q

-- ---- Rows

-- a row: the nonbasic forms are marked, and each has its coefficient in its column
pub record DenseRow : Type 0 where
  pub marks : List Bool
  pub places : List ℕ
  pub coefficients : List Fraction

-- the coefficient at a form; 0 where it is basic
abbrev pub coefficient : DenseRow → Coefficients
coefficient row k = if is_marked row.marks k then slice_index_or row.coefficients (place_in row.places k) (whole (pos 0)) else whole (pos 0)

-- the coefficients in the columns of these forms
abbrev pub coefficients_at : List ℕ → List ℕ → List Fraction → List Fraction
coefficients_at places ks row = map (λ k. slice_index_or row (place_in places k) (whole (pos 0))) ks

-- the row of a place, in a block of rows of this width
abbrev pub row_in : List Fraction → ℕ → ℕ → List Fraction
row_in block width place = take width (drop (place * width) block)

-- ---- All rows

-- forms by their numbers: which of them are nonbasic, the slot of each, and the rows by their slots
pub record Grid : Type 0 where
  pub marks : List Bool
  pub places : List ℕ
  pub rows : List (List Fraction)

abbrev pub empty_grid : Grid
empty_grid = record { marks = []; places = []; rows = [] }

abbrev pub is_nonbasic : Grid → ℕ → Bool
is_nonbasic g = is_marked g.marks

-- the forms that have columns
abbrev pub columns_of : Grid → List ℕ
columns_of g = numbers (length g.marks) (is_nonbasic g)

-- the row of a form; a nonbasic one has none
abbrev pub row_of : Grid → ℕ → DenseRow
row_of g r = record {
  marks = g.marks;
  places = g.places;
  coefficients = if is_marked g.marks r then [] else slice_index_or g.rows (place_in g.places r) [];
}

-- the coefficient of a form at another
abbrev pub rows_of : Grid → Rows
rows_of g r = coefficient (row_of g r)

-- ---- What is stored

-- Each nonbasic form has a column, each basic one a row, and each row a coefficient for each column.
pub record IsGrid (marks : List Bool) (places : List ℕ) (width : ℕ) (rows : List (List Fraction)) : Type 0 where
  pub placed : length places ≡ length marks
  pub wide : width ≡ length (numbers (length marks) (is_marked marks))
  pub columns : HaveSlots places (length marks) (is_marked marks) width
  pub basics : HaveSlots places (length marks) (basic (is_marked marks)) (length rows)
  pub full : All (λ row. length row ≡ width) rows

-- room for the columns of an exchange, the forms whose rows it writes, the row that is solved and the coefficients that are written
pub record HasRoom (g : Grid) (columns written solved spare : ℕ) : Type 0 where
  pub for_columns : length g.marks ≤ columns
  pub for_written : length g.marks ≤ written
  pub for_solved : length g.marks ≤ solved
  pub for_block : size_of (length g.marks) (is_marked g.marks) ≤ spare
