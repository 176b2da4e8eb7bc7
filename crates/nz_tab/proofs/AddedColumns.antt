-- Units that join: more numbers that pass a test, and the same rows over more columns.
use Rattle.std.proofs.Common.{◌≡◌, ℕ, zero, suc, ◌+◌, ◌-◌, ◌<◌, ◌≤◌, Bool, true, false, ◌⊎◌, inl, inr, List, [], ◌∷◌, ◌++◌, get_or, length, map, replicate, take, pos, refl, sym, ap, ◌∙◌, true≢false, arith}
use Rattle.std.specs.Prelude.{if◌then◌else◌, not, slice_index_or}
use Rattle.std.proofs.Math.Path.{fun_ext}
use Rattle.std.proofs.Math.Seq.{get_or-append_seam, take-append_seam}
use Rattle.std.proofs.lemmas.List.{get_or-append_right, get_or-map, get_or-replicate, get_or_append_left, get_or_past, length-append, length-map, length-replicate, length_push}
use Rattle.nz_lists.proofs.Numbers.{below_or_past, same_or_below}
use Rattle.nz_fractions.specs.Fraction.{Fraction, whole}
use Rattle.nz_spec.specs.simplex.BasisMoves.{numbers}
use Rattle.nz_tab.specs.Rows.{Grid, IsGrid, basic, columns_of, is_nonbasic, place_in, row_of, rows_of}
use Rattle.nz_tab.specs.Sums.{IsStoredGrid, IsWidened, lengthened, next_columns, widened}
use Rattle.nz_tab.proofs.Blocks.{coefficient_there, marked_within, no_coefficient}
use Rattle.nz_tab.proofs.Numbers.{one_passes}
use Rattle.nz_tab.proofs.StoredRows.{made}

-- ---- Numbers below a bound

same_below : (f h : ℕ → Bool) (n : ℕ) → ((k : ℕ) → k < suc n → f k ≡ h k) → (k : ℕ) → k < n → f k ≡ h k
same_below f h n same k e = same k (omega (arith, e))

pub numbers_below : (f h : ℕ → Bool) (n : ℕ) → ((k : ℕ) → k < n → f k ≡ h k) → numbers n f ≡ numbers n h
numbers_below f h zero same = refl
numbers_below f h (suc n) same =
    ap (λ (b : Bool). if b then numbers n f ++ n ∷ [] else numbers n f) (same n (omega arith))
    ∙ ap (λ (l : List ℕ). if h n then l ++ n ∷ [] else l) (numbers_below f h n (same_below f h n same))

less_far : (f : ℕ → Bool) (n m : ℕ) → ((k : ℕ) → n ≤ k → k < n + suc m → f k ≡ false) → (k : ℕ) → n ≤ k → k < n + m → f k ≡ false
less_far f n m none k e h = none k e (omega (arith, h))

-- what doesn't pass adds nothing
pub numbers_none : (f : ℕ → Bool) (n m : ℕ) → ((k : ℕ) → n ≤ k → k < n + m → f k ≡ false) → numbers (n + m) f ≡ numbers n f
numbers_none f n zero none = ap (λ (x : ℕ). numbers x f) (omega arith)
numbers_none f n (suc m) none =
    let far : n + suc m ≡ suc (n + m) = omega arith in
    ap (λ (x : ℕ). numbers x f) far
    ∙ ap (λ (b : Bool). if b then numbers (n + m) f ++ (n + m) ∷ [] else numbers (n + m) f) (none (n + m) (omega arith) (omega arith))
    ∙ numbers_none f n m (less_far f n m none)

-- what passes adds one each
pub numbers_all : (f : ℕ → Bool) (n m : ℕ) → ((k : ℕ) → n ≤ k → k < n + m → f k ≡ true) → length (numbers (n + m) f) ≡ length (numbers n f) + m
numbers_all f n zero all =
    let none : n + zero ≡ n = omega arith in
    ap (λ (x : ℕ). length (numbers x f)) none ∙ omega arith
numbers_all f n (suc m) all =
    let far : n + suc m ≡ suc (n + m) = omega arith in
    ap (λ (x : ℕ). length (numbers x f)) far
    ∙ ap length (one_passes f (n + m) (all (n + m) (omega arith) (omega arith)))
    ∙ length_push (numbers (n + m) f) (n + m)
    ∙ omega (arith, numbers_all f n m (λ k e h. all k e (omega (arith, h))))

-- ---- The next columns

pub columns_long : (w units : ℕ) → length (next_columns w units) ≡ units
columns_long w zero = refl
columns_long w (suc n) = length_push (next_columns w n) (w + n) ∙ omega (arith, columns_long w n)

pub column_at : (w units m : ℕ) → m < units → get_or (next_columns w units) m 0 ≡ w + m
column_at w zero m e = absurd (omega (arith, e))
column_at w (suc n) m e = by_place (same_or_below m n e) (column_at w n m)
  where
    by_place : (m ≡ n) ⊎ (m < n) → (m < n → get_or (next_columns w n) m 0 ≡ w + m) → get_or (next_columns w n ++ (w + n) ∷ []) m 0 ≡ w + m
    by_place (inl h) rest =
        ap (λ (x : ℕ). get_or (next_columns w n ++ (w + n) ∷ []) x 0) (h ∙ sym (columns_long w n))
        ∙ get_or-append_seam (next_columns w n) (w + n) [] 0
        ∙ ap (λ (x : ℕ). w + x) (sym h)
    by_place (inr h) rest = get_or_append_left (next_columns w n) ((w + n) ∷ []) 0 m (omega (arith, h, columns_long w n)) ∙ rest h

pub zeros_there : (units m : ℕ) → get_or (replicate units (whole (pos 0))) m (whole (pos 0)) ≡ whole (pos 0)
zeros_there zero m = refl
zeros_there (suc n) zero = refl
zeros_there (suc n) (suc m) = zeros_there n m

-- a row without coefficients
pub nothing : (g : Grid) (r k : ℕ) (b : Bool) → is_nonbasic g r ≡ true → is_nonbasic g k ≡ b → rows_of g r k ≡ whole (pos 0)
nothing g r k false marked e = no_coefficient (row_of g r) k e
nothing g r k true marked e =
    ap (λ (b : Bool). if b then slice_index_or (if is_nonbasic g r then [] else slice_index_or g.rows (place_in g.places r) []) (place_in g.places k) (whole (pos 0)) else whole (pos 0)) e
    ∙ ap (λ (b : Bool). slice_index_or (if b then [] else slice_index_or g.rows (place_in g.places r) []) (place_in g.places k) (whole (pos 0))) marked

-- ---- Rows over more forms

module _ (g : Grid) (units : ℕ) (stored : IsStoredGrid g) where
  abbrev n : ℕ
  n = length g.marks

  abbrev width : ℕ
  width = length (columns_of g)

  abbrev wider : Grid
  wider = widened g units

  pub wider_long : length wider.marks ≡ n + units
  wider_long = length-append g.marks (replicate units true) ∙ ap (λ (m : ℕ). n + m) (length-replicate units true)

  before : (k : ℕ) → k < n → is_nonbasic wider k ≡ is_nonbasic g k
  before k e = get_or_append_left g.marks (replicate units true) false k e

  behind : (k : ℕ) → n ≤ k → k < n + units → is_nonbasic wider k ≡ true
  behind k e h =
      get_or-append_right g.marks (replicate units true) n k false refl e
      ∙ get_or-replicate units (k - n) true false (omega (arith, e, h))

  place_before : (k : ℕ) → k < n → place_in wider.places k ≡ place_in g.places k
  place_before k e = get_or_append_left g.places (next_columns width units) 0 k (omega (arith, e, stored.placed))

  place_behind : (k : ℕ) → n ≤ k → k < n + units → place_in wider.places k ≡ width + (k - n)
  place_behind k e h =
      get_or-append_right g.places (next_columns width units) n k 0 stored.placed e
      ∙ column_at width units (k - n) (omega (arith, e, h))

  -- the row of a slot
  row_there : (s : ℕ) → s < length g.rows → slice_index_or wider.rows s [] ≡ lengthened units (slice_index_or g.rows s [])
  row_there s e = get_or-map (lengthened units) g.rows s [] [] e

  -- a form that isn't nonbasic has no coefficient, here and there
  unmarked : (k : ℕ) → is_nonbasic wider k ≡ false → is_nonbasic g k ≡ false
  unmarked k e = by_place (below_or_past k n)
    where
      by_place : (k < n) ⊎ (n ≤ k) → is_nonbasic g k ≡ false
      by_place (inl inside) = sym (before k inside) ∙ e
      by_place (inr far) = get_or_past g.marks k false far

  within : (k : ℕ) → is_nonbasic wider k ≡ true → k < n + units
  within k e = omega (arith, marked_within wider.marks k e, wider_long)

  -- what is read of a basic form's row
  module _ (r : ℕ) (inside : r < n) (is_basic : is_nonbasic g r ≡ false) where
    slot : place_in g.places r < length g.rows
    slot = stored.basics.within r inside (ap not is_basic)

    abbrev row : List Fraction
    row = slice_index_or g.rows (place_in g.places r) []

    row_full : length row ≡ width
    row_full = stored.full (place_in g.places r) [] slot

    read_there : (k : ℕ) → is_nonbasic wider k ≡ true → rows_of wider r k ≡ slice_index_or (lengthened units row) (place_in wider.places k) (whole (pos 0))
    read_there k marked =
        coefficient_there wider r k (before r inside ∙ is_basic) marked
        ∙ ap (λ (s : ℕ). slice_index_or (slice_index_or wider.rows s []) (place_in wider.places k) (whole (pos 0))) (place_before r inside)
        ∙ ap (λ (l : List Fraction). slice_index_or l (place_in wider.places k) (whole (pos 0))) (row_there (place_in g.places r) slot)

    basic_stays : (k : ℕ) → is_nonbasic wider k ≡ true → (k < n) ⊎ (n ≤ k) → rows_of wider r k ≡ rows_of g r k
    basic_stays k marked (inl e) =
        let there : is_nonbasic g k ≡ true = sym (before k e) ∙ marked in
        read_there k marked
        ∙ ap (λ (s : ℕ). slice_index_or (lengthened units row) s (whole (pos 0))) (place_before k e)
        ∙ get_or_append_left row (replicate units (whole (pos 0))) (whole (pos 0)) (place_in g.places k) (omega (arith, row_full, stored.columns.within k e there))
        ∙ sym (coefficient_there g r k is_basic there)
    basic_stays k marked (inr e) =
        read_there k marked
        ∙ ap (λ (s : ℕ). slice_index_or (lengthened units row) s (whole (pos 0))) (place_behind k e (within k marked))
        ∙ get_or-append_right row (replicate units (whole (pos 0))) width (width + (k - n)) (whole (pos 0)) row_full (omega arith)
        ∙ zeros_there units (width + (k - n) - width)
        ∙ sym (no_coefficient (row_of g r) k (get_or_past g.marks k false e))

  row_stays : (r k : ℕ) → r < n → (b d : Bool) → is_nonbasic g r ≡ b → is_nonbasic wider k ≡ d → rows_of wider r k ≡ rows_of g r k
  row_stays r k inside b false e h = no_coefficient (row_of wider r) k h ∙ sym (no_coefficient (row_of g r) k (unmarked k h))
  row_stays r k inside true true e h = nothing wider r k (is_nonbasic wider k) (before r inside ∙ e) refl ∙ sym (nothing g r k (is_nonbasic g k) e refl)
  row_stays r k inside false true e h = basic_stays r inside e k h (below_or_past k n)

  pub is_widened : IsWidened g wider units
  is_widened = record {
    count = wider_long;
    before = before;
    behind = behind;
    rows = λ r inside. fun_ext (λ k. row_stays r k inside (is_nonbasic g r) (is_nonbasic wider k) refl refl);
  }

  -- ---- What is stored then

  pub columns_then : length (columns_of wider) ≡ width + units
  columns_then =
      ap (λ (m : ℕ). length (numbers m (is_nonbasic wider))) wider_long
      ∙ numbers_all (is_nonbasic wider) n units behind
      ∙ ap (λ (l : List ℕ). length l + units) (numbers_below (is_nonbasic wider) (is_nonbasic g) n before)

  column_within : (k : ℕ) → is_nonbasic wider k ≡ true → (k < n) ⊎ (n ≤ k) → place_in wider.places k < width + units
  column_within k marked (inl e) = omega (arith, place_before k e, stored.columns.within k e (sym (before k e) ∙ marked))
  column_within k marked (inr e) = omega (arith, place_behind k e (within k marked), within k marked, e)

  column_apart : (k m : ℕ) → is_nonbasic wider k ≡ true → is_nonbasic wider m ≡ true → place_in wider.places k ≡ place_in wider.places m → (k < n) ⊎ (n ≤ k) → (m < n) ⊎ (n ≤ m) → k ≡ m
  column_apart k m a b same (inl e) (inl h) =
      stored.columns.apart k m e h (sym (before k e) ∙ a) (sym (before m h) ∙ b) (sym (place_before k e) ∙ same ∙ place_before m h)
  column_apart k m a b same (inl e) (inr h) =
      absurd (omega (arith, same, place_before k e, stored.columns.within k e (sym (before k e) ∙ a), place_behind m h (within m b)))
  column_apart k m a b same (inr e) (inl h) =
      absurd (omega (arith, same, place_before m h, stored.columns.within m h (sym (before m h) ∙ b), place_behind k e (within k a)))
  column_apart k m a b same (inr e) (inr h) =
      omega (arith, same, place_behind k e (within k a), place_behind m h (within m b), e, h)

  -- only the forms that were there are basic
  basic_before : (k : ℕ) → k < length wider.marks → basic (is_nonbasic wider) k ≡ true → k < n
  basic_before k e b = by_place (below_or_past k n)
    where
      by_place : (k < n) ⊎ (n ≤ k) → k < n
      by_place (inl h) = h
      by_place (inr h) = absurd (true≢false (sym b ∙ ap not (behind k h (omega (arith, e, wider_long)))))

  basic_then : (k : ℕ) (e : k < n) → basic (is_nonbasic wider) k ≡ true → basic (is_nonbasic g) k ≡ true
  basic_then k e b = ap not (sym (before k e)) ∙ b

  rows_long : length wider.rows ≡ length g.rows
  rows_long = length-map g.rows (lengthened units)

  pub stored_then : IsGrid wider.marks wider.places (width + units) wider.rows
  stored_then = record {
    placed = length-append g.places (next_columns width units) ∙ omega (arith, columns_long width units, stored.placed, wider_long);
    wide = sym columns_then;
    columns = record {
      within = λ k e b. column_within k b (below_or_past k n);
      apart = λ k m e h a b same. column_apart k m a b same (below_or_past k n) (below_or_past m n);
    };
    basics = record {
      within = λ k e b.
          let inside = basic_before k e b in
          omega (arith, place_before k inside, stored.basics.within k inside (basic_then k inside b), rows_long);
      apart = λ k m e h a b same.
          let inside = basic_before k e a in
          let also = basic_before m h b in
          stored.basics.apart k m inside also (basic_then k inside a) (basic_then m also b) (sym (place_before k inside) ∙ same ∙ place_before m also);
    };
    full = λ s d e.
        let inside : s < length g.rows = omega (arith, e, rows_long) in
        ap length (get_or-map (lengthened units) g.rows s [] d inside)
        ∙ length-append (slice_index_or g.rows s []) (replicate units (whole (pos 0)))
        ∙ omega (arith, stored.full s [] inside, length-replicate units (whole (pos 0)));
  }

-- ---- Units that are taken back

cut_rows : (w units : ℕ) (rows : List (List Fraction)) → ((s : ℕ) → s < length rows → length (get_or rows s []) ≡ w) → map (take w) (map (lengthened units) rows) ≡ rows
cut_rows w units [] full = refl
cut_rows w units (row ∷ rows) full =
    ap (λ (l : List Fraction). l ∷ map (take w) (map (lengthened units) rows))
    (ap (λ (m : ℕ). take m (row ++ replicate units (whole (pos 0)))) (sym (full 0 (omega arith))) ∙ take-append_seam row (replicate units (whole (pos 0))))
    ∙ ap (λ (l : List (List Fraction)). row ∷ l) (cut_rows w units rows (λ s e. full (suc s) (omega (arith, e))))

abbrev pub cut : Grid → ℕ → ℕ → Grid
cut g count width = record { marks = take count g.marks; places = take count g.places; rows = map (take width) g.rows }

pub cut_back : (g : Grid) (units count width : ℕ) → IsStoredGrid g → count ≡ length g.marks → width ≡ length (columns_of g) → cut (widened g units) count width ≡ g
cut_back g units count width stored many wide =
    ap (λ (c : ℕ). cut (widened g units) c width) many
    ∙ ap (λ (w : ℕ). cut (widened g units) (length g.marks) w) wide
    ∙ ap (λ (l : List Bool). made l (take (length g.marks) (widened g units).places) (map (take (length (columns_of g))) (widened g units).rows)) (take-append_seam g.marks (replicate units true))
    ∙ ap (λ (l : List ℕ). made g.marks l (map (take (length (columns_of g))) (widened g units).rows))
    (ap (λ (m : ℕ). take m (widened g units).places) (sym stored.placed) ∙ take-append_seam g.places (next_columns (length (columns_of g)) units))
    ∙ ap (made g.marks g.places) (cut_rows (length (columns_of g)) units g.rows (λ s e. stored.full s [] e))
