-- A row that joins behind others: the rows before it stay.
use Rattle.std.proofs.Common.{◌≡◌, ℕ, zero, suc, add-one, ◌+◌, ◌-◌, ◌<◌, ◌≤◌, Bool, true, false, ◌⊎◌, inl, inr, List, [], ◌∷◌, length, map, get_or, pos, refl, sym, ap, ◌∙◌, arith}
use Rattle.std.specs.Prelude.{not, slice_index_or}
use Rattle.std.proofs.Math.Path.{fun_ext}
use Rattle.std.proofs.Math.Seq.{get_or-append_seam}
use Rattle.std.proofs.lemmas.List.{get_or-append_right, get_or_append_left, get_or_past, length_push}
use Rattle.nz_lists.proofs.Numbers.{below_or_past, same_or_below}
use Rattle.nz_fractions.specs.Fraction.{Fraction, whole}
use Rattle.nz_spec.specs.simplex.Basis.{Coefficients}
use Rattle.nz_spec.specs.simplex.BasisMoves.{numbers}
use Rattle.nz_tab.specs.Rows.{Grid, IsGrid, basic, coefficients_at, columns_of, is_nonbasic, place_in, row_of, rows_of}
use Rattle.nz_tab.specs.Sums.{IsStoredGrid, IsSummed, sum_over, with_row}
use Rattle.nz_tab.proofs.Blocks.{coefficient_there, marked_within, no_coefficient}
use Rattle.nz_tab.proofs.Numbers.{one_fails}
use Rattle.nz_tab.proofs.Slots.{at_column}
use Rattle.nz_tab.proofs.AddedColumns.{nothing}

-- ---- One basic form more

only_false : (m : ℕ) → get_or (false ∷ []) m false ≡ false
only_false zero = refl
only_false (suc m) = refl

module _ (g : Grid) (row : List Fraction) (stored : IsStoredGrid g) where
  abbrev n : ℕ
  n = length g.marks

  abbrev f : ℕ → Bool
  f = is_nonbasic g

  abbrev pushed : Grid
  pushed = with_row g row

  unmarked : f n ≡ false
  unmarked = get_or_past g.marks n false (omega arith)

  mark_stays : (k : ℕ) → is_nonbasic pushed k ≡ f k
  mark_stays k = by_place (below_or_past k n)
    where
      by_place : (k < n) ⊎ (n ≤ k) → is_nonbasic pushed k ≡ f k
      by_place (inl inside) = get_or_append_left g.marks (false ∷ []) false k inside
      by_place (inr far) = get_or-append_right g.marks (false ∷ []) n k false refl far ∙ only_false (k - n) ∙ sym (get_or_past g.marks k false far)

  marks_stay : is_nonbasic pushed ≡ f
  marks_stay = fun_ext mark_stays

  marks_long : length pushed.marks ≡ n + 1
  marks_long = length_push g.marks false

  pub columns_stay : columns_of pushed ≡ columns_of g
  columns_stay =
      ap (λ (m : ℕ). numbers m (is_nonbasic pushed)) (marks_long ∙ add-one n)
      ∙ ap (numbers (suc n)) marks_stay
      ∙ one_fails f n unmarked

  -- the places stay, and the new form has the next row
  place_stays : (k : ℕ) → k < n → place_in pushed.places k ≡ place_in g.places k
  place_stays k e = get_or_append_left g.places (length g.rows ∷ []) 0 k (omega (arith, e, stored.placed))

  last_place : (k : ℕ) → k ≡ n → place_in pushed.places k ≡ length g.rows
  last_place k e = ap (place_in pushed.places) (e ∙ sym stored.placed) ∙ get_or-append_seam g.places (length g.rows) [] 0

  slot_stays : (s : ℕ) → s < length g.rows → slice_index_or pushed.rows s [] ≡ slice_index_or g.rows s []
  slot_stays s e = get_or_append_left g.rows (row ∷ []) [] s e

  slot_within : (r : ℕ) → r < n → f r ≡ false → place_in g.places r < length g.rows
  slot_within r inside b = stored.basics.within r inside (ap not b)

  row_stays : (r k : ℕ) → r < n → (b d : Bool) → f r ≡ b → f k ≡ d → rows_of pushed r k ≡ rows_of g r k
  row_stays r k inside b false e h = no_coefficient (row_of pushed r) k (mark_stays k ∙ h) ∙ sym (no_coefficient (row_of g r) k h)
  row_stays r k inside true true e h = nothing pushed r k (is_nonbasic pushed k) (mark_stays r ∙ e) refl ∙ sym (nothing g r k (f k) e refl)
  row_stays r k inside false true e h =
      coefficient_there pushed r k (mark_stays r ∙ e) (mark_stays k ∙ h)
      ∙ ap (λ (s : ℕ). slice_index_or (slice_index_or pushed.rows s []) (place_in pushed.places k) (whole (pos 0))) (place_stays r inside)
      ∙ ap (λ (l : List Fraction). slice_index_or l (place_in pushed.places k) (whole (pos 0))) (slot_stays (place_in g.places r) (slot_within r inside e))
      ∙ ap (λ (s : ℕ). slice_index_or (slice_index_or g.rows (place_in g.places r) []) s (whole (pos 0))) (place_stays k (marked_within g.marks k h))
      ∙ sym (coefficient_there g r k e h)

  last_row : (c : Coefficients) → coefficients_at g.places (columns_of g) row ≡ map c (columns_of g) → (k : ℕ) → is_nonbasic pushed k ≡ true → rows_of pushed n k ≡ c k
  last_row c stands k e =
      let passes : f k ≡ true = sym (mark_stays k) ∙ e in
      let within : k < n = marked_within g.marks k passes in
      coefficient_there pushed n k (mark_stays n ∙ unmarked) e
      ∙ ap (λ (s : ℕ). slice_index_or (slice_index_or pushed.rows s []) (place_in pushed.places k) (whole (pos 0))) (last_place n refl)
      ∙ ap (λ (l : List Fraction). slice_index_or l (place_in pushed.places k) (whole (pos 0))) (get_or-append_seam g.rows row [] [])
      ∙ ap (λ (s : ℕ). slice_index_or row s (whole (pos 0))) (place_stays k within)
      ∙ at_column g.places row f n c stands k within passes

  pub is_summed : (qs : List (ℕ × Fraction)) → coefficients_at g.places (columns_of g) row ≡ map (sum_over g qs).result (columns_of g) → IsSummed g pushed qs
  is_summed qs stands = record {
    count = marks_long;
    nonbasic = mark_stays;
    rows = λ r inside. fun_ext (λ k. row_stays r k inside (f r) (f k) refl refl);
    row = last_row (sum_over g qs).result stands;
  }

  -- ---- What is stored then

  basic_there : (k : ℕ) → basic (is_nonbasic pushed) k ≡ true → basic f k ≡ true
  basic_there k b = ap not (sym (mark_stays k)) ∙ b

  rows_more : length pushed.rows ≡ length g.rows + 1
  rows_more = length_push g.rows row

  row_within : (k : ℕ) → basic (is_nonbasic pushed) k ≡ true → (k ≡ n) ⊎ (k < n) → place_in pushed.places k < length pushed.rows
  row_within k b (inl e) = omega (arith, last_place k e, rows_more)
  row_within k b (inr e) = omega (arith, place_stays k e, stored.basics.within k e (basic_there k b), rows_more)

  row_apart : (k m : ℕ) → basic (is_nonbasic pushed) k ≡ true → basic (is_nonbasic pushed) m ≡ true → place_in pushed.places k ≡ place_in pushed.places m → (k ≡ n) ⊎ (k < n) → (m ≡ n) ⊎ (m < n) → k ≡ m
  row_apart k m a b same (inl e) (inl h) = e ∙ sym h
  row_apart k m a b same (inl e) (inr h) = absurd (omega (arith, same, last_place k e, place_stays m h, stored.basics.within m h (basic_there m b)))
  row_apart k m a b same (inr e) (inl h) = absurd (omega (arith, same, last_place m h, place_stays k e, stored.basics.within k e (basic_there k a)))
  row_apart k m a b same (inr e) (inr h) = stored.basics.apart k m e h (basic_there k a) (basic_there m b) (sym (place_stays k e) ∙ same ∙ place_stays m h)

  place_of : (k : ℕ) → k < length pushed.marks → (k ≡ n) ⊎ (k < n)
  place_of k e = same_or_below k n (omega (arith, e, marks_long))

  row_full : length row ≡ length (columns_of g) → (s : ℕ) (d : List Fraction) → (s ≡ length g.rows) ⊎ (s < length g.rows) → length (get_or pushed.rows s d) ≡ length (columns_of g)
  row_full long s d (inl e) = ap (λ (x : ℕ). length (get_or pushed.rows x d)) e ∙ ap length (get_or-append_seam g.rows row [] d) ∙ long
  row_full long s d (inr e) = ap length (get_or_append_left g.rows (row ∷ []) d s e) ∙ stored.full s d e

  pub stored_then : length row ≡ length (columns_of g) → IsGrid pushed.marks pushed.places (length (columns_of g)) pushed.rows
  stored_then long = record {
    placed = length_push g.places (length g.rows) ∙ omega (arith, stored.placed, marks_long);
    wide = sym (ap length columns_stay);
    columns = record {
      within = λ k e b.
          let marked : f k ≡ true = sym (mark_stays k) ∙ b in
          let inside : k < n = marked_within g.marks k marked in
          omega (arith, place_stays k inside, stored.columns.within k inside marked);
      apart = λ k m e h a b same.
          let marked : f k ≡ true = sym (mark_stays k) ∙ a in
          let also : f m ≡ true = sym (mark_stays m) ∙ b in
          let inside : k < n = marked_within g.marks k marked in
          let within : m < n = marked_within g.marks m also in
          stored.columns.apart k m inside within marked also (sym (place_stays k inside) ∙ same ∙ place_stays m within);
    };
    basics = record {
      within = λ k e b. row_within k b (place_of k e);
      apart = λ k m e h a b same. row_apart k m a b same (place_of k e) (place_of m h);
    };
    full = λ s d e. row_full long s d (same_or_below s (length g.rows) (omega (arith, e, rows_more)));
  }
