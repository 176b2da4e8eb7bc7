-- Rows in a block, coefficients where they stand, and marks.
use Rattle.std.proofs.Common.{◌≡◌, ℕ, zero, suc, ◌+◌, ◌*◌, ◌<◌, ◌≤◌, Bool, true, false, ◌⊎◌, inl, inr, List, [], ◌∷◌, ◌++◌, length, map, flat_map, take, drop, pos, refl, sym, ap, ◌∙◌, true≢false, arith}
use Rattle.std.specs.Prelude.{if◌then◌else◌, slice_index_or, ◌≢◌, set, ◌==◌}
use Rattle.std.proofs.Math.Seq.{take-append_seam, drop-append-add}
use Rattle.std.proofs.lemmas.List.{get_or_past, length-map, length-append, get_or-set_same, get_or-set_other, length-set}
use Rattle.nz_lists.proofs.Numbers.{below_or_past, equal-number, same-number}
use Rattle.nz_fractions.specs.Fraction.{whole}
use Rattle.nz_spec.specs.simplex.Basis.{Coefficients}
use Rattle.nz_spec.specs.simplex.BasisMoves.{numbers, exchanged}
use Rattle.nz_tab.specs.Rows.{DenseRow, Grid, coefficient, is_marked, is_nonbasic, place_in, row_in, rows_of}
use Rattle.nz_tab.proofs.Numbers.{count_both}

-- ---- Rows in a block

module _ (h : ℕ → Coefficients) (ks : List ℕ) where
  row_long : (r : ℕ) → length (map (h r) ks) ≡ length ks
  row_long r = length-map ks (h r)

  -- the row of a place, in a block of rows that are as long as each other
  pub row_in_block : (rs : List ℕ) (p : ℕ) → p < length rs → row_in (flat_map (λ r. map (h r) ks) rs) (length ks) p ≡ map (h (slice_index_or rs p 0)) ks
  row_in_block [] p e = absurd (omega (arith, e))
  row_in_block (r ∷ rs) zero e =
      let rest = flat_map (λ m. map (h m) ks) rs in
      let none : zero * length ks ≡ zero = omega arith in
      ap (λ (n : ℕ). take (length ks) (drop n (map (h r) ks ++ rest))) none
      ∙ ap (λ (n : ℕ). take n (map (h r) ks ++ rest)) (sym (row_long r))
      ∙ take-append_seam (map (h r) ks) rest
  row_in_block (r ∷ rs) (suc p) e =
      let rest = flat_map (λ m. map (h m) ks) rs in
      let far : suc p * length ks ≡ length (map (h r) ks) + p * length ks = omega (arith, row_long r) in
      ap (λ (n : ℕ). take (length ks) (drop n (map (h r) ks ++ rest))) far
      ∙ ap (take (length ks)) (drop-append-add (map (h r) ks) rest (p * length ks))
      ∙ row_in_block rs p (omega (arith, e))

  pub block_long : (rs : List ℕ) → length (flat_map (λ r. map (h r) ks) rs) ≡ length rs * length ks
  block_long [] = omega arith
  block_long (r ∷ rs) = length-append (map (h r) ks) (flat_map (λ m. map (h m) ks) rs) ∙ omega (arith, row_long r, block_long rs)

-- at a basic form there is none
pub no_coefficient : (row : DenseRow) (k : ℕ) → is_marked row.marks k ≡ false → coefficient row k ≡ whole (pos 0)
no_coefficient row k e = ap (λ (b : Bool). if b then slice_index_or row.coefficients (place_in row.places k) (whole (pos 0)) else whole (pos 0)) e

-- that of a basic form at a nonbasic one stands in its row, in the column of the other
pub coefficient_there : (g : Grid) (r k : ℕ) → is_nonbasic g r ≡ false → is_nonbasic g k ≡ true → rows_of g r k ≡ slice_index_or (slice_index_or g.rows (place_in g.places r) []) (place_in g.places k) (whole (pos 0))
coefficient_there g r k is_basic marked =
    ap (λ (b : Bool). if b then slice_index_or (if is_nonbasic g r then [] else slice_index_or g.rows (place_in g.places r) []) (place_in g.places k) (whole (pos 0)) else whole (pos 0)) marked
    ∙ ap (λ (b : Bool). slice_index_or (if b then [] else slice_index_or g.rows (place_in g.places r) []) (place_in g.places k) (whole (pos 0))) is_basic

-- ---- Marks

-- only what is listed is marked
pub marked_within : (marks : List Bool) (k : ℕ) → is_marked marks k ≡ true → k < length marks
marked_within marks k e = by_place (below_or_past k (length marks))
  where
    by_place : (k < length marks) ⊎ (length marks ≤ k) → k < length marks
    by_place (inl inside) = inside
    by_place (inr past) = absurd (true≢false (sym e ∙ get_or_past marks k false past))

pub columns_within : (f : ℕ → Bool) (i columns : ℕ) → columns ≡ length (numbers i f) → columns ≤ i
columns_within f i columns counts = omega (arith, counts, count_both f i)

-- ---- Marks that are set

-- i is marked, and j no longer
pub marks_exchanged : (marks : List Bool) (i j k : ℕ) → i < length marks → j < length marks → j ≢ i → is_marked (set (set marks i true) j false) k ≡ exchanged (is_marked marks) i j k
marks_exchanged marks i j k inside within apart = by_tests (k == i) (k == j) refl refl
  where
    long : length (set marks i true) ≡ length marks
    long = length-set marks i true

    by_tests : (b c : Bool) → (k == i) ≡ b → (k == j) ≡ c → is_marked (set (set marks i true) j false) k ≡ (if b then true else if c then false else is_marked marks k)
    by_tests true c e g =
        let same = same-number k i e in
        get_or-set_other (set marks i true) j k false false (λ h. apart (sym h ∙ same))
        ∙ ap (λ (m : ℕ). slice_index_or (set marks i true) m false) same
        ∙ get_or-set_same marks i true false inside
    by_tests false true e g =
        let same = same-number k j g in
        ap (λ (m : ℕ). slice_index_or (set (set marks i true) j false) m false) same
        ∙ get_or-set_same (set marks i true) j false false (omega (arith, long, within))
    by_tests false false e g =
        get_or-set_other (set marks i true) j k false false (λ h. true≢false (sym (equal-number k j h) ∙ g))
        ∙ get_or-set_other marks i k true false (λ h. true≢false (sym (equal-number k i h) ∙ e))
