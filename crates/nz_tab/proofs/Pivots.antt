-- What an exchange of rows leaves, from what its steps ensure.
use Rattle.std.proofs.Common.{◌≡◌, refl, ℕ, ◌+◌, ◌*◌, ◌<◌, ◌≤◌, Bool, true, false, ◌⊎◌, inl, inr, List, [], ◌∷◌, ◌++◌, Some, None, length, map, flat_map, pos, sym, ap, ◌∙◌, subst, true≢false, arith}
use Rattle.std.specs.Prelude.{◌==◌, All, if◌then◌else◌, not, slice_index_or, ◌≢◌}
use Rattle.std.proofs.Math.Seq.{get_or-append_seam}
use Rattle.std.proofs.lemmas.List.{get_or_append_left, length-map, length_push}
use Rattle.std.proofs.lemmas.List.Elements.{All-from_recursion}
use Rattle.std.proofs.lemmas.Nat.{mul-le}
use Rattle.nz_lists.proofs.Elements.{AllByRecursion-weaker}
use Rattle.nz_lists.proofs.Numbers.{equal-number, other-number, same-number, same_or_below}
use Rattle.nz_fractions.specs.Fraction.{Fraction, Operation, first_wide, whole}
use Rattle.nz_spec.specs.numbers.Computation.{Computation}
use Rattle.nz_spec.specs.terms.Term.{is_zero}
use Rattle.nz_spec.specs.simplex.Basis.{Coefficients}
use Rattle.nz_spec.specs.simplex.BasisMoves.{Rows, exchange, exchanged, numbers, replaced}
use Rattle.nz_tab.specs.Comes.{IsDone}
use Rattle.nz_tab.specs.Exchanges.{IsExchanged, IsReplaced, changed_rows, changes, places_exchanged, solved_row, written_forms}
use Rattle.nz_tab.specs.Rows.{AreSlotted, Grid, HasRoom, basic, is_marked, is_nonbasic, place_in, row_in, row_of, rows_of, size_of, slot_at}
use Rattle.nz_tab.specs.Sums.{IsStoredGrid}
use Rattle.nz_tab.proofs.Blocks.{block_long, coefficient_there, columns_within, marked_within, no_coefficient, row_in_block}
use Rattle.nz_tab.proofs.Exchanged.{apart, basics_then, columns_then, count_exchanged, count_written, exchange_block, exchange_fits, exchange_stops_first, exchange_stops_later, marks_are, marks_long, place_of_leaves, place_of_others, places_long, size_stays, solved_list}
use Rattle.nz_tab.proofs.ColumnExchange.{entering, row_stays, third_part, three_parts}
use Rattle.nz_tab.proofs.Numbers.{all_pass, count_both, number_at, place_within}
use Rattle.nz_tab.proofs.Slots.{all_below, at_column, below_at, distinct_push, numbers_distinct, passes_at, slotted, slotted_in}

-- the numbers of the forms that are nonbasic after an exchange, and of those whose rows change
abbrev pub columns_after : Grid → ℕ → ℕ → List ℕ
columns_after g i j = numbers (length g.marks) (exchanged (is_nonbasic g) i j)

abbrev pub changed_forms : Grid → ℕ → ℕ → List ℕ
changed_forms g i j = numbers (length g.marks) (changes (is_nonbasic g) (rows_of g) i j)

-- A basic form is to leave, and a nonbasic one to enter.
pub record IsReady (g : Grid) (i j : ℕ) : Type 0 where
  pub inside : i < length g.marks
  pub leaves : is_nonbasic g i ≡ false
  pub enters : is_nonbasic g j ≡ true

module _ {g : Grid} {i j : ℕ} (ready : IsReady g i j) where
  abbrev f : ℕ → Bool
  f = is_nonbasic g

  abbrev n : ℕ
  n = length g.marks

  abbrev pub ks : List ℕ
  ks = columns_after g i j

  abbrev pub rs : List ℕ
  rs = changed_forms g i j

  within : j < length g.marks
  within = marked_within g.marks j ready.enters

  pub columns_long : length ks ≡ length (numbers n f)
  columns_long = count_exchanged f i j ready.leaves ready.enters n ready.inside within

  pub columns_fit : length ks ≤ n
  columns_fit = columns_within f n (length ks) columns_long

  changed_fit : length rs + 1 ≤ length (numbers n (basic f))
  changed_fit = count_written f i j ready.leaves ready.enters (rows_of g) n ready.inside

  pub forms_fit : length rs + 1 ≤ n
  forms_fit = omega (arith, changed_fit, count_both f n)

  -- there is room for the rows that are written
  pub rows_fit : (length rs + 1) * length ks ≤ size_of n f
  rows_fit =
      subst (λ (m : ℕ). (length rs + 1) * length ks ≤ length (numbers n (basic f)) * m) columns_long
      (mul-le (length rs + 1) (length ks) (length (numbers n (basic f))) (length ks) changed_fit (omega arith))

  -- ---- The forms whose rows are written

  changed_parts : (p : ℕ) → p < length rs → (f (slice_index_or rs p 0) ≡ false) × (((slice_index_or rs p 0 == i) ≡ false) × (is_zero (rows_of g (slice_index_or rs p 0) j) ≡ false))
  changed_parts p e =
      let r = slice_index_or rs p 0 in
      three_parts (f r) (r == i) (is_zero (rows_of g r j)) (passes_at (changes f (rows_of g) i j) n p e)

  pub changed_listed : All (λ (r : ℕ). r < n) rs
  changed_listed = All-from_recursion (λ (r : ℕ). r < n) rs (all_below (changes f (rows_of g) i j) n n (omega arith))

  pub changed_basic : All (λ (r : ℕ). f r ≡ false) rs
  changed_basic =
      All-from_recursion (λ (r : ℕ). f r ≡ false) rs
      (AllByRecursion-weaker (λ r. changes f (rows_of g) i j r ≡ true) (λ r. f r ≡ false) (λ r e. (three_parts (f r) (r == i) (is_zero (rows_of g r j)) e).0) rs (all_pass (changes f (rows_of g) i j) n))

  not_enters : (p : ℕ) → p < length rs → slice_index_or rs p 0 ≢ j
  not_enters p e same = true≢false (sym ready.enters ∙ ap f (sym same) ∙ (changed_parts p e).0)

  abbrev pub ws : List ℕ
  ws = written_forms g i j

  written_long : length ws ≡ length rs + 1
  written_long = length_push rs j

  front : (p : ℕ) → p < length rs → slice_index_or ws p 0 ≡ slice_index_or rs p 0
  front p e = get_or_append_left rs (j ∷ []) 0 p e

  last : (p : ℕ) → p ≡ length rs → slice_index_or ws p 0 ≡ j
  last p e = ap (λ (x : ℕ). slice_index_or ws x 0) e ∙ get_or-append_seam rs j [] 0

  basic_then : (k : ℕ) → k ≢ i → k ≢ j → f k ≡ false → basic (exchanged f i j) k ≡ true
  basic_then k e h b =
      ap (λ (x : Bool). not (if x then true else if k == j then false else f k)) (other-number k i e)
      ∙ ap (λ (x : Bool). not (if x then false else f k)) (other-number k j h)
      ∙ ap not b

  enters_then : basic (exchanged f i j) j ≡ true
  enters_then =
      ap (λ (x : Bool). not (if x then true else if j == j then false else f j)) (other-number j i (apart f i j ready.leaves ready.enters))
      ∙ ap (λ (x : Bool). not (if x then false else f j)) (equal-number j j refl)

  written_pass : (p : ℕ) → p < length ws → (basic (exchanged f i j) (slice_index_or ws p 0) ≡ true) × (slice_index_or ws p 0 < n)
  written_pass p e = by_place (same_or_below p (length rs) (omega (arith, e, written_long)))
    where
      by_place : (p ≡ length rs) ⊎ (p < length rs) → (basic (exchanged f i j) (slice_index_or ws p 0) ≡ true) × (slice_index_or ws p 0 < n)
      by_place (inl h) = (ap (basic (exchanged f i j)) (last p h) ∙ enters_then, omega (arith, last p h, within))
      by_place (inr h) =
          let r = slice_index_or rs p 0 in
          let parts = changed_parts p h in (
            ap (basic (exchanged f i j)) (front p h) ∙ basic_then r (λ same. true≢false (sym (equal-number r i same) ∙ parts.1.0)) (not_enters p h) parts.0,
            omega (arith, front p h, below_at (changes f (rows_of g) i j) n p h),
          )

  module _ (stored : IsStoredGrid g) where
    abbrev places_then : List ℕ
    places_then = places_exchanged g.places i j

    long : n ≤ length places_then
    long = omega (arith, places_long g.marks i j ready.inside ready.leaves ready.enters g.places stored.placed)

    pub columns_slotted : AreSlotted places_then ks (length ks)
    columns_slotted =
        subst (AreSlotted places_then ks) (sym columns_long)
        (slotted places_then n (exchanged f i j) (length (numbers n f)) (columns_then g.marks i j ready.inside ready.leaves ready.enters g.places stored.placed (length (numbers n f)) stored.columns) long)

    pub rows_slotted : AreSlotted places_then ws (length g.rows)
    rows_slotted =
        slotted_in places_then n (basic (exchanged f i j)) (length g.rows) (basics_then g.marks i j ready.inside ready.leaves ready.enters g.places stored.placed (length g.rows) stored.basics) long ws
        (distinct_push rs j (numbers_distinct (changes f (rows_of g) i j) n) not_enters)
        written_pass

    pub rows_full : All (λ (row : List Fraction). length row ≡ length ks) g.rows
    rows_full = subst (λ (m : ℕ). All (λ (row : List Fraction). length row ≡ m) g.rows) (sym columns_long) stored.full

  -- ---- What is computed

  abbrev pub computed : Coefficients
  computed = entering f i j (rows_of g i) ready.leaves ready.enters n

  abbrev result : Rows
  result = (exchange n f (rows_of g) i j).result

  pub stops_first : (w : Operation) → first_wide (solved_row ks i j (rows_of g i)).operations ≡ Some w → first_wide (exchange n f (rows_of g) i j).operations ≡ Some w
  stops_first w h = exchange_stops_first f i j ready.leaves ready.enters (rows_of g) n [] w h

  module _ (solved : List Fraction) (s : IsDone (solved_row ks i j (rows_of g i)) solved) where
    pub solved_are : solved ≡ map computed ks
    solved_are = solved_list f i j ready.leaves ready.enters (rows_of g) n solved s

    pub solved_long : length solved ≡ length ks
    solved_long = ap length solved_are ∙ length-map ks computed

    pub stops_later : (w : Operation) → first_wide (changed_rows (rows_of g) rs ks j computed).operations ≡ Some w → first_wide (exchange n f (rows_of g) i j).operations ≡ Some w
    stops_later w h = exchange_stops_later f i j ready.leaves ready.enters (rows_of g) n solved s w h

    module _ (block : List Fraction) (d : IsDone (changed_rows (rows_of g) rs ks j computed) block) where
      pub fits : first_wide (exchange n f (rows_of g) i j).operations ≡ None
      fits = exchange_fits f i j ready.leaves ready.enters (rows_of g) n solved s block d

      written_are : block ++ solved ≡ flat_map (λ r. map (result r) ks) ws
      written_are = exchange_block f i j ready.leaves ready.enters (rows_of g) n solved s block d

      pub written_fit : length (block ++ solved) ≡ length ws * length ks
      written_fit = ap length written_are ∙ block_long result ks ws

      -- ---- What is stored then

      module _ (stored : IsStoredGrid g)
          (none : (r : ℕ) → r < n → f r ≡ false → r ≢ i → changes f (rows_of g) i j r ≡ false → rows_of g r j ≡ whole (pos 0))
          (new : Grid) (h : IsReplaced g new i j ks ws (block ++ solved)) where
        marked_then : is_nonbasic new ≡ exchanged f i j
        marked_then = ap is_marked h.marks ∙ marks_are g.marks i j ready.inside ready.leaves ready.enters

        -- the row of a form that is written
        written_there : (p k : ℕ) → p < length ws → k < n → exchanged f i j k ≡ true
            → slice_index_or (slice_index_or new.rows (slot_at new.places ws p) []) (place_in new.places k) (whole (pos 0)) ≡ result (slice_index_or ws p 0) k
        written_there p k e m pass =
            at_column new.places (slice_index_or new.rows (slot_at new.places ws p) []) (exchanged f i j) n (result (slice_index_or ws p 0))
            (h.rows.written p e ∙ ap (λ (l : List Fraction). row_in l (length ks) p) written_are ∙ row_in_block result ks ws p e)
            k m pass

        written_row : (r p : ℕ) → slice_index_or ws p 0 ≡ r → p < length ws → (k : ℕ) → k < n → exchanged f i j k ≡ true
            → slice_index_or (slice_index_or new.rows (place_in new.places r) []) (place_in new.places k) (whole (pos 0)) ≡ result r k
        written_row r p is e k m pass =
            subst (λ (x : ℕ). slice_index_or (slice_index_or new.rows (place_in new.places x) []) (place_in new.places k) (whole (pos 0)) ≡ result x k) is (written_there p k e m pass)

        -- that of one that stays
        module _ (r : ℕ) (inside : r < n) (is_basic : f r ≡ false) (not_leaving : r ≢ i) (stays : changes f (rows_of g) i j r ≡ false) where
          not_entering : r ≢ j
          not_entering same = true≢false (sym ready.enters ∙ ap f (sym same) ∙ is_basic)

          unwritten : (p : ℕ) → p < length ws → slice_index_or ws p 0 ≢ r
          unwritten p e same = by_place (same_or_below p (length rs) (omega (arith, e, written_long)))
            where
              by_place : (p ≡ length rs) ⊎ (p < length rs) → ⊥
              by_place (inl x) = not_entering (sym same ∙ last p x)
              by_place (inr x) =
                  true≢false
                  (sym (passes_at (changes f (rows_of g) i j) n p x)
                  ∙ ap (changes f (rows_of g) i j) (sym (front p x) ∙ same)
                  ∙ stays)

          place_stays : place_in new.places r ≡ place_in g.places r
          place_stays = ap (λ (l : List ℕ). place_in l r) h.places ∙ place_of_others g.marks i j ready.inside ready.leaves ready.enters g.places stored.placed r not_leaving not_entering

          slot_apart : (p : ℕ) → p < length ws → slot_at new.places ws p ≢ place_in new.places r
          slot_apart p e same =
              unwritten p e
              ((basics_then g.marks i j ready.inside ready.leaves ready.enters g.places stored.placed (length g.rows) stored.basics).apart
              (slice_index_or ws p 0) r (written_pass p e).1 inside (written_pass p e).0 (basic_then r not_leaving not_entering is_basic)
              (ap (λ (l : List ℕ). place_in l (slice_index_or ws p 0)) (sym h.places) ∙ same ∙ ap (λ (l : List ℕ). place_in l r) h.places))

          row_stays_there : slice_index_or new.rows (place_in new.places r) [] ≡ slice_index_or g.rows (place_in g.places r) []
          row_stays_there = h.rows.others (place_in new.places r) slot_apart ∙ ap (λ (s : ℕ). slice_index_or g.rows s []) place_stays

          result_is : result r ≡ rows_of g r
          result_is =
              ap (λ (b : Bool). if b then computed else (replaced ks j computed (rows_of g r)).result) (other-number r j not_entering)
              ∙ ap (λ (x : Computation Coefficients). x.result)
              (row_stays ks j computed (rows_of g r) (third_part (f r) (r == i) (is_zero (rows_of g r j)) is_basic (other-number r i not_leaving) stays))

          abbrev there : ℕ → Fraction
          there s = slice_index_or (slice_index_or g.rows (place_in g.places r) []) s (whole (pos 0))

          column_stays : (k : ℕ) → k < n → exchanged f i j k ≡ true → there (place_in new.places k) ≡ rows_of g r k
          column_stays k m pass = by_tests (k == i) (k == j) refl refl
            where
              by_tests : (b c : Bool) → (k == i) ≡ b → (k == j) ≡ c → there (place_in new.places k) ≡ rows_of g r k
              by_tests true c e x =
                  let same : k ≡ i = same-number k i e in
                  ap there
                  (ap (place_in new.places) same
                  ∙ ap (λ (l : List ℕ). place_in l i) h.places
                  ∙ place_of_leaves g.marks i j ready.inside ready.leaves ready.enters g.places stored.placed)
                  ∙ sym (coefficient_there g r j is_basic ready.enters)
                  ∙ none r inside is_basic not_leaving stays
                  ∙ sym (no_coefficient (row_of g r) k (ap f same ∙ ready.leaves))
              by_tests false true e x =
                  absurd
                  (true≢false
                  (sym pass
                  ∙ ap (λ (b : Bool). if b then true else if k == j then false else f k) e
                  ∙ ap (λ (b : Bool). if b then false else f k) x))
              by_tests false false e x =
                  let marked : f k ≡ true = sym (ap (λ (b : Bool). if b then true else if k == j then false else f k) e ∙ ap (λ (b : Bool). if b then false else f k) x) ∙ pass in
                  ap there
                  (ap (λ (l : List ℕ). place_in l k) h.places
                  ∙ place_of_others g.marks i j ready.inside ready.leaves ready.enters g.places stored.placed k
                  (λ q. true≢false (sym (equal-number k i q) ∙ e)) (λ q. true≢false (sym (equal-number k j q) ∙ x)))
                  ∙ sym (coefficient_there g r k is_basic marked)

          stayed : (k : ℕ) → k < n → exchanged f i j k ≡ true → slice_index_or (slice_index_or new.rows (place_in new.places r) []) (place_in new.places k) (whole (pos 0)) ≡ result r k
          stayed k m pass =
              ap (λ (l : List Fraction). slice_index_or l (place_in new.places k) (whole (pos 0))) row_stays_there
              ∙ column_stays k m pass
              ∙ sym (ap (λ (c : Coefficients). c k) result_is)

        found : (r k : ℕ) → r < n → k < n → is_nonbasic new r ≡ false → is_nonbasic new k ≡ true → rows_of new r k ≡ result r k
        found r k inside m b pass =
            coefficient_there new r k b pass
            ∙ by_tests (r == j) (r == i) (changes f (rows_of g) i j r) refl refl refl
          where
            then_basic : exchanged f i j r ≡ false
            then_basic = sym (ap (λ (x : ℕ → Bool). x r) marked_then) ∙ b

            then_marked : exchanged f i j k ≡ true
            then_marked = sym (ap (λ (x : ℕ → Bool). x k) marked_then) ∙ pass

            by_tests : (a c z : Bool) → (r == j) ≡ a → (r == i) ≡ c → changes f (rows_of g) i j r ≡ z
                → slice_index_or (slice_index_or new.rows (place_in new.places r) []) (place_in new.places k) (whole (pos 0)) ≡ result r k
            by_tests true c z e x y =
                written_row r (length rs) (last (length rs) refl ∙ sym (same-number r j e)) (omega (arith, written_long)) k m then_marked
            by_tests false true z e x y =
                absurd (true≢false (sym (ap (λ (t : Bool). if t then true else if r == j then false else f r) x) ∙ then_basic))
            by_tests false false true e x y =
                let p = length (numbers r (changes f (rows_of g) i j)) in
                let here : p < length rs = place_within (changes f (rows_of g) i j) r n y inside in
                written_row r p (front p here ∙ number_at (changes f (rows_of g) i j) r n 0 y inside) (omega (arith, here, written_long)) k m then_marked
            by_tests false false false e x y =
                stayed r inside
                (sym (ap (λ (t : Bool). if t then true else if r == j then false else f r) x ∙ ap (λ (t : Bool). if t then false else f r) e) ∙ then_basic)
                (λ q. true≢false (sym (equal-number r i q) ∙ x))
                y k m then_marked

        pub is_exchanged : IsExchanged g new i j
        is_exchanged = record {
          count = ap length h.marks ∙ marks_long g.marks i j ready.inside ready.leaves ready.enters;
          nonbasic = λ k. ap (λ (x : ℕ → Bool). x k) marked_then;
          rows = found;
          zeros = λ r k b. no_coefficient (row_of new r) k b;
        }

        -- and there is room for the next
        pub room_stays : (columns written solved spare : ℕ) → n ≤ columns → n ≤ written → n ≤ solved → size_of n f ≤ spare → HasRoom new columns written solved spare
        room_stays c w s p x y z m = record {
          for_columns = omega (arith, is_exchanged.count, x);
          for_written = omega (arith, is_exchanged.count, y);
          for_solved = omega (arith, is_exchanged.count, z);
          for_block =
              subst (λ (l : List Bool). size_of (length l) (is_marked l) ≤ p) (sym h.marks)
              (subst (λ (t : ℕ). t ≤ p) (sym (size_stays g.marks i j ready.inside ready.leaves ready.enters)) m);
        }
