-- What an exchange of rows comes to as a whole, and how large it is.
use Rattle.std.proofs.Common.{◌≡◌, ℕ, ◌+◌, ◌*◌, ◌<◌, ◌≤◌, Bool, true, false, ◌⊎◌, inl, inr, List, [], ◌∷◌, ◌++◌, length, map, flat_map, Some, None, refl, sym, ap, ◌∙◌, subst, true≢false, arith}
use Rattle.std.specs.Prelude.{◌==◌, ◌&&◌, All, if◌then◌else◌, not, set, ◌≢◌}
use Rattle.std.specs.List.{AllByRecursion}
use Rattle.std.proofs.Math.Path.{fun_ext}
use Rattle.std.proofs.lemmas.Bool.{and_parts}
use Rattle.std.proofs.lemmas.List.{get_or-set_other, get_or-set_same, length-set}
use Rattle.std.proofs.Math.Bool.{and-false, and-true}
use Rattle.nz_lists.proofs.Numbers.{equal-number, other-number, same-number}
use Rattle.nz_fractions.specs.Fraction.{Fraction, Operation, first_wide}
use Rattle.nz_spec.specs.simplex.Basis.{Coefficients}
use Rattle.nz_spec.specs.simplex.BasisMoves.{Rows, exchange, exchanged, numbers, replaced, solved}
use Rattle.nz_spec.specs.terms.Term.{is_zero}
use Rattle.nz_tab.specs.Comes.{IsDone}
use Rattle.nz_tab.specs.Exchanges.{changed_rows, changes, places_exchanged, solved_row}
use Rattle.nz_tab.specs.Rows.{HaveSlots, IsGrid, basic, is_marked, place_in, size_of}
use Rattle.nz_tab.proofs.Blocks.{marked_within, marks_exchanged}
use Rattle.nz_tab.proofs.ColumnExchange.{changed_operations, entering, solved_operations, solved_same, without_enters, written_rows}
use Rattle.nz_fractions.proofs.FirstOperations.{first_wide-none, first_wide-some}
use Rattle.nz_tab.proofs.Numbers.{count_both, count_fewer, count_more}

-- ---- Sizes

module _ (f : ℕ → Bool) (i j : ℕ) (leaves : f i ≡ false) (enters : f j ≡ true) where
  pub apart : j ≢ i
  apart e = true≢false (sym enters ∙ ap f e ∙ leaves)

  -- neither of the two
  abbrev neither : ℕ → Bool
  neither k = if k == j then false else f k

  neither_enters : neither j ≡ false
  neither_enters = ap (λ (b : Bool). if b then false else f j) (equal-number j j refl)

  neither_leaves : neither i ≡ false
  neither_leaves = ap (λ (b : Bool). if b then false else f i) (other-number i j (λ e. apart (sym e))) ∙ leaves

  leaves_after : exchanged f i j i ≡ true
  leaves_after = ap (λ (b : Bool). if b then true else if i == j then false else f i) (equal-number i i refl)

  pub count_exchanged : (n : ℕ) → i < n → j < n → length (numbers n (exchanged f i j)) ≡ length (numbers n f)
  count_exchanged n inside within =
      count_more neither (exchanged f i j) i neither_leaves leaves_after
      (λ k e. ap (λ (b : Bool). if b then true else if k == j then false else f k) (sym (other-number k i e))) n inside
      ∙ sym (count_more neither f j neither_enters enters (λ k e. ap (λ (b : Bool). if b then false else f k) (other-number k j e)) n within)

  pub count_rows : (n : ℕ) → i < n → j < n → length (numbers n (basic (exchanged f i j))) ≡ length (numbers n (basic f))
  count_rows n inside within = omega (arith, count_exchanged n inside within, count_both f n, count_both (exchanged f i j) n)

  pub size_exchanged : (n : ℕ) → i < n → j < n → size_of n (exchanged f i j) ≡ size_of n f
  size_exchanged n inside within =
      ap (λ (m : ℕ). m * length (numbers n (exchanged f i j))) (count_rows n inside within)
      ∙ ap (λ (m : ℕ). length (numbers n (basic f)) * m) (count_exchanged n inside within)

  -- ---- The whole exchange

  module _ (rows : Rows) (n : ℕ) (row : List Fraction) where
    pub solved_list : IsDone (solved_row (numbers n (exchanged f i j)) i j (rows i)) row → row ≡ map (entering f i j (rows i) leaves enters n) (numbers n (exchanged f i j))
    solved_list h = h.result ∙ solved_same f i j (rows i) leaves enters n

    -- the operations of the definition: those of the form that enters, and then those of each other row
    abbrev first_operations : List Operation
    first_operations = (solved (numbers n (λ k. f k && not (k == j))) i j (rows i)).operations

    abbrev later_operations : List Operation
    later_operations =
        flat_map (λ r. (replaced (numbers n (exchanged f i j)) j (entering f i j (rows i) leaves enters n) (rows r)).operations)
        (numbers n (λ r. not (f r) && not (r == i)))

    -- the coefficients of the form that enters, and the rows that change by them
    abbrev pub q : Coefficients
    q = entering f i j (rows i) leaves enters n

    abbrev pub ks : List ℕ
    ks = numbers n (exchanged f i j)

    abbrev pub rs : List ℕ
    rs = numbers n (changes f rows i j)

    without : AllByRecursion (λ k. k ≢ j) ks
    without = without_enters f i j apart n

    solved_fits : IsDone (solved_row ks i j (rows i)) row → first_wide (exchange n f rows i j).operations ≡ first_wide (changed_rows rows rs ks j q).operations
    solved_fits h =
        first_wide-none first_operations later_operations (ap first_wide (sym (solved_operations f i j (rows i) leaves enters n)) ∙ h.fits)
        ∙ ap first_wide (sym (changed_operations f rows ks i j q without enters n))

    pub exchange_stops_first : (w : Operation) → first_wide (solved_row ks i j (rows i)).operations ≡ Some w → first_wide (exchange n f rows i j).operations ≡ Some w
    exchange_stops_first w stop = first_wide-some first_operations later_operations w (ap first_wide (sym (solved_operations f i j (rows i) leaves enters n)) ∙ stop)

    pub exchange_stops_later : IsDone (solved_row ks i j (rows i)) row → (w : Operation) → first_wide (changed_rows rows rs ks j q).operations ≡ Some w → first_wide (exchange n f rows i j).operations ≡ Some w
    exchange_stops_later h w stop = solved_fits h ∙ stop

    pub exchange_fits : IsDone (solved_row ks i j (rows i)) row → (block : List Fraction) → IsDone (changed_rows rows rs ks j q) block → first_wide (exchange n f rows i j).operations ≡ None
    exchange_fits h block d = solved_fits h ∙ d.fits

    pub exchange_block : IsDone (solved_row ks i j (rows i)) row → (block : List Fraction) → IsDone (changed_rows rows rs ks j q) block
        → block ++ row ≡ flat_map (λ r. map ((exchange n f rows i j).result r) ks) (rs ++ j ∷ [])
    exchange_block h block d = written_rows f rows ks i j q without enters n block row d.result (solved_list h)

  -- ---- How many rows are written

  -- the form that leaves has none of them
  pub count_written : (rows : Rows) (n : ℕ) → i < n → length (numbers n (changes f rows i j)) + 1 ≤ length (numbers n (basic f))
  count_written rows n inside =
      let others : ℕ → Bool = λ k. not (f k) && not (k == i) in
      let fewer = count_fewer (changes f rows i j) others (λ k e. (and_parts (others k) (not (is_zero (rows k j))) e).0) n in
      let more =
      count_more others (basic f) i
      (ap (λ (b : Bool). not (f i) && not b) (equal-number i i refl) ∙ and-false (not (f i)))
      (ap not leaves)
      (λ k e. ap (λ (b : Bool). not (f k) && not b) (other-number k i e) ∙ and-true (not (f k)))
      n inside in
      omega (arith, fewer, more)

-- ---- Marks that are exchanged

module _ (marks : List Bool) (i j : ℕ) (inside : i < length marks) (leaves : is_marked marks i ≡ false) (enters : is_marked marks j ≡ true) where
  abbrev pub marks_after : List Bool
  marks_after = set (set marks i true) j false

  pub marks_long : length marks_after ≡ length marks
  marks_long = length-set (set marks i true) j false ∙ length-set marks i true

  pub marks_are : is_marked marks_after ≡ exchanged (is_marked marks) i j
  marks_are = fun_ext (λ k. marks_exchanged marks i j k inside (marked_within marks j enters) (apart (is_marked marks) i j leaves enters))

  -- as many columns, and as large a block
  pub width_stays : length (numbers (length marks_after) (is_marked marks_after)) ≡ length (numbers (length marks) (is_marked marks))
  width_stays =
      ap (λ (f : ℕ → Bool). length (numbers (length marks_after) f)) marks_are
      ∙ ap (λ (n : ℕ). length (numbers n (exchanged (is_marked marks) i j))) marks_long
      ∙ count_exchanged (is_marked marks) i j leaves enters (length marks) inside (marked_within marks j enters)

  pub size_stays : size_of (length marks_after) (is_marked marks_after) ≡ size_of (length marks) (is_marked marks)
  size_stays =
      ap (λ (f : ℕ → Bool). size_of (length marks_after) f) marks_are
      ∙ ap (λ (n : ℕ). size_of n (exchanged (is_marked marks) i j)) marks_long
      ∙ size_exchanged (is_marked marks) i j leaves enters (length marks) inside (marked_within marks j enters)

  -- ---- Slots that are exchanged

  -- whose slot a form has then
  abbrev pub partner : ℕ → ℕ
  partner k = if k == i then j else if k == j then i else k

  which : (k : ℕ) → (k ≡ i) ⊎ ((k ≡ j) ⊎ ((k ≢ i) × (k ≢ j)))
  which k = by_tests (k == i) (k == j) refl refl
    where
      by_tests : (b c : Bool) → (k == i) ≡ b → (k == j) ≡ c → (k ≡ i) ⊎ ((k ≡ j) ⊎ ((k ≢ i) × (k ≢ j)))
      by_tests true c e g = inl (same-number k i e)
      by_tests false true e g = inr (inl (same-number k j g))
      by_tests false false e g = inr (inr ((λ h. true≢false (sym (equal-number k i h) ∙ e)), (λ h. true≢false (sym (equal-number k j h) ∙ g))))

  other : j ≢ i
  other = apart (is_marked marks) i j leaves enters

  partner_leaves : (k : ℕ) → k ≡ i → partner k ≡ j
  partner_leaves k e = ap (λ (b : Bool). if b then j else if k == j then i else k) (equal-number k i e)

  partner_enters : (k : ℕ) → k ≡ j → partner k ≡ i
  partner_enters k e =
      ap (λ (b : Bool). if b then j else if k == j then i else k) (other-number k i (λ h. other (sym e ∙ h)))
      ∙ ap (λ (b : Bool). if b then i else k) (equal-number k j e)

  partner_itself : (k : ℕ) → k ≢ i → k ≢ j → partner k ≡ k
  partner_itself k e h =
      ap (λ (b : Bool). if b then j else if k == j then i else k) (other-number k i e)
      ∙ ap (λ (b : Bool). if b then i else k) (other-number k j h)

  partner_back : (k : ℕ) → partner (partner k) ≡ k
  partner_back k = by_place (which k)
    where
      by_place : (k ≡ i) ⊎ ((k ≡ j) ⊎ ((k ≢ i) × (k ≢ j))) → partner (partner k) ≡ k
      by_place (inl e) = partner_enters (partner k) (partner_leaves k e) ∙ sym e
      by_place (inr (inl e)) = partner_leaves (partner k) (partner_enters k e) ∙ sym e
      by_place (inr (inr e)) = ap partner (partner_itself k e.0 e.1) ∙ partner_itself k e.0 e.1

  partner_one : (k m : ℕ) → partner k ≡ partner m → k ≡ m
  partner_one k m e = sym (partner_back k) ∙ ap partner e ∙ partner_back m

  partner_within : (k : ℕ) → k < length marks → partner k < length marks
  partner_within k within = by_place (which k)
    where
      by_place : (k ≡ i) ⊎ ((k ≡ j) ⊎ ((k ≢ i) × (k ≢ j))) → partner k < length marks
      by_place (inl e) = omega (arith, partner_leaves k e, marked_within marks j enters)
      by_place (inr (inl e)) = omega (arith, partner_enters k e, inside)
      by_place (inr (inr e)) = omega (arith, partner_itself k e.0 e.1, within)

  -- it is of the kind that the other was
  partner_kind : (k : ℕ) → exchanged (is_marked marks) i j k ≡ is_marked marks (partner k)
  partner_kind k = by_place (which k)
    where
      by_place : (k ≡ i) ⊎ ((k ≡ j) ⊎ ((k ≢ i) × (k ≢ j))) → exchanged (is_marked marks) i j k ≡ is_marked marks (partner k)
      by_place (inl e) =
          ap (λ (b : Bool). if b then true else if k == j then false else is_marked marks k) (equal-number k i e)
          ∙ sym (ap (is_marked marks) (partner_leaves k e) ∙ enters)
      by_place (inr (inl e)) =
          ap (λ (b : Bool). if b then true else if k == j then false else is_marked marks k) (other-number k i (λ h. other (sym e ∙ h)))
          ∙ ap (λ (b : Bool). if b then false else is_marked marks k) (equal-number k j e)
          ∙ sym (ap (is_marked marks) (partner_enters k e) ∙ leaves)
      by_place (inr (inr e)) =
          ap (λ (b : Bool). if b then true else if k == j then false else is_marked marks k) (other-number k i e.0)
          ∙ ap (λ (b : Bool). if b then false else is_marked marks k) (other-number k j e.1)
          ∙ sym (ap (is_marked marks) (partner_itself k e.0 e.1))

  module _ (places : List ℕ) (placed : length places ≡ length marks) where
    abbrev pub places_after : List ℕ
    places_after = places_exchanged places i j

    pub places_long : length places_after ≡ length marks
    places_long = length-set (set places i (place_in places j)) j (place_in places i) ∙ length-set places i (place_in places j) ∙ placed

    pub place_of_leaves : place_in places_after i ≡ place_in places j
    place_of_leaves =
        get_or-set_other (set places i (place_in places j)) j i (place_in places i) 0 (λ h. other (sym h))
        ∙ get_or-set_same places i (place_in places j) 0 (omega (arith, placed, inside))

    place_of_enters : place_in places_after j ≡ place_in places i
    place_of_enters =
        get_or-set_same (set places i (place_in places j)) j (place_in places i) 0
        (omega (arith, length-set places i (place_in places j), placed, marked_within marks j enters))

    pub place_of_others : (k : ℕ) → k ≢ i → k ≢ j → place_in places_after k ≡ place_in places k
    place_of_others k e h =
        get_or-set_other (set places i (place_in places j)) j k (place_in places i) 0 h
        ∙ get_or-set_other places i k (place_in places j) 0 e

    place_then : (k : ℕ) → place_in places_after k ≡ place_in places (partner k)
    place_then k = by_place (which k)
      where
        by_place : (k ≡ i) ⊎ ((k ≡ j) ⊎ ((k ≢ i) × (k ≢ j))) → place_in places_after k ≡ place_in places (partner k)
        by_place (inl e) = ap (place_in places_after) e ∙ place_of_leaves ∙ ap (place_in places) (sym (partner_leaves k e))
        by_place (inr (inl e)) = ap (place_in places_after) e ∙ place_of_enters ∙ ap (place_in places) (sym (partner_enters k e))
        by_place (inr (inr e)) = place_of_others k e.0 e.1 ∙ ap (place_in places) (sym (partner_itself k e.0 e.1))

    slots_then : (test now : ℕ → Bool) (bound : ℕ) → ((k : ℕ) → now k ≡ test (partner k)) → HaveSlots places (length marks) test bound → HaveSlots places_after (length marks) now bound
    slots_then test now bound kind slots = record {
      within = λ k inside pass.
          subst (λ (s : ℕ). s < bound) (sym (place_then k)) (slots.within (partner k) (partner_within k inside) (sym (kind k) ∙ pass));
      apart = λ k m inside within pass also same.
          partner_one k m
          (slots.apart (partner k) (partner m) (partner_within k inside) (partner_within m within) (sym (kind k) ∙ pass) (sym (kind m) ∙ also)
          (sym (place_then k) ∙ same ∙ place_then m));
    }

    -- columns and rows then
    pub columns_then : (width : ℕ) → HaveSlots places (length marks) (is_marked marks) width → HaveSlots places_after (length marks) (exchanged (is_marked marks) i j) width
    columns_then width slots = slots_then (is_marked marks) (exchanged (is_marked marks) i j) width partner_kind slots

    pub basics_then : (count : ℕ) → HaveSlots places (length marks) (basic (is_marked marks)) count → HaveSlots places_after (length marks) (basic (exchanged (is_marked marks) i j)) count
    basics_then count slots = slots_then (basic (is_marked marks)) (basic (exchanged (is_marked marks) i j)) count (λ k. ap not (partner_kind k)) slots

    -- all is stored as it was, with rows that are as long
    pub grid_then : (width : ℕ) (rows later : List (List Fraction)) → IsGrid marks places width rows → length later ≡ length rows → All (λ (row : List Fraction). length row ≡ width) later → IsGrid marks_after places_after width later
    grid_then width rows later g count full = record {
      placed = places_long ∙ sym marks_long;
      wide = g.wide ∙ sym width_stays;
      columns =
          subst (λ (n : ℕ). HaveSlots places_after n (is_marked marks_after) width) (sym marks_long)
          (subst (λ (h : ℕ → Bool). HaveSlots places_after (length marks) h width) (sym marks_are) (columns_then width g.columns));
      basics =
          subst (λ (n : ℕ). HaveSlots places_after n (basic (is_marked marks_after)) (length later)) (sym marks_long)
          (subst (λ (h : ℕ → Bool). HaveSlots places_after (length marks) (basic h) (length later)) (sym marks_are)
          (subst (λ (m : ℕ). HaveSlots places_after (length marks) (basic (exchanged (is_marked marks) i j)) m) (sym count) (basics_then (length rows) g.basics)));
      full = full;
    }
