-- The point of a simplex, its rows, and the value of a form from its row.
use Rattle.std.proofs.Common.{◌≡◌, ℕ, zero, suc, ◌<◌, ◌≤◌, ◌⊎◌, inl, inr, Bool, true, false, true≢false, List, [], ◌∷◌, ◌++◌, length, map, Option, Some, None, refl, sym, ap, ◌∙◌, subst, arith}
use Rattle.std.specs.Prelude.{All, IsSome, is_some, option_map, unwrap_or, slice_index_or, if◌then◌else◌}
use Rattle.std.specs.List.{AllByRecursion}
use Rattle.std.proofs.lemmas.List.{length-map, length_push}
use Rattle.std.proofs.lemmas.List.Elements.{All-from_recursion}
use Rattle.nz_lists.proofs.Places.{slice_index_or-map}
use Rattle.nz_lists.proofs.Numbers.{same_or_below}
use Rattle.nz_fractions.specs.Fraction.{Fraction, IsNumber, Operation, first_wide}
use Rattle.nz_spec.specs.numbers.Infinitesimal.{Infinitesimal, ◌=δ◌}
use Rattle.nz_spec.specs.simplex.Basis.{Coefficients, IsRow}
use Rattle.nz_spec.specs.simplex.BasisMoves.{AreRows, numbers}
use Rattle.nz_spec.specs.simplex.Bland as bland
use Rattle.nz_spec.specs.simplex.Bland.{is_nonbasic, value_onto, row_value, zero_infinitesimal, times, plus, sum_at, HasValue, ValueIsComputed}
use Rattle.nz_spec.specs.terms.Table.{Node}
use Rattle.nz_lin.specs.Forms.{parts_over}
use Rattle.nz_tab.specs.Tables.{Table, IsTableau}
use Rattle.nz_trail.specs.Bounds.{TrailState}
use Rattle.nz_frac.specs.Operations.{operation_of}
use Rattle.nz_frac.specs.declared.frac.Wide.{Wide}
use Rattle.nz_place.specs.declared.place.Site.TheVariants as sites
use Rattle.nz_simplex.specs.Checks.{IsPlace}
use Rattle.nz_simplex.specs.Choices.{numbers_in}
use Rattle.nz_simplex.specs.State.{State, nonbasic_in, value_in, point_in, IsOver, IsSound, position_over}
use Rattle.nz_simplex.specs.Stored.{state_of, nonbasic_numbers}
use Rattle.nz_simplex.specs.Tabled.{rows_in}

-- ---- Numbers

pub numbers_same : (n : ℕ) (f g : ℕ → Bool) → ((k : ℕ) → f k ≡ g k) → numbers n f ≡ numbers n g
numbers_same zero f g h = refl
numbers_same (suc n) f g h =
    ap (λ (b : Bool). if b then numbers n f ++ n ∷ [] else numbers n f) (h n)
    ∙ ap (λ (ks : List ℕ). if g n then ks ++ n ∷ [] else ks) (numbers_same n f g h)

append_all : (P : ℕ → Type 0) (ks : List ℕ) (n : ℕ) → AllByRecursion P ks → P n → AllByRecursion P (ks ++ n ∷ [])
append_all P [] n h p = (p, tt)
append_all P (k ∷ ks) n h p = (h.0, append_all P ks n h.1 p)

pub all_weaker : (P Q : ℕ → Type 0) (ks : List ℕ) → ((k : ℕ) → P k → Q k) → AllByRecursion P ks → AllByRecursion Q ks
all_weaker P Q [] h all = tt
all_weaker P Q (k ∷ ks) h all = (h k all.0, all_weaker P Q ks h all.1)

-- each of the numbers is below the bound
pub numbers_below : (n : ℕ) (f : ℕ → Bool) → AllByRecursion (λ k. k < n) (numbers n f)
numbers_below zero f = tt
numbers_below (suc n) f = by_test (f n) (all_weaker (λ k. k < n) (λ k. k < suc n) (numbers n f) (λ k h. omega (arith, h)) (numbers_below n f))
  where
    by_test : (b : Bool) → AllByRecursion (λ k. k < suc n) (numbers n f) → AllByRecursion (λ k. k < suc n) (if b then numbers n f ++ n ∷ [] else numbers n f)
    by_test true h = append_all (λ k. k < suc n) (numbers n f) n h (omega arith)
    by_test false h = h

-- each of the numbers passes the test
pub numbers_pass : (n : ℕ) (f : ℕ → Bool) → AllByRecursion (λ k. f k ≡ true) (numbers n f)
numbers_pass zero f = tt
numbers_pass (suc n) f = by_test (f n) refl (numbers_pass n f)
  where
    by_test : (b : Bool) → f n ≡ b → AllByRecursion (λ k. f k ≡ true) (numbers n f) → AllByRecursion (λ k. f k ≡ true) (if b then numbers n f ++ n ∷ [] else numbers n f)
    by_test true e h = append_all (λ k. f k ≡ true) (numbers n f) n h e
    by_test false e h = h

-- so they are below any greater bound
pub all_below : (n m : ℕ) (f : ℕ → Bool) → n ≤ m → All (λ k. k < m) (numbers n f)
all_below n m f h =
    All-from_recursion (λ k. k < m) (numbers n f) (all_weaker (λ k. k < n) (λ k. k < m) (numbers n f) (λ k below. omega (arith, h, below)) (numbers_below n f))

-- where one of the numbers fails, there are fewer
count_at_most : (n : ℕ) (f : ℕ → Bool) → length (numbers n f) ≤ n
count_at_most zero f = omega arith
count_at_most (suc n) f = by_test (f n) (count_at_most n f)
  where
    by_test : (b : Bool) → length (numbers n f) ≤ n → length (if b then numbers n f ++ n ∷ [] else numbers n f) ≤ suc n
    by_test true h = omega (arith, h, length_push (numbers n f) n)
    by_test false h = omega (arith, h)

pub count_below : (n : ℕ) (f : ℕ → Bool) (i : ℕ) → i < n → f i ≡ false → length (numbers n f) < n
count_below zero f i h e = absurd (omega (arith, h))
count_below (suc n) f i h e = by_test (f n) refl (same_or_below i n h) (λ below. count_below n f i below e)
  where
    by_test : (b : Bool) → f n ≡ b → (i ≡ n) ⊎ (i < n) → (i < n → length (numbers n f) < n) → length (if b then numbers n f ++ n ∷ [] else numbers n f) < suc n
    by_test true g (inl same) rest = absurd (true≢false (sym g ∙ ap f (sym same) ∙ e))
    by_test true g (inr below) rest = let fewer = rest below in omega (arith, fewer, length_push (numbers n f) n)
    by_test false g place rest = let fewer = count_at_most n f in omega (arith, fewer)

-- only the values of the listed forms count
pub onto_same : (c : Coefficients) (x y : ℕ → Infinitesimal) (t : Infinitesimal) (ks : List ℕ) → AllByRecursion (λ k. x k ≡ y k) ks
    → ((value_onto c x t ks).result ≡ (value_onto c y t ks).result) × ((value_onto c x t ks).operations ≡ (value_onto c y t ks).operations)
onto_same c x y t [] h = (refl, refl)
onto_same c x y t (k ∷ ks) h =
    let next : Infinitesimal → Infinitesimal = λ v. (plus t (times v (c k)).result).result in
    let rest = onto_same c x y (next (x k)) ks h.1 in (
      rest.0 ∙ ap (λ (v : Infinitesimal). (value_onto c y (next v) ks).result) h.0,
      ap (λ (os : List Operation). (times (x k) (c k)).operations ++ ((plus t (times (x k) (c k)).result).operations ++ os)) rest.1
          ∙ ap (λ (v : Infinitesimal). (times v (c k)).operations ++ ((plus t (times v (c k)).result).operations ++ (value_onto c y (next v) ks).operations)) h.0,
    )

-- ---- The point

-- each nonbasic form has a value
abbrev pub AreKnown : State → Type 0
AreKnown s = (k : ℕ) → nonbasic_in s k ≡ true → IsSome (value_in s k)

-- the forms with a value at the point are the nonbasic ones
pub known_marks : (s : State) → AreKnown s → (k : ℕ) → is_nonbasic (point_in s) k ≡ nonbasic_in s k
known_marks s known k = by_test (nonbasic_in s k) refl
  where
    by_test : (b : Bool) → nonbasic_in s k ≡ b → is_some (if b then value_in s k else None) ≡ b
    by_test true e = known k e
    by_test false e = refl

module _ (s : State) (sound : IsSound s) where
  pub point_marks : (k : ℕ) → is_nonbasic (point_in s) k ≡ nonbasic_in s k
  point_marks k = known_marks s sound.known k

  pub point_value : (k : ℕ) → nonbasic_in s k ≡ true → bland.value_in (point_in s) k ≡ unwrap_or (value_in s k) zero_infinitesimal
  point_value k e = ap (λ (b : Bool). unwrap_or (if b then value_in s k else None) zero_infinitesimal) e

-- a value that is shown is stored
some_back : {S : Type 0} (stands_for : S → Infinitesimal) (o : Option S) → IsSome (option_map stands_for o) → IsSome o
some_back stands_for None h = h
some_back stands_for (Some v) h = refl

pub some_at : {S : Type 0} (stands_for : S → Infinitesimal) (values : List (Option S)) (k : ℕ) → IsSome (slice_index_or (map (option_map stands_for) values) k None) → IsSome (slice_index_or values k None)
some_at stands_for values k h =
    some_back stands_for (slice_index_or values k None) (subst (λ (o : Option Infinitesimal). IsSome o) (slice_index_or-map (option_map stands_for) values k None) h)

-- ---- Rows

module _ {S : Type 0} (stands_for : S → Infinitesimal) (tab : Table) (trail : TrailState S) (values : List (Option S)) (why : List (ℕ × Fraction)) where
  abbrev seen : State
  seen = state_of stands_for tab trail values why

  pub known_row : AreKnown seen → IsTableau tab → (ns : List Node) → IsOver ns seen → (i : ℕ) → i < length tab.forms → nonbasic_in seen i ≡ false
      → IsRow (position_over ns seen).forms (is_nonbasic (position_over ns seen).point) i (rows_in tab i)
  known_row known tableau ns over i inside basic =
      let rows = (tableau ns over.table over.units).rows i (subst (λ (n : ℕ). i < n) (sym (length-map tab.forms (parts_over ns))) inside) basic in
      record {
        at_basic = λ k e. rows.at_basic k (sym (known_marks seen known k) ∙ e);
        equal = rows.equal;
      }

module _ {S : Type 0} (stands_for : S → Infinitesimal) (tab : Table) (trail : TrailState S) (values : List (Option S)) (why : List (ℕ × Fraction)) (sound : IsSound (state_of stands_for tab trail values why)) where
  abbrev here : State
  here = state_of stands_for tab trail values why

  pub row_told : IsTableau tab → (ns : List Node) → IsOver ns here → (i : ℕ) → i < length tab.forms → nonbasic_in here i ≡ false
      → IsRow (position_over ns here).forms (is_nonbasic (position_over ns here).point) i (rows_in tab i)
  row_told = known_row stands_for tab trail values why sound.known

  pub numbers_at : (k : ℕ) → nonbasic_in here k ≡ true → numbers_in stands_for values k ≡ bland.value_in (point_in here) k
  numbers_at k e =
      ap (λ (o : Option Infinitesimal). unwrap_or o zero_infinitesimal) (sym (slice_index_or-map (option_map stands_for) values k None))
      ∙ sym (point_value here sound k e)

  all_numbers : (ks : List ℕ) → AllByRecursion (λ k. nonbasic_in here k ≡ true) ks → AllByRecursion (λ k. numbers_in stands_for values k ≡ bland.value_in (point_in here) k) ks
  all_numbers [] h = tt
  all_numbers (k ∷ ks) h = (numbers_at k h.0, all_numbers ks h.1)

  -- what is computed over the listed forms is the value of the definitions
  module _ (c : Coefficients) where
    both : ((value_onto c (numbers_in stands_for values) zero_infinitesimal (nonbasic_numbers here)).result ≡ (value_onto c (bland.value_in (point_in here)) zero_infinitesimal (nonbasic_numbers here)).result)
        × ((value_onto c (numbers_in stands_for values) zero_infinitesimal (nonbasic_numbers here)).operations ≡ (value_onto c (bland.value_in (point_in here)) zero_infinitesimal (nonbasic_numbers here)).operations)
    both = onto_same c (numbers_in stands_for values) (bland.value_in (point_in here)) zero_infinitesimal (nonbasic_numbers here)
        (all_numbers (nonbasic_numbers here) (numbers_pass (length tab.forms) (nonbasic_in here)))

    listed : nonbasic_numbers here ≡ numbers (length tab.forms) (is_nonbasic (point_in here))
    listed = numbers_same (length tab.forms) (nonbasic_in here) (is_nonbasic (point_in here)) (λ k. sym (point_marks here sound k))

    pub computed_result : (value_onto c (numbers_in stands_for values) zero_infinitesimal (nonbasic_numbers here)).result ≡ (row_value (length tab.forms) c (point_in here)).result
    computed_result = both.0 ∙ ap (λ (ks : List ℕ). (value_onto c (bland.value_in (point_in here)) zero_infinitesimal ks).result) listed

    pub computed_operations : (value_onto c (numbers_in stands_for values) zero_infinitesimal (nonbasic_numbers here)).operations ≡ (row_value (length tab.forms) c (point_in here)).operations
    computed_operations = both.1 ∙ ap (λ (ks : List ℕ). (value_onto c (bland.value_in (point_in here)) zero_infinitesimal ks).operations) listed

  -- the value of a basic form from its row
  pub computed_value : ValueIsComputed → IsTableau tab → (ns : List Node) → IsOver ns here → (i : ℕ) → i < length tab.forms → nonbasic_in here i ≡ false → (x : Infinitesimal)
      → x ≡ (value_onto (rows_in tab i) (numbers_in stands_for values) zero_infinitesimal (nonbasic_numbers here)).result → HasValue (position_over ns here) i x
  computed_value law tableau ns over i inside basic x e =
      let is_row = row_told tableau ns over i inside basic in
      let c = rows_in tab i in
      let sum : (row_value (length tab.forms) c (point_in here)).result =δ sum_at (length tab.forms) c (bland.value_in (point_in here)) = law (length tab.forms) c (point_in here) is_row.at_basic in
      record {
        row = c;
        is_row = is_row;
        at =
            subst (λ (n : ℕ). x =δ sum_at n c (bland.value_in (point_in here))) (sym (length-map tab.forms (parts_over ns)))
            (subst (λ (y : Infinitesimal). y =δ sum_at (length tab.forms) c (bland.value_in (point_in here))) (sym (e ∙ computed_result c)) sum);
      }

  pub rows_told : IsTableau tab → (ns : List Node) → IsOver ns here → AreRows (position_over ns here).forms (is_nonbasic (position_over ns here).point) (rows_in tab)
  rows_told tableau ns over r inside basic =
      row_told tableau ns over r (subst (λ (n : ℕ). r < n) (length-map tab.forms (parts_over ns)) inside) (sym (point_marks here sound r) ∙ basic)

  -- the operation at which the value of a basic form stops has its place
  pub point_place : IsTableau tab → (ns : List Node) → IsOver ns here → (i : ℕ) → i < length tab.forms → nonbasic_in here i ≡ false → value_in here i ≡ None → (w : Wide)
      → first_wide (value_onto (rows_in tab i) (numbers_in stands_for values) zero_infinitesimal (nonbasic_numbers here)).operations ≡ Some (operation_of w)
      → IsNumber w.a → IsNumber w.b → IsPlace ns here (record { wide = w; site = sites.Value i })
  point_place tableau ns over i inside basic unknown w e left right = record {
    site = (inside, basic, unknown);
    left = left;
    right = right;
    rows = rows_in tab;
    are_rows = rows_told tableau ns over;
    first = ap first_wide (sym (computed_operations (rows_in tab i))) ∙ e;
  }

  -- the nonbasic forms are listed, and their values known
  pub all_listed : All (λ k. k < length values) (nonbasic_numbers here)
  all_listed =
      All-from_recursion (λ k. k < length values) (nonbasic_numbers here)
      (subst (λ (n : ℕ). AllByRecursion (λ k. k < n) (nonbasic_numbers here)) (sym sound.valued ∙ length-map values (option_map stands_for)) (numbers_below (length tab.forms) (nonbasic_in here)))

  pub all_known : All (λ k. IsSome (slice_index_or values k None)) (nonbasic_numbers here)
  all_known =
      All-from_recursion (λ k. IsSome (slice_index_or values k None)) (nonbasic_numbers here)
      (all_weaker (λ k. nonbasic_in here k ≡ true) (λ k. IsSome (slice_index_or values k None)) (nonbasic_numbers here)
      (λ k e. some_at stands_for values k (sound.known k e))
      (numbers_pass (length tab.forms) (nonbasic_in here)))
