-- The sum that joins behind its units has the row that is computed, and leaves a tableau.
use Rattle.std.proofs.Common.{◌≡◌, ℕ, ◌+◌, ◌<◌, ◌≤◌, Bool, true, false, ◌⊎◌, inl, inr, List, [], ◌∷◌, ◌++◌, Err, None, length, pos, refl, sym, ap, ◌∙◌, subst, true≢false, arith}
use Rattle.std.specs.Prelude.{if◌then◌else◌}
use Rattle.std.specs.List.{AllByRecursion}
use Rattle.std.proofs.Math.Path.{fun_ext}
use Rattle.std.proofs.lemmas.List.{length-append, length-map, length_push, map_push}
use Rattle.nz_lists.proofs.Numbers.{below_or_past, same_or_below}
use Rattle.nz_fractions.specs.Fraction.{first_wide, whole, ◌=ℚ◌}
use Rattle.nz_fractions.proofs.Laws.{=ℚ-from_same, =ℚ_sym, =ℚ_trans}
use Rattle.nz_spec.specs.numbers.Computation.{Computation, and_then}
use Rattle.nz_spec.specs.terms.Form as spec
use Rattle.nz_spec.specs.terms.FormOf.{TermHasItsNumber, number_in}
use Rattle.nz_spec.specs.terms.Table.{IsTable, Node, term_in}
use Rattle.nz_spec.specs.simplex.Basis.{Coefficients, IsBasis, IsRow}
use Rattle.nz_spec.specs.simplex.BasisMoves.{AreRows, JoinsKeepBasis, Rows, joining_row, numbers, part_added, parts_added, plus_multiple}
use Rattle.nz_lin.specs.declared.form.Part.{Part}
use Rattle.nz_lin.specs.Forms.{AreUnits, NamesUnit, part_over, parts_over}
use Rattle.nz_tab.specs.Joins.{HasOwnRow, IsFormJoined, Joins, joining, number_by, with_nonbasic_units}
use Rattle.nz_tab.specs.Laws.{joined_to}
use Rattle.nz_term.specs.declared.stops.ArithmeticStop.{ArithmeticStop}
use Rattle.nz_term.specs.declared.stops.ArithmeticStop.TheVariants.{Memory, Wide}
use Rattle.nz_tab.specs.Rows.{Grid, is_nonbasic, row_of, rows_of}
use Rattle.nz_tab.specs.Sums.{IsSummed, IsWidened, SumJoins, all_added, one_added, sum_over}
use Rattle.nz_tab.specs.Tables.{HasRows, IsTableau, Table, forms_over}
use Rattle.nz_tab.specs.Units.{addends, new_units, with_units}
use Rattle.nz_tab.proofs.Blocks.{no_coefficient}
use Rattle.nz_tab.proofs.Joined.{back_all, front_all, nonbasic_then}
use Rattle.nz_tab.proofs.UnitNumbers.{HasNumber, all_within, are_numbered, has_its_units, number_is, number_of, units_numbered}
use Rattle.nz_tab.proofs.SameRow.{same_row}
use Rattle.nz_tab.proofs.JoinedUnits.{Holds, addends_numbered, numbered, units_join}

-- ---- The numbers of units, and the units themselves

module _ (ns : List Node) (number : (i : ℕ) → i < length ns → number_in ns (term_in ns i) ≡ i) (gs : List (List Part)) (ks : List ℕ) (f : ℕ → Bool) (rows later : Rows) (same : (m : ℕ) → m < length gs → f m ≡ false → later m ≡ rows m) where
  one_is_part : (c : Coefficients) (p : Part) → NamesUnit ns p → number_of ns number gs p < length gs
      → one_added ks f later c (number_of ns number gs p, p.coefficient) ≡ part_added ks f rows (number_by ns gs) c (part_over ns p)
  one_is_part c p names inside =
      by_test (number_of ns number gs p) inside (f (number_of ns number gs p)) refl ∙ ap (λ (k : ℕ). one_added ks f rows c (k, p.coefficient)) (sym (number_is ns number gs p names))
    where
      by_test : (m : ℕ) → m < length gs → (b : Bool) → f m ≡ b
          → (if b then one_added ks (λ (k : ℕ). true) rows c (m, p.coefficient) else plus_multiple ks c p.coefficient (later m))
          ≡ (if b then one_added ks (λ (k : ℕ). true) rows c (m, p.coefficient) else plus_multiple ks c p.coefficient (rows m))
      by_test m within true e = refl
      by_test m within false e = ap (plus_multiple ks c p.coefficient) (same m within e)

  pub all_are_parts : (ps : List Part) (c : Coefficients) → AllByRecursion (NamesUnit ns) ps → AllByRecursion (λ (p : Part). number_of ns number gs p < length gs) ps
      → all_added ks f later c (numbered gs ps) ≡ parts_added ks f rows (number_by ns gs) c (parts_over ns ps)
  all_are_parts [] c names inside = refl
  all_are_parts (p ∷ ps) c names inside =
      ap (λ (x : Computation Coefficients). and_then x (λ (d : Coefficients). all_added ks f later d (numbered gs ps))) (one_is_part c p names.0 inside.0)
      ∙ ap (λ (h : Coefficients → Computation Coefficients). and_then (part_added ks f rows (number_by ns gs) c (part_over ns p)) h) (fun_ext (λ d. all_are_parts ps d names.1 inside.1))

-- ---- A form that joins behind its units

module _ (forms : List (List Part)) (f : List Part) (old mid : Grid) (count : length old.marks ≡ length forms) (w : IsWidened old mid (length (new_units forms f))) where
  abbrev gs : List (List Part)
  gs = with_units forms f

  abbrev before : Table
  before = record { forms = forms; grid = old }

  pub units_long : length gs ≡ length old.marks + length (new_units forms f)
  units_long = length-append forms (new_units forms f) ∙ ap (λ (n : ℕ). n + length (new_units forms f)) (sym count)

  pub units_count : length mid.marks ≡ length gs
  units_count = w.count ∙ sym units_long

  pub units_nonbasic : (k : ℕ) → is_nonbasic mid k ≡ with_nonbasic_units before f k
  units_nonbasic k =
      nonbasic_then old mid (length (new_units forms f)) w k
      ∙ ap (λ (m : ℕ). joined_to (is_nonbasic old) (length old.marks) m k) (sym units_long)
      ∙ ap (λ (n : ℕ). joined_to (is_nonbasic old) n (length gs) k) count

  -- only the forms that were there are basic
  basic_rows : (m : ℕ) → m < length gs → is_nonbasic mid m ≡ false → rows_of mid m ≡ rows_of old m
  basic_rows m inside e = by_place (below_or_past m (length old.marks))
    where
      by_place : (m < length old.marks) ⊎ (length old.marks ≤ m) → rows_of mid m ≡ rows_of old m
      by_place (inl here) = w.rows m here
      by_place (inr far) = absurd (true≢false (sym (w.behind m far (omega (arith, inside, units_long))) ∙ e))

  pub form_joined : (new : Grid) → IsSummed mid new (addends forms (length forms) f) → IsFormJoined before (record { forms = gs ++ f ∷ []; grid = new }) f (length gs)
  form_joined new s = record {
    forms = refl;
    number = refl;
    nonbasic = λ k. s.nonbasic k ∙ units_nonbasic k;
    rows = λ r inside. s.rows r (omega (arith, w.count, count, inside)) ∙ w.rows r (omega (arith, count, inside));
  }

  module _ (ns : List Node) (number : (i : ℕ) → i < length ns → number_in ns (term_in ns i) ≡ i) (units : AreUnits ns f) where
    has : AllByRecursion (HasNumber gs) f
    has = units_numbered f forms units.in_order

    pub sum_is_joining : sum_over mid (addends forms (length forms) f) ≡ joining ns before f
    sum_is_joining =
        ap (sum_over mid) (addends_numbered f forms units.in_order)
        ∙ all_are_parts ns number gs (numbers (length mid.marks) (is_nonbasic mid)) (is_nonbasic mid) (rows_of old) (rows_of mid) basic_rows f (λ k. whole (pos 0)) units.names (all_within ns number gs f has)
        ∙ ap (λ (n : ℕ). joining_row n (is_nonbasic mid) (rows_of old) (number_by ns gs) (parts_over ns f)) units_count
        ∙ ap (λ (h : ℕ → Bool). joining_row (length gs) h (rows_of old) (number_by ns gs) (parts_over ns f)) (fun_ext units_nonbasic)

    module _ (new : Grid) (s : IsSummed mid new (addends forms (length forms) f)) where
      row_told : (k : ℕ) → is_nonbasic new k ≡ true → rows_of new (length gs) k ≡ (joining ns before f).result k
      row_told k e =
          ap (λ (v : ℕ). rows_of new v k) (sym units_count)
          ∙ s.row k e
          ∙ ap (λ (x : Computation Coefficients). x.result k) sum_is_joining

      module _ (law : JoinsKeepBasis) (names : AllByRecursion (AreUnits ns) forms) (rows : HasRows ns before) where
        abbrev fs : List (List spec.Part)
        fs = forms_over ns gs

        abbrev later : List (List spec.Part)
        later = fs ++ parts_over ns f ∷ []

        holds : Holds law ns number gs (joined_to (is_nonbasic old) (length forms) (length gs)) (rows_of old)
        holds = units_join law ns number f forms (is_nonbasic old) (rows_of old) units.names units.in_order (record { basis = rows.basis; are_rows = rows.rows; units = names })

        marks_are : joined_to (is_nonbasic old) (length forms) (length gs) ≡ is_nonbasic mid
        marks_are = fun_ext (λ k. sym (units_nonbasic k))

        basis : IsBasis fs (is_nonbasic mid)
        basis = subst (IsBasis fs) marks_are holds.basis

        wide_rows : AreRows fs (is_nonbasic mid) (rows_of old)
        wide_rows = subst (λ (h : ℕ → Bool). AreRows fs h (rows_of old)) marks_are holds.are_rows

        fs_long : length fs ≡ length mid.marks
        fs_long = length-map gs (parts_over ns) ∙ sym units_count

        -- the coefficients that are stored for the form have these values
        stored : (row : Coefficients) → ((k : ℕ) → is_nonbasic new k ≡ true → rows_of new (length mid.marks) k ≡ row k) → IsRow later (is_nonbasic mid) (length fs) row
            → (k : ℕ) → rows_of new (length mid.marks) k =ℚ row k
        stored row there is k = by_test (is_nonbasic new k) refl
          where
            by_test : (b : Bool) → is_nonbasic new k ≡ b → rows_of new (length mid.marks) k =ℚ row k
            by_test true e = =ℚ-from_same (there k e)
            by_test false e = =ℚ_trans (=ℚ-from_same (no_coefficient (row_of new (length mid.marks)) k e)) (=ℚ_sym (is.at_basic k (sym (s.nonbasic k) ∙ e)))

        own_row : IsRow later (is_nonbasic mid) (length fs) (rows_of new (length mid.marks))
        own_row =
            let row = (joining_row (length fs) (is_nonbasic mid) (rows_of old) (number_by ns gs) (parts_over ns f)).result in
            let is : IsRow later (is_nonbasic mid) (length fs) row =
            law.row fs (is_nonbasic mid) (rows_of old) (number_by ns gs) (parts_over ns f) basis wide_rows (are_numbered ns number gs f units.names has) in
            same_row later (is_nonbasic mid) (length fs) row (rows_of new (length mid.marks))
            (stored row
            (λ k e.
            s.row k e
            ∙ ap (λ (x : Computation Coefficients). x.result k) sum_is_joining
            ∙ ap (λ (h : ℕ → Bool). (joining_row (length gs) h (rows_of old) (number_by ns gs) (parts_over ns f)).result k) marks_are
            ∙ ap (λ (n : ℕ). (joining_row n (is_nonbasic mid) (rows_of old) (number_by ns gs) (parts_over ns f)).result k) (sym (length-map gs (parts_over ns))))
            is)
            is

        all_rows : AreRows later (is_nonbasic mid) (rows_of new)
        all_rows r inside e = by_place (same_or_below r (length fs) (omega (arith, inside, length_push fs (parts_over ns f))))
          where
            by_place : (r ≡ length fs) ⊎ (r < length fs) → IsRow later (is_nonbasic mid) r (rows_of new r)
            by_place (inl last) =
                subst (λ (m : ℕ). IsRow later (is_nonbasic mid) m (rows_of new m)) (sym last)
                (subst (λ (m : ℕ). IsRow later (is_nonbasic mid) (length fs) (rows_of new m)) (sym fs_long) own_row)
            by_place (inr here) =
                subst (IsRow later (is_nonbasic mid) r)
                (sym (basic_rows r (omega (arith, here, length-map gs (parts_over ns))) e) ∙ sym (s.rows r (omega (arith, here, fs_long))))
                (law.stays_by_form fs (is_nonbasic mid) (parts_over ns f) r (rows_of old r) basis here (wide_rows r here e))

        pub form_has_rows : HasRows ns (record { forms = gs ++ f ∷ []; grid = new })
        form_has_rows =
            let marks : is_nonbasic mid ≡ is_nonbasic new = fun_ext (λ k. sym (s.nonbasic k)) in
            let listed : later ≡ forms_over ns (gs ++ f ∷ []) = sym (map_push (parts_over ns) gs f) in
            record {
              basis =
                  subst (λ (l : List (List spec.Part)). IsBasis l (is_nonbasic new)) listed
                  (subst (IsBasis later) marks (law.form fs (is_nonbasic mid) (parts_over ns f) basis (has_its_units ns number gs f has)));
              rows =
                  subst (λ (l : List (List spec.Part)). AreRows l (is_nonbasic new) (rows_of new)) listed
                  (subst (λ (h : ℕ → Bool). AreRows later h (rows_of new)) marks all_rows);
            }

-- what a form leaves that joins behind its units
pub sum_tableau : JoinsKeepBasis → TermHasItsNumber → (forms : List (List Part)) (f : List Part) (old mid new : Grid) → length old.marks ≡ length forms → IsWidened old mid (length (new_units forms f))
    → IsSummed mid new (addends forms (length forms) f) → IsTableau (record { forms = forms; grid = old }) → IsTableau (record { forms = with_units forms f ++ f ∷ []; grid = new })
sum_tableau law numbers forms f old mid new count w s is ns table all =
    let units = front_all (AreUnits ns) (with_units forms f) (f ∷ []) all in
    let own = (back_all (AreUnits ns) (with_units forms f) (f ∷ []) all).0 in
    let before = front_all (AreUnits ns) forms (new_units forms f) units in
    form_has_rows forms f old mid count w ns (numbers ns table) own new s law before (is ns table before)

-- ---- What is told of it

module _ (law : TermHasItsNumber) (forms : List (List Part)) (f : List Part) (old : Grid) (count : length old.marks ≡ length forms) (ns : List Node) (table : IsTable ns) (units : AreUnits ns f) where
  abbrev start : Table
  start = record { forms = forms; grid = old }

  pub sum_joined : (mid new : Grid) → IsWidened old mid (length (new_units forms f)) → IsSummed mid new (addends forms (length forms) f) → first_wide (sum_over mid (addends forms (length forms) f)).operations ≡ None
      → HasOwnRow ns start (record { forms = with_units forms f ++ f ∷ []; grid = new }) f (length (with_units forms f))
  sum_joined mid new w s fits = record {
    row = row_told forms f old mid count w ns (law ns table) units new s;
    fits = ap (λ (x : Computation Coefficients). first_wide x.operations) (sym (sum_is_joining forms f old mid count w ns (law ns table) units)) ∙ fits;
  }

  pub sum_stopped : (X : Type 0) (new : Grid) (after : Table) (s : ArithmeticStop) → SumJoins {X = X} old new (length (new_units forms f)) (addends forms (length forms) f) (Err s) → Joins ns start after f (Err s)
  sum_stopped X new after Memory joined = _
  sum_stopped X new after (Wide x) joined =
      ap (λ (c : Computation Coefficients). first_wide c.operations) (sym (sum_is_joining forms f old joined.0 count joined.1 ns (law ns table) units)) ∙ joined.2
