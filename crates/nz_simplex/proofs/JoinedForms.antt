-- Forms that join: units at 0, and a sum whose value isn't known yet. Nothing else changes.
use Rattle.std.proofs.Common.{◌≡◌, ℕ, ◌<◌, ◌≤◌, ◌⊎◌, inl, inr, Bool, true, false, List, [], ◌∷◌, ◌++◌, length, take, Option, Some, None, refl, sym, ap, ◌∙◌, subst, arith, append_assoc, length-append}
use Rattle.std.specs.Prelude.{IsSome, nat_lt, is_some, option_map, slice_index_or, unwrap_or, if◌then◌else◌}
use Rattle.std.specs.List.{AllByRecursion}
use Rattle.std.proofs.Math.Path.{fun_ext}
use Rattle.std.proofs.lemmas.List.{get_or-take, get_or_past, length-map}
use Rattle.nz_lists.proofs.Numbers.{below, below_or_past, not_below}
use Rattle.nz_lists.proofs.Places.{slice_index_or-map}
use Rattle.nz_fractions.specs.Fraction.{Fraction}
use Rattle.nz_spec.specs.numbers.Infinitesimal.{Infinitesimal, ◌=δ◌}
use Rattle.nz_spec.specs.laws.InfinitesimalMoves.{InfinitesimalsMove}
use Rattle.nz_spec.specs.simplex.Basis.{Coefficients, IsBasis, NonbasicFormIsItself}
use Rattle.nz_spec.specs.simplex.Bland as bland
use Rattle.nz_spec.specs.simplex.Bland.{HasBasis, HasValue, IsOutside, NonbasicFormsFit, Position, PositionsHaveValues, bound_on, lower_side, upper_side, sum_at, zero_infinitesimal}
use Rattle.nz_spec.specs.simplex.PositionMoves.{IsReadyToCheck}
use Rattle.nz_spec.specs.terms.Table.{Node}
use Rattle.nz_lin.specs.declared.form.Part.{Part}
use Rattle.nz_lin.specs.Forms.{AreUnits, parts_over}
use Rattle.nz_tab.specs.Joins.{with_nonbasic_units}
use Rattle.nz_tab.specs.Rows as rows
use Rattle.nz_tab.specs.Tables.{IsTableau, Table}
use Rattle.nz_tab.specs.Units.{is_unit_form, new_units, unit_number, with_units}
use Rattle.nz_trail.specs.Bounds.{TrailState}
use Rattle.nz_simplex.specs.Moves.{IsJoined}
use Rattle.nz_simplex.specs.State.{State, nonbasic_in, value_in, point_in, IsOver, IsSound, position_over}
use Rattle.nz_simplex.specs.Stored.{state_of}
use Rattle.nz_simplex.specs.Tabled.{marks_in, rows_in}
use Rattle.nz_simplex.proofs.Pointed.{AreKnown, known_marks, known_row, row_told}
use Rattle.nz_simplex.proofs.ValuesAfter.{point_is_value}

-- ---- What a table of forms becomes

pub record IsTabJoined (old new : Table) (f : List Part) : Type 0 where
  pub forms : new.forms ≡ (if is_unit_form f then with_units old.forms f else with_units old.forms f ++ f ∷ [])
  pub nonbasic : (k : ℕ) → rows.is_nonbasic new.grid k ≡ with_nonbasic_units old f k
  pub rows : (r : ℕ) → r < length old.forms → rows.rows_of new.grid r ≡ rows.rows_of old.grid r
  pub count : length new.grid.marks ≡ length new.forms

module _ (old new : Table) (f : List Part) (joined : IsTabJoined old new f) where
  front_forms : (rest : List (List Part)) × (new.forms ≡ old.forms ++ rest) × (length (with_units old.forms f) ≤ length new.forms)
  front_forms = by_test (is_unit_form f) joined.forms
    where
      by_test : (b : Bool) → new.forms ≡ (if b then with_units old.forms f else with_units old.forms f ++ f ∷ [])
          → (rest : List (List Part)) × (new.forms ≡ old.forms ++ rest) × (length (with_units old.forms f) ≤ length new.forms)
      by_test true e = let same = ap length e in (new_units old.forms f, e, omega (arith, same))
      by_test false e =
          let same = ap length e in (
            new_units old.forms f ++ f ∷ [],
            e ∙ append_assoc old.forms (new_units old.forms f) (f ∷ []),
            omega (arith, same, length-append (with_units old.forms f) (f ∷ [])),
          )

  more_forms : length old.forms ≤ length new.forms
  more_forms = let same = ap length front_forms.1 in omega (arith, same, length-append old.forms front_forms.0)

  front_units : (ns : List Node) → AllByRecursion (AreUnits ns) new.forms → AllByRecursion (AreUnits ns) old.forms
  front_units ns all = front old.forms front_forms.0 (subst (AllByRecursion (AreUnits ns)) front_forms.1 all)
    where
      front : (xs ys : List (List Part)) → AllByRecursion (AreUnits ns) (xs ++ ys) → AllByRecursion (AreUnits ns) xs
      front [] ys h = tt
      front (x ∷ xs) ys h = (h.0, front xs ys h.1)

-- ---- The values

module _ {S : Type 0} (stands_for : S → Infinitesimal) (origin : S) (zero_is : stands_for origin ≡ zero_infinitesimal) (old_tab new_tab : Table) (trail : TrailState S) (old new : List (Option S)) (why : List (ℕ × Fraction)) (f : List Part)
    (joined : IsTabJoined old_tab new_tab f) (long : length new ≡ length new_tab.forms) (front : take (length old) new ≡ old)
    (fresh : (k : ℕ) → length old ≤ k → k < length new_tab.forms → slice_index_or new k None ≡ (if slice_index_or (marks_in new_tab) k false then Some origin else None))
    (sound : IsSound (state_of stands_for old_tab trail old why)) where
  abbrev here : State
  here = state_of stands_for old_tab trail old why

  abbrev there : State
  there = state_of stands_for new_tab trail new why

  count_old : length old ≡ length old_tab.forms
  count_old = sym (length-map old (option_map stands_for)) ∙ sound.valued

  pub old_marks : (k : ℕ) → k < length old_tab.forms → nonbasic_in there k ≡ nonbasic_in here k
  old_marks k h = joined.nonbasic k ∙ ap (λ (b : Bool). if b then nonbasic_in here k else nat_lt k (length (with_units old_tab.forms f))) (below k (length old_tab.forms) h)

  pub new_marks : (k : ℕ) → length old_tab.forms ≤ k → nonbasic_in there k ≡ nat_lt k (length (with_units old_tab.forms f))
  new_marks k h = joined.nonbasic k ∙ ap (λ (b : Bool). if b then nonbasic_in here k else nat_lt k (length (with_units old_tab.forms f))) (not_below k (length old_tab.forms) h)

  pub old_values : (k : ℕ) → k < length old_tab.forms → value_in there k ≡ value_in here k
  old_values k h =
      slice_index_or-map (option_map stands_for) new k None
      ∙ ap (option_map stands_for) (sym (get_or-take (length old) new k None (omega (arith, h, count_old))) ∙ ap (λ (l : List (Option S)). slice_index_or l k None) front)
      ∙ sym (slice_index_or-map (option_map stands_for) old k None)

  pub new_values : (k : ℕ) → length old_tab.forms ≤ k → value_in there k ≡ (if nat_lt k (length (with_units old_tab.forms f)) then Some zero_infinitesimal else None)
  new_values k h = slice_index_or-map (option_map stands_for) new k None ∙ by_place (below_or_past k (length new_tab.forms))
    where
      first : (b : Bool) → option_map stands_for (if b then Some origin else None) ≡ (if b then Some zero_infinitesimal else None)
      first true = ap Some zero_is
      first false = refl

      by_place : (k < length new_tab.forms) ⊎ (length new_tab.forms ≤ k) → option_map stands_for (slice_index_or new k None) ≡ (if nat_lt k (length (with_units old_tab.forms f)) then Some zero_infinitesimal else None)
      by_place (inl inside) =
          ap (option_map stands_for) (fresh k (omega (arith, h, count_old)) inside)
          ∙ first (slice_index_or (marks_in new_tab) k false)
          ∙ ap (λ (b : Bool). if b then Some zero_infinitesimal else None) (new_marks k h)
      by_place (inr past) =
          let few = (front_forms old_tab new_tab f joined).2 in
          ap (option_map stands_for) (get_or_past new k None (omega (arith, past, long)))
          ∙ sym (ap (λ (b : Bool). if b then Some zero_infinitesimal else None) (not_below k (length (with_units old_tab.forms f)) (omega (arith, past, few))))

  pub known_joined : AreKnown there
  known_joined k e = by_place (below_or_past k (length old_tab.forms))
    where
      by_place : (k < length old_tab.forms) ⊎ (length old_tab.forms ≤ k) → IsSome (value_in there k)
      by_place (inl h) = subst (λ (o : Option Infinitesimal). IsSome o) (sym (old_values k h)) (sound.known k (sym (old_marks k h) ∙ e))
      by_place (inr h) =
          subst (λ (o : Option Infinitesimal). IsSome o)
          (sym (new_values k h ∙ ap (λ (b : Bool). if b then Some zero_infinitesimal else None) (sym (new_marks k h) ∙ e)))
          refl

  pub point_old : (k : ℕ) → k < length old_tab.forms → point_in there k ≡ point_in here k
  point_old k h = ap (λ (b : Bool). if b then value_in there k else None) (old_marks k h) ∙ ap (λ (o : Option Infinitesimal). if nonbasic_in here k then o else None) (old_values k h)

  pub point_new : (k : ℕ) → length old_tab.forms ≤ k → point_in there k ≡ (if nat_lt k (length (with_units old_tab.forms f)) then Some zero_infinitesimal else None)
  point_new k h =
      ap (λ (b : Bool). if b then value_in there k else None) (new_marks k h)
      ∙ ap (λ (o : Option Infinitesimal). if nat_lt k (length (with_units old_tab.forms f)) then o else None) (new_values k h)
      ∙ twice (nat_lt k (length (with_units old_tab.forms f)))
    where
      twice : (b : Bool) → (if b then (if b then Some zero_infinitesimal else None) else None) ≡ (if b then Some zero_infinitesimal else None)
      twice true = refl
      twice false = refl

  zero_new : (k : ℕ) → length old_tab.forms ≤ k → bland.value_in (point_in there) k ≡ zero_infinitesimal
  zero_new k h = ap (λ (o : Option Infinitesimal). unwrap_or o zero_infinitesimal) (point_new k h) ∙ either (nat_lt k (length (with_units old_tab.forms f)))
    where
      either : (b : Bool) → unwrap_or (if b then Some zero_infinitesimal else None) zero_infinitesimal ≡ zero_infinitesimal
      either true = refl
      either false = refl

  -- ---- The position

  module _ (values : PositionsHaveValues) (law : InfinitesimalsMove) (itself : NonbasicFormIsItself) (old_tableau : IsTableau old_tab) (new_tableau : IsTableau new_tab) where
    module _ (ns : List Node) (over : IsOver ns there) where
      over_old : IsOver ns here
      over_old = record { table = over.table; units = front_units old_tab new_tab f joined ns over.units }

      abbrev before : Position
      before = position_over ns here

      abbrev after : Position
      after = position_over ns there

      before_count : length before.forms ≡ length old_tab.forms
      before_count = length-map old_tab.forms (parts_over ns)

      after_count : length after.forms ≡ length new_tab.forms
      after_count = length-map new_tab.forms (parts_over ns)

      abbrev ready : IsReadyToCheck before
      ready = sound.ready ns over_old

      basis_after : HasBasis after
      basis_after =
          subst (λ (test : ℕ → Bool). IsBasis after.forms test) (fun_ext (λ k. sym (known_marks there known_joined k)))
          (new_tableau ns over.table over.units).basis

      same_bound : (side : bland.Side) (k : ℕ) → bound_on side after k ≡ bound_on side before k
      same_bound lower_side k = refl
      same_bound upper_side k = refl

      bounded_old : (side : bland.Side) (k : ℕ) (bound : Infinitesimal) → bound_on side after k ≡ Some bound → k < length old_tab.forms
      bounded_old side k bound e = subst (λ (n : ℕ). k < n) before_count (ready.listed side k bound (sym (same_bound side k) ∙ e))

      fit_after : NonbasicFormsFit after
      fit_after side k bound e stands out =
          let point = point_old k (bounded_old side k bound stands) in
          ready.fit side k bound (ap is_some (sym point) ∙ e) (sym (same_bound side k) ∙ stands)
          (subst (λ (o : Option Infinitesimal). IsOutside side bound (unwrap_or o zero_infinitesimal)) point out)

      ready_after : IsReadyToCheck after
      ready_after = record {
        basis = basis_after;
        listed = λ side k bound e.
            let more = more_forms old_tab new_tab f joined in
            let below = bounded_old side k bound e in
            omega (arith, below, more, after_count);
        fit = fit_after;
        consistent = ready.consistent;
      }

      basic_value : (k : ℕ) (x : Infinitesimal) → k < length old_tab.forms → nonbasic_in there k ≡ false → value_in there k ≡ Some x → HasValue after k x
      basic_value k x inside basic e =
          let more = more_forms old_tab new_tab f joined in
          let c = rows_in old_tab k in
          let sum = sum_at (length before.forms) c (bland.value_in before.point) in
          let basic_old : nonbasic_in here k ≡ false = sym (old_marks k inside) ∙ basic in
          let sum_value : HasValue before k sum = record { row = c; is_row = row_told stands_for old_tab trail old why sound old_tableau ns over_old k inside basic_old; at = law.itself sum } in
          let equal : x =δ sum =
          values.one before k x sum ready.basis (omega (arith, inside, before_count)) (sound.right ns k x over_old (sym (old_values k inside) ∙ e)) sum_value in
          let longer : sum_at (length after.forms) c (bland.value_in after.point) =δ sum =
          values.longer (length before.forms) (length after.forms) c (bland.value_in before.point) (bland.value_in after.point) (omega (arith, more, before_count, after_count))
          (λ m h. ap (λ (o : Option Infinitesimal). unwrap_or o zero_infinitesimal) (point_old m (omega (arith, h, before_count))))
          (λ m h. zero_new m (omega (arith, h, before_count))) in
          record {
            row = rows_in new_tab k;
            is_row = known_row stands_for new_tab trail new why known_joined new_tableau ns over k inside_new basic;
            at =
                subst (λ (d : Coefficients). x =δ sum_at (length after.forms) d (bland.value_in after.point)) (sym (joined.rows k inside))
                (law.along x sum (sum_at (length after.forms) c (bland.value_in after.point)) equal (law.back (sum_at (length after.forms) c (bland.value_in after.point)) sum longer));
          }
        where
          inside_new : k < length new_tab.forms
          inside_new = let more = more_forms old_tab new_tab f joined in omega (arith, inside, more)

      right_after : (k : ℕ) (x : Infinitesimal) → value_in there k ≡ Some x → HasValue after k x
      right_after k x e = by_mark (nonbasic_in there k) refl (below_or_past k (length old_tab.forms))
        where
          by_mark : (b : Bool) → nonbasic_in there k ≡ b → (k < length old_tab.forms) ⊎ (length old_tab.forms ≤ k) → HasValue after k x
          by_mark true m place = point_is_value itself after basis_after k x (ap (λ (b : Bool). if b then value_in there k else None) m ∙ e)
          by_mark false m (inl inside) = basic_value k x inside m e
          by_mark false m (inr past) =
              let none : None ≡ Some x =
              sym (new_values k past ∙ ap (λ (b : Bool). if b then Some zero_infinitesimal else None) (sym (new_marks k past) ∙ m)) ∙ e in
              absurd (cc)

    pub sound_joined : IsSound there
    sound_joined = record {
      marked = joined.count;
      valued = length-map new (option_map stands_for) ∙ long;
      known = known_joined;
      ready = ready_after;
      right = λ ns k x over e. right_after ns over k x e;
    }

  pub joins : (v : ℕ) → ((p : Part) → is_unit_form f ≡ true → f ≡ p ∷ [] → unit_number new_tab.forms p.unit ≡ Some v) → (is_unit_form f ≡ false → v ≡ length (with_units old_tab.forms f))
      → IsJoined here there f v
  joins v unit number = record {
    forms = joined.forms;
    unit = unit;
    number = number;
    old_marks = old_marks;
    new_marks = λ k past. new_marks k (omega (arith, past));
    old_values = old_values;
    new_values = λ k past. new_values k (omega (arith, past));
    asserted = refl;
    why = refl;
  }
