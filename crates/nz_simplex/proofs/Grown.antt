-- What joining forms does to a simplex, by what is shown of it.
use Rattle.std.proofs.Common.{◌≡◌, ℕ, ◌+◌, ◌<◌, ◌≤◌, Bool, true, false, List, [], ◌∷◌, ◌++◌, length, map, take, Option, Some, None, refl, sym, ap, ap₂, ◌∙◌, subst, arith, length-append}
use Rattle.std.specs.Prelude.{Err, is_some, option_map, slice_index_or, if◌then◌else◌}
use Rattle.nz_fractions.specs.Fraction.{Fraction}
use Rattle.nz_spec.specs.numbers.Infinitesimal.{Infinitesimal}
use Rattle.nz_spec.specs.laws.InfinitesimalMoves.{InfinitesimalsMove}
use Rattle.nz_spec.specs.simplex.Basis.{NonbasicFormIsItself}
use Rattle.nz_spec.specs.simplex.Bland.{PositionsHaveValues, zero_infinitesimal}
use Rattle.nz_spec.specs.terms.Table.{IsTable, Node}
use Rattle.nz_lin.specs.declared.form.Part.{Part}
use Rattle.nz_lin.specs.Forms.{AreUnits}
use Rattle.nz_term.specs.declared.stops.ArithmeticStop.{ArithmeticStop}
use Rattle.nz_term.specs.declared.stops.ArithmeticStop.TheVariants.{Wide, Memory}
use Rattle.nz_tab.specs.Joins.{IsFormJoined, IsUnitJoined, Joins, UnitJoins}
use Rattle.nz_tab.specs.Tables.{IsTableau, Table}
use Rattle.nz_tab.specs.Units.{is_unit_form, new_units, unit_number, unit_of, with_units}
use Rattle.nz_trail.specs.Bounds.{Asserted, TrailState}
use Rattle.nz_simplex.specs.Moves.{IsJoined, JoinStops, joined_over}
use Rattle.nz_simplex.specs.Standing.{told}
use Rattle.nz_simplex.specs.State.{State, IsOver, IsSound, position_over}
use Rattle.nz_simplex.specs.Stored.{state_of}
use Rattle.nz_simplex.specs.Tabled.{marks_in, rows_in}
use Rattle.nz_simplex.proofs.JoinedPositions.{joined_position}
use Rattle.nz_simplex.proofs.JoinedForms.{IsTabJoined, joins, sound_joined}
use Rattle.nz_simplex.proofs.Pointed.{rows_told}

-- ---- The table of forms

module _ (old new : Table) (f : List Part) (v : ℕ) (unit : is_unit_form f ≡ true → IsUnitJoined old new f v) (grown : is_unit_form f ≡ false → IsFormJoined old new f v) where
  pub tab_joined : length new.grid.marks ≡ length new.forms → IsTabJoined old new f
  tab_joined count = by_test (is_unit_form f) refl
    where
      by_test : (b : Bool) → is_unit_form f ≡ b → IsTabJoined old new f
      by_test true e =
          let h = unit e in
          record {
            forms = h.forms ∙ sym (ap (λ (b : Bool). if b then with_units old.forms f else with_units old.forms f ++ f ∷ []) e);
            nonbasic = h.nonbasic;
            rows = h.rows;
            count = count;
          }
      by_test false e =
          let h = grown e in
          record {
            forms = h.forms ∙ sym (ap (λ (b : Bool). if b then with_units old.forms f else with_units old.forms f ++ f ∷ []) e);
            nonbasic = h.nonbasic;
            rows = h.rows;
            count = count;
          }

  few_units : (fs : List (List Part)) (ps : List Part) → length (new_units fs ps) ≤ length ps
  few_units fs [] = omega arith
  few_units fs (p ∷ ps) = by_test (is_some (unit_number fs p.unit)) (few_units fs ps)
    where
      by_test : (b : Bool) → length (new_units fs ps) ≤ length ps → length (if b then new_units fs ps else unit_of p ∷ new_units fs ps) ≤ length (p ∷ ps)
      by_test true h = omega (arith, h)
      by_test false h = omega (arith, h)

  -- a unit for each part joins at most, and the form
  pub few_forms : length new.forms ≤ length old.forms + (length f + 1)
  few_forms = by_test (is_unit_form f) refl
    where
      few : length (with_units old.forms f) ≤ length old.forms + length f
      few = let h = few_units old.forms f in omega (arith, h, length-append old.forms (new_units old.forms f))

      by_test : (b : Bool) → is_unit_form f ≡ b → length new.forms ≤ length old.forms + (length f + 1)
      by_test true e = let same = ap length (unit e).forms in omega (arith, same, few)
      by_test false e = let same = ap length (grown e).forms in omega (arith, same, few, length-append (with_units old.forms f) (f ∷ []))

-- ---- A simplex

pub record IsJoinedSoundly (old new : State) (f : List Part) (v : ℕ) : Type 0 where
  pub joined : IsJoined old new f v
  pub sound : IsSound new
  pub position : (ns : List Node) → position_over ns new ≡ joined_over ns old f

pub joined_shown : {S : Type 0} (stands_for : S → Infinitesimal) (origin : S) (old_tab new_tab : Table) (trail later : TrailState S) (old now new : List (Option S)) (why told_why : List (ℕ × Fraction)) (seen : State) (f : List Part) (v : ℕ)
    → stands_for origin ≡ zero_infinitesimal → state_of stands_for old_tab trail old why ≡ seen → IsSound (state_of stands_for old_tab trail old why)
    → (is_unit_form f ≡ true → IsUnitJoined old_tab new_tab f v) → (is_unit_form f ≡ false → IsFormJoined old_tab new_tab f v) → length new_tab.grid.marks ≡ length new_tab.forms
    → later.asserted ≡ trail.asserted → told_why ≡ why → now ≡ old → PositionsHaveValues → InfinitesimalsMove → NonbasicFormIsItself → IsTableau old_tab → IsTableau new_tab
    → length new ≡ length new_tab.forms → take (length now) new ≡ now
    → ((k : ℕ) → length now ≤ k → k < length new_tab.forms → slice_index_or new k None ≡ (if slice_index_or (marks_in new_tab) k false then Some origin else None))
    → IsJoinedSoundly seen (state_of stands_for new_tab later new told_why) f v
joined_shown {S} stands_for origin old_tab new_tab trail later old now new why told_why seen f v zero_is view sound unit grown count bounds same_why is_now values law itself old_tableau new_tableau long front fresh =
    let tab = tab_joined old_tab new_tab f v unit grown count in
    let there : State = state_of stands_for new_tab trail new why in
    let same : there ≡ state_of stands_for new_tab later new told_why =
    ap₂
    (λ (es : List (Asserted S)) (w : List (ℕ × Fraction)).
    let s : State = record { forms = new_tab.forms; marks = marks_in new_tab; values = map (option_map stands_for) new; asserted = map (told stands_for) es; why = w } in s)
    (sym bounds) (sym same_why) in
    let front_old : take (length old) new ≡ old = subst (λ (vs : List (Option S)). take (length vs) new ≡ vs) is_now front in
    let fresh_old : (k : ℕ) → length old ≤ k → k < length new_tab.forms → slice_index_or new k None ≡ (if slice_index_or (marks_in new_tab) k false then Some origin else None) =
    subst (λ (vs : List (Option S)). (k : ℕ) → length vs ≤ k → k < length new_tab.forms → slice_index_or new k None ≡ (if slice_index_or (marks_in new_tab) k false then Some origin else None)) is_now fresh in
    record {
      joined =
          subst (λ (s : State). IsJoined seen s f v) same
          (subst (λ (s : State). IsJoined s there f v) view
          (joins stands_for origin zero_is old_tab new_tab trail old new why f tab long front_old fresh_old sound v (λ p e is. (unit e).number p is) (λ e. (grown e).number)));
      sound =
          subst IsSound same
          (sound_joined stands_for origin zero_is old_tab new_tab trail old new why f tab long front_old fresh_old sound values law itself old_tableau new_tableau);
      position =
          subst (λ (s : State). (ns : List Node) → position_over ns s ≡ joined_over ns seen f) same
          (subst (λ (s : State). (ns : List Node) → position_over ns there ≡ joined_over ns s f) view
          (joined_position stands_for origin zero_is old_tab new_tab trail old new why f tab long front_old fresh_old sound));
    }

-- an error is want of memory, or has its place in the row of the form
pub join_stops : {S : Type 0} (stands_for : S → Infinitesimal) (tab new_tab : Table) (trail : TrailState S) (values : List (Option S)) (why : List (ℕ × Fraction)) (seen : State) (f : List Part) (e : ArithmeticStop)
    → state_of stands_for tab trail values why ≡ seen → IsSound (state_of stands_for tab trail values why) → IsTableau tab
    → (is_unit_form f ≡ true → UnitJoins tab new_tab f (Err e)) → (is_unit_form f ≡ false → (ns : List Node) → IsTable ns → AreUnits ns f → Joins ns tab new_tab f (Err e))
    → (ns : List Node) → IsOver ns seen → AreUnits ns f → JoinStops ns seen f e
join_stops stands_for tab new_tab trail values why seen f Memory view sound tableau unit sums ns over units = tt
join_stops stands_for tab new_tab trail values why seen f (Wide w) view sound tableau unit sums ns over units =
    subst (λ (s : State). JoinStops ns s f (Wide w)) view (by_test (is_unit_form f) refl)
  where
    over_here : IsOver ns (state_of stands_for tab trail values why)
    over_here = subst (λ (s : State). IsOver ns s) (sym view) over

    by_test : (b : Bool) → is_unit_form f ≡ b → JoinStops ns (state_of stands_for tab trail values why) f (Wide w)
    by_test true e = let h = unit e in absurd (cc)
    by_test false e = (rows_in tab, rows_told stands_for tab trail values why sound tableau ns over_here, sums e ns over.table units)
