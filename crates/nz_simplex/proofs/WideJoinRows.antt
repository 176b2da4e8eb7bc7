-- Where the row of a form that joins leaves the numbers: it is one over the position to which the units of the form have joined.
use Rattle.std.proofs.Common.{◌≡◌, ℕ, ◌+◌, ◌<◌, ◌≤◌, ◌⊎◌, inl, inr, Bool, true, false, List, [], ◌∷◌, ◌++◌, length, Option, Some, None, refl, sym, ap, ap₂, ◌∙◌, subst, arith, length-append}
use Rattle.std.specs.Prelude.{Contains, is_some, nat_lt, if◌then◌else◌}
use Rattle.std.proofs.Math.Path.{fun_ext}
use Rattle.std.proofs.lemmas.List.{get_or_past, length-map, map-append}
use Rattle.nz_lists.proofs.Numbers.{below_or_past, below, not_below}
use Rattle.nz_fractions.proofs.FirstOperations.{first_wide-is}
use Rattle.nz_spec.specs.numbers.Infinitesimal.{Infinitesimal}
use Rattle.nz_spec.specs.simplex.Basis.{IsBasis}
use Rattle.nz_spec.specs.simplex.BasisMoves.{AreRows, joining_row}
use Rattle.nz_spec.specs.simplex.Bland.{Position, is_nonbasic, zero_infinitesimal}
use Rattle.nz_spec.specs.terms.Form as spec
use Rattle.nz_spec.specs.simplex.LiteralBounds.{position_under}
use Rattle.nz_spec.specs.search.Places.{IsOfJoining}
use Rattle.nz_spec.specs.simplex.PositionMoves.{with_form}
use Rattle.nz_spec.specs.terms.Table.{Node}
use Rattle.nz_spec.specs.terms.Term.{Term}
use Rattle.nz_frac.specs.declared.frac.Wide as frac
use Rattle.nz_frac.specs.Operations.{operation_of}
use Rattle.nz_lin.specs.declared.form.Part.{Part}
use Rattle.nz_lin.specs.Forms.{AreUnits, parts_over}
use Rattle.nz_term.specs.declared.stops.ArithmeticStop.TheVariants.{Wide}
use Rattle.nz_tab.specs.Joins.{number_by}
use Rattle.nz_tab.specs.Laws.{UnitsJoin, joined_to}
use Rattle.nz_tab.specs.Tables.{forms_over}
use Rattle.nz_tab.specs.Units.{is_unit_form, new_units, with_units}
use Rattle.nz_simplex.specs.Joins.{JoinsStopAtRows}
use Rattle.nz_simplex.specs.Moves.{JoinStops, joined_over, joining, unit_terms, with_all_units}
use Rattle.nz_simplex.specs.State.{IsOver, IsSound, State, nonbasic_in, point_in, position_over, value_in}
use Rattle.nz_simplex.proofs.JoinedPositions.{unit_count, unit_parts, units_joined}
use Rattle.nz_simplex.proofs.Pointed.{point_marks}

-- ---- Units that join

module _ (ns : List Node) (s : State) (f : List Part) (sound : IsSound s) where
  abbrev gs : List (List Part)
  gs = with_units s.forms f

  abbrev us : List Term
  us = unit_terms ns (new_units s.forms f)

  abbrev units : Position
  units = with_all_units (position_over ns s) us

  units_forms : units.forms ≡ forms_over ns gs
  units_forms =
      ap (λ (p : Position). p.forms) (units_joined (position_over ns s) us)
      ∙ ap (λ (l : List (List spec.Part)). forms_over ns s.forms ++ l) (unit_parts ns s.forms f)
      ∙ sym (map-append (parts_over ns) s.forms (new_units s.forms f))

  count : length (forms_over ns s.forms) ≡ length s.forms
  count = length-map s.forms (parts_over ns)

  more : length (forms_over ns s.forms) + length us ≡ length gs
  more =
      let long = unit_count ns s.forms f in
      omega (arith, count, long, length-append s.forms (new_units s.forms f))

  past_none : (k : ℕ) → length s.forms ≤ k → point_in s k ≡ None
  past_none k h = ap (λ (b : Bool). if b then value_in s k else None) (get_or_past s.marks k false (omega (arith, h, sound.marked)))

  units_marks : (k : ℕ) → is_nonbasic units.point k ≡ joined_to (nonbasic_in s) (length s.forms) (length gs) k
  units_marks k =
      ap (λ (p : Position). is_some (p.point k)) (units_joined (position_over ns s) us)
      ∙ ap₂ (λ (n m : ℕ). is_some (if nat_lt k n then point_in s k else if nat_lt k m then Some zero_infinitesimal else point_in s k)) count more
      ∙ by_place (below_or_past k (length s.forms))
    where
      either : (b : Bool) → is_some (if b then Some zero_infinitesimal else None) ≡ b
      either true = refl
      either false = refl

      by_place : (k < length s.forms) ⊎ (length s.forms ≤ k)
          → is_some (if nat_lt k (length s.forms) then point_in s k else if nat_lt k (length gs) then Some zero_infinitesimal else point_in s k) ≡ joined_to (nonbasic_in s) (length s.forms) (length gs) k
      by_place (inl h) =
          ap (λ (b : Bool). is_some (if b then point_in s k else if nat_lt k (length gs) then Some zero_infinitesimal else point_in s k)) (below k (length s.forms) h)
          ∙ point_marks s sound k
          ∙ sym (ap (λ (b : Bool). if b then nonbasic_in s k else nat_lt k (length gs)) (below k (length s.forms) h))
      by_place (inr h) =
          ap (λ (b : Bool). is_some (if b then point_in s k else if nat_lt k (length gs) then Some zero_infinitesimal else point_in s k)) (not_below k (length s.forms) h)
          ∙ ap (λ (o : Option Infinitesimal). is_some (if nat_lt k (length gs) then Some zero_infinitesimal else o)) (past_none k h)
          ∙ either (nat_lt k (length gs))
          ∙ sym (ap (λ (b : Bool). if b then nonbasic_in s k else nat_lt k (length gs)) (not_below k (length s.forms) h))

  -- ---- The form behind them

  module _ (join : UnitsJoin) (over : IsOver ns s) (are : AreUnits ns f) (w : frac.Wide) (stops : JoinStops ns s f (Wide w)) where
    marks : is_nonbasic units.point ≡ joined_to (nonbasic_in s) (length s.forms) (length gs)
    marks = fun_ext units_marks

    are_rows : AreRows (forms_over ns gs) (is_nonbasic units.point) stops.0
    are_rows =
        let same = fun_ext (point_marks s sound) in
        subst (λ (g : ℕ → Bool). AreRows (forms_over ns gs) g stops.0) (sym marks)
        (join.rows ns s.forms (nonbasic_in s) stops.0 f over.table over.units are
        (subst (IsBasis (forms_over ns s.forms)) same (sound.ready ns over).basis)
        (subst (λ (g : ℕ → Bool). AreRows (forms_over ns s.forms) g stops.0) same stops.1))

    of_joining : IsOfJoining (position_under (units.forms ++ parts_over ns f ∷ []) units.point []) (operation_of w)
    of_joining = record {
      front = forms_over ns gs;
      last = parts_over ns f;
      joins = ap (λ (fs : List (List spec.Part)). fs ++ parts_over ns f ∷ []) units_forms;
      rows = stops.0;
      are_rows = are_rows;
      number = number_by ns gs;
      numbered = join.numbers ns s.forms f over.table are;
      of =
          subst (λ (n : ℕ). Contains (joining_row n (is_nonbasic units.point) stops.0 (number_by ns gs) (parts_over ns f)).operations (operation_of w)) (sym (length-map gs (parts_over ns)))
          (subst (λ (g : ℕ → Bool). Contains (joining_row (length gs) g stops.0 (number_by ns gs) (parts_over ns f)).operations (operation_of w)) (sym marks)
          (first_wide-is (joining ns s stops.0 f).operations (operation_of w) stops.2).0);
    }

    -- no unit alone
    pub joining_there : is_unit_form f ≡ false → IsOfJoining (position_under (joined_over ns s f).forms (joined_over ns s f).point []) (operation_of w)
    joining_there many =
        subst (λ (p : Position). IsOfJoining (position_under p.forms p.point []) (operation_of w)) (sym (ap (λ (b : Bool). if b then units else with_form units (parts_over ns f)) many)) of_joining

-- ---- The law

pub joins_stop_at_rows : UnitsJoin → JoinsStopAtRows
joins_stop_at_rows join ns s f w sound over are many stops = joining_there ns s f sound join over are w stops many
