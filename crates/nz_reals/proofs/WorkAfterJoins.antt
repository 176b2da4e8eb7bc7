-- Where a list of work leads when a form has joined.
use Rattle.std.proofs.Common.{◌≡◌, ℕ, suc, ◌<◌, ◌≤◌, inl, Bool, true, false, List, [], ◌∷◌, ◌++◌, map, take, length, Some, Result, Ok, Err, refl, sym, ap, ◌∙◌, subst, true≢false, arith, pos}
use Rattle.std.specs.Cmp.{first_so}
use Rattle.std.specs.Prelude.{◌==◌, ◌&&◌, ◌||◌, Contains, IfErr, OnOk, fold, is_some, option_map, slice_get, if◌then◌else◌}
use Rattle.std.specs.List.{AllByRecursion, list_any}
use Rattle.std.proofs.lemmas.List.{length-append, length-map, map-append}
use Rattle.std.proofs.lemmas.Option.{get_or_from_slice_get}
use Rattle.std.proofs.lemmas.List.Sums.{fold_push}
use Rattle.nz_reals.proofs.JoinedForms.{number_has, some_suc, unit_shape}
use Rattle.nz_lists.proofs.Elements.{AllByRecursion-append}
use Rattle.nz_lists.proofs.Tests.{same_tests}
use Rattle.nz_lists.proofs.Numbers.{equal-number, same-number, other-number}
use Rattle.nz_fractions.specs.Fraction.{whole}
use Rattle.nz_spec.specs.simplex.Bland.{Point, Position}
use Rattle.nz_spec.specs.terms.Form as spec
use Rattle.nz_spec.specs.terms.Form.{unit_form}
use Rattle.nz_spec.specs.clauses.LinearLiteral.{parts_of}
use Rattle.nz_spec.specs.laws.LegalWork.{LegalWorkGoesOn}
use Rattle.nz_spec.specs.search.Beginnings.{MayJoin, sum_of_atom}
use Rattle.nz_spec.specs.search.Legal.{Lead, after_line, after_lines}
use Rattle.nz_spec.specs.search.Search.{Search, Task, at_first, never, no_point, position_of, told_literals}
use Rattle.nz_spec.specs.clauses.Literal.{Literal, TellsLiterals, are_same_literal, term_literal}
use Rattle.nz_spec.specs.simplex.LiteralBounds as bounds
use Rattle.nz_spec.specs.simplex.LiteralBounds.{bounded_from, is_unit_alone, joined, turned, with_new_unit}
use Rattle.nz_spec.specs.search.Notes.{form_note}
use Rattle.nz_spec.specs.simplex.PositionMoves.{with_form, with_unit}
use Rattle.nz_spec.specs.terms.Same.{are_same_fraction, are_same_term}
use Rattle.nz_spec.specs.terms.Table.{Node, HasOneNumberEach, OneNumber, term_in}
use Rattle.nz_spec.specs.terms.Term.{Term}
use Rattle.nz_spec.specs.search.Work.{WorkList, NoteLine, with_line}
use Rattle.nz_lin.specs.declared.form.Part.{Part}
use Rattle.nz_lin.specs.Forms.{AreInOrder, AreUnits, NamesUnit, parts_over}
use Rattle.nz_tab.specs.Units.{is_form_of, is_one, is_unit_form, new_units, unit_number, unit_of}
use Rattle.nz_trail.specs.declared.limits.Side.TheVariants.{Lower, Upper}
use Rattle.nz_search.specs.declared.note.Note.{Note}
use Rattle.nz_search.specs.declared.note.Note.TheVariants.{Form}
use Rattle.nz_search.specs.Notes.{noted_line, noted_list}
use Rattle.nz_place.specs.declared.place.Place.{Place}
use Rattle.nz_search.specs.declared.stop.Stop.{Stop}
use Rattle.nz_search.specs.declared.stop.Stop.TheVariants.{Wide, Spent, Memory}
use Rattle.nz_place.specs.Places.{IsPlaceIn}
use Rattle.nz_search.specs.Standing.{Standing, Stands, search_after}
use Rattle.nz_simplex.specs.Joins.{JoinsStopAtRows}
use Rattle.nz_simplex.specs.Moves.{joined_over, unit_terms, with_all_units}
use Rattle.nz_simplex.specs.Standing.{Held, bound_in}
use Rattle.nz_simplex.specs.State as simplex_state
use Rattle.nz_simplex.specs.State.{IsSound, State, point_in, position_over}
use Rattle.nz_reals.specs.declared.reals.MarkedLiteral.{MarkedLiteral}
use Rattle.nz_reals.specs.Joins.{AddsForm, EndsJoining, IsNamedSum, IsStoppedJoining, StopsJoining}
use Rattle.nz_reals.specs.Stands.{AreBounds, HasTold, IsAt, IsOver}
use Rattle.nz_reals.specs.State.{Theory, literal_over, told_lits}
use Rattle.nz_reals.specs.Stored.{AreForms}
use Rattle.nz_reals.specs.Sums.{IsFormSum}
use Rattle.nz_reals.proofs.LiteralForms.{not_found}
use Rattle.nz_reals.proofs.WideJoinRows.{joining_place}
use Rattle.nz_reals.proofs.TheoryPositions.{position_is}

-- ---- The same units

module _ (ns : List Node) (one : HasOneNumberEach ns) (tells : TellsLiterals) where
  term_itself : (t : Term) → are_same_term t t ≡ true
  term_itself t = first_so (are_same_term t t) true (tells.one (term_literal t true))

  term_told : (t u : Term) → are_same_term t u ≡ true → t ≡ u
  term_told t u e =
      let both : are_same_literal (term_literal t true) (term_literal u true) ≡ true = ap (λ (b : Bool). b && true) e in
      let same : term_literal t true ≡ term_literal u true = tells.same (term_literal t true) (term_literal u true) both in
      cc

  unit_tested : (p : Part) (u : ℕ) → p.unit < length ns → u < length ns → are_same_term (term_in ns p.unit) (term_in ns u) ≡ (p.unit == u)
  unit_tested p u h k =
      same_tests (are_same_term (term_in ns p.unit) (term_in ns u)) (p.unit == u)
      (λ e. let same : p.unit ≡ u = one p.unit u h k (term_told (term_in ns p.unit) (term_in ns u) e) in ap (λ (n : ℕ). n == u) same ∙ equal-number u u refl)
      (λ e. ap (λ (n : ℕ). are_same_term (term_in ns n) (term_in ns u)) (same-number p.unit u e) ∙ term_itself (term_in ns u))

  alone_test : (g : List Part) (u : ℕ) → AllByRecursion (NamesUnit ns) g → u < length ns → is_unit_alone (parts_over ns g) (term_in ns u) ≡ is_form_of u g
  alone_test [] u names k = refl
  alone_test (p ∷ []) u names k =
      ap (λ (b : Bool). are_same_fraction p.coefficient (whole (pos 1)) && b && true) (unit_tested p u names.0.0 k) ∙ by_tests (is_one p.coefficient) (p.unit == u)
    where
      by_tests : (a b : Bool) → (a && b && true) ≡ (b && a)
      by_tests true true = refl
      by_tests true false = refl
      by_tests false true = refl
      by_tests false false = refl
  alone_test (p ∷ q ∷ qs) u names k = by_tests (are_same_fraction p.coefficient (whole (pos 1))) (are_same_term (term_in ns p.unit) (term_in ns u))
    where
      by_tests : (a b : Bool) → (a && b && false) ≡ false
      by_tests true true = refl
      by_tests true false = refl
      by_tests false true = refl
      by_tests false false = refl

  any_is : (gs : List (List Part)) (u : ℕ) → AllByRecursion (AreUnits ns) gs → u < length ns → list_any (λ f. is_unit_alone f (term_in ns u)) (map (parts_over ns) gs) ≡ is_some (unit_number gs u)
  any_is [] u units k = refl
  any_is (g ∷ gs) u units k =
      ap (λ (b : Bool). b || list_any (λ f. is_unit_alone f (term_in ns u)) (map (parts_over ns) gs)) (alone_test g u units.0.names k)
      ∙ by_test (is_form_of u g) (any_is gs u units.1 k)
    where
      by_test : (b : Bool) → list_any (λ f. is_unit_alone f (term_in ns u)) (map (parts_over ns) gs) ≡ is_some (unit_number gs u)
          → (b || list_any (λ f. is_unit_alone f (term_in ns u)) (map (parts_over ns) gs)) ≡ is_some (if b then Some 0 else option_map suc (unit_number gs u))
      by_test true h = refl
      by_test false h = h ∙ sym (some_suc (unit_number gs u))

  some_pushed : (gs : List (List Part)) (p : Part) (u : ℕ) → (p.unit ≡ u → ⊥) → is_some (unit_number (gs ++ unit_of p ∷ []) u) ≡ is_some (unit_number gs u)
  some_pushed [] p u other = ap (λ (b : Bool). is_some (if b && is_one (whole (pos 1)) then Some 0 else option_map suc (unit_number [] u))) (other-number p.unit u other)
  some_pushed (g ∷ gs) p u other = by_test (is_form_of u g) (some_pushed gs p u other)
    where
      by_test : (b : Bool) → is_some (unit_number (gs ++ unit_of p ∷ []) u) ≡ is_some (unit_number gs u)
          → is_some (if b then Some 0 else option_map suc (unit_number (gs ++ unit_of p ∷ []) u)) ≡ is_some (if b then Some 0 else option_map suc (unit_number gs u))
      by_test true h = refl
      by_test false h = some_suc (unit_number (gs ++ unit_of p ∷ []) u) ∙ h ∙ sym (some_suc (unit_number gs u))

  -- ---- Units that join

  units_join : (fs : List (List Part)) (ps : List Part) (P : Position) (gs : List (List Part)) → P.forms ≡ map (parts_over ns) gs → AllByRecursion (AreUnits ns) gs → AllByRecursion (NamesUnit ns) ps → AreInOrder ps
      → AllByRecursion (λ (q : Part). is_some (unit_number gs q.unit) ≡ is_some (unit_number fs q.unit)) ps
      → fold with_new_unit P (parts_over ns ps) ≡ with_all_units P (unit_terms ns (new_units fs ps))
  units_join fs [] P gs forms units names order same = refl
  units_join fs (p ∷ ps) P gs forms units names order same =
      by_test (is_some (unit_number fs p.unit)) (list_any (λ f. is_unit_alone f (term_in ns p.unit)) P.forms)
      (ap (list_any (λ f. is_unit_alone f (term_in ns p.unit))) forms ∙ any_is gs p.unit units names.0.0 ∙ same.0)
      (units_join fs ps P gs forms units names.1 order.1 same.1)
      (units_join fs ps (with_unit P (term_in ns p.unit)) (gs ++ unit_of p ∷ [])
      (ap (λ (l : List (List spec.Part)). l ++ (unit_form (term_in ns p.unit)).parts ∷ []) forms ∙ sym (map-append (parts_over ns) gs (unit_of p ∷ [])))
      (AllByRecursion-append (AreUnits ns) gs (unit_of p ∷ []) units (record { names = (names.0, tt); in_order = (tt, tt) }, tt)) names.1 order.1 (pushed ps order.0 same.1))
    where
      pushed : (qs : List Part) → AllByRecursion (λ (q : Part). p.unit < q.unit) qs → AllByRecursion (λ (q : Part). is_some (unit_number gs q.unit) ≡ is_some (unit_number fs q.unit)) qs
          → AllByRecursion (λ (q : Part). is_some (unit_number (gs ++ unit_of p ∷ []) q.unit) ≡ is_some (unit_number fs q.unit)) qs
      pushed [] above h = tt
      pushed (q ∷ qs) above h = (some_pushed gs p q.unit (λ e. let less = above.0 in omega (arith, less, e)) ∙ h.0, pushed qs above.1 h.1)

      by_test : (b c : Bool) → c ≡ b → fold with_new_unit P (parts_over ns ps) ≡ with_all_units P (unit_terms ns (new_units fs ps))
          → fold with_new_unit (with_unit P (term_in ns p.unit)) (parts_over ns ps) ≡ with_all_units (with_unit P (term_in ns p.unit)) (unit_terms ns (new_units fs ps))
          → fold with_new_unit (if c then P else with_unit P (term_in ns p.unit)) (parts_over ns ps) ≡ with_all_units P (unit_terms ns (if b then new_units fs ps else unit_of p ∷ new_units fs ps))
      by_test true true e there new = there
      by_test false false e there new = new
      by_test true false e there new = absurd (true≢false (sym e))
      by_test false true e there new = absurd (true≢false e)

  shape : (f : List Part) → bounds.is_unit_form (parts_over ns f) ≡ is_unit_form f
  shape [] = refl
  shape (p ∷ []) = ap (λ (b : Bool). are_same_fraction p.coefficient (whole (pos 1)) && b && true) (term_itself (term_in ns p.unit)) ∙ by_test (is_one p.coefficient)
    where
      by_test : (a : Bool) → (a && true && true) ≡ a
      by_test true = refl
      by_test false = refl
  shape (p ∷ q ∷ qs) = by_tests (are_same_fraction p.coefficient (whole (pos 1))) (are_same_term (term_in ns p.unit) (term_in ns p.unit))
    where
      by_tests : (a b : Bool) → (a && b && false) ≡ false
      by_tests true true = refl
      by_tests true false = refl
      by_tests false true = refl
      by_tests false false = refl

  same_number : (fs : List (List Part)) (ps : List Part) → AllByRecursion (λ (q : Part). is_some (unit_number fs q.unit) ≡ is_some (unit_number fs q.unit)) ps
  same_number fs [] = tt
  same_number fs (p ∷ ps) = (refl, same_number fs ps)

  pub joined_is : (t : Theory) (f : List Part) → IsOver t ns → AreUnits ns f → joined (position_over ns t.simplex) (parts_over ns f) ≡ joined_over ns t.simplex f
  joined_is t f over units =
      ap (λ (b : Bool). if b then fold with_new_unit (position_over ns t.simplex) (parts_over ns f) else with_form (fold with_new_unit (position_over ns t.simplex) (parts_over ns f)) (parts_over ns f)) (shape f)
      ∙ ap (λ (p : Position). if is_unit_form f then p else with_form p (parts_over ns f))
      (units_join t.simplex.forms f (position_over ns t.simplex) t.simplex.forms refl over.units units.names units.in_order (same_number t.simplex.forms f))

-- ---- Forms don't depend on the point

unit_forms : (u : List spec.Part) (p q : Position) → p.forms ≡ q.forms → (fold with_new_unit p u).forms ≡ (fold with_new_unit q u).forms
unit_forms [] p q same = same
unit_forms (x ∷ xs) p q same = unit_forms xs (with_new_unit p x) (with_new_unit q x) (step (list_any (λ f. is_unit_alone f x.unit) p.forms) (list_any (λ f. is_unit_alone f x.unit) q.forms) (ap (list_any (λ f. is_unit_alone f x.unit)) same))
  where
    step : (b c : Bool) → b ≡ c → (if b then p else with_unit p x.unit).forms ≡ (if c then q else with_unit q x.unit).forms
    step true true e = same
    step false false e = ap (λ (fs : List (List spec.Part)). fs ++ (unit_form x.unit).parts ∷ []) same
    step true false e = absurd (true≢false e)
    step false true e = absurd (true≢false (sym e))

pub joined_forms : (f : List spec.Part) (p q : Position) → p.forms ≡ q.forms → (joined p f).forms ≡ (joined q f).forms
joined_forms f p q same = by_test (bounds.is_unit_form f)
  where
    by_test : (b : Bool) → (if b then fold with_new_unit p f else with_form (fold with_new_unit p f) f).forms ≡ (if b then fold with_new_unit q f else with_form (fold with_new_unit q f) f).forms
    by_test true = unit_forms f p q same
    by_test false = ap (λ (fs : List (List spec.Part)). fs ++ f ∷ []) (unit_forms f p q same)

-- ---- A list with one more note

no_told : (ts : List MarkedLiteral) → map (λ (y : MarkedLiteral). y.literal) ts ≡ [] → (r : ℕ) (y : MarkedLiteral) → slice_get ts r ≡ Some y → ⊥
no_told [] e r y at = cc
no_told (t ∷ ts) e r y at = cc

module _ (ns : List Node) (q : Task) (work : WorkList Note) (number : ℕ) where
  abbrev later : WorkList Note
  later = with_line work (NoteLine (Form number))

  lines_then : (noted_list ns later).lines ≡ (noted_list ns work).lines ++ NoteLine (form_note number) ∷ []
  lines_then = map-append (noted_line ns) work.lines (NoteLine (Form number) ∷ [])

  search_then : search_after ns later ≡ after_line (search_after ns work) (NoteLine (form_note number))
  search_then = ap (after_lines at_first) lines_then ∙ fold_push after_line at_first (noted_list ns work).lines (NoteLine (form_note number))

  module _ (goes_on : LegalWorkGoesOn) (one : OneNumber) (tells : TellsLiterals) (old : Theory) (f : List Part) (untold : HasTold old []) (units : AreUnits ns f) (named : IsNamedSum ns f number work) (stands : Stands (IsAt old ns) ns q work)
      (forms : AreForms old.simplex) (sum : IsFormSum f) (fresh : Contains old.simplex.forms f → ⊥) where
    abbrev S : Search
    S = search_after ns work

    abbrev x : Point
    x = stands.point

    -- the position when the form has joined
    abbrev P : Position
    P = joined_over ns old.simplex f

    nothing_told : told_literals S ≡ []
    nothing_told = stands.at.literals ∙ ap (map (literal_over ns old)) untold

    position : position_of S x ≡ position_over ns old.simplex
    position = position_is old ns S.forms (told_literals S) x stands.at

    sum_is : sum_of_atom S number ≡ parts_over ns f
    sum_is = ap (λ (l : Literal). turned (parts_of l)) (get_or_from_slice_get S.atoms number named.bound never named.named) ∙ named.sum

    may_join : MayJoin S number
    may_join = record {
      bound = named.bound;
      named = named.named;
      linear = named.linear;
      new =
          ap (bounded_from 0 S.forms) named.sum
          ∙ ap (λ (fs : List (List spec.Part)). bounded_from 0 fs (parts_over ns f)) stands.at.forms
          ∙ not_found ns (one ns stands.at.over.table) tells 0 old.simplex.forms f stands.at.over.units forms.sums units sum fresh;
    }

    then_position : joined (position_of S x) (sum_of_atom S number) ≡ P
    then_position =
        ap (λ (p : Position). joined p (sum_of_atom S number)) position
        ∙ ap (joined (position_over ns old.simplex)) sum_is
        ∙ joined_is ns (one ns stands.at.over.table) tells old f stands.at.over units

    then_forms : (search_after ns later).forms ≡ P.forms
    then_forms =
        ap (λ (s : Search). s.forms) search_then
        ∙ joined_forms (sum_of_atom S number) (position_of S no_point) (position_of S x) refl
        ∙ ap (λ (p : Position). p.forms) then_position

    then_told : told_literals (search_after ns later) ≡ []
    then_told = ap told_literals search_then ∙ nothing_told

    pub legal_then : Lead q at_first no_point (noted_list ns later).lines P.point
    legal_then =
        subst (λ ls. Lead q at_first no_point ls P.point) (sym lines_then)
        (goes_on.line q at_first no_point x P.point (noted_list ns work).lines (NoteLine (form_note number)) stands.legal (may_join, ap (λ (p : Position). p.point) (sym then_position)))

    pub stands_then : (new : Theory) → AddsForm old new f → position_over ns new.simplex ≡ P → Stands (IsAt new ns) ns q later
    stands_then new adds is = record {
      point = P.point;
      legal = legal_then;
      at = record {
        over = adds.over ns units stands.at.over;
        forms = then_forms ∙ ap (λ (p : Position). p.forms) (sym is);
        literals = then_told ∙ ap (map (literal_over ns new)) (sym none);
        point = ap (λ (p : Position). p.point) (sym is);
        bounds = subst (λ (ls : List Literal). AreBounds (search_after ns later).forms ls new.simplex.asserted) (sym then_told) (record {
          lower = empty.lower ∙ ap (λ (bs : List Held). bound_in bs Lower) (sym adds.asserted);
          upper = empty.upper ∙ ap (λ (bs : List Held). bound_in bs Upper) (sym adds.asserted);
        });
        marks = λ r y at. absurd (no_told new.told none r y at);
      };
    }
      where
        none : told_lits new ≡ []
        none = ap (map (λ (y : MarkedLiteral). y.literal)) adds.told ∙ untold

        empty : AreBounds S.forms [] old.simplex.asserted
        empty = subst (λ (ls : List Literal). AreBounds S.forms ls old.simplex.asserted) nothing_told stands.at.bounds

    module _ (law : JoinsStopAtRows) (sound : IsSound old.simplex) where
      stops_there : (place : Place) → StopsJoining old f (Wide place) → IsStoppedJoining ns q later place
      stops_there place stops = record {
        point = P.point;
        legal = legal_then;
        joining = stops.0;
        last = ((noted_list ns work).lines, inl (number, lines_then));
        at =
            subst (λ (fs : List (List spec.Part)). IsPlaceIn ns fs (told_literals (search_after ns later)) P.point place) (sym then_forms)
            (subst (λ (ls : List Literal). IsPlaceIn ns P.forms ls P.point place) (sym then_told)
            (subst (IsPlaceIn ns P.forms [] P.point) (λ i. record { wide = place.wide; site = sym stops.0 i })
            (joining_place law ns old.simplex f place.wide sound stands.at.over units (stops.4 ns stands.at.over units) stops.1 stops.2 stops.3)));
      }

      -- where a form joins, or doesn't
      pub form_ends : (new : Theory) (r : Result ℕ Stop) → AddsForm old new f → OnOk r ((ms : List Node) → IsOver old ms → AreUnits ms f → position_over ms new.simplex ≡ joined_over ms old.simplex f)
          → IfErr r (StopsJoining old f) → EndsJoining (IsAt new ns) ns q later r
      form_ends new (Ok v) adds is stops = stands_then new adds (is ns stands.at.over units)
      form_ends new (Err (Wide place)) adds is stops = stops_there place stops
      form_ends new (Err Spent) adds is stops = absurd stops
      form_ends new (Err Memory) adds is stops = (P.point, legal_then)

-- ---- A unit alone

-- whether the unit was there is told by how many forms there are then
module _ (ns : List Node) (old new : State) (f : List Part) (p : Part) (is : f ≡ p ∷ []) (alone : is_unit_form f ≡ true) (position : position_over ns new ≡ joined_over ns old f) where
  unit_joined : position_over ns new ≡ (if is_some (unit_number old.forms p.unit) then position_over ns old else with_unit (position_over ns old) (term_in ns p.unit))
  unit_joined =
      position
      ∙ ap (λ (b : Bool). let units = with_all_units (position_over ns old) (unit_terms ns (new_units old.forms f)) in if b then units else with_form units (parts_over ns f)) alone
      ∙ ap (λ (ps : List Part). with_all_units (position_over ns old) (unit_terms ns (new_units old.forms ps))) is
      ∙ by_test (is_some (unit_number old.forms p.unit))
    where
      by_test : (b : Bool) → with_all_units (position_over ns old) (unit_terms ns (if b then [] else unit_of p ∷ [])) ≡ (if b then position_over ns old else with_unit (position_over ns old) (term_in ns p.unit))
      by_test true = refl
      by_test false = refl

  count : (s : State) → length (position_over ns s).forms ≡ length s.forms
  count s = length-map s.forms (parts_over ns)

  there : (b : Bool) → position_over ns new ≡ (if b then position_over ns old else with_unit (position_over ns old) (term_in ns p.unit)) → length new.forms ≤ length old.forms → position_over ns new ≡ position_over ns old
  there true e h = e
  there false e h =
      let more : length (position_over ns new).forms ≡ length ((position_over ns old).forms ++ (unit_form (term_in ns p.unit)).parts ∷ []) = ap (λ (q : Position). length q.forms) e in
      let long = length-append (position_over ns old).forms ((unit_form (term_in ns p.unit)).parts ∷ []) in
      absurd (omega (arith, h, more, long, count new, count old))

  new_there : (b : Bool) → position_over ns new ≡ (if b then position_over ns old else with_unit (position_over ns old) (term_in ns p.unit)) → length old.forms < length new.forms → b ≡ false
  new_there false e h = refl
  new_there true e h =
      let same : length (position_over ns new).forms ≡ length (position_over ns old).forms = ap (λ (q : Position). length q.forms) e in
      absurd (omega (arith, h, same, count new, count old))

  pub unit_was_there : length new.forms ≤ length old.forms → position_over ns new ≡ position_over ns old
  unit_was_there = there (is_some (unit_number old.forms p.unit)) unit_joined

  pub unit_is_new : length old.forms < length new.forms → Contains old.forms f → ⊥
  unit_is_new more has =
      let own : is_form_of p.unit f ≡ true = subst (λ (g : List Part). is_form_of p.unit g ≡ true) (sym is) (ap (λ (b : Bool). b && is_one p.coefficient) (equal-number p.unit p.unit refl) ∙ sym (ap is_unit_form is) ∙ alone) in
      true≢false (sym (number_has old.forms p.unit f has own) ∙ new_there (is_some (unit_number old.forms p.unit)) unit_joined more)

-- ---- Other results

-- an error says the same of any result
pub ends_err : (A B : Type 0) (IsThere : Standing) (ns : List Node) (q : Task) (work : WorkList Note) (e : Stop) → EndsJoining {A = A} IsThere ns q work (Err e) → EndsJoining {A = B} IsThere ns q work (Err e)
ends_err A B IsThere ns q work (Wide place) h = h
ends_err A B IsThere ns q work Spent h = h
ends_err A B IsThere ns q work Memory h = h

-- the lines of a list at which a theory stands lead there
pub stands_legal : (IsThere : Standing) (ns : List Node) (q : Task) (work : WorkList Note) → Stands IsThere ns q work → (point : Point) × Lead q at_first no_point (noted_list ns work).lines point
stands_legal IsThere ns q work stands = (stands.point, stands.legal)

-- a unit alone has no row, so only memory is wanted
pub alone_stops : (IsThere : Standing) (ns : List Node) (q : Task) (work : WorkList Note) (old : Theory) (f : List Part) → is_unit_form f ≡ true → (e : Stop) → StopsJoining old f e
    → (point : Point) × Lead q at_first no_point (noted_list ns work).lines point → EndsJoining {A = ℕ} IsThere ns q work (Err e)
alone_stops IsThere ns q work old f alone (Wide place) stops legal = absurd (true≢false (sym alone ∙ stops.1))
alone_stops IsThere ns q work old f alone Spent stops legal = stops
alone_stops IsThere ns q work old f alone Memory stops legal = legal

-- where nothing joined, and nothing was told, a theory stands where it stood
pub stands_same : (old new : Theory) (f : List Part) (ns : List Node) (q : Task) (work : WorkList Note) → HasTold old [] → AreUnits ns f → AddsForm old new f → position_over ns new.simplex ≡ position_over ns old.simplex
    → Stands (IsAt old ns) ns q work → Stands (IsAt new ns) ns q work
stands_same old new f ns q work untold units adds is stands = record {
  point = stands.point;
  legal = stands.legal;
  at = record {
    over = adds.over ns units stands.at.over;
    forms = stands.at.forms ∙ ap (λ (p : Position). p.forms) (sym is);
    literals = stands.at.literals ∙ ap (map (literal_over ns old)) untold ∙ ap (map (literal_over ns new)) (sym none);
    point = stands.at.point ∙ ap (λ (p : Position). p.point) (sym is);
    bounds = subst (λ (bs : List Held). AreBounds (search_after ns work).forms (told_literals (search_after ns work)) bs) (sym adds.asserted) stands.at.bounds;
    marks = λ r y at. absurd (no_told new.told none r y at);
  };
}
  where
    none : told_lits new ≡ []
    none = ap (map (λ (y : MarkedLiteral). y.literal)) adds.told ∙ untold

-- where a unit alone joined, or was there
pub unit_ends : (ns : List Node) (q : Task) (work after : WorkList Note) (old new : Theory) (f : List Part) → HasTold old [] → AreUnits ns f → AddsForm old new f → is_unit_form f ≡ true
    → position_over ns new.simplex ≡ joined_over ns old.simplex f → length new.simplex.forms ≤ length old.simplex.forms → after ≡ work → Stands (IsAt old ns) ns q work → Stands (IsAt new ns) ns q after
unit_ends ns q work after old new f untold units adds alone position fewer same stands =
    let p = unit_shape f alone in
    subst (λ (w : WorkList Note). Stands (IsAt new ns) ns q w) (sym same)
    (stands_same old new f ns q work untold units adds (unit_was_there ns old.simplex new.simplex f p.0 p.1 alone position fewer) stands)

-- a theory that knows more, and was told nothing, stands where it stood
pub known_more_at : (old new : Theory) (ns : List Node) (fs : List (List spec.Part)) (ls : List Literal) (x : Point) → new.simplex ≡ old.simplex → new.told ≡ old.told → HasTold old [] → IsAt old ns fs ls x → IsAt new ns fs ls x
known_more_at old new ns fs ls x simplex told untold at = record {
  over = subst (λ (s : State). simplex_state.IsOver ns s) (sym simplex) at.over;
  forms = at.forms ∙ ap (λ (s : State). map (parts_over ns) s.forms) (sym simplex);
  literals = at.literals ∙ ap (map (literal_over ns old)) untold ∙ ap (map (literal_over ns new)) (sym (ap (map (λ (y : MarkedLiteral). y.literal)) told ∙ untold));
  point = at.point ∙ ap point_in (sym simplex);
  bounds = subst (λ (s : State). AreBounds fs ls s.asserted) (sym simplex) at.bounds;
  marks = λ r y there.
      subst (λ (s : State). AreBounds fs (take r ls) (take y.mark s.asserted)) (sym simplex) (at.marks r y (subst (λ (ts : List MarkedLiteral). slice_get ts r ≡ Some y) told there));
}
