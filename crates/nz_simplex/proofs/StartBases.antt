-- A simplex without bounds on another basis: it is sound where each nonbasic form has a value, and no value of a basic one is known.
use Rattle.std.proofs.Common.{◌≡◌, ℕ, ◌<◌, Bool, true, false, List, [], length, map, Option, Some, None, pos, refl, sym, ap, ◌∙◌, subst, true≢false}
use Rattle.std.specs.Prelude.{◌==◌, ◌≢◌, IsSome, option_map, set, slice_index_or, if◌then◌else◌}
use Rattle.std.proofs.Math.Path.{fun_ext}
use Rattle.std.proofs.lemmas.List.{length-map, length-set, get_or-set_same, get_or-set_other}
use Rattle.nz_lists.proofs.Places.{slice_index_or-map}
use Rattle.nz_lists.proofs.Numbers.{equal-number, same-number}
use Rattle.nz_fractions.specs.Fraction.{Fraction, first_wide, whole}
use Rattle.nz_fractions.proofs.Order.{same-fraction_eq}
use Rattle.nz_spec.specs.numbers.Infinitesimal.{Infinitesimal}
use Rattle.nz_spec.specs.simplex.Basis.{IsBasis, IsCoefficient, NonbasicFormIsItself}
use Rattle.nz_spec.specs.simplex.BasisMoves.{AreRows, Rows, exchange}
use Rattle.nz_spec.specs.simplex.Bland as bland
use Rattle.nz_spec.specs.simplex.Bland.{HasBasis, HasValue, bound_on, is_nonbasic, lower_side, upper_side, zero_infinitesimal}
use Rattle.nz_spec.specs.terms.Table.{Node}
use Rattle.nz_spec.specs.terms.Term.{is_zero}
use Rattle.nz_lin.specs.Forms.{parts_over}
use Rattle.nz_frac.specs.Operations.{operation_of}
use Rattle.nz_frac.specs.declared.frac.Wide.{Wide}
use Rattle.nz_tab.specs.Tables.{IsPivoted, IsTableau, Table}
use Rattle.nz_trail.specs.Bounds.{TrailState}
use Rattle.nz_trail.specs.declared.limits.Side.TheVariants.{Lower, Upper}
use Rattle.nz_simplex.specs.Moves.{IsExchanged, KnowsNonbasicAlone, StandsAt}
use Rattle.nz_simplex.specs.Standing.{Held, bound_in}
use Rattle.nz_simplex.specs.State.{State, nonbasic_in, value_in, IsOver, IsSound, position_over}
use Rattle.nz_simplex.specs.Stored.{state_of}
use Rattle.nz_simplex.specs.Tabled.{rows_in}
use Rattle.nz_simplex.proofs.Pointed.{AreKnown, known_marks, point_marks, row_told, rows_told}
use Rattle.nz_simplex.proofs.SettledForms.{marked_inside}
use Rattle.nz_simplex.proofs.ValuesAfter.{point_is_value}
use Rattle.nz_simplex.proofs.StoredStates.{Soundly}

-- ---- Soundness without bounds

module _ (s : State) (unbounded : s.asserted ≡ []) where
  no_bound : (ns : List Node) (side : bland.Side) (k : ℕ) → bound_on side (position_over ns s) k ≡ None
  no_bound ns lower_side k = ap (λ (bs : List Held). bound_in bs Lower k) unbounded
  no_bound ns upper_side k = ap (λ (bs : List Held). bound_in bs Upper k) unbounded

  nothing_stands : (ns : List Node) (side : bland.Side) (k : ℕ) (bound : Infinitesimal) → bound_on side (position_over ns s) k ≡ Some bound → ⊥
  nothing_stands ns side k bound e = let none : None ≡ Some bound = sym (no_bound ns side k) ∙ e in absurd (cc)

  pub sound_unbounded : NonbasicFormIsItself → length s.marks ≡ length s.forms → length s.values ≡ length s.forms → AreKnown s → KnowsNonbasicAlone s
      → ((ns : List Node) → IsOver ns s → HasBasis (position_over ns s)) → IsSound s
  sound_unbounded itself marked valued known alone basis = record {
    marked = marked;
    valued = valued;
    known = known;
    ready = λ ns over. record {
      basis = basis ns over;
      listed = λ side k bound e. absurd (nothing_stands ns side k bound e);
      fit = λ side k bound nonbasic e out. nothing_stands ns side k bound e;
      consistent = λ k low high e f out. nothing_stands ns lower_side k low e;
    };
    right = right_value;
  }
    where
      right_value : (ns : List Node) (k : ℕ) (x : Infinitesimal) → IsOver ns s → value_in s k ≡ Some x → HasValue (position_over ns s) k x
      right_value ns k x over e = by_mark (nonbasic_in s k) refl
        where
          by_mark : (b : Bool) → nonbasic_in s k ≡ b → HasValue (position_over ns s) k x
          by_mark true m = point_is_value itself (position_over ns s) (basis ns over) k x (ap (λ (b : Bool). if b then value_in s k else None) m ∙ e)
          by_mark false m = let none : None ≡ Some x = sym (alone k m) ∙ e in absurd (cc)

-- the basis of the table is that of the position
basis_over : {S : Type 0} (stands_for : S → Infinitesimal) (tab : Table) (trail : TrailState S) (values : List (Option S)) (why : List (ℕ × Fraction))
    → AreKnown (state_of stands_for tab trail values why) → IsTableau tab → (ns : List Node) → IsOver ns (state_of stands_for tab trail values why)
    → HasBasis (position_over ns (state_of stands_for tab trail values why))
basis_over stands_for tab trail values why known tableau ns over =
    let here : State = state_of stands_for tab trail values why in
    subst (λ (nonbasic : ℕ → Bool). IsBasis (map (parts_over ns) tab.forms) nonbasic) (sym (fun_ext (known_marks here known))) (tableau ns over.table over.units).basis

-- ---- Values

value_set : {S : Type 0} (stands_for : S → Infinitesimal) (values : List (Option S)) (v : ℕ) (o : Option S) → v < length values → (k : ℕ)
    → slice_index_or (map (option_map stands_for) (set values v o)) k None ≡ (if k == v then option_map stands_for o else slice_index_or (map (option_map stands_for) values) k None)
value_set {S} stands_for values v o inside k = slice_index_or-map (option_map stands_for) (set values v o) k None ∙ by_test (k == v) refl
  where
    by_test : (b : Bool) → (k == v) ≡ b
        → option_map stands_for (slice_index_or (set values v o) k None) ≡ (if b then option_map stands_for o else slice_index_or (map (option_map stands_for) values) k None)
    by_test true t =
        ap (λ (n : ℕ). option_map stands_for (slice_index_or (set values v o) n None)) (same-number k v t)
        ∙ ap (option_map stands_for) (get_or-set_same values v o None inside)
    by_test false t =
        ap (option_map stands_for) (get_or-set_other values v k o None (λ (same : k ≡ v). true≢false (sym (equal-number k v same) ∙ t)))
        ∙ sym (slice_index_or-map (option_map stands_for) values k None)

inside_values : {S : Type 0} (stands_for : S → Infinitesimal) (tab : Table) (trail : TrailState S) (values : List (Option S)) (why : List (ℕ × Fraction))
    → IsSound (state_of stands_for tab trail values why) → (k : ℕ) → k < length tab.forms → k < length values
inside_values stands_for tab trail values why sound k listed = subst (λ (n : ℕ). k < n) (sym sound.valued ∙ length-map values (option_map stands_for)) listed

-- ---- A form that stands at a value

module _ (s t : State) (v : ℕ) (x : Infinitesimal) (h : StandsAt s t v x) where
  marks_stay : (k : ℕ) → nonbasic_in t k ≡ nonbasic_in s k
  marks_stay k = ap (λ (ms : List Bool). slice_index_or ms k false) h.marks

  pub stands_known : AreKnown s → AreKnown t
  stands_known known k e = subst (λ (o : Option Infinitesimal). IsSome o) (sym (h.values k)) (by_test (k == v))
    where
      by_test : (b : Bool) → IsSome (if b then Some x else value_in s k)
      by_test true = refl
      by_test false = known k (sym (marks_stay k) ∙ e)

  pub stands_alone : nonbasic_in s v ≡ true → KnowsNonbasicAlone s → KnowsNonbasicAlone t
  stands_alone nonbasic alone k e = h.values k ∙ by_test (k == v) refl
    where
      basic : nonbasic_in s k ≡ false
      basic = sym (marks_stay k) ∙ e

      by_test : (b : Bool) → (k == v) ≡ b → (if b then Some x else value_in s k) ≡ None
      by_test true same = absurd (true≢false (sym nonbasic ∙ ap (nonbasic_in s) (sym (same-number k v same)) ∙ basic))
      by_test false other = alone k basic

pub stands_shown : {S : Type 0} (stands_for : S → Infinitesimal) (tab : Table) (trail : TrailState S) (values : List (Option S)) (why : List (ℕ × Fraction)) (seen : State) (v : ℕ) (x : S)
    → state_of stands_for tab trail values why ≡ seen → IsSound (state_of stands_for tab trail values why) → nonbasic_in seen v ≡ true → seen.asserted ≡ [] → KnowsNonbasicAlone seen
    → NonbasicFormIsItself → IsTableau tab → Soundly (λ s. StandsAt seen s v (stands_for x)) (state_of stands_for tab trail (set values v (Some x)) why)
stands_shown {S} stands_for tab trail values why seen v x view sound nonbasic unbounded alone itself tableau =
    let here : State = state_of stands_for tab trail values why in
    let there : State = state_of stands_for tab trail (set values v (Some x)) why in
    let marked : nonbasic_in here v ≡ true = ap (λ (s : State). nonbasic_in s v) view ∙ nonbasic in
    let inside : v < length values = inside_values stands_for tab trail values why sound v (subst (λ (n : ℕ). v < n) sound.marked (marked_inside here.marks v marked)) in
    let stands : StandsAt here there v (stands_for x) = record { forms = refl; marks = refl; values = value_set stands_for values v (Some x) inside; asserted = refl; why = refl } in
    let known : AreKnown there = stands_known here there v (stands_for x) stands sound.known in
    record {
      shown = subst (λ (s : State). StandsAt s there v (stands_for x)) view stands;
      sound =
          sound_unbounded there (ap (λ (s : State). s.asserted) view ∙ unbounded) itself sound.marked
          (length-map (set values v (Some x)) (option_map stands_for) ∙ length-set values v (Some x) ∙ sym (length-map values (option_map stands_for)) ∙ sound.valued)
          known
          (stands_alone here there v (stands_for x) stands marked (subst (λ (s : State). KnowsNonbasicAlone s) (sym view) alone))
          (λ ns over. basis_over stands_for tab trail (set values v (Some x)) why known tableau ns over);
    }

-- ---- An exchange

module _ (s t : State) (i j : ℕ) (h : IsExchanged s t i j) where
  pub exchanged_known : AreKnown s → AreKnown t
  exchanged_known known k e = subst (λ (o : Option Infinitesimal). IsSome o) (sym (h.values k)) (by_tests (k == i) (k == j) (sym (h.marks k) ∙ e))
    where
      by_tests : (b c : Bool) → (if b then true else if c then false else nonbasic_in s k) ≡ true → IsSome (if b then Some zero_infinitesimal else if c then None else value_in s k)
      by_tests true c m = refl
      by_tests false true m = absurd (true≢false (sym m))
      by_tests false false m = known k m

  pub exchanged_alone : KnowsNonbasicAlone s → KnowsNonbasicAlone t
  exchanged_alone alone k e = h.values k ∙ by_tests (k == i) (k == j) (sym (h.marks k) ∙ e)
    where
      by_tests : (b c : Bool) → (if b then true else if c then false else nonbasic_in s k) ≡ false → (if b then Some zero_infinitesimal else if c then None else value_in s k) ≡ None
      by_tests true c m = absurd (true≢false m)
      by_tests false true m = refl
      by_tests false false m = alone k m

module _ {S : Type 0} (stands_for : S → Infinitesimal) (tab : Table) (trail : TrailState S) (values : List (Option S)) (why : List (ℕ × Fraction)) (seen : State)
    (view : state_of stands_for tab trail values why ≡ seen) (sound : IsSound (state_of stands_for tab trail values why))
    (i j : ℕ) (listed : i < length seen.forms) (basic : nonbasic_in seen i ≡ false) where
  abbrev here : State
  here = state_of stands_for tab trail values why

  listed_here : i < length tab.forms
  listed_here = subst (λ (s : State). i < length s.forms) (sym view) listed

  basic_here : nonbasic_in here i ≡ false
  basic_here = ap (λ (s : State). nonbasic_in s i) view ∙ basic

  -- a row without a coefficient there
  pub no_coefficient : IsTableau tab → is_zero (rows_in tab i j) ≡ true → (ns : List Node) → IsOver ns seen
      → IsCoefficient (position_over ns seen).forms (is_nonbasic (position_over ns seen).point) i j (whole (pos 0))
  no_coefficient tableau e =
      subst (λ (s : State). (ns : List Node) → IsOver ns s → IsCoefficient (position_over ns s).forms (is_nonbasic (position_over ns s).point) i j (whole (pos 0))) view
      (λ ns over. record {
        row = rows_in tab i;
        is_row = row_told stands_for tab trail values why sound tableau ns over i listed_here basic_here;
        at = same-fraction_eq (rows_in tab i j) (whole (pos 0)) e;
      })

  -- an exchange that leaves the numbers
  pub exchange_stops : IsTableau tab → (w : Wide) → first_wide (exchange (length tab.forms) (nonbasic_in here) (rows_in tab) i j).operations ≡ Some (operation_of w)
      → (ns : List Node) → IsOver ns seen
      → (rows : Rows) × AreRows (position_over ns seen).forms (is_nonbasic (position_over ns seen).point) rows
      × (first_wide (exchange (length seen.forms) (is_nonbasic (position_over ns seen).point) rows i j).operations ≡ Some (operation_of w))
  exchange_stops tableau w e =
      subst
      (λ (s : State). (ns : List Node) → IsOver ns s
      → (rows : Rows) × AreRows (position_over ns s).forms (is_nonbasic (position_over ns s).point) rows
      × (first_wide (exchange (length s.forms) (is_nonbasic (position_over ns s).point) rows i j).operations ≡ Some (operation_of w)))
      view
      (λ ns over. (
        rows_in tab,
        rows_told stands_for tab trail values why sound tableau ns over,
        ap (λ (nonbasic : ℕ → Bool). first_wide (exchange (length tab.forms) nonbasic (rows_in tab) i j).operations) (fun_ext (point_marks here sound)) ∙ e,
      ))

  -- what the exchange leaves
  module _ (nonbasic : nonbasic_in seen j ≡ true) (new_tab : Table) (target : S) (pivoted : IsPivoted tab new_tab i j) (at_zero : stands_for target ≡ zero_infinitesimal) where
    abbrev new : List (Option S)
    new = set (set values i (Some target)) j None

    abbrev there : State
    there = state_of stands_for new_tab trail new why

    nonbasic_here : nonbasic_in here j ≡ true
    nonbasic_here = ap (λ (s : State). nonbasic_in s j) view ∙ nonbasic

    apart : i ≢ j
    apart same = true≢false (sym nonbasic_here ∙ ap (nonbasic_in here) (sym same) ∙ basic_here)

    inside_first : i < length values
    inside_first = inside_values stands_for tab trail values why sound i listed_here

    inside_second : j < length (set values i (Some target))
    inside_second =
        subst (λ (n : ℕ). j < n) (sym (length-set values i (Some target)))
        (inside_values stands_for tab trail values why sound j (subst (λ (n : ℕ). j < n) sound.marked (marked_inside here.marks j nonbasic_here)))

    values_after : (k : ℕ) → value_in there k ≡ (if k == i then Some zero_infinitesimal else if k == j then None else value_in here k)
    values_after k =
        value_set stands_for (set values i (Some target)) j None inside_second k
        ∙ ap (λ (o : Option Infinitesimal). if k == j then None else o) (value_set stands_for values i (Some target) inside_first k)
        ∙ by_tests (k == i) (k == j) refl refl
      where
        by_tests : (b c : Bool) → (k == i) ≡ b → (k == j) ≡ c
            → (if c then None else if b then Some (stands_for target) else value_in here k) ≡ (if b then Some zero_infinitesimal else if c then None else value_in here k)
        by_tests true true e f = absurd (apart (sym (same-number k i e) ∙ same-number k j f))
        by_tests true false e f = ap Some at_zero
        by_tests false true e f = refl
        by_tests false false e f = refl

    exchanged_here : IsExchanged here there i j
    exchanged_here = record { forms = pivoted.forms; marks = pivoted.rows.nonbasic; values = values_after; asserted = refl; why = refl }

    pub exchanged_shown : seen.asserted ≡ [] → KnowsNonbasicAlone seen → NonbasicFormIsItself → IsTableau new_tab → Soundly (λ s. IsExchanged seen s i j) there
    exchanged_shown unbounded alone itself tableau =
        let known : AreKnown there = exchanged_known here there i j exchanged_here sound.known in
        record {
          shown = subst (λ (s : State). IsExchanged s there i j) view exchanged_here;
          sound =
              sound_unbounded there (ap (λ (s : State). s.asserted) view ∙ unbounded) itself
              (pivoted.rows.count ∙ sound.marked ∙ ap length (sym pivoted.forms))
              (length-map new (option_map stands_for) ∙ length-set (set values i (Some target)) j None ∙ length-set values i (Some target)
              ∙ sym (length-map values (option_map stands_for)) ∙ sound.valued ∙ ap length (sym pivoted.forms))
              known
              (exchanged_alone here there i j exchanged_here (subst (λ (s : State). KnowsNonbasicAlone s) (sym view) alone))
              (λ ns over. basis_over stands_for new_tab trail new why known tableau ns over);
        }
