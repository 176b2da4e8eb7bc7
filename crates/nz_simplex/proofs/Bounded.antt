-- A simplex with one bound more: a nonbasic form outside of it has moved to it, and nothing else changes.
use Rattle.std.proofs.Common.{◌≡◌, ℕ, ◌<◌, Bool, true, false, List, [], ◌∷◌, ◌++◌, length, Option, Some, None, refl, sym, ap, ◌∙◌, subst}
use Rattle.std.specs.Prelude.{◌==◌, ◌≢◌, option_map, slice_index_or, if◌then◌else◌}
use Rattle.std.specs.declared.cmp.Ordering.{Ordering}
use Rattle.std.specs.Cmp.{IsTotalOrder}
use Rattle.std.proofs.Math.Path.{fun_ext}
use Rattle.std.proofs.lemmas.List.{length-map, map_push}
use Rattle.nz_lists.proofs.Numbers.{same-number}
use Rattle.nz_fractions.specs.Fraction.{Fraction}
use Rattle.nz_spec.specs.numbers.Infinitesimal.{Infinitesimal, infinitesimal_cmp}
use Rattle.nz_spec.specs.laws.InfinitesimalMoves.{InfinitesimalsMove}
use Rattle.nz_spec.specs.simplex.Basis.{NonbasicFormIsItself}
use Rattle.nz_spec.specs.simplex.Bland as bland
use Rattle.nz_spec.specs.simplex.Bland.{HasValue, IsOutside, Point, Position, PositionsHaveValues, SumMoves, bound_on}
use Rattle.nz_spec.specs.simplex.PositionMoves as moves
use Rattle.nz_spec.specs.simplex.PositionMoves.{IsReadyToCheck, MovesKeepReady, bounds_with}
use Rattle.nz_spec.specs.terms.Table.{Node}
use Rattle.nz_lin.specs.Forms.{parts_over}
use Rattle.nz_tab.specs.Tables.{IsTableau, Table}
use Rattle.nz_trail.specs.Bounds.{IsExcluded, IsImplied, TrailState, asserted, other_side, with_bound}
use Rattle.nz_trail.specs.declared.limits.Side.{Side}
use Rattle.nz_trail.specs.declared.limits.Side.TheVariants.{Lower, Upper}
use Rattle.nz_simplex.specs.Choices.{IsFollowed, is_moving}
use Rattle.nz_simplex.specs.Moves.{IsBounded}
use Rattle.nz_simplex.specs.Standing.{Held, half, bound_in, told}
use Rattle.nz_simplex.specs.State.{State, nonbasic_in, point_in, IsOver, IsSound, position_over}
use Rattle.nz_simplex.specs.Stored.{state_of}
use Rattle.nz_simplex.specs.Tabled.{marks_in, rows_in}
use Rattle.nz_simplex.proofs.AssertedBounds.{bound_more, moving_marked, moving_point, news_told, point_kept, value_left, within}
use Rattle.nz_simplex.proofs.HelpfulForms.{bound_told, half_other}
use Rattle.nz_simplex.proofs.NonbasicMoves.{known_there, point_there, right_there}
use Rattle.nz_simplex.proofs.StoredStates.{Soundly}

module _ {S : Type 0} (stands_for : S → Infinitesimal) (order : S → S → Ordering) (total : IsTotalOrder order)
    (same : (x y : S) → order x y ≡ infinitesimal_cmp (stands_for x) (stands_for y))
    (tab : Table) (trail : TrailState S) (old new : List (Option S)) (why : List (ℕ × Fraction)) (v : ℕ) (side : Side) (bound : S) (reason : ℕ)
    (news : ¬ IsImplied order trail.asserted (asserted v side bound reason)) (agrees : ¬ IsExcluded order trail.asserted (asserted v side bound reason))
    (sound : IsSound (state_of stands_for tab trail old why)) (listed : v < length tab.forms) where
  abbrev here : State
  here = state_of stands_for tab trail old why

  abbrev there : State
  there = state_of stands_for tab (with_bound trail (asserted v side bound reason)) new why

  abbrev Points : Type 0
  Points = (k : ℕ) → point_in there k ≡ (if k == v then within stands_for side bound (point_in here k) else point_in here k)

  bounds_there : there.asserted ≡ here.asserted ++ asserted v side (stands_for bound) reason ∷ []
  bounds_there = map_push (told stands_for) trail.asserted (asserted v side bound reason)

  bound_there : (ns : List Node) (half_side : Side) (k : ℕ) → bound_in there.asserted half_side k ≡ bounds_with (half half_side) (half side) (position_over ns here) v (stands_for bound) k
  bound_there ns half_side k =
      ap (λ (bs : List Held). bound_in bs half_side k) bounds_there
      ∙ bound_more (position_over ns here) here.asserted refl refl v (stands_for bound) reason half_side side k
      (news_told stands_for order total same trail.asserted (asserted v side bound reason) news)

  module _ (points : Points) where
    position_there : (ns : List Node) → position_over ns there ≡ moves.with_bound (position_over ns here) (half side) v (stands_for bound)
    position_there ns =
        ap (λ (p : Point). let q : Position = record { forms = (position_over ns here).forms; point = p; lower = bound_in there.asserted Lower; upper = bound_in there.asserted Upper } in q) (fun_ext points)
        ∙ ap (λ (f : ℕ → Option Infinitesimal). let q : Position = record { forms = (position_over ns here).forms; point = (moves.with_bound (position_over ns here) (half side) v (stands_for bound)).point; lower = f; upper = bound_in there.asserted Upper } in q)
        (fun_ext (bound_there ns Lower))
        ∙ ap (λ (f : ℕ → Option Infinitesimal). let q : Position = record { forms = (position_over ns here).forms; point = (moves.with_bound (position_over ns here) (half side) v (stands_for bound)).point; lower = bounds_with bland.lower_side (half side) (position_over ns here) v (stands_for bound); upper = f } in q)
        (fun_ext (bound_there ns Upper))

    pub bounded : IsBounded here there (asserted v side (stands_for bound) reason)
    bounded = record {
      forms = refl;
      marks = refl;
      asserted = bounds_there;
      why = refl;
      position = λ ns over. position_there ns;
    }

    before : (ns : List Node) → IsOver ns there → IsOver ns here
    before ns over = record { table = over.table; units = over.units }

    ready_there : MovesKeepReady → (ns : List Node) → IsOver ns there → IsReadyToCheck (position_over ns there)
    ready_there law ns over =
        subst IsReadyToCheck (sym (position_there ns))
        (law.bound (position_over ns here) (half side) v (stands_for bound) (sound.ready ns (before ns over)) (subst (λ (n : ℕ). v < n) (sym (length-map tab.forms (parts_over ns))) listed)
        (λ other stands out.
        value_left stands_for order total same trail.asserted (asserted v side bound reason) agrees other
        (sym (bound_told ns here (other_side side) v) ∙ ap (λ (h : bland.Side). bound_on h (position_over ns here) v) (sym (half_other side)) ∙ stands)
        (subst (λ (h : bland.Side). IsOutside h other (stands_for bound)) (half_other side) out)))

  -- ---- A form that stays

  module _ (still : is_moving stands_for (marks_in tab) old v side bound ≡ false) (unchanged : new ≡ old) where
    points_kept : Points
    points_kept =
        subst (λ (vs : List (Option S)). (k : ℕ) → point_in (state_of stands_for tab (with_bound trail (asserted v side bound reason)) vs why) k ≡ (if k == v then within stands_for side bound (point_in here k) else point_in here k)) (sym unchanged)
        (point_kept stands_for side bound tab trail old why v still)

    pub bounded_still : IsBounded here there (asserted v side (stands_for bound) reason)
    bounded_still = bounded points_kept

    pub sound_still : MovesKeepReady → IsSound there
    sound_still law =
        let kept : IsSound (state_of stands_for tab (with_bound trail (asserted v side bound reason)) old why) = record {
          marked = sound.marked;
          valued = sound.valued;
          known = sound.known;
          ready = λ ns over.
              subst (λ (vs : List (Option S)). IsReadyToCheck (position_over ns (state_of stands_for tab (with_bound trail (asserted v side bound reason)) vs why))) unchanged
              (ready_there points_kept law ns (record { table = over.table; units = over.units }));
          right = λ ns k x over e.
              let h : HasValue (position_over ns here) k x = sound.right ns k x (record { table = over.table; units = over.units }) e in
              record { row = h.row; is_row = h.is_row; at = h.at };
        } in
        subst (λ (vs : List (Option S)). IsSound (state_of stands_for tab (with_bound trail (asserted v side bound reason)) vs why)) (sym unchanged) kept

  -- ---- A form that moves

  module _ (moving : is_moving stands_for (marks_in tab) old v side bound ≡ true)
      (moved : slice_index_or new v None ≡ Some bound)
      (stays : (k : ℕ) → k ≢ v → slice_index_or (marks_in tab) k false ≡ true → slice_index_or new k None ≡ slice_index_or old k None) where
    abbrev marked : nonbasic_in here v ≡ true
    marked = moving_marked stands_for side bound tab trail old why v moving

    points_moved : Points
    points_moved k =
        point_there stands_for tab trail (with_bound trail (asserted v side bound reason)) old new why v bound moved stays sound marked k
        ∙ by_test (k == v) refl
      where
        by_test : (b : Bool) → (k == v) ≡ b → (if b then Some (stands_for bound) else point_in here k) ≡ (if b then within stands_for side bound (point_in here k) else point_in here k)
        by_test true e =
            sym (subst (λ (n : ℕ). within stands_for side bound (point_in here n) ≡ Some (stands_for bound)) (sym (same-number k v e)) (moving_point stands_for side bound tab trail old why v moving))
        by_test false e = refl

    pub bounded_moved : IsBounded here there (asserted v side (stands_for bound) reason)
    bounded_moved = bounded points_moved

    pub sound_moved : MovesKeepReady → SumMoves → PositionsHaveValues → InfinitesimalsMove → NonbasicFormIsItself → IsTableau tab → length new ≡ length tab.forms
        → ((k : ℕ) → k < length tab.forms → slice_index_or (marks_in tab) k false ≡ false
        → IsFollowed stands_for (slice_index_or old v None) bound (rows_in tab k v) (slice_index_or old k None) (slice_index_or new k None))
        → IsSound there
    sound_moved law sums values infinitesimals itself tableau long follows = record {
      marked = sound.marked;
      valued = length-map new (option_map stands_for) ∙ long;
      known = known_there stands_for tab trail (with_bound trail (asserted v side bound reason)) old new why v bound moved stays sound marked;
      ready = ready_there points_moved law;
      right = λ ns k x over e.
          right_there stands_for tab trail (with_bound trail (asserted v side bound reason)) old new why v bound moved stays sound marked sums values infinitesimals itself tableau long follows ns over k x e;
    }

  -- ---- Either

  pub asserted_bound : MovesKeepReady → SumMoves → PositionsHaveValues → InfinitesimalsMove → NonbasicFormIsItself → IsTableau tab → length new ≡ length tab.forms
      → (is_moving stands_for (marks_in tab) old v side bound ≡ false → new ≡ old)
      → (is_moving stands_for (marks_in tab) old v side bound ≡ true → slice_index_or new v None ≡ Some bound)
      → (is_moving stands_for (marks_in tab) old v side bound ≡ true → (k : ℕ) → k ≢ v → slice_index_or (marks_in tab) k false ≡ true → slice_index_or new k None ≡ slice_index_or old k None)
      → (is_moving stands_for (marks_in tab) old v side bound ≡ true → (k : ℕ) → k < length tab.forms → slice_index_or (marks_in tab) k false ≡ false
      → IsFollowed stands_for (slice_index_or old v None) bound (rows_in tab k v) (slice_index_or old k None) (slice_index_or new k None))
      → IsBounded here there (asserted v side (stands_for bound) reason) × IsSound there
  asserted_bound law sums values infinitesimals itself tableau long still moved stays follows = by_test (is_moving stands_for (marks_in tab) old v side bound) refl
    where
      by_test : (b : Bool) → is_moving stands_for (marks_in tab) old v side bound ≡ b → IsBounded here there (asserted v side (stands_for bound) reason) × IsSound there
      by_test true e = (
        bounded_moved e (moved e) (stays e),
        sound_moved e (moved e) (stays e) law sums values infinitesimals itself tableau long (follows e),
      )
      by_test false e = (bounded_still e (still e), sound_still e (still e) law)

-- ---- By what is shown of the simplex

pub asserted_shown : {S : Type 0} (stands_for : S → Infinitesimal) (order : S → S → Ordering) (total : IsTotalOrder order)
    (same : (x y : S) → order x y ≡ infinitesimal_cmp (stands_for x) (stands_for y))
    (tab : Table) (trail later : TrailState S) (old now new : List (Option S)) (why : List (ℕ × Fraction)) (seen : State) (v : ℕ) (side : Side) (bound : S) (reason : ℕ)
    → state_of stands_for tab trail old why ≡ seen → IsSound (state_of stands_for tab trail old why) → v < length seen.forms
    → (¬ IsImplied order trail.asserted (asserted v side bound reason)) × (¬ IsExcluded order trail.asserted (asserted v side bound reason))
    → later ≡ with_bound trail (asserted v side bound reason) → MovesKeepReady → SumMoves → PositionsHaveValues → InfinitesimalsMove → NonbasicFormIsItself → IsTableau tab → now ≡ old → length new ≡ length now
    → (is_moving stands_for (marks_in tab) now v side bound ≡ false → new ≡ now)
    → (is_moving stands_for (marks_in tab) now v side bound ≡ true → slice_index_or new v None ≡ Some bound)
    → (is_moving stands_for (marks_in tab) now v side bound ≡ true → (k : ℕ) → k ≢ v → slice_index_or (marks_in tab) k false ≡ true → slice_index_or new k None ≡ slice_index_or now k None)
    → (is_moving stands_for (marks_in tab) now v side bound ≡ true → (k : ℕ) → k < length tab.forms → slice_index_or (marks_in tab) k false ≡ false
    → IsFollowed stands_for (slice_index_or now v None) bound (rows_in tab k v) (slice_index_or now k None) (slice_index_or new k None))
    → Soundly (λ s. IsBounded seen s (asserted v side (stands_for bound) reason)) (state_of stands_for tab later new why)
asserted_shown {S} stands_for order total same tab trail later old now new why seen v side bound reason view sound listed news grown law sums values infinitesimals itself tableau is_now long still moved stays follows =
    let listed_here : v < length tab.forms = subst (λ (s : State). v < length s.forms) (sym view) listed in
    let moving : List (Option S) → Bool = λ vs. is_moving stands_for (marks_in tab) vs v side bound in
    let both =
    asserted_bound stands_for order total same tab trail old new why v side bound reason news.0 news.1 sound listed_here law sums values infinitesimals itself tableau
    (long ∙ ap length is_now ∙ sym (length-map old (option_map stands_for)) ∙ sound.valued)
    (subst (λ (vs : List (Option S)). moving vs ≡ false → new ≡ vs) is_now still)
    (subst (λ (vs : List (Option S)). moving vs ≡ true → slice_index_or new v None ≡ Some bound) is_now moved)
    (subst (λ (vs : List (Option S)). moving vs ≡ true → (k : ℕ) → k ≢ v → slice_index_or (marks_in tab) k false ≡ true → slice_index_or new k None ≡ slice_index_or vs k None) is_now stays)
    (subst
    (λ (vs : List (Option S)). moving vs ≡ true → (k : ℕ) → k < length tab.forms → slice_index_or (marks_in tab) k false ≡ false
    → IsFollowed stands_for (slice_index_or vs v None) bound (rows_in tab k v) (slice_index_or vs k None) (slice_index_or new k None))
    is_now follows) in
    record {
      shown =
          subst (λ (t : TrailState S). IsBounded seen (state_of stands_for tab t new why) (asserted v side (stands_for bound) reason)) (sym grown)
          (subst (λ (s : State). IsBounded s (state_of stands_for tab (with_bound trail (asserted v side bound reason)) new why) (asserted v side (stands_for bound) reason)) view both.0);
      sound = subst (λ (t : TrailState S). IsSound (state_of stands_for tab t new why)) (sym grown) both.1;
    }
