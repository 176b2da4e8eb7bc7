-- A check step: the form that leaves stands at its bound, the point is otherwise as it was, and the values of the others follow.
use Rattle.std.proofs.Common.{◌≡◌, ℕ, ◌<◌, ◌⊎◌, inl, inr, Bool, true, false, List, length, map, Option, Some, None, refl, sym, ap, ◌∙◌, subst, true≢false}
use Rattle.std.specs.Prelude.{◌==◌, ◌≢◌, IsSome, option_map, slice_index_or, if◌then◌else◌}
use Rattle.std.specs.List.{AllByRecursion}
use Rattle.std.proofs.Math.Path.{fun_ext}
use Rattle.std.proofs.lemmas.List.{length-map}
use Rattle.nz_lists.proofs.Places.{slice_index_or-map}
use Rattle.nz_lists.proofs.Numbers.{same_or_other, equal-number, other-number, same-number}
use Rattle.nz_fractions.specs.Fraction.{Fraction}
use Rattle.nz_fractions.proofs.Laws.{=ℚ_refl}
use Rattle.nz_spec.specs.numbers.Infinitesimal.{Infinitesimal, ◌+δ◌, ◌-δ◌, scaled}
use Rattle.nz_spec.specs.laws.InfinitesimalMoves.{InfinitesimalsMove}
use Rattle.nz_spec.specs.simplex.Basis.{NonbasicFormIsItself}
use Rattle.nz_spec.specs.simplex.BasisMoves.{exchanged}
use Rattle.nz_spec.specs.simplex.Bland as bland
use Rattle.nz_spec.specs.simplex.Bland.{Point, Position, HasBasis, HasValue, CanHelp, CheckStepsKeepBasis, IsCheckStep, exchanged_point}
use Rattle.nz_spec.specs.terms.Form as spec
use Rattle.nz_spec.specs.simplex.Pivots.{MayPivot, pivot}
use Rattle.nz_spec.specs.simplex.PositionMoves.{MovesKeepReady}
use Rattle.nz_spec.specs.terms.Table.{Node}
use Rattle.nz_lin.specs.declared.form.Part.{Part}
use Rattle.nz_lin.specs.Forms.{AreUnits, parts_over}
use Rattle.nz_tab.specs.Tables.{IsPivoted, IsTableau, Table}
use Rattle.nz_trail.specs.Bounds.{TrailState}
use Rattle.nz_trail.specs.declared.limits.Side.{Side}
use Rattle.nz_simplex.specs.Checks.{IsFirstBroken}
use Rattle.nz_simplex.specs.Choices.{IsFollowed}
use Rattle.nz_simplex.specs.Standing.{half}
use Rattle.nz_simplex.specs.State.{State, nonbasic_in, value_in, point_in, IsOver, IsSound, position_over}
use Rattle.nz_simplex.specs.Stored.{state_of}
use Rattle.nz_simplex.specs.Tabled.{marks_in, rows_in}
use Rattle.nz_simplex.proofs.Pointed.{AreKnown, known_row}
use Rattle.nz_simplex.proofs.ValuesAfter.{equal_value, point_is_value, some_inside, some_told}

-- ---- The step that may be next

-- what is known of the forms of a step
pub record IsChosen (p : Position) (side : bland.Side) (bound : Infinitesimal) (i j : ℕ) : Type 0 where
  pub first : IsFirstBroken p side bound i
  pub helps : CanHelp p i (bland.other_side side) j
  pub least : (k : ℕ) → k < j → CanHelp p i (bland.other_side side) k → ⊥

pub chosen_step : (p t : Position) (side : bland.Side) (bound : Infinitesimal) (i j : ℕ) → IsChosen p side bound i j → t ≡ record p { point = exchanged_point p.point i j bound } → IsCheckStep p t i j
chosen_step p t side bound i j chosen after = record {
  side = side;
  bound = bound;
  breaks = chosen.first.breaks;
  least_broken = chosen.first.least;
  helps = chosen.helps;
  least_helper = chosen.least;
  after = after;
}

pub chosen_may : (p : Position) (side : bland.Side) (bound : Infinitesimal) (i j : ℕ) → IsChosen p side bound i j → MayPivot p (pivot i j)
chosen_may p side bound i j chosen = record {
  after = record p { point = exchanged_point p.point i j bound };
  step = chosen_step p (record p { point = exchanged_point p.point i j bound }) side bound i j chosen refl;
}

-- ---- After it

module _ {S : Type 0} (stands_for : S → Infinitesimal) (old_tab new_tab : Table) (trail : TrailState S) (old new : List (Option S)) (why : List (ℕ × Fraction)) (i j : ℕ) (target : S)
    (pivoted : IsPivoted old_tab new_tab i j)
    (moved : slice_index_or new i None ≡ Some target)
    (stays : (k : ℕ) → k ≢ i → slice_index_or (marks_in new_tab) k false ≡ true → slice_index_or new k None ≡ slice_index_or old k None)
    (sound : IsSound (state_of stands_for old_tab trail old why)) where
  abbrev here : State
  here = state_of stands_for old_tab trail old why

  abbrev there : State
  there = state_of stands_for new_tab trail new why

  -- ---- The point

  marks_after : (k : ℕ) → nonbasic_in there k ≡ exchanged (nonbasic_in here) i j k
  marks_after k = pivoted.rows.nonbasic k

  value_moved : value_in there i ≡ Some (stands_for target)
  value_moved = slice_index_or-map (option_map stands_for) new i None ∙ ap (option_map stands_for) moved

  value_stays : (k : ℕ) → k ≢ i → nonbasic_in there k ≡ true → value_in there k ≡ value_in here k
  value_stays k other nonbasic =
      slice_index_or-map (option_map stands_for) new k None
      ∙ ap (option_map stands_for) (stays k other nonbasic)
      ∙ sym (slice_index_or-map (option_map stands_for) old k None)

  -- a form that isn't exchanged was nonbasic before
  nonbasic_before : (k : ℕ) → k ≢ i → nonbasic_in there k ≡ true → (k ≢ j) × (nonbasic_in here k ≡ true)
  nonbasic_before k other e = by_test (k == j) refl (sym (ap (λ (b : Bool). if b then true else if k == j then false else nonbasic_in here k) (other-number k i other)) ∙ sym (marks_after k) ∙ e)
    where
      by_test : (b : Bool) → (k == j) ≡ b → (if b then false else nonbasic_in here k) ≡ true → (k ≢ j) × (nonbasic_in here k ≡ true)
      by_test true t h = absurd (true≢false (sym h))
      by_test false t h = (λ (same : k ≡ j). true≢false (sym (equal-number k j same) ∙ t), h)

  pub known_after : AreKnown there
  known_after k e = by_case (same_or_other k i)
    where
      by_case : (k ≡ i) ⊎ (k ≢ i) → IsSome (value_in there k)
      by_case (inl same) = subst (λ (o : Option Infinitesimal). IsSome o) (sym (ap (value_in there) same ∙ value_moved)) refl
      by_case (inr other) = subst (λ (o : Option Infinitesimal). IsSome o) (sym (value_stays k other e)) (sound.known k (nonbasic_before k other e).1)

  point_after : (k : ℕ) → point_in there k ≡ exchanged_point (point_in here) i j (stands_for target) k
  point_after k =
      ap (λ (b : Bool). if b then value_in there k else None) (marks_after k)
      ∙ by_tests (k == i) (k == j) refl refl
    where
      by_mark : (b : Bool) → nonbasic_in here k ≡ b → k ≢ i → nonbasic_in there k ≡ b → (if b then value_in there k else None) ≡ (if b then value_in here k else None)
      by_mark true e other f = value_stays k other f
      by_mark false e other f = refl

      by_tests : (b c : Bool) → (k == i) ≡ b → (k == j) ≡ c
          → (if (if b then true else if c then false else nonbasic_in here k) then value_in there k else None) ≡ (if b then Some (stands_for target) else if c then None else point_in here k)
      by_tests true c e f = ap (value_in there) (same-number k i e) ∙ value_moved
      by_tests false true e f = refl
      by_tests false false e f =
          by_mark (nonbasic_in here k) refl (λ (same : k ≡ i). true≢false (sym (equal-number k i same) ∙ e))
          (marks_after k ∙ ap (λ (b : Bool). if b then true else if k == j then false else nonbasic_in here k) e ∙ ap (λ (b : Bool). if b then false else nonbasic_in here k) f)

  forms_after : (ns : List Node) → map (parts_over ns) new_tab.forms ≡ map (parts_over ns) old_tab.forms
  forms_after ns = ap (map (parts_over ns)) pivoted.forms

  pub position_after : (ns : List Node) → position_over ns there ≡ record (position_over ns here) { point = exchanged_point (point_in here) i j (stands_for target) }
  position_after ns =
      ap (λ (fs : List (List spec.Part)). let q : Position = record { forms = fs; point = point_in there; lower = (position_over ns here).lower; upper = (position_over ns here).upper } in q) (forms_after ns)
      ∙ ap (λ (p : Point). let q : Position = record { forms = (position_over ns here).forms; point = p; lower = (position_over ns here).lower; upper = (position_over ns here).upper } in q)
      (fun_ext point_after)

  pub over_before : (ns : List Node) → IsOver ns there → IsOver ns here
  over_before ns over = record { table = over.table; units = subst (λ (fs : List (List Part)). AllByRecursion (AreUnits ns) fs) pivoted.forms over.units }

  -- ---- The step, and the values after it

  module _ (side : Side) (chosen : (ns : List Node) → IsOver ns here → IsChosen (position_over ns here) (half side) (stands_for target) i j) where
    pub step_after : (ns : List Node) → IsOver ns here → IsCheckStep (position_over ns here) (position_over ns there) i j
    step_after ns over =
        chosen_step (position_over ns here) (position_over ns there) (half side) (stands_for target) i j (chosen ns over) (position_after ns)

    module _ (moves : MovesKeepReady) (kept : CheckStepsKeepBasis) (law : InfinitesimalsMove) (itself : NonbasicFormIsItself) (tableau : IsTableau new_tab)
        (long : length new ≡ length new_tab.forms)
        (follows : (k : ℕ) → k < length new_tab.forms → slice_index_or (marks_in new_tab) k false ≡ false
        → IsFollowed stands_for (slice_index_or old i None) target (rows_in new_tab k i) (slice_index_or old k None) (slice_index_or new k None)) where
      module _ (ns : List Node) (over : IsOver ns there) where
        abbrev before : Position
        before = position_over ns here

        abbrev after : Position
        after = position_over ns there

        abbrev was : IsOver ns here
        was = over_before ns over

        abbrev step : IsCheckStep before after i j
        step = step_after ns was

        abbrev basis : HasBasis before
        basis = (sound.ready ns was).basis

        basis_after : HasBasis after
        basis_after = kept.basis before after i j basis step

        old_value : (k : ℕ) (x : S) → slice_index_or old k None ≡ Some x → HasValue before k (stands_for x)
        old_value k x e = sound.right ns k (stands_for x) was (slice_index_or-map (option_map stands_for) old k None ∙ ap (option_map stands_for) e)

        nonbasic_value : (k : ℕ) (x : Infinitesimal) → nonbasic_in there k ≡ true → value_in there k ≡ Some x → HasValue after k x
        nonbasic_value k x nonbasic e =
            point_is_value itself after basis_after k x (ap (λ (b : Bool). if b then value_in there k else None) nonbasic ∙ e)

        followed_value : (k : ℕ) (y : S) → k < length new_tab.forms → nonbasic_in there k ≡ false
            → IsFollowed stands_for (slice_index_or old i None) target (rows_in new_tab k i) (slice_index_or old k None) (Some y) → HasValue after k (stands_for y)
        unfolding step_after chosen_step
        followed_value k y inside basic (w, x, from, x_was, value) =
            equal_value law after k (stands_for y) (stands_for x +δ scaled (stands_for target -δ stands_for w) (rows_in new_tab k i)) value
            (kept.moves before after i j k (stands_for x) (stands_for w) (rows_in new_tab k i) basis step
            (subst (λ (n : ℕ). k < n) (ap length pivoted.forms ∙ sym (length-map old_tab.forms (parts_over ns))) inside)
            (old_value k x x_was)
            (old_value i w from)
            (record {
              row = rows_in new_tab k;
              is_row = known_row stands_for new_tab trail new why known_after tableau ns over k inside basic;
              at = =ℚ_refl (rows_in new_tab k i);
            }))

        right_after : (k : ℕ) (x : Infinitesimal) → value_in there k ≡ Some x → HasValue after k x
        right_after k x e = by_mark (nonbasic_in there k) refl
          where
            inside : (y : S) → slice_index_or new k None ≡ Some y → k < length new_tab.forms
            inside y f = subst (λ (n : ℕ). k < n) long (some_inside new k y f)

            by_mark : (b : Bool) → nonbasic_in there k ≡ b → HasValue after k x
            by_mark true m = nonbasic_value k x m e
            by_mark false m =
                let known = some_told stands_for (slice_index_or new k None) x (sym (slice_index_or-map (option_map stands_for) new k None) ∙ e) in
                let here_now = inside known.0 known.1 in
                subst (λ (z : Infinitesimal). HasValue after k z) known.2
                (followed_value k known.0 here_now m
                (subst (λ (o : Option S). IsFollowed stands_for (slice_index_or old i None) target (rows_in new_tab k i) (slice_index_or old k None) o) known.1
                (follows k here_now m)))

      pub sound_after : IsSound there
      sound_after = record {
        marked = pivoted.rows.count ∙ sound.marked ∙ ap length (sym pivoted.forms);
        valued = length-map new (option_map stands_for) ∙ long;
        known = known_after;
        ready = λ ns over.
            moves.step (position_over ns here) (position_over ns there) i j (sound.ready ns (over_before ns over)) (step_after ns (over_before ns over));
        right = λ ns k x over e. right_after ns over k x e;
      }
