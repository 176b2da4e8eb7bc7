-- A nonbasic form moves, and the values of the basic forms follow it. Bounds may change too, as values don't depend on them.
use Rattle.std.proofs.Common.{◌≡◌, ℕ, ◌<◌, ◌⊎◌, inl, inr, Bool, true, false, List, length, Option, Some, None, refl, sym, ap, ◌∙◌, subst, true≢false}
use Rattle.std.specs.Prelude.{◌==◌, ◌≢◌, IsSome, option_map, slice_index_or, unwrap_or, if◌then◌else◌}
use Rattle.std.proofs.Math.Path.{fun_ext}
use Rattle.std.proofs.lemmas.List.{length-map}
use Rattle.nz_lists.proofs.Places.{slice_index_or-map}
use Rattle.nz_lists.proofs.Numbers.{equal-number, same_or_other, other-number, same-number}
use Rattle.nz_fractions.specs.Fraction.{Fraction}
use Rattle.nz_spec.specs.numbers.Infinitesimal.{Infinitesimal, ◌=δ◌, ◌+δ◌, ◌-δ◌, scaled}
use Rattle.nz_spec.specs.laws.InfinitesimalMoves.{InfinitesimalsMove}
use Rattle.nz_spec.specs.simplex.Basis.{Coefficients, IsBasis, NonbasicFormIsItself}
use Rattle.nz_spec.specs.simplex.Bland as bland
use Rattle.nz_spec.specs.simplex.Bland.{HasBasis, HasValue, Position, PositionsHaveValues, SumMoves, is_nonbasic, sum_at, zero_infinitesimal}
use Rattle.nz_spec.specs.terms.Table.{Node}
use Rattle.nz_lin.specs.Forms.{parts_over}
use Rattle.nz_tab.specs.Tables.{IsTableau, Table}
use Rattle.nz_trail.specs.Bounds.{TrailState}
use Rattle.nz_simplex.specs.Choices.{IsFollowed}
use Rattle.nz_simplex.specs.State.{State, nonbasic_in, value_in, point_in, IsOver, IsSound, position_over}
use Rattle.nz_simplex.specs.Stored.{state_of}
use Rattle.nz_simplex.specs.Tabled.{marks_in, rows_in}
use Rattle.nz_simplex.proofs.Pointed.{AreKnown, known_marks, known_row, point_marks, row_told}
use Rattle.nz_simplex.proofs.ValuesAfter.{point_is_value, some_inside, some_told}

module _ {S : Type 0} (stands_for : S → Infinitesimal) (tab : Table) (trail later : TrailState S) (old new : List (Option S)) (why : List (ℕ × Fraction)) (v : ℕ) (target : S)
    (moved : slice_index_or new v None ≡ Some target)
    (stays : (k : ℕ) → k ≢ v → slice_index_or (marks_in tab) k false ≡ true → slice_index_or new k None ≡ slice_index_or old k None)
    (sound : IsSound (state_of stands_for tab trail old why)) (nonbasic : nonbasic_in (state_of stands_for tab trail old why) v ≡ true) where
  abbrev here : State
  here = state_of stands_for tab trail old why

  abbrev there : State
  there = state_of stands_for tab later new why

  -- ---- The point

  pub value_moved : value_in there v ≡ Some (stands_for target)
  value_moved = slice_index_or-map (option_map stands_for) new v None ∙ ap (option_map stands_for) moved

  pub value_stays : (k : ℕ) → k ≢ v → nonbasic_in here k ≡ true → value_in there k ≡ value_in here k
  value_stays k other e =
      slice_index_or-map (option_map stands_for) new k None
      ∙ ap (option_map stands_for) (stays k other e)
      ∙ sym (slice_index_or-map (option_map stands_for) old k None)

  pub known_there : AreKnown there
  known_there k e = by_case (same_or_other k v)
    where
      by_case : (k ≡ v) ⊎ (k ≢ v) → IsSome (value_in there k)
      by_case (inl same) = subst (λ (o : Option Infinitesimal). IsSome o) (sym (ap (value_in there) same ∙ value_moved)) refl
      by_case (inr other) = subst (λ (o : Option Infinitesimal). IsSome o) (sym (value_stays k other e)) (sound.known k e)

  pub point_there : (k : ℕ) → point_in there k ≡ (if k == v then Some (stands_for target) else point_in here k)
  point_there k = by_test (k == v) refl
    where
      by_mark : (b : Bool) → nonbasic_in here k ≡ b → k ≢ v → (if b then value_in there k else None) ≡ (if b then value_in here k else None)
      by_mark true e other = value_stays k other e
      by_mark false e other = refl

      by_test : (b : Bool) → (k == v) ≡ b → point_in there k ≡ (if b then Some (stands_for target) else point_in here k)
      by_test true e =
          let same = same-number k v e in
          ap (λ (b : Bool). if b then value_in there k else None) (ap (nonbasic_in here) same ∙ nonbasic) ∙ ap (value_in there) same ∙ value_moved
      by_test false e = by_mark (nonbasic_in here k) refl (λ (same : k ≡ v). true≢false (sym (equal-number k v same) ∙ e))

  pub point_moved : point_in there v ≡ Some (stands_for target)
  point_moved = point_there v ∙ ap (λ (b : Bool). if b then Some (stands_for target) else point_in here v) (equal-number v v refl)

  pub point_stays : (k : ℕ) → k ≢ v → point_in there k ≡ point_in here k
  point_stays k other = point_there k ∙ ap (λ (b : Bool). if b then Some (stands_for target) else point_in here k) (other-number k v other)

  pub marks_same : is_nonbasic (point_in here) ≡ is_nonbasic (point_in there)
  marks_same = fun_ext (λ k. point_marks here sound k ∙ sym (known_marks there known_there k))

  pub over_before : (ns : List Node) → IsOver ns there → IsOver ns here
  over_before ns over = record { table = over.table; units = over.units }

  pub basis_there : (ns : List Node) → IsOver ns there → HasBasis (position_over ns there)
  basis_there ns over = subst (λ (test : ℕ → Bool). IsBasis (position_over ns here).forms test) marks_same (sound.ready ns (over_before ns over)).basis

  -- ---- Values

  module _ (sums : SumMoves) (values : PositionsHaveValues) (law : InfinitesimalsMove) (itself : NonbasicFormIsItself) (tableau : IsTableau tab)
      (long : length new ≡ length tab.forms)
      (follows : (k : ℕ) → k < length tab.forms → slice_index_or (marks_in tab) k false ≡ false
      → IsFollowed stands_for (slice_index_or old v None) target (rows_in tab k v) (slice_index_or old k None) (slice_index_or new k None)) where
    module _ (ns : List Node) (over : IsOver ns there) where
      abbrev was : IsOver ns here
      was = over_before ns over

      abbrev before : Position
      before = position_over ns here

      abbrev after : Position
      after = position_over ns there

      count : length before.forms ≡ length tab.forms
      count = length-map tab.forms (parts_over ns)

      old_value : (k : ℕ) (x : S) → slice_index_or old k None ≡ Some x → value_in here k ≡ Some (stands_for x)
      old_value k x e = slice_index_or-map (option_map stands_for) old k None ∙ ap (option_map stands_for) e

      -- how far the form moves
      moved_to : bland.value_in (point_in there) v ≡ stands_for target
      moved_to = ap (λ (o : Option Infinitesimal). unwrap_or o zero_infinitesimal) point_moved

      moved_from : (w : S) → slice_index_or old v None ≡ Some w → bland.value_in (point_in here) v ≡ stands_for w
      moved_from w from =
          ap (λ (b : Bool). unwrap_or (if b then value_in here v else None) zero_infinitesimal) nonbasic
          ∙ ap (λ (o : Option Infinitesimal). unwrap_or o zero_infinitesimal) (old_value v w from)

      -- the sum of a row moves by its coefficient
      sum_there : (c : Coefficients) (w : S) → slice_index_or old v None ≡ Some w
          → sum_at (length before.forms) c (bland.value_in (point_in there)) =δ (sum_at (length before.forms) c (bland.value_in (point_in here)) +δ scaled (stands_for target -δ stands_for w) (c v))
      sum_there c w from =
          subst
          (λ (d : Infinitesimal). sum_at (length before.forms) c (bland.value_in (point_in there)) =δ (sum_at (length before.forms) c (bland.value_in (point_in here)) +δ scaled (d -δ stands_for w) (c v)))
          moved_to
          (subst
          (λ (d : Infinitesimal). sum_at (length before.forms) c (bland.value_in (point_in there)) =δ (sum_at (length before.forms) c (bland.value_in (point_in here)) +δ scaled (bland.value_in (point_in there) v -δ d) (c v)))
          (moved_from w from)
          (sums (length before.forms) c (bland.value_in (point_in here)) (bland.value_in (point_in there)) v
          ((sound.ready ns was).basis.listed v (point_marks here sound v ∙ nonbasic))
          (λ k other.
          subst (λ (o : Option Infinitesimal). unwrap_or o zero_infinitesimal =δ bland.value_in (point_in here) k) (sym (point_stays k other))
          (law.itself (bland.value_in (point_in here) k)))))

      followed_value : (k : ℕ) (y : S) → k < length tab.forms → nonbasic_in here k ≡ false
          → IsFollowed stands_for (slice_index_or old v None) target (rows_in tab k v) (slice_index_or old k None) (Some y) → HasValue after k (stands_for y)
      followed_value k y inside basic (w, x, from, x_was, value) =
          let c = rows_in tab k in
          let d = stands_for target -δ stands_for w in
          let sum = sum_at (length before.forms) c (bland.value_in (point_in here)) in
          let sum_value : HasValue before k sum = record { row = c; is_row = row_told stands_for tab trail old why sound tableau ns was k inside basic; at = law.itself sum } in
          let equal : stands_for x =δ sum =
          values.one before k (stands_for x) sum (sound.ready ns was).basis (subst (λ (n : ℕ). k < n) (sym count) inside) (sound.right ns k (stands_for x) was (old_value k x x_was)) sum_value in
          let there_sum = sum_at (length before.forms) c (bland.value_in (point_in there)) in
          record {
            row = c;
            is_row = known_row stands_for tab later new why known_there tableau ns over k inside basic;
            at =
                law.along (stands_for y) (stands_for x +δ scaled d (c v)) there_sum value
                (law.along (stands_for x +δ scaled d (c v)) (sum +δ scaled d (c v)) there_sum
                (law.same (stands_for x) sum d d (c v) equal (law.itself d))
                (law.back there_sum (sum +δ scaled d (c v)) (sum_there c w from)));
          }

      pub right_there : (k : ℕ) (x : Infinitesimal) → value_in there k ≡ Some x → HasValue after k x
      right_there k x e = by_mark (nonbasic_in here k) refl
        where
          by_mark : (b : Bool) → nonbasic_in here k ≡ b → HasValue after k x
          by_mark true m = point_is_value itself after (basis_there ns over) k x (ap (λ (b : Bool). if b then value_in there k else None) m ∙ e)
          by_mark false m =
              let known = some_told stands_for (slice_index_or new k None) x (sym (slice_index_or-map (option_map stands_for) new k None) ∙ e) in
              let inside : k < length tab.forms = subst (λ (n : ℕ). k < n) long (some_inside new k known.0 known.1) in
              subst (λ (z : Infinitesimal). HasValue after k z) known.2
              (followed_value k known.0 inside m
              (subst (λ (o : Option S). IsFollowed stands_for (slice_index_or old v None) target (rows_in tab k v) (slice_index_or old k None) o) known.1
              (follows k inside m)))
