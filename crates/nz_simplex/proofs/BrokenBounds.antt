-- Which basic forms break a bound: what is tested is what the definitions say, and where none does, the point is within all bounds.
use Rattle.std.proofs.Common.{◌≡◌, ℕ, ◌<◌, Bool, true, false, List, length, Option, Some, None, refl, sym, ap, ◌∙◌, subst, true≢false}
use Rattle.std.specs.Prelude.{◌||◌, IsSome, not, option_map, unwrap_or}
use Rattle.std.proofs.lemmas.List.{length-map}
use Rattle.nz_spec.specs.numbers.Infinitesimal.{Infinitesimal, ◌=δ◌}
use Rattle.nz_spec.specs.laws.InfinitesimalMoves.{InfinitesimalsMove}
use Rattle.nz_spec.specs.simplex.Bland as bland
use Rattle.nz_spec.specs.simplex.Bland.{lower_side, upper_side, Breaks, IsOutside, PositionsHaveValues, bound_on, zero_infinitesimal}
use Rattle.nz_spec.specs.simplex.PositionMoves.{IsReadyToCheck}
use Rattle.nz_spec.specs.terms.Table.{Node}
use Rattle.nz_lin.specs.Forms.{parts_over}
use Rattle.nz_trail.specs.declared.limits.Limit.{Limit}
use Rattle.nz_trail.specs.declared.limits.Side.{Side}
use Rattle.nz_trail.specs.declared.limits.Side.TheVariants.{Lower, Upper}
use Rattle.nz_simplex.specs.Checks.{IsFeasible, IsFirstBroken}
use Rattle.nz_simplex.specs.Standing.{Held, half, standing, bound_in}
use Rattle.nz_simplex.specs.State.{State, nonbasic_in, value_in, IsOver, IsSound, position_over}
use Rattle.nz_simplex.specs.Stored.{IsPastBound, basic_numbers, breaks_held, first_passing, is_breaking, is_broken}
use Rattle.nz_simplex.proofs.Firsts.{first_least, first_none}
use Rattle.nz_simplex.proofs.HelpfulForms.{bound_told, outside_test}
use Rattle.nz_simplex.proofs.Pointed.{point_marks}
use Rattle.nz_simplex.proofs.LooserBounds.{outside_told}

-- ---- The test

held_tested : (side : Side) (o : Option Held) (bound x : Infinitesimal) → option_map (λ (b : Held). b.value) o ≡ Some bound → IsOutside (half side) bound x → breaks_held side o x ≡ true
held_tested side None bound x e h = absurd (cc)
held_tested side (Some b) bound x e h =
    outside_test (half side) b.value x (subst (λ (y : Infinitesimal). IsOutside (half side) y x) (sym (ap (λ (o : Option Infinitesimal). unwrap_or o bound) e)) h)

on_either : (s : State) (side : Side) (k : ℕ) (x : Infinitesimal) → breaks_held side (standing s.asserted k side) x ≡ true → is_broken s k x ≡ true
on_either s Lower k x e = ap (λ (b : Bool). b || breaks_held Upper (standing s.asserted k Upper) x) e
on_either s Upper k x e = either (breaks_held Lower (standing s.asserted k Lower) x) e
  where
    either : {c : Bool} (b : Bool) → c ≡ true → (b || c) ≡ true
    either true h = refl
    either false h = h

side_of : bland.Side → Side
side_of lower_side = Lower
side_of upper_side = Upper

half_of : (side : bland.Side) → half (side_of side) ≡ side
unfolding side_of
half_of lower_side = refl
half_of upper_side = refl

-- the first basic form that passes is basic
pub basic_told : (s : State) (i : ℕ) → first_passing (is_breaking s) (basic_numbers s) ≡ Some i → (i < length s.forms) × (nonbasic_in s i ≡ false)
basic_told s i found =
    let least = first_least (length s.forms) (λ k. not (nonbasic_in s k)) (is_breaking s) i found in
    (least.below, turned (nonbasic_in s i) least.is_listed)
  where
    turned : (b : Bool) → not b ≡ true → b ≡ false
    turned true e = sym e
    turned false e = refl

-- ---- A position

same_outside : InfinitesimalsMove → (side : bland.Side) (bound x y : Infinitesimal) → x =δ y → IsOutside side bound x → IsOutside side bound y
same_outside law lower_side bound x y e h = sym (law.ordered x y bound bound e (law.itself bound)) ∙ h
same_outside law upper_side bound x y e h = sym (law.ordered bound bound x y (law.itself bound) e) ∙ h

module _ (s : State) (sound : IsSound s) (values : PositionsHaveValues) (law : InfinitesimalsMove) (known : (k : ℕ) → k < length s.forms → IsSome (value_in s k)) (ns : List Node) (over : IsOver ns s) where
  listed : (k : ℕ) → k < length (position_over ns s).forms → k < length s.forms
  listed k h = subst (λ (n : ℕ). k < n) (length-map s.forms (parts_over ns)) h

  value_is : (k : ℕ) → k < length s.forms → value_in s k ≡ Some (unwrap_or (value_in s k) zero_infinitesimal)
  value_is k h = some_is (value_in s k) (known k h)
    where
      some_is : (o : Option Infinitesimal) → IsSome o → o ≡ Some (unwrap_or o zero_infinitesimal)
      some_is None e = absurd (true≢false (sym e))
      some_is (Some x) e = refl

  -- a form that breaks a bound is basic, and passes the test
  broken_tested : (side : bland.Side) (bound : Infinitesimal) (k : ℕ) → Breaks (position_over ns s) side bound k → is_breaking s k ≡ true
  broken_tested side bound k breaks =
      let inside = listed k breaks.listed in
      let x = unwrap_or (value_in s k) zero_infinitesimal in
      let equal = values.one (position_over ns s) k breaks.value x (sound.ready ns over).basis breaks.listed breaks.has (sound.right ns k x over (value_is k inside)) in
      let same = half_of side in
      on_either s (side_of side) k x
      (held_tested (side_of side) (standing s.asserted k (side_of side)) bound x
      (sym (bound_told ns s (side_of side) k) ∙ ap (λ (h : bland.Side). bound_on h (position_over ns s) k) same ∙ breaks.bounded)
      (subst (λ (h : bland.Side). IsOutside h bound x) (sym same) (same_outside law side bound breaks.value x equal breaks.outside)))

  basic_breaks : (side : bland.Side) (bound : Infinitesimal) (k : ℕ) → Breaks (position_over ns s) side bound k → not (nonbasic_in s k) ≡ true
  basic_breaks side bound k breaks = ap not (sym (point_marks s sound k) ∙ breaks.basic)

  -- the first that passes is the least that breaks a bound
  pub first_broken_told : (i : ℕ) (side : Side) (bound x : Infinitesimal) → first_passing (is_breaking s) (basic_numbers s) ≡ Some i
      → value_in s i ≡ Some x → bound_in s.asserted side i ≡ Some bound → IsOutside (half side) bound x → IsFirstBroken (position_over ns s) (half side) bound i
  first_broken_told i side bound x found valued bounded outside =
      let least = first_least (length s.forms) (λ k. not (nonbasic_in s k)) (is_breaking s) i found in
      record {
        breaks = record {
          listed = subst (λ (n : ℕ). i < n) (sym (length-map s.forms (parts_over ns))) least.below;
          basic = point_marks s sound i ∙ (basic_told s i found).1;
          bounded = bound_told ns s side i ∙ bounded;
          value = x;
          has = sound.right ns i x over valued;
          outside = outside;
        };
        least = λ k below half other breaks.
            true≢false (sym (broken_tested half other k breaks) ∙ least.least k below (basic_breaks half other k breaks));
      }

  pub past_told : {S : Type 0} (stands_for : S → Infinitesimal) (i : ℕ) (side : Side) (limit : Limit S) → first_passing (is_breaking s) (basic_numbers s) ≡ Some i
      → IsPastBound stands_for s i side limit → IsFirstBroken (position_over ns s) (half side) (stands_for limit.value) i
  past_told stands_for i side limit found past =
      first_broken_told i side (stands_for limit.value) past.value found past.valued (ap (option_map (λ (b : Held). b.value)) past.stands)
      (outside_told (half side) (stands_for limit.value) past.value past.past)

  -- where none passes, the point is within all bounds
  pub feasible_told : first_passing (is_breaking s) (basic_numbers s) ≡ None → IsFeasible ns s
  feasible_told none = record {
    known = known;
    within = within;
    meets = λ y has. values.feasible (position_over ns s) y ready.basis (λ k inside. has k (listed k inside)) ready.fit within;
  }
    where
      ready : IsReadyToCheck (position_over ns s)
      ready = sound.ready ns over

      within : (side : bland.Side) (bound : Infinitesimal) (i : ℕ) → Breaks (position_over ns s) side bound i → ⊥
      within side bound i breaks =
          true≢false
          (sym (broken_tested side bound i breaks)
          ∙ first_none (length s.forms) (λ k. not (nonbasic_in s k)) (is_breaking s) none i (listed i breaks.listed) (basic_breaks side bound i breaks))
