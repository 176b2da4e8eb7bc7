-- What a check takes for granted stays when units, forms and bounds join, and when bounds are taken back.
use Rattle.std.proofs.Common.{◌≡◌, ℕ, ◌<◌, Bool, true, false, ◌⊎◌, inl, inr, List, [], ◌∷◌, ◌++◌, length, Option, Some, None, refl, sym, ap, ◌∙◌, subst, true≢false, arith, Less}
use Rattle.std.specs.Prelude.{◌==◌, if◌then◌else◌, unwrap_or, is_some, option_map, Contains}
use Rattle.std.specs.Ordering.{is_lt}
use Rattle.nz_lists.proofs.Numbers.{equal-number, same-number}
use Rattle.nz_spec.specs.numbers.Infinitesimal.{Infinitesimal, infinitesimal_cmp}
use Rattle.nz_spec.specs.terms.Term.{Term}
use Rattle.nz_spec.specs.terms.Form.{Part, unit_form}
use Rattle.nz_spec.specs.simplex.Basis.{HasItsUnits, IsBasis}
use Rattle.nz_spec.specs.simplex.BasisMoves.{with_nonbasic}
use Rattle.nz_spec.specs.simplex.Bland.{Point, is_nonbasic, zero_infinitesimal, value_in, Position, Side, lower_side, upper_side, other_side, bound_on, IsOutside, NonbasicFormsFit, exchanged_point, IsCheckStep}
use Rattle.nz_spec.specs.simplex.PositionMoves.{AreConsistent, with_unit, with_form, AreListedBounds, is_outside, moved_within, bounds_with, with_bound, AreLooser, IsReadyToCheck, empty_position, MovesKeepReady}
use Rattle.nz_spec.proofs.BasisJoins.{length-more, joins_keep_basis}
use Rattle.nz_spec.proofs.InfinitesimalOrder.{=δ_refl}
use Rattle.nz_spec.proofs.BlandSteps.{check_steps_keep_basis}
use Rattle.nz_spec.proofs.BlandRefutes.{sides, outside-at}
use Rattle.nz_spec.proofs.BlandMoves.{step-fits}

more : (s : Position) (f : List Part) (k : ℕ) → k < length s.forms → k < length (s.forms ++ f ∷ [])
more s f k h = subst (λ (n : ℕ). k < n) (sym (length-more s.forms f)) (omega (arith, h))

is_low : Side → Bool
is_low lower_side = true
is_low upper_side = false

other-unlike : (a : Side) → a ≡ other_side a → ⊥
unfolding is_low
other-unlike lower_side e = true≢false (ap is_low e)
other-unlike upper_side e = true≢false (sym (ap is_low e))

low-unlike : lower_side ≡ upper_side → ⊥
low-unlike e = other-unlike lower_side e

-- ---- A unit

pub unit-tests : (s : Position) (u : Term) → with_nonbasic (is_nonbasic s.point) (length s.forms) ≡ is_nonbasic (with_unit s u).point
unit-tests s u e k = by_test (k == length s.forms) e
  where
    by_test : (b : Bool) → (if b then true else is_some (s.point k)) ≡ is_some (if b then Some zero_infinitesimal else s.point k)
    by_test true = refl
    by_test false = refl

module _ (s : Position) (u : Term) (ready : IsReadyToCheck s) where
  unit-bound : (side : Side) (k : ℕ) → bound_on side (with_unit s u) k ≡ bound_on side s k
  unit-bound lower_side k = refl
  unit-bound upper_side k = refl

  unit-fit : NonbasicFormsFit (with_unit s u)
  unit-fit side k bound e f o = by_test (k == length s.forms) refl e o
    where
      by_test : (b : Bool) → (k == length s.forms) ≡ b → is_some (if b then Some zero_infinitesimal else s.point k) ≡ true → IsOutside side bound (unwrap_or (if b then Some zero_infinitesimal else s.point k) zero_infinitesimal) → ⊥
      by_test true g e o = absurd (omega (arith, same-number k (length s.forms) g, ready.listed side k bound (sym (unit-bound side k) ∙ f)))
      by_test false g e o = ready.fit side k bound e (sym (unit-bound side k) ∙ f) o

  unit-ready : (Contains s.forms (unit_form u).parts → ⊥) → IsReadyToCheck (with_unit s u)
  unit-ready new = record {
    basis =
        subst (λ (test : ℕ → Bool). IsBasis (s.forms ++ (unit_form u).parts ∷ []) test) (unit-tests s u)
        (joins_keep_basis.unit s.forms (is_nonbasic s.point) u ready.basis new);
    listed = λ side k bound e. more s (unit_form u).parts k (ready.listed side k bound (sym (unit-bound side k) ∙ e));
    fit = unit-fit;
    consistent = ready.consistent;
  }

-- ---- A form

form-bound : (s : Position) (f : List Part) (side : Side) (k : ℕ) → bound_on side (with_form s f) k ≡ bound_on side s k
form-bound s f lower_side k = refl
form-bound s f upper_side k = refl

form-ready : (s : Position) (f : List Part) → IsReadyToCheck s → HasItsUnits s.forms f → IsReadyToCheck (with_form s f)
form-ready s f ready own = record {
  basis = joins_keep_basis.form s.forms (is_nonbasic s.point) f ready.basis own;
  listed = λ side k bound e. more s f k (ready.listed side k bound (sym (form-bound s f side k) ∙ e));
  fit = λ side k bound e g. ready.fit side k bound e (sym (form-bound s f side k) ∙ g);
  consistent = ready.consistent;
}

-- ---- A bound

pub outside-test : (side : Side) (bound x : Infinitesimal) → IsOutside side bound x → is_outside side bound x ≡ true
outside-test lower_side bound x h = ap is_lt h
outside-test upper_side bound x h = ap is_lt h

pub bound-tests : (s : Position) (side : Side) (i : ℕ) (bound : Infinitesimal) → is_nonbasic s.point ≡ is_nonbasic (with_bound s side i bound).point
bound-tests s side i bound e k = by_test (k == i) e
  where
    mapped : (o : Option Infinitesimal) → is_some o ≡ is_some (option_map (moved_within side bound) o)
    mapped None = refl
    mapped (Some x) = refl

    by_test : (b : Bool) → is_some (s.point k) ≡ is_some (if b then option_map (moved_within side bound) (s.point k) else s.point k)
    by_test true = mapped (s.point k)
    by_test false = refl

module _ (s : Position) (side : Side) (i : ℕ) (bound : Infinitesimal) (ready : IsReadyToCheck s) (inside : i < length s.forms) (apart : (other : Infinitesimal) → bound_on (other_side side) s i ≡ Some other → IsOutside (other_side side) other bound → ⊥) where
  abbrev t : Position
  t = with_bound s side i bound

  -- the bounds of each side
  bounds-are : (half : Side) (k : ℕ) → bound_on half t k ≡ bounds_with half side s i bound k
  bounds-are lower_side k = refl
  bounds-are upper_side k = refl

  -- a bound is the new one, or stood before
  which : (half : Side) (k : ℕ) (b : Infinitesimal) → bounds_with half side s i bound k ≡ Some b → ((half ≡ side) × (k ≡ i) × (bound ≡ b)) ⊎ (bound_on half s k ≡ Some b)
  which half k b = by_sides half side
    where
      by_test : (bounds : ℕ → Option Infinitesimal) (c : Bool) → (k == i) ≡ c → (if c then Some bound else bounds k) ≡ Some b → ((k ≡ i) × (bound ≡ b)) ⊎ (bounds k ≡ Some b)
      by_test bounds true e f = inl (same-number k i e, ap (λ (o : Option Infinitesimal). unwrap_or o bound) f)
      by_test bounds false e f = inr f

      on_one : (a : Side) (o : Option Infinitesimal) → ((k ≡ i) × (bound ≡ b)) ⊎ (o ≡ Some b) → ((a ≡ a) × (k ≡ i) × (bound ≡ b)) ⊎ (o ≡ Some b)
      on_one a o (inl h) = inl (refl, h.0, h.1)
      on_one a o (inr h) = inr h

      by_sides : (half side : Side) → bounds_with half side s i bound k ≡ Some b → ((half ≡ side) × (k ≡ i) × (bound ≡ b)) ⊎ (bound_on half s k ≡ Some b)
      by_sides lower_side lower_side e = on_one lower_side (s.lower k) (by_test s.lower (k == i) refl e)
      by_sides upper_side upper_side e = on_one upper_side (s.upper k) (by_test s.upper (k == i) refl e)
      by_sides lower_side upper_side e = inr e
      by_sides upper_side lower_side e = inr e

  bound-listed : AreListedBounds t
  bound-listed half k b e = by_case (which half k b (sym (bounds-are half k) ∙ e))
    where
      by_case : ((half ≡ side) × (k ≡ i) × (bound ≡ b)) ⊎ (bound_on half s k ≡ Some b) → k < length s.forms
      by_case (inl h) = subst (λ (l : ℕ). l < length s.forms) (sym h.1) inside
      by_case (inr h) = ready.listed half k b h

  never_own : (half : Side) (x : Infinitesimal) → IsOutside half x x → ⊥
  never_own half x h = outside-at half x x (=δ_refl x) h

  -- a moved value meets the new bound
  new-fit : (x : Infinitesimal) → IsOutside side bound (moved_within side bound x) → ⊥
  new-fit x = by_test (is_outside side bound x) refl
    where
      by_test : (c : Bool) → is_outside side bound x ≡ c → IsOutside side bound (if c then bound else x) → ⊥
      by_test true e o = never_own side bound o
      by_test false e o = true≢false (sym (outside-test side bound x o) ∙ e)

  -- and one that stood before
  old-fit : (half : Side) (b x : Infinitesimal) → bound_on half s i ≡ Some b → (IsOutside half b x → ⊥) → (half ≡ other_side side) → IsOutside half b (moved_within side bound x) → ⊥
  old-fit half b x e fit other = by_test (is_outside side bound x)
    where
      by_test : (c : Bool) → IsOutside half b (if c then bound else x) → ⊥
      by_test true o =
          apart b (ap (λ (l : Side). bound_on l s i) (sym other) ∙ e) (subst (λ (l : Side). IsOutside l b bound) other o)
      by_test false o = fit o

  -- the new bound is the one of its form
  own-bound : (a : Side) → bounds_with a a s i bound i ≡ Some bound
  own-bound lower_side = by_test s.lower (i == i) (equal-number i i refl)
    where
      by_test : (bounds : ℕ → Option Infinitesimal) (c : Bool) → c ≡ true → (if c then Some bound else bounds i) ≡ Some bound
      by_test bounds true e = refl
      by_test bounds false e = absurd (true≢false (sym e))
  own-bound upper_side = by_test s.upper (i == i) (equal-number i i refl)
    where
      by_test : (bounds : ℕ → Option Infinitesimal) (c : Bool) → c ≡ true → (if c then Some bound else bounds i) ≡ Some bound
      by_test bounds true e = refl
      by_test bounds false e = absurd (true≢false (sym e))

  new : (half : Side) (b : Infinitesimal) → half ≡ side → bounds_with half side s i bound i ≡ Some b → bound ≡ b
  new half b h e =
      ap (λ (o : Option Infinitesimal). unwrap_or o bound)
      (sym (own-bound side) ∙ ap (λ (l : Side). bounds_with l side s i bound i) (sym h) ∙ e)

  bound-fit : NonbasicFormsFit t
  bound-fit half k b e f o = by_test (k == i) refl e o
    where
      stood : (b' : Infinitesimal) → bounds_with half side s i bound k ≡ Some b' → (half ≡ side → k ≡ i → ⊥) → bound_on half s k ≡ Some b'
      stood b' g elsewhere = by_case (which half k b' g)
        where
          by_case : ((half ≡ side) × (k ≡ i) × (bound ≡ b')) ⊎ (bound_on half s k ≡ Some b') → bound_on half s k ≡ Some b'
          by_case (inl h) = absurd (elsewhere h.0 h.1)
          by_case (inr h) = h

      g : bounds_with half side s i bound k ≡ Some b
      g = sym (bounds-are half k) ∙ f

      at_i : (x : Option Infinitesimal) → s.point k ≡ x → k ≡ i → is_some (option_map (moved_within side bound) x) ≡ true → IsOutside half b (unwrap_or (option_map (moved_within side bound) x) zero_infinitesimal) → ⊥
      at_i None p q e o = true≢false (sym e)
      at_i (Some x) p q e o = by_side (sides half side)
        where
          by_side : (half ≡ side) ⊎ (half ≡ other_side side) → ⊥
          by_side (inl h) =
              new-fit x
              (subst (λ (y : Infinitesimal). IsOutside side y (moved_within side bound x)) (sym (new half b h (ap (bounds_with half side s i bound) (sym q) ∙ g)))
              (subst (λ (l : Side). IsOutside l b (moved_within side bound x)) h o))
          by_side (inr h) =
              let before : bound_on half s k ≡ Some b = stood b g (λ (m : half ≡ side) (l : k ≡ i). other-unlike side (sym m ∙ h)) in
              old-fit half b x (ap (bound_on half s) (sym q) ∙ before)
              (λ c. ready.fit half k b (ap is_some p) before (subst (λ (z : Option Infinitesimal). IsOutside half b (unwrap_or z zero_infinitesimal)) (sym p) c))
              h o

      by_test : (c : Bool) → (k == i) ≡ c → is_some (if c then option_map (moved_within side bound) (s.point k) else s.point k) ≡ true
          → IsOutside half b (unwrap_or (if c then option_map (moved_within side bound) (s.point k) else s.point k) zero_infinitesimal) → ⊥
      by_test true m e o = at_i (s.point k) refl (same-number k i m) e o
      by_test false m e o =
          ready.fit half k b e (stood b g (λ (a : half ≡ side) (q : k ≡ i). true≢false (sym (equal-number k i q) ∙ m))) o

  bound-consistent : AreConsistent t
  bound-consistent k low high e f h = by_cases (which lower_side k low e) (which upper_side k high f)
    where
      as_low : lower_side ≡ side → k ≡ i → bound ≡ low → s.upper k ≡ Some high → ⊥
      as_low a q m g =
          apart high
          (ap (λ (l : Side). bound_on (other_side l) s i) (sym a) ∙ ap s.upper (sym q) ∙ g)
          (subst (λ (l : Side). IsOutside (other_side l) high bound) a (subst (λ (z : Infinitesimal). infinitesimal_cmp high z ≡ Less) (sym m) h))

      as_high : upper_side ≡ side → k ≡ i → bound ≡ high → s.lower k ≡ Some low → ⊥
      as_high a q m g =
          apart low
          (ap (λ (l : Side). bound_on (other_side l) s i) (sym a) ∙ ap s.lower (sym q) ∙ g)
          (subst (λ (l : Side). IsOutside (other_side l) low bound) a (subst (λ (z : Infinitesimal). infinitesimal_cmp z low ≡ Less) (sym m) h))

      by_cases : ((lower_side ≡ side) × (k ≡ i) × (bound ≡ low)) ⊎ (s.lower k ≡ Some low) → ((upper_side ≡ side) × (k ≡ i) × (bound ≡ high)) ⊎ (s.upper k ≡ Some high) → ⊥
      by_cases (inl a) (inl c) = low-unlike (a.0 ∙ sym c.0)
      by_cases (inl a) (inr c) = as_low a.0 a.1 a.2 c
      by_cases (inr a) (inl c) = as_high c.0 c.1 c.2 a
      by_cases (inr a) (inr c) = ready.consistent k low high a c h

  bound-ready : IsReadyToCheck t
  bound-ready = record {
    basis = subst (λ (test : ℕ → Bool). IsBasis s.forms test) (bound-tests s side i bound) ready.basis;
    listed = bound-listed;
    fit = bound-fit;
    consistent = bound-consistent;
  }

-- ---- A step

step-ready : (s t : Position) (i j : ℕ) → IsReadyToCheck s → IsCheckStep s t i j → IsReadyToCheck t
step-ready s t i j ready step = record {
  basis = check_steps_keep_basis.basis s t i j ready.basis step;
  listed = subst (λ (u : Position). AreListedBounds u) (sym step.after) after-listed;
  fit = step-fits s t i j ready.consistent ready.fit step;
  consistent = subst (λ (u : Position). AreConsistent u) (sym step.after) ready.consistent;
}
  where
    after-listed : AreListedBounds (record s { point = exchanged_point s.point i j step.bound })
    after-listed lower_side k bound e = ready.listed lower_side k bound e
    after-listed upper_side k bound e = ready.listed upper_side k bound e

-- ---- Looser bounds

looser-ready : (s t : Position) → IsReadyToCheck s → t.forms ≡ s.forms → ((k : ℕ) → t.point k ≡ s.point k) → AreLooser t s → AreListedBounds t → AreConsistent t → IsReadyToCheck t
looser-ready s t ready forms point loose listed consistent = record {
  basis =
      subst (λ (fs : List (List Part)). IsBasis fs (is_nonbasic t.point)) (sym forms)
      (subst (λ (x : Point). IsBasis s.forms (is_nonbasic x)) same ready.basis);
  listed = listed;
  fit = λ side k bound e f o.
      let value = ap (λ (z : Option Infinitesimal). unwrap_or z zero_infinitesimal) (point k) in
      let tight = loose side k bound (value_in s.point k) f (subst (λ (z : Infinitesimal). IsOutside side bound z) value o) in
      ready.fit side k tight.0 (ap is_some (sym (point k)) ∙ e) tight.1 tight.2;
  consistent = consistent;
}
  where
    same : s.point ≡ t.point
    same e k = sym (point k) e

-- ---- No forms

empty-ready : IsReadyToCheck empty_position
empty-ready = record {
  basis = joins_keep_basis.empty;
  listed = λ side k bound e. none side k bound e;
  fit = λ side k bound e f o. true≢false (sym e);
  consistent = λ k low high e f h. absurd (true≢false (sym (ap is_some e)));
}
  where
    none : (side : Side) (k : ℕ) (bound : Infinitesimal) → bound_on side empty_position k ≡ Some bound → k < 0
    none lower_side k bound e = absurd (true≢false (sym (ap is_some e)))
    none upper_side k bound e = absurd (true≢false (sym (ap is_some e)))

pub moves_keep_ready : MovesKeepReady
moves_keep_ready = record {
  empty = empty-ready;
  unit = λ s u ready new. unit-ready s u ready new;
  form = form-ready;
  bound = λ s side i b ready inside apart. bound-ready s side i b ready inside apart;
  step = step-ready;
  looser = looser-ready;
}
