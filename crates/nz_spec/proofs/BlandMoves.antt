-- A run of check steps, form by form: what a step does to a form, when a form left last and when it entered first, and what stays so
-- all along. The bounds and the solutions are the same at each step, the basis is one, and the nonbasic forms break no bound.
use Rattle.std.proofs.Common.{◌≡◌, ℕ, zero, suc, ◌<◌, ◌≤◌, Bool, true, false, ◌⊎◌, inl, inr, Option, Some, None, refl, sym, ap, ◌∙◌, subst, true≢false, arith}
use Rattle.std.specs.Prelude.{◌==◌, ◌≢◌, ◌↔◌, if◌then◌else◌, unwrap_or, is_some}
use Rattle.nz_lists.proofs.Numbers.{equal-number, other-number, same-number}
use Rattle.nz_spec.specs.numbers.Infinitesimal.{Infinitesimal, ◌=δ◌}
use Rattle.nz_spec.specs.simplex.Basis.{Coefficients, IsSolution}
use Rattle.nz_spec.specs.simplex.Bland.{Point, is_nonbasic, NonbasicFormsFit, zero_infinitesimal, value_in, Position, HasBasis, Side, lower_side, upper_side, other_side, bound_on, IsOutside, exchanged_point, IsCheckStep}
use Rattle.nz_spec.specs.simplex.PositionMoves.{AreConsistent}
use Rattle.nz_spec.proofs.InfinitesimalOrder.{=δ_refl}
use Rattle.nz_spec.proofs.BlandSteps.{step-solutions, check_steps_keep_basis}
use Rattle.nz_spec.proofs.BlandRefutes.{sides, outside-at}

pub =δ-from_same : {x y : Infinitesimal} → x ≡ y → x =δ y
=δ-from_same {x} {y} e = subst (λ (z : Infinitesimal). x =δ z) e (=δ_refl x)

some_is : (x y : Infinitesimal) → Some x ≡ Some y → x ≡ y
some_is x y e = ap (λ (o : Option Infinitesimal). unwrap_or o x) e

module _ (s : Position) (x : ℕ → Point) (out into : ℕ → ℕ) (n : ℕ) where
  -- where the run is after t steps
  abbrev pub at : ℕ → Position
  at t = record s { point = x t }

  module _ (step : (t : ℕ) → t < n → IsCheckStep (at t) (at (suc t)) (out t) (into t)) where
    point-after : (t : ℕ) (h : t < n) (k : ℕ) → x (suc t) k ≡ exchanged_point (x t) (out t) (into t) (step t h).bound k
    point-after t h k = ap (λ (u : Position). u.point k) (step t h).after

    -- ---- What happens to a form at a step

    pub leaves : (t : ℕ) (h : t < n) (k : ℕ) → k ≡ out t → x (suc t) k ≡ Some (step t h).bound
    leaves t h k e = point-after t h k ∙ by_test (k == out t) (equal-number k (out t) e)
      where
        by_test : (c : Bool) → c ≡ true → (if c then Some (step t h).bound else if k == into t then None else x t k) ≡ Some (step t h).bound
        by_test true f = refl
        by_test false f = absurd (true≢false (sym f))

    pub enters : (t : ℕ) (h : t < n) (k : ℕ) → k ≢ out t → k ≡ into t → x (suc t) k ≡ None
    enters t h k o e = point-after t h k ∙ by_tests (k == out t) (k == into t) (other-number k (out t) o) (equal-number k (into t) e)
      where
        by_tests : (c d : Bool) → c ≡ false → d ≡ true → (if c then Some (step t h).bound else if d then None else x t k) ≡ None
        by_tests true d f g = absurd (true≢false f)
        by_tests false true f g = refl
        by_tests false false f g = absurd (true≢false (sym g))

    pub stays : (t : ℕ) (h : t < n) (k : ℕ) → k ≢ out t → k ≢ into t → x (suc t) k ≡ x t k
    stays t h k o e = point-after t h k ∙ by_tests (k == out t) (k == into t) (other-number k (out t) o) (other-number k (into t) e)
      where
        by_tests : (c d : Bool) → c ≡ false → d ≡ false → (if c then Some (step t h).bound else if d then None else x t k) ≡ x t k
        by_tests true d f g = absurd (true≢false f)
        by_tests false true f g = absurd (true≢false g)
        by_tests false false f g = refl

    is_one : (k i : ℕ) → (k ≡ i) ⊎ (k ≢ i)
    is_one k i = by_test (k == i) refl
      where
        by_test : (c : Bool) → (k == i) ≡ c → (k ≡ i) ⊎ (k ≢ i)
        by_test true e = inl (same-number k i e)
        by_test false e = inr (λ (q : k ≡ i). true≢false (sym (equal-number k i q) ∙ e))

    -- ---- The last time that a form left

    pub record Left (k from to : ℕ) : Type 0 where
      pub time : ℕ
      pub early : from ≤ time
      pub late : time < to
      pub is : out time ≡ k
      pub stands : (h : time < n) → x to k ≡ Some (step time h).bound

    pub last_left : (k from to : ℕ) → from ≤ to → to ≤ n → is_nonbasic (x from) k ≡ false → is_nonbasic (x to) k ≡ true → Left k from to
    last_left k from zero p q e f = absurd (true≢false (sym f ∙ ap (λ (t : ℕ). is_nonbasic (x t) k) (none from p) ∙ e))
      where
        none : (from : ℕ) → from ≤ 0 → 0 ≡ from
        none from p = omega (arith, p)
    last_left k from (suc t) p q e f = by_place (first_or_later from t p) (is_one k (out t)) (is_one k (into t)) (λ r g. last_left k from t r (omega (arith, q)) e g)
      where
        first_or_later : (from t : ℕ) → from ≤ suc t → (from ≡ suc t) ⊎ (from ≤ t)
        first_or_later from t p = grind (arith, p)

        by_place : (from ≡ suc t) ⊎ (from ≤ t) → (k ≡ out t) ⊎ (k ≢ out t) → (k ≡ into t) ⊎ (k ≢ into t) → (from ≤ t → is_nonbasic (x t) k ≡ true → Left k from t) → Left k from (suc t)
        by_place (inl r) o i rest = absurd (true≢false (sym f ∙ ap (λ (l : ℕ). is_nonbasic (x l) k) (sym r) ∙ e))
        by_place (inr r) (inl o) i rest = record { time = t; early = r; late = omega arith; is = sym o; stands = λ l. leaves t l k o }
        by_place (inr r) (inr o) (inl i) rest = absurd (true≢false (sym f ∙ ap is_some (enters t (omega (arith, q)) k o i)))
        by_place (inr r) (inr o) (inr i) rest =
            let same : x (suc t) k ≡ x t k = stays t (omega (arith, q)) k o i in
            let l = rest r (sym (ap is_some same) ∙ f) in
            record { time = l.time; early = l.early; late = omega (arith, l.late); is = l.is; stands = λ m. same ∙ l.stands m }

    -- ---- The first time that a form entered

    pub record Entered (k from to : ℕ) : Type 0 where
      pub time : ℕ
      pub early : from ≤ time
      pub late : time < to
      pub is : into time ≡ k
      pub stands : x time k ≡ x from k

    same_or_entered : (k from to : ℕ) → from ≤ to → to ≤ n → is_nonbasic (x from) k ≡ true → (x to k ≡ x from k) ⊎ Entered k from to
    same_or_entered k from zero p q e = inl (ap (λ (t : ℕ). x t k) (none from p))
      where
        none : (from : ℕ) → from ≤ 0 → 0 ≡ from
        none from p = omega (arith, p)
    same_or_entered k from (suc t) p q e = by_place (first_or_later from t p) (λ r. same_or_entered k from t r (omega (arith, q)) e)
      where
        first_or_later : (from t : ℕ) → from ≤ suc t → (from ≡ suc t) ⊎ (from ≤ t)
        first_or_later from t p = grind (arith, p)

        by_step : from ≤ t → x t k ≡ x from k → (k ≡ out t) ⊎ (k ≢ out t) → (k ≡ into t) ⊎ (k ≢ into t) → (x (suc t) k ≡ x from k) ⊎ Entered k from (suc t)
        by_step r g (inl o) i = absurd (true≢false (sym e ∙ ap is_some (sym g) ∙ ap (is_nonbasic (x t)) o ∙ (step t (omega (arith, q))).breaks.basic))
        by_step r g (inr o) (inl i) = inr (record { time = t; early = r; late = omega arith; is = sym i; stands = g })
        by_step r g (inr o) (inr i) = inl (stays t (omega (arith, q)) k o i ∙ g)

        by_rest : from ≤ t → (x t k ≡ x from k) ⊎ Entered k from t → (x (suc t) k ≡ x from k) ⊎ Entered k from (suc t)
        by_rest r (inl g) = by_step r g (is_one k (out t)) (is_one k (into t))
        by_rest r (inr g) = inr (record { time = g.time; early = g.early; late = omega (arith, g.late); is = g.is; stands = g.stands })

        by_place : (from ≡ suc t) ⊎ (from ≤ t) → (from ≤ t → (x t k ≡ x from k) ⊎ Entered k from t) → (x (suc t) k ≡ x from k) ⊎ Entered k from (suc t)
        by_place (inl r) rest = inl (ap (λ (l : ℕ). x l k) (sym r))
        by_place (inr r) rest = by_rest r (rest r)

    pub first_entered : (k from to : ℕ) → from ≤ to → to ≤ n → is_nonbasic (x from) k ≡ true → is_nonbasic (x to) k ≡ false → Entered k from to
    first_entered k from to p q e f = by_case (same_or_entered k from to p q e)
      where
        by_case : (x to k ≡ x from k) ⊎ Entered k from to → Entered k from to
        by_case (inl g) = absurd (true≢false (sym e ∙ ap is_some (sym g) ∙ f))
        by_case (inr g) = g

    -- ---- What stays so all along

    pub bound-at : (side : Side) (t k : ℕ) → bound_on side (at t) k ≡ bound_on side s k
    bound-at lower_side t k = refl
    bound-at upper_side t k = refl

    pub basis : HasBasis (at 0) → (t : ℕ) → t ≤ n → HasBasis (at t)
    basis b zero h = b
    basis b (suc t) h = check_steps_keep_basis.basis (at t) (at (suc t)) (out t) (into t) (basis b t (omega (arith, h))) (step t (omega (arith, h)))

    pub solutions : (b : HasBasis (at 0)) (y : Coefficients) (t : ℕ) → t ≤ n → IsSolution s.forms (is_nonbasic (x 0)) y ↔ IsSolution s.forms (is_nonbasic (x t)) y
    solutions b y zero h = (λ f. f, λ f. f)
    solutions b y (suc t) h =
        let before = solutions b y t (omega (arith, h)) in
        let now = step-solutions (at t) (at (suc t)) (out t) (into t) (basis b t (omega (arith, h))) (step t (omega (arith, h))) y in
        (λ f. now.0 (before.0 f), λ f. before.1 (now.1 f))

    apart : AreConsistent s → (side : Side) (k : ℕ) (bound other : Infinitesimal) → bound_on side s k ≡ Some bound → bound_on (other_side side) s k ≡ Some other → IsOutside (other_side side) other bound → ⊥
    apart c lower_side k bound other e f h = c k bound other e f h
    apart c upper_side k bound other e f h = c k other bound f e h

    fit-step : AreConsistent s → (t : ℕ) → t < n → NonbasicFormsFit (at t) → NonbasicFormsFit (at (suc t))
    fit-step c t h before side k bound e f g = by_step (is_one k (out t)) (is_one k (into t))
      where
        own : bound_on side s k ≡ Some bound
        own = sym (bound-at side (suc t) k) ∙ f

        by_side : (half : Side) (stand : Infinitesimal) → bound_on half s k ≡ Some stand → value_in (x (suc t)) k ≡ stand → (side ≡ half) ⊎ (side ≡ other_side half) → ⊥
        by_side half stand a v (inl i) =
            outside-at side bound (value_in (x (suc t)) k)
            (=δ-from_same (v ∙ some_is stand bound (sym a ∙ ap (λ (l : Side). bound_on l s k) (sym i) ∙ own)))
            g
        by_side half stand a v (inr i) =
            apart c half k stand bound a (ap (λ (l : Side). bound_on l s k) (sym i) ∙ own)
            (subst (λ (l : Side). IsOutside l bound stand) i (subst (λ (z : Infinitesimal). IsOutside side bound z) v g))

        by_step : (k ≡ out t) ⊎ (k ≢ out t) → (k ≡ into t) ⊎ (k ≢ into t) → ⊥
        by_step (inl o) i =
            let now = step t h in
            by_side now.side now.bound
            (ap (bound_on now.side s) o ∙ sym (bound-at now.side t (out t)) ∙ now.breaks.bounded)
            (ap (λ (o : Option Infinitesimal). unwrap_or o zero_infinitesimal) (leaves t h k o))
            (sides side now.side)
        by_step (inr o) (inl i) = true≢false (sym e ∙ ap is_some (enters t h k o i))
        by_step (inr o) (inr i) =
            let same = stays t h k o i in
            before side k bound (sym (ap is_some same) ∙ e) (bound-at side t k ∙ own)
            (subst (λ (z : Option Infinitesimal). IsOutside side bound (unwrap_or z zero_infinitesimal)) same g)

    pub fit : AreConsistent s → NonbasicFormsFit (at 0) → (t : ℕ) → t ≤ n → NonbasicFormsFit (at t)
    fit c start zero h = start
    fit c start (suc t) h = fit-step c t (omega (arith, h)) (fit c start t (omega (arith, h)))

-- ---- One step

-- the nonbasic forms break no bound after a step either
pub step-fits : (s t : Position) (i j : ℕ) → AreConsistent s → NonbasicFormsFit s → IsCheckStep s t i j → NonbasicFormsFit t
step-fits s t i j c start step =
    subst (λ (u : Position). NonbasicFormsFit u) (sym step.after)
    (fit-step s points (λ l. i) (λ l. j) 1 steps c 0 (omega arith) start)
  where
    points : ℕ → Point
    points zero = s.point
    points (suc l) = exchanged_point s.point i j step.bound

    steps : (l : ℕ) → l < 1 → IsCheckStep (record s { point = points l }) (record s { point = points (suc l) }) i j
    steps zero h = subst (λ (u : Position). IsCheckStep s u i j) step.after step
    steps (suc l) h = absurd (omega (arith, h))
