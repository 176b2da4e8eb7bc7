-- No posture returns. If one did, forms would leave the basis and enter it in between. The greatest of them would enter at one step, and
-- at another leave for the bound where it stands then; and that can't be.
use Rattle.std.proofs.Common.{◌≡◌, ℕ, zero, suc, ◌<◌, ◌≤◌, Bool, true, false, ◌⊎◌, inl, inr, Option, Some, None, refl, sym, ap, ◌∙◌, subst, true≢false, arith}
use Rattle.std.specs.Prelude.{◌≢◌, ◌&&◌, if◌then◌else◌, unwrap_or, is_some, option_map}
use Rattle.std.proofs.lemmas.Bool.{and_parts, and_from}
use Rattle.nz_fractions.specs.Fraction.{fraction_eq}
use Rattle.nz_spec.specs.numbers.Infinitesimal.{Infinitesimal, ◌=δ◌}
use Rattle.nz_spec.specs.simplex.Bland.{Point, is_nonbasic, NonbasicFormsFit, zero_infinitesimal, value_in, Position, HasBasis, Side, lower_side, upper_side, bound_on, Stand, at_lower, at_upper, at_neither, is_at, posture_of, exchanged_point, IsCheckStep}
use Rattle.nz_spec.specs.laws.BlandRuns.{IsRun, NoPostureReturns}
use Rattle.nz_spec.specs.simplex.PositionMoves.{AreConsistent}
use Rattle.nz_fractions.proofs.Laws.{=ℚ_refl}
use Rattle.nz_fractions.proofs.Order.{same-fraction_eq, fraction_eq-same}
use Rattle.nz_spec.proofs.InfinitesimalOrder.{=δ_sym, =δ_trans}
use Rattle.nz_spec.proofs.BlandMoves as moves
use Rattle.nz_spec.proofs.BlandMoves.{=δ-from_same}
use Rattle.nz_spec.proofs.BlandReentry.{no_reentry}

some-value : (o : Option Infinitesimal) → is_some o ≡ true → o ≡ Some (unwrap_or o zero_infinitesimal)
some-value None e = absurd (true≢false (sym e))
some-value (Some v) e = refl

abbrev is_lower : Stand → Bool
is_lower at_lower = true
is_lower at_upper = false
is_lower at_neither = false

abbrev is_upper : Stand → Bool
is_upper at_lower = false
is_upper at_upper = true
is_upper at_neither = false

at-own : (o : Option Infinitesimal) (v : Infinitesimal) → o ≡ Some v → is_at o v ≡ true
at-own o v e =
    subst (λ (z : Option Infinitesimal). is_at z v ≡ true) (sym e)
    (and_from (fraction_eq v.standard v.standard) (fraction_eq v.coefficient v.coefficient)
    (fraction_eq-same v.standard v.standard (=ℚ_refl v.standard))
    (fraction_eq-same v.coefficient v.coefficient (=ℚ_refl v.coefficient)))

at-is : (bound v : Infinitesimal) → (fraction_eq bound.standard v.standard && fraction_eq bound.coefficient v.coefficient) ≡ true → bound =δ v
at-is bound v e =
    let parts = and_parts (fraction_eq bound.standard v.standard) (fraction_eq bound.coefficient v.coefficient) e in
    record {
      standard = same-fraction_eq bound.standard v.standard parts.0;
      coefficient = same-fraction_eq bound.coefficient v.coefficient parts.1;
    }

at-same : (o : Option Infinitesimal) (u v : Infinitesimal) → is_at o u ≡ true → is_at o v ≡ true → u =δ v
at-same None u v e f = absurd (true≢false (sym e))
at-same (Some bound) u v e f = =δ_trans (=δ_sym (at-is bound u e)) (at-is bound v f)

-- the greatest value of f from a on and before b
greatest : (f : ℕ → ℕ) (a b : ℕ) → a < b → (m : ℕ) × (a ≤ m) × (m < b) × ((t : ℕ) → a ≤ t → t < b → f t ≤ f m)
greatest f a zero h = absurd (omega (arith, h))
greatest f a (suc c) h = by_place (first_or_later a c h) (λ k. greatest f a c k)
  where
    first_or_later : (a c : ℕ) → a < suc c → (a ≡ c) ⊎ (a < c)
    first_or_later a c h = grind (arith, h)

    compare : (x y : ℕ) → (x ≤ y) ⊎ (y < x)
    compare x y = grind arith

    last : (t : ℕ) → t < suc c → (t ≡ c) ⊎ (t < c)
    last t h = grind (arith, h)

    by_value : (m : ℕ) → a ≤ m → m < c → ((t : ℕ) → a ≤ t → t < c → f t ≤ f m) → (f c ≤ f m) ⊎ (f m < f c) → (m : ℕ) × (a ≤ m) × (m < suc c) × ((t : ℕ) → a ≤ t → t < suc c → f t ≤ f m)
    by_value m p q g (inl k) = (m, p, omega (arith, q), λ t r l. by_last t r (last t l))
      where
        by_last : (t : ℕ) → a ≤ t → (t ≡ c) ⊎ (t < c) → f t ≤ f m
        by_last t r (inl e) = subst (λ (x : ℕ). f x ≤ f m) (sym e) k
        by_last t r (inr l) = g t r l
    by_value m p q g (inr k) = (c, omega (arith, p, q), omega arith, λ t r l. by_last t r (last t l))
      where
        by_last : (t : ℕ) → a ≤ t → (t ≡ c) ⊎ (t < c) → f t ≤ f c
        by_last t r (inl e) = subst (λ (x : ℕ). f x ≤ f c) (sym e) (omega arith)
        by_last t r (inr l) = omega (arith, g t r l, k)

    by_place : (a ≡ c) ⊎ (a < c) → (a < c → (m : ℕ) × (a ≤ m) × (m < c) × ((t : ℕ) → a ≤ t → t < c → f t ≤ f m)) → (m : ℕ) × (a ≤ m) × (m < suc c) × ((t : ℕ) → a ≤ t → t < suc c → f t ≤ f m)
    by_place (inl e) rest = (c, omega (arith, e), omega arith, λ t p q. subst (λ (x : ℕ). f x ≤ f c) (c_is t p q) (omega arith))
      where
        c_is : (t : ℕ) → a ≤ t → t < suc c → c ≡ t
        c_is t p q = omega (arith, e, p, q)
    by_place (inr k) rest = let m = rest k in by_value m.0 m.1 m.2 m.3 (compare (f c) (f m.0))

module _ (s : Position) (x : ℕ → Point) (out into : ℕ → ℕ) (n : ℕ) where
  abbrev at : ℕ → Position
  at = moves.at s x out into n

  module _ (step : (t : ℕ) → t < n → IsCheckStep (at t) (at (suc t)) (out t) (into t)) (b : HasBasis (at 0)) (c : AreConsistent s) (start : NonbasicFormsFit (at 0)) where
    leaves : (t : ℕ) (h : t < n) (k : ℕ) → k ≡ out t → x (suc t) k ≡ Some (step t h).bound
    leaves = moves.leaves s x out into n step

    enters : (t : ℕ) (h : t < n) (k : ℕ) → k ≢ out t → k ≡ into t → x (suc t) k ≡ None
    enters = moves.enters s x out into n step

    abbrev Left : ℕ → ℕ → ℕ → Type 0
    Left = moves.Left s x out into n step

    last_left : (k from to : ℕ) → from ≤ to → to ≤ n → is_nonbasic (x from) k ≡ false → is_nonbasic (x to) k ≡ true → Left k from to
    last_left = moves.last_left s x out into n step

    abbrev Entered : ℕ → ℕ → ℕ → Type 0
    Entered = moves.Entered s x out into n step

    first_entered : (k from to : ℕ) → from ≤ to → to ≤ n → is_nonbasic (x from) k ≡ true → is_nonbasic (x to) k ≡ false → Entered k from to
    first_entered = moves.first_entered s x out into n step

    bound-at : (side : Side) (t k : ℕ) → bound_on side (at t) k ≡ bound_on side s k
    bound-at = moves.bound-at s x out into n step

    -- ---- A posture that returns

    module _ (from to : ℕ) (ordered : from < to) (inside : to ≤ n) (same : (k : ℕ) → posture_of (at from) k ≡ posture_of (at to) k) where
      some-mapped : (f : Infinitesimal → Stand) (o : Option Infinitesimal) → is_some (option_map f o) ≡ is_some o
      some-mapped f None = refl
      some-mapped f (Some v) = refl

      stand : ℕ → Infinitesimal → Stand
      stand k v = if is_at (s.lower k) v then at_lower else if is_at (s.upper k) v then at_upper else at_neither

      same-nonbasic : (k : ℕ) → is_nonbasic (x from) k ≡ is_nonbasic (x to) k
      same-nonbasic k =
          sym (some-mapped (λ v. if is_at (s.lower k) v then at_lower else if is_at (s.upper k) v then at_upper else at_neither) (x from k))
          ∙ ap is_some (same k)
          ∙ some-mapped (λ v. if is_at (s.lower k) v then at_lower else if is_at (s.upper k) v then at_upper else at_neither) (x to k)

      -- a form that stands at a bound at the end stood there at first
      same-value : (k : ℕ) (u v : Infinitesimal) (side : Side) → x from k ≡ Some u → x to k ≡ Some v → bound_on side s k ≡ Some v → u =δ v
      same-value k u v side e f g =
          by_stands (is_at (s.lower k) u) (is_at (s.upper k) u) (is_at (s.lower k) v) (is_at (s.upper k) v) refl refl refl refl
          (stand_is (sym (ap (option_map (λ w. if is_at (s.lower k) w then at_lower else if is_at (s.upper k) w then at_upper else at_neither)) e)
          ∙ same k
          ∙ ap (option_map (λ w. if is_at (s.lower k) w then at_lower else if is_at (s.upper k) w then at_upper else at_neither)) f))
          (by_side side g)
        where
          stand_is : {i j : Stand} → Some i ≡ Some j → i ≡ j
          stand_is {i} {j} h = ap (λ (o : Option Stand). unwrap_or o i) h

          by_side : (side : Side) → bound_on side s k ≡ Some v → (is_at (s.lower k) v ≡ true) ⊎ (is_at (s.upper k) v ≡ true)
          by_side lower_side h = inl (at-own (s.lower k) v h)
          by_side upper_side h = inr (at-own (s.upper k) v h)

          by_stands : (la ua lb ub : Bool) → is_at (s.lower k) u ≡ la → is_at (s.upper k) u ≡ ua → is_at (s.lower k) v ≡ lb → is_at (s.upper k) v ≡ ub
              → (if la then at_lower else if ua then at_upper else at_neither) ≡ (if lb then at_lower else if ub then at_upper else at_neither)
              → (is_at (s.lower k) v ≡ true) ⊎ (is_at (s.upper k) v ≡ true) → u =δ v
          by_stands true ua true ub la ua_is lb ub_is h i = at-same (s.lower k) u v la lb
          by_stands true ua false true la ua_is lb ub_is h i = absurd (true≢false (ap is_lower h))
          by_stands true ua false false la ua_is lb ub_is h i = absurd (true≢false (ap is_lower h))
          by_stands false true true ub la ua_is lb ub_is h i = absurd (true≢false (sym (ap is_lower h)))
          by_stands false true false true la ua_is lb ub_is h i = at-same (s.upper k) u v ua_is ub_is
          by_stands false true false false la ua_is lb ub_is h i = absurd (true≢false (ap is_upper h))
          by_stands false false true ub la ua_is lb ub_is h i = absurd (true≢false (sym (ap is_lower h)))
          by_stands false false false true la ua_is lb ub_is h i = absurd (true≢false (sym (ap is_upper h)))
          by_stands false false false false la ua_is lb ub_is h (inl i) = absurd (true≢false (sym i ∙ lb))
          by_stands false false false false la ua_is lb ub_is h (inr i) = absurd (true≢false (sym i ∙ ub_is))

      top : (m : ℕ) × (from ≤ m) × (m < to) × ((t : ℕ) → from ≤ t → t < to → out t ≤ out m)
      top = greatest out from to ordered

      -- a form that has left in between isn't greater
      left-at-most : (k a d : ℕ) → from ≤ a → d ≤ to → Left k a d → k ≤ out top.0
      left-at-most k a d e f l = subst (λ (j : ℕ). j ≤ out top.0) l.is (top.3 l.time (omega (arith, e, l.early)) (omega (arith, f, l.late)))

      not-left : (t : ℕ) (h : t < n) → into t ≢ out t
      not-left t h e = true≢false (sym (step t h).helps.nonbasic ∙ ap (is_nonbasic (x t)) e ∙ (step t h).breaks.basic)

      entered-basic : (t : ℕ) (h : t < n) → is_nonbasic (x (suc t)) (into t) ≡ false
      entered-basic t h = ap is_some (enters t h (into t) (not-left t h) refl)

      -- nor is one that enters
      intos-at-most : (t : ℕ) → from ≤ t → t < to → into t ≤ out top.0
      intos-at-most t e f = by_test (is_nonbasic (x to) (into t)) refl
        where
          by_test : (c : Bool) → is_nonbasic (x to) (into t) ≡ c → into t ≤ out top.0
          by_test true g =
              left-at-most (into t) (suc t) to (omega (arith, e)) (omega arith)
              (last_left (into t) (suc t) to (omega (arith, f)) inside (entered-basic t (omega (arith, f, inside))) g)
          by_test false g =
              left-at-most (into t) from t (omega arith) (omega (arith, f))
              (last_left (into t) from t e (omega (arith, f, inside)) (same-nonbasic (into t) ∙ g) (step t (omega (arith, f, inside))).helps.nonbasic)

      never : (p q : ℕ) (hp : p < to) (hq : q < to) → from ≤ p → from ≤ q → out p ≡ out top.0 → into q ≡ out top.0
          → ((h : p < n) → value_in (x q) (out top.0) =δ (step p h).bound) → ⊥
      never p q hp hq early late left entered stood =
          no_reentry s x out into n step b c start from to (out top.0) (omega (arith, ordered)) inside top.3 intos-at-most p q hp hq early late left entered
          (stood (omega (arith, hp, inside)))

      -- the greatest is basic at first, or nonbasic
      returned : ⊥
      returned = by_test (is_nonbasic (x to) (out top.0)) refl
        where
          r : ℕ
          r = out top.0

          unwrapped : (o : Option Infinitesimal) (v : Infinitesimal) → o ≡ Some v → unwrap_or o zero_infinitesimal ≡ v
          unwrapped o v e = ap (λ (z : Option Infinitesimal). unwrap_or z zero_infinitesimal) e

          by_left : (q : ℕ) → from ≤ q → q < to → into q ≡ out top.0 → Left (out top.0) from q → ⊥
          by_left q late hq entered l =
              never l.time q (omega (arith, hq, l.late)) hq l.early late l.is entered
              (λ h. =δ-from_same (unwrapped (x q (out top.0)) (step l.time h).bound (l.stands h)))

          basic-first : is_nonbasic (x from) (out top.0) ≡ false → Entered (out top.0) (suc top.0) to → ⊥
          basic-first e g =
              by_left g.time (omega (arith, g.early, top.1)) g.late g.is
              (last_left (out top.0) from g.time (omega (arith, g.early, top.1)) (omega (arith, g.late, inside)) e
              (subst (λ (k : ℕ). is_nonbasic (x g.time) k ≡ true) g.is (step g.time (omega (arith, g.late, inside))).helps.nonbasic))

          by_return : (q : ℕ) → from ≤ q → q < top.0 → into q ≡ out top.0 → x q (out top.0) ≡ x from (out top.0) → is_nonbasic (x from) (out top.0) ≡ true → Left (out top.0) (suc q) to → ⊥
          by_return q late hq entered stands e l =
              never l.time q l.late (omega (arith, hq, top.2)) (omega (arith, late, l.early)) late l.is entered
              (λ h.
              same-value (out top.0) (value_in (x q) (out top.0)) (step l.time h).bound (step l.time h).side
              (sym stands ∙ some-value (x q (out top.0)) (ap is_some stands ∙ e))
              (l.stands h)
              (ap (bound_on (step l.time h).side s) (sym l.is) ∙ sym (bound-at (step l.time h).side l.time (out l.time)) ∙ (step l.time h).breaks.bounded))

          nonbasic-first : is_nonbasic (x from) (out top.0) ≡ true → is_nonbasic (x to) (out top.0) ≡ true → Entered (out top.0) from top.0 → ⊥
          nonbasic-first e f g =
              by_return g.time g.early g.late g.is g.stands e
              (last_left (out top.0) (suc g.time) to (omega (arith, g.late, top.2)) inside
              (subst (λ (k : ℕ). is_nonbasic (x (suc g.time)) k ≡ false) g.is (entered-basic g.time (omega (arith, g.late, top.2, inside))))
              f)

          by_test : (c : Bool) → is_nonbasic (x to) (out top.0) ≡ c → ⊥
          by_test true g =
              nonbasic-first (same-nonbasic (out top.0) ∙ g) g
              (first_entered (out top.0) from top.0 top.1 (omega (arith, top.2, inside)) (same-nonbasic (out top.0) ∙ g) (step top.0 (omega (arith, top.2, inside))).breaks.basic)
          by_test false g =
              basic-first (same-nonbasic (out top.0) ∙ g)
              (first_entered (out top.0) (suc top.0) to (omega (arith, top.2)) inside (ap is_some (leaves top.0 (omega (arith, top.2, inside)) (out top.0) refl)) g)

-- ---- Any run

module _ (n : ℕ) (p : ℕ → Position) (run : IsRun n p) where
  abbrev placed : ℕ → Position
  placed t = record (p 0) { point = (p t).point }

  placed-is : (t : ℕ) → t ≤ n → p t ≡ placed t
  placed-is zero h = refl
  placed-is (suc t) h =
      let after = (run.step t (omega (arith, h))).after in
      let point = exchanged_point (p t).point (run.leaving t) (run.entering t) (run.step t (omega (arith, h))).bound in
      after
      ∙ ap (λ (u : Position). let v : Position = record u { point = point } in v) (placed-is t (omega (arith, h)))
      ∙ ap (λ (y : Point). let v : Position = record (p 0) { point = y } in v) (sym (ap (λ (u : Position). u.point) after))

  placed-step : (t : ℕ) → t < n → IsCheckStep (placed t) (placed (suc t)) (run.leaving t) (run.entering t)
  placed-step t h =
      subst (λ (u : Position). IsCheckStep u (placed (suc t)) (run.leaving t) (run.entering t)) (placed-is t (omega (arith, h)))
      (subst (λ (u : Position). IsCheckStep (p t) u (run.leaving t) (run.entering t)) (placed-is (suc t) (omega (arith, h))) (run.step t h))

pub no_posture_returns : NoPostureReturns
no_posture_returns n p ready run from to h inside same =
    returned (p 0) (λ t. (p t).point) run.leaving run.entering n (placed-step n p run) ready.basis ready.consistent ready.fit from to h inside
    (λ k.
    ap (λ (u : Position). posture_of u k) (sym (placed-is n p run from (omega (arith, h, inside))))
    ∙ same k
    ∙ ap (λ (u : Position). posture_of u k) (placed-is n p run to inside))
