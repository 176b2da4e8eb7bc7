-- The greatest form that moves in a part of a run doesn't enter at the bound for which it leaves there. If it did, the values before it
-- left would take the form that it helps no nearer to its bound: the lesser ones keep their bounds there, the greater ones don't move,
-- and the greatest goes the wrong way. But the form that it helps is a lesser one, and so it keeps its own bound there.
use Rattle.std.proofs.Common.{◌≡◌, ℕ, zero, suc, ◌<◌, ◌≤◌, Bool, true, false, ◌⊎◌, inl, inr, length, Option, Some, pos, refl, sym, ap, ◌∙◌, subst, true≢false, arith}
use Rattle.std.specs.Prelude.{◌≢◌, ◌↔◌, unwrap_or, is_some}
use Rattle.nz_fractions.specs.Fraction.{whole, ◌=ℚ◌, ◌<ℚ◌}
use Rattle.nz_spec.specs.numbers.Infinitesimal.{Infinitesimal, ◌=δ◌}
use Rattle.nz_spec.specs.simplex.Basis.{Coefficients, IsSolution}
use Rattle.nz_spec.specs.simplex.Bland.{Point, is_nonbasic, NonbasicFormsFit, zero_infinitesimal, value_in, sum_at, Position, HasBasis, Side, lower_side, upper_side, other_side, bound_on, IsOutside, HasRoom, CanHelp, IsCheckStep}
use Rattle.nz_spec.specs.simplex.PositionMoves.{AreConsistent}
use Rattle.nz_fractions.proofs.Laws.{=ℚ-from_same, =ℚ_sym, ≤ℚ-from_eq, ≤ℚ-<ℚ_trans, <ℚ-≤ℚ_trans, ≤ℚ-from_lt, <ℚ_irrefl}
use Rattle.nz_fractions.proofs.Solver.{◌∙ℚ◌}
use Rattle.nz_spec.proofs.InfinitesimalOrder.{=δ_sym, =δ_trans}
use Rattle.nz_spec.proofs.BlandRefutes.{sides, IsPast, not_outside, outside-sum, outside-equal, past-between, past-outside, past-equal, inside-at, held_back, held_up, held_down}
use Rattle.nz_spec.proofs.BlandPositions.{all_values, all-have, one-value, nonbasic-value, standard-fits, coefficient-fits}
use Rattle.nz_spec.proofs.BlandMoves as moves
use Rattle.nz_spec.proofs.BlandMoves.{=δ-from_same}

turned : (a : Side) → other_side (other_side a) ≡ a
turned lower_side = refl
turned upper_side = refl

module _ (s : Position) (x : ℕ → Point) (out into : ℕ → ℕ) (n : ℕ) where
  abbrev at : ℕ → Position
  at = moves.at s x out into n

  module _ (step : (t : ℕ) → t < n → IsCheckStep (at t) (at (suc t)) (out t) (into t)) (b : HasBasis (at 0)) (c : AreConsistent s) (start : NonbasicFormsFit (at 0)) where
    stays : (t : ℕ) (h : t < n) (k : ℕ) → k ≢ out t → k ≢ into t → x (suc t) k ≡ x t k
    stays = moves.stays s x out into n step

    bound-at : (side : Side) (t k : ℕ) → bound_on side (at t) k ≡ bound_on side s k
    bound-at = moves.bound-at s x out into n step

    basis : (t : ℕ) → t ≤ n → HasBasis (at t)
    basis = moves.basis s x out into n step b

    solutions : (y : Coefficients) (t : ℕ) → t ≤ n → IsSolution s.forms (is_nonbasic (x 0)) y ↔ IsSolution s.forms (is_nonbasic (x t)) y
    solutions = moves.solutions s x out into n step b

    fit : (t : ℕ) → t ≤ n → NonbasicFormsFit (at t)
    fit = moves.fit s x out into n step c start

    -- ---- A form enters, and left before

    -- r is the greatest form that moves in between
    module _ (from to r : ℕ) (ordered : from ≤ to) (inside : to ≤ n) (outs : (t : ℕ) → from ≤ t → t < to → out t ≤ r) (intos : (t : ℕ) → from ≤ t → t < to → into t ≤ r) where
      greater-stay : (k t : ℕ) → r < k → from ≤ t → t ≤ to → x t k ≡ x from k
      greater-stay k zero g p q = ap (λ (l : ℕ). x l k) (none from p)
        where
          none : (from : ℕ) → from ≤ 0 → 0 ≡ from
          none from p = omega (arith, p)
      greater-stay k (suc t) g p q = by_place (first_or_later from t p) (λ l. greater-stay k t g l (omega (arith, q)))
        where
          first_or_later : (from t : ℕ) → from ≤ suc t → (from ≡ suc t) ⊎ (from ≤ t)
          first_or_later from t p = grind (arith, p)

          by_place : (from ≡ suc t) ⊎ (from ≤ t) → (from ≤ t → x t k ≡ x from k) → x (suc t) k ≡ x from k
          by_place (inl e) rest = ap (λ (l : ℕ). x l k) (sym e)
          by_place (inr l) rest =
              stays t (omega (arith, q, inside)) k
              (λ (e : k ≡ out t). omega (arith, e, outs t l (omega (arith, q)), g))
              (λ (e : k ≡ into t). omega (arith, e, intos t l (omega (arith, q)), g))
              ∙ rest l

      module _ (p q : ℕ) (hp : p < to) (hq : q < to) (early : from ≤ p) (late : from ≤ q) (left : out p ≡ r) (entered : into q ≡ r) where
        abbrev leaving : IsCheckStep (at p) (at (suc p)) (out p) (into p)
        leaving = step p (omega (arith, hp, inside))

        abbrev entering : IsCheckStep (at q) (at (suc q)) (out q) (into q)
        entering = step q (omega (arith, hq, inside))

        basis-p : HasBasis (at p)
        basis-p = basis p (omega (arith, hp, inside))

        -- all values where r leaves
        abbrev y : ℕ → Infinitesimal
        y = all_values (at p) basis-p

        -- lesser forms break no bound there
        lesser-meet : (k : ℕ) → k < r → k < length s.forms → (side : Side) (bound : Infinitesimal) → bound_on side s k ≡ Some bound → IsOutside side bound (y k) → ⊥
        lesser-meet k l m side bound e o = by_test (is_nonbasic (x p) k) refl
          where
            by_test : (t : Bool) → is_nonbasic (x p) k ≡ t → ⊥
            by_test true f =
                fit p (omega (arith, hp, inside)) side k bound f (bound-at side p k ∙ e)
                (outside-equal side bound (y k) (value_in (x p) k) (=δ_sym (nonbasic-value (at p) basis-p k f)) o)
            by_test false f =
                leaving.least_broken k (omega (arith, l, left)) side bound (record {
                  listed = m;
                  basic = f;
                  bounded = bound-at side p k ∙ e;
                  value = y k;
                  has = all-have (at p) basis-p k m;
                  outside = o;
                })

        -- the form that leaves where r enters is a lesser one
        lesser : out q < r
        lesser = below (out q) r (outs q late hq) (λ (e : out q ≡ r). true≢false (sym entering.helps.nonbasic ∙ ap (is_nonbasic (x q)) (entered ∙ sym e) ∙ entering.breaks.basic))
          where
            below : (i j : ℕ) → i ≤ j → (i ≡ j → ⊥) → i < j
            below i j h o = grind (arith, h, o)

        abbrev row : Coefficients
        row = entering.breaks.has.row

        abbrev away : Side
        away = other_side entering.side

        nonbasic-there : (k : ℕ) → (row k =ℚ whole (pos 0) → ⊥) → is_nonbasic (x q) k ≡ true
        nonbasic-there k h = by_test (is_nonbasic (x q) k) refl
          where
            by_test : (t : Bool) → is_nonbasic (x q) k ≡ t → t ≡ true
            by_test true e = refl
            by_test false e = absurd (h (entering.breaks.has.is_row.at_basic k e))

        -- greater forms have the same value
        greater-same : (k : ℕ) → r < k → is_nonbasic (x q) k ≡ true → value_in (x q) k =δ y k
        greater-same k g e =
            let same : x q k ≡ x p k = greater-stay k q g late (omega (arith, hq)) ∙ sym (greater-stay k p g early (omega (arith, hp))) in
            =δ_trans
            (=δ-from_same (ap (λ (o : Option Infinitesimal). unwrap_or o zero_infinitesimal) same))
            (nonbasic-value (at p) basis-p k (sym (ap is_some same) ∙ e))

        module _ (stood : value_in (x q) r =δ leaving.bound) where
          bound-r : bound_on leaving.side s r ≡ Some leaving.bound
          bound-r = ap (bound_on leaving.side s) (sym left) ∙ sym (bound-at leaving.side p (out p)) ∙ leaving.breaks.bounded

          -- the value of r where it leaves
          value-r : IsOutside leaving.side leaving.bound (y r)
          value-r =
              subst (λ (k : ℕ). IsOutside leaving.side leaving.bound (y k)) left
              (outside-equal leaving.side leaving.bound leaving.breaks.value (y (out p))
              (one-value (at p) basis-p (out p) leaving.breaks.value leaving.breaks.listed leaving.breaks.has)
              leaving.breaks.outside)

          no-room : (side : Side) → side ≡ leaving.side → HasRoom (at q) side r → ⊥
          no-room side e room =
              inside-at side leaving.bound (value_in (x q) r) stood (room leaving.bound (bound-at side q r ∙ ap (λ (l : Side). bound_on l s r) e ∙ bound-r))

          past-r : IsPast (other_side leaving.side) (y r) (value_in (x q) r)
          past-r = past-outside leaving.side leaving.bound (value_in (x q) r) (y r) stood value-r

          -- r's coefficient is that by which it helps
          same-coefficient : entering.helps.coefficient =ℚ row r
          same-coefficient =
              =ℚ_sym entering.helps.at.at
              ∙ℚ (basis q (omega (arith, hq, inside))).one (out q) entering.helps.at.row row entering.breaks.listed entering.helps.at.is_row entering.breaks.has.is_row (into q)
              ∙ℚ =ℚ-from_same (ap row entered)

          room-above : whole (pos 0) <ℚ row r → HasRoom (at q) away r
          room-above h = by_way entering.helps.way
            where
              by_way : ((whole (pos 0) <ℚ entering.helps.coefficient) × HasRoom (at q) away (into q)) ⊎ ((entering.helps.coefficient <ℚ whole (pos 0)) × HasRoom (at q) (other_side away) (into q)) → HasRoom (at q) away r
              by_way (inl w) = subst (λ (k : ℕ). HasRoom (at q) away k) entered w.1
              by_way (inr w) = absurd (<ℚ_irrefl w.0 (≤ℚ-from_lt (<ℚ-≤ℚ_trans h (≤ℚ-from_eq (=ℚ_sym same-coefficient)))))

          room-below : row r <ℚ whole (pos 0) → HasRoom (at q) (other_side away) r
          room-below h = by_way entering.helps.way
            where
              by_way : ((whole (pos 0) <ℚ entering.helps.coefficient) × HasRoom (at q) away (into q)) ⊎ ((entering.helps.coefficient <ℚ whole (pos 0)) × HasRoom (at q) (other_side away) (into q)) → HasRoom (at q) (other_side away) r
              by_way (inl w) = absurd (<ℚ_irrefl w.0 (≤ℚ-from_lt (≤ℚ-<ℚ_trans (≤ℚ-from_eq same-coefficient) h)))
              by_way (inr w) = subst (λ (k : ℕ). HasRoom (at q) (other_side away) k) entered w.1

          places : (k : ℕ) → (k < r) ⊎ ((k ≡ r) ⊎ (r < k))
          places k = grind arith

          helpless : (k : ℕ) → k < r → CanHelp (at q) (out q) away k → ⊥
          helpless k l = entering.least_helper k (omega (arith, l, entered))

          -- each form with a coefficient above 0 is past its later value
          up : (k : ℕ) → k < length s.forms → whole (pos 0) <ℚ row k → IsPast away (y k) (value_in (x q) k)
          up k m h = by_place (places k)
            where
              by_side : (leaving.side ≡ away) ⊎ (leaving.side ≡ other_side away) → whole (pos 0) <ℚ row r → IsPast away (y r) (value_in (x q) r)
              by_side (inl e) g = absurd (no-room away (sym e) (room-above g))
              by_side (inr e) g = subst (λ (l : Side). IsPast l (y r) (value_in (x q) r)) (ap other_side e ∙ turned away) past-r

              by_place : (k < r) ⊎ ((k ≡ r) ⊎ (r < k)) → IsPast away (y k) (value_in (x q) k)
              by_place (inl l) =
                  let held = held_up (at q) entering.side entering.bound (out q) entering.breaks k (helpless k l) h in
                  past-between away (held_back (at q) entering.side row k) (value_in (x q) k) (y k) held.1
                  (not_outside away (held_back (at q) entering.side row k) (y k) (lesser-meet k l m away (held_back (at q) entering.side row k) (sym (bound-at away q k) ∙ held.0)))
              by_place (inr (inl e)) =
                  subst (λ (l : ℕ). IsPast away (y l) (value_in (x q) l)) (sym e)
                  (by_side (sides leaving.side away) (subst (λ (l : ℕ). whole (pos 0) <ℚ row l) e h))
              by_place (inr (inr g)) = past-equal away (value_in (x q) k) (y k) (greater-same k g (nonbasic-there k (λ z. <ℚ_irrefl h (≤ℚ-from_eq z))))

          down : (k : ℕ) → k < length s.forms → row k <ℚ whole (pos 0) → IsPast entering.side (y k) (value_in (x q) k)
          down k m h = by_place (places k)
            where
              by_side : (leaving.side ≡ entering.side) ⊎ (leaving.side ≡ other_side entering.side) → row r <ℚ whole (pos 0) → IsPast entering.side (y r) (value_in (x q) r)
              by_side (inl e) g = absurd (no-room (other_side away) (turned entering.side ∙ sym e) (room-below g))
              by_side (inr e) g = subst (λ (l : Side). IsPast l (y r) (value_in (x q) r)) (ap other_side e ∙ turned entering.side) past-r

              by_place : (k < r) ⊎ ((k ≡ r) ⊎ (r < k)) → IsPast entering.side (y k) (value_in (x q) k)
              by_place (inl l) =
                  let held = held_down (at q) entering.side entering.bound (out q) entering.breaks k (helpless k l) h in
                  past-between entering.side (held_back (at q) entering.side row k) (value_in (x q) k) (y k) held.1
                  (not_outside entering.side (held_back (at q) entering.side row k) (y k) (lesser-meet k l m entering.side (held_back (at q) entering.side row k) (sym (bound-at entering.side q k) ∙ held.0)))
              by_place (inr (inl e)) =
                  subst (λ (l : ℕ). IsPast entering.side (y l) (value_in (x q) l)) (sym e)
                  (by_side (sides leaving.side entering.side) (subst (λ (l : ℕ). row l <ℚ whole (pos 0)) e h))
              by_place (inr (inr g)) = past-equal entering.side (value_in (x q) k) (y k) (greater-same k g (nonbasic-there k (λ z. <ℚ_irrefl h (≤ℚ-from_eq (=ℚ_sym z)))))

          -- the values where r leaves fit the basis where it enters
          fits : y (out q) =δ sum_at (length s.forms) row y
          fits = record {
            standard =
                (solutions (λ k. (y k).standard) q (omega (arith, hq, inside))).0
                ((solutions (λ k. (y k).standard) p (omega (arith, hp, inside))).1 (standard-fits (at p) basis-p))
                (out q) row entering.breaks.listed entering.breaks.has.is_row;
            coefficient =
                (solutions (λ k. (y k).coefficient) q (omega (arith, hq, inside))).0
                ((solutions (λ k. (y k).coefficient) p (omega (arith, hp, inside))).1 (coefficient-fits (at p) basis-p))
                (out q) row entering.breaks.listed entering.breaks.has.is_row;
          }

          pub no_reentry : ⊥
          no_reentry =
              lesser-meet (out q) lesser entering.breaks.listed entering.side entering.bound (sym (bound-at entering.side q (out q)) ∙ entering.breaks.bounded)
              (outside-equal entering.side entering.bound (sum_at (length s.forms) row y) (y (out q)) (=δ_sym fits)
              (outside-sum entering.side (length s.forms) row (value_in (x q)) y entering.bound up down
              (outside-equal entering.side entering.bound entering.breaks.value (sum_at (length s.forms) row (value_in (x q))) entering.breaks.has.at entering.breaks.outside)))
