-- Where bounds are taken back, what stands is looser: a theory that is feasible stays so.
use Rattle.std.proofs.Common.{◌≡◌, ℕ, false, List, take, drop, Option, Some, None, refl, sym, ap, ◌∙◌, subst, true≢false}
use Rattle.std.specs.Prelude.{Contains, option_map}
use Rattle.std.specs.Ordering.{is_lt}
use Rattle.std.proofs.lemmas.List.{take-append-drop}
use Rattle.std.proofs.lemmas.List.Elements.{Contains-append_left}
use Rattle.nz_spec.specs.numbers.Infinitesimal.{Infinitesimal, InfinitesimalsAreOrdered}
use Rattle.nz_spec.specs.simplex.Bland.{lower_side, upper_side, HasValue, IsOutside}
use Rattle.nz_spec.specs.simplex.PositionMoves.{AreLooser, is_outside}
use Rattle.nz_spec.specs.terms.Table.{Node}
use Rattle.nz_trail.specs.declared.limits.Side.{Side}
use Rattle.nz_trail.specs.declared.limits.Side.TheVariants.{Lower, Upper}
use Rattle.nz_simplex.specs.Checks as checks
use Rattle.nz_simplex.specs.Standing.{Held, bound_in, half, is_news, standing}
use Rattle.nz_simplex.specs.State.{State, position_over}
use Rattle.nz_reals.specs.declared.reals.MarkedLiteral.{MarkedLiteral}
use Rattle.nz_reals.specs.Stands.{IsFeasible}
use Rattle.nz_reals.specs.State.{Theory}
use Rattle.nz_reals.proofs.News.{finds}
use Rattle.nz_reals.proofs.TheoryPositions.{over_kept}
use Rattle.nz_reals.proofs.Tolds.{IsUndone}
use Rattle.nz_reals.proofs.Whys.{stands_among}

-- ---- What stands

abbrev with_bounds : State → List Held → State
with_bounds s bs = record s { asserted = bs }

-- x is outside of the bound that stands
abbrev IsBroken : Side → List Held → ℕ → Infinitesimal → Type 0
IsBroken side bs v x = (tighter : Infinitesimal) × (bound_in bs side v ≡ Some tighter) × IsOutside (half side) tighter x

module _ (order : InfinitesimalsAreOrdered) where
  -- what is outside of a bound is outside of one that is as tight
  outside_along : (side : Side) (a b x : Infinitesimal) → is_outside (half side) a b ≡ false → IsOutside (half side) a x → IsOutside (half side) b x
  outside_along Lower a b x slack out = order.less_at_most x a b out (order.at_most a b (λ e. true≢false (sym (ap is_lt e) ∙ slack)))
  outside_along Upper a b x slack out = order.at_most_less b a x (order.at_most b a (λ e. true≢false (sym (ap is_lt e) ∙ slack))) out

  broken_along : (side : Side) (bs : List Held) (v : ℕ) (a x : Infinitesimal) → is_news side a (standing bs v side) ≡ false → IsOutside (half side) a x → IsBroken side bs v x
  broken_along side bs v a x h out = by_case (standing bs v side) refl h
    where
      by_case : (o : Option Held) → standing bs v side ≡ o → is_news side a o ≡ false → IsBroken side bs v x
      by_case None e k = absurd (true≢false k)
      by_case (Some b) e k = (b.value, ap (option_map (λ (y : Held). y.value)) e, outside_along side a b.value x k out)

  front_broken : (side : Side) (bs : List Held) (m v : ℕ) (bound x : Infinitesimal) → bound_in (take m bs) side v ≡ Some bound → IsOutside (half side) bound x → IsBroken side bs v x
  front_broken side bs m v bound x is out = by_case (standing (take m bs) v side) refl is
    where
      by_case : (o : Option Held) → standing (take m bs) v side ≡ o → option_map (λ (b : Held). b.value) o ≡ Some bound → IsBroken side bs v x
      by_case None e f = absurd cc
      by_case (Some b) e f =
          let among = stands_among (take m bs) v side b e in
          let same : b.value ≡ bound = cc in
          let has : Contains bs b = subst (λ (es : List Held). Contains es b) (take-append-drop m bs) (Contains-append_left (take m bs) (drop m bs) b among.has) in
          broken_along side bs v b.value x (finds order v side None bs b has among.of) (subst (λ (y : Infinitesimal). IsOutside (half side) y x) (sym same) out)

  looser_front : (ns : List Node) (s : State) (m : ℕ) → AreLooser (position_over ns (with_bounds s (take m s.asserted))) (position_over ns s)
  looser_front ns s m lower_side k bound x is out = front_broken Lower s.asserted m k bound x is out
  looser_front ns s m upper_side k bound x is out = front_broken Upper s.asserted m k bound x is out

-- ---- Feasible

feasible_looser : (ns : List Node) (s : State) (bs : List Held) → AreLooser (position_over ns (with_bounds s bs)) (position_over ns s) → checks.IsFeasible ns s → checks.IsFeasible ns (with_bounds s bs)
feasible_looser ns s bs looser f = record {
  known = f.known;
  within = λ side bound i breaks.
      let there = looser side i bound breaks.value breaks.bounded breaks.outside in
      f.within side there.0 i (record {
        listed = breaks.listed;
        basic = breaks.basic;
        bounded = there.1;
        value = breaks.value;
        has = record { row = breaks.has.row; is_row = breaks.has.is_row; at = breaks.has.at };
        outside = there.2;
      });
  meets = λ y has side k bound less is out.
      let there = looser side k bound (y k) is out in
      f.meets y (λ j listed. let h : HasValue (position_over ns (with_bounds s bs)) j (y j) = has j listed in record { row = h.row; is_row = h.is_row; at = h.at })
      side k there.0 less there.1 there.2;
}

-- the last literals are taken back
pub feasible_undone : InfinitesimalsAreOrdered → (old new : Theory) (k : ℕ) (x : MarkedLiteral) → IsUndone old new k x → IsFeasible old → IsFeasible new
feasible_undone order old new k x undone f = λ ns over.
    let bs = take x.mark old.simplex.asserted in
    let was = f ns (over_kept ns new old (sym (ap (λ (s : State). s.forms) undone.simplex)) over) in
    subst (checks.IsFeasible ns) (sym undone.simplex) (feasible_looser ns old.simplex bs (looser_front order ns old.simplex x.mark) was)
