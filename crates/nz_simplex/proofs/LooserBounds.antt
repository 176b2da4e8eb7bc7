-- Bounds at the front of a list are looser than those of the whole list, so a simplex whose newest bounds are taken back is sound.
use Rattle.std.proofs.Common.{◌≡◌, ℕ, zero, suc, Bool, true, false, List, [], ◌∷◌, take, Option, Some, None, refl, sym, ap, ◌∙◌, subst}
use Rattle.std.specs.Prelude.{◌&&◌, fold, option_map, unwrap_or, if◌then◌else◌}
use Rattle.std.specs.Ordering.{is_lt}
use Rattle.std.specs.declared.cmp.Ordering.{Ordering}
use Rattle.std.specs.declared.cmp.Ordering.TheVariants.{Less, Equal, Greater}
use Rattle.nz_spec.specs.numbers.Infinitesimal.{Infinitesimal, infinitesimal_cmp}
use Rattle.nz_spec.specs.laws.InfinitesimalMoves.{InfinitesimalsMove}
use Rattle.nz_spec.specs.simplex.Bland as bland
use Rattle.nz_spec.specs.simplex.Bland.{lower_side, upper_side, IsOutside, bound_on, HasValue}
use Rattle.nz_spec.specs.simplex.PositionMoves.{is_outside, IsReadyToCheck, MovesKeepReady}
use Rattle.nz_spec.specs.terms.Table.{Node}
use Rattle.nz_trail.specs.declared.limits.Side.{Side}
use Rattle.nz_trail.specs.declared.limits.Side.TheVariants.{Lower, Upper}
use Rattle.nz_simplex.specs.Standing.{Held, half, is_bound_of, is_news, standing_with, standing, bound_in}
use Rattle.nz_simplex.specs.State.{State, IsSound, position_over}

less_told : (o : Ordering) → is_lt o ≡ true → o ≡ Less
less_told Less e = refl
less_told Equal e = cc
less_told Greater e = cc

pub outside_told : (side : bland.Side) (bound x : Infinitesimal) → is_outside side bound x ≡ true → IsOutside side bound x
outside_told lower_side bound x e = less_told (infinitesimal_cmp x bound) e
outside_told upper_side bound x e = less_told (infinitesimal_cmp bound x) e

module _ (law : InfinitesimalsMove) where
  outside_along : (side : bland.Side) (a b x : Infinitesimal) → IsOutside side b a → IsOutside side a x → IsOutside side b x
  outside_along lower_side a b x h k = law.less x a b k h
  outside_along upper_side a b x h k = law.less b a x h k

  module _ (v : ℕ) (side : Side) where
    -- what stands in the second stands at least as tight as in the first
    Looser : Option Held → Option Held → Type 0
    Looser o p = (b : Held) → o ≡ Some b → (c : Held) × (p ≡ Some c) × ((x : Infinitesimal) → IsOutside (half side) b.value x → IsOutside (half side) c.value x)

    looser_itself : (o : Option Held) → Looser o o
    unfolding Looser
    looser_itself o b e = (b, e, λ x h. h)

    looser_along : (o p q : Option Held) → Looser o p → Looser p q → Looser o q
    unfolding Looser
    looser_along o p q h k b e =
        let first = h b e in
        let second = k first.0 first.1 in
        (second.0, second.1, λ x out. second.2 x (first.2 x out))

    looser_step : (o : Option Held) (e : Held) → Looser o (standing_with v side o e)
    unfolding Looser
    looser_step o e b is = by_test (is_bound_of v side e) (is_news side e.value o) refl
      where
        by_test : (m n : Bool) → is_news side e.value o ≡ n
            → (c : Held) × ((if m && n then Some e else o) ≡ Some c) × ((x : Infinitesimal) → IsOutside (half side) b.value x → IsOutside (half side) c.value x)
        by_test true true news = (
          e,
          refl,
          λ x out. outside_along (half side) b.value e.value x
              (outside_told (half side) e.value b.value (sym (ap (is_news side e.value) is) ∙ news)) out,
        )
        by_test true false news = (b, is, λ x out. out)
        by_test false n news = (b, is, λ x out. out)

    looser_all : (o : Option Held) (bs : List Held) → Looser o (fold (standing_with v side) o bs)
    looser_all o [] = looser_itself o
    looser_all o (b ∷ bs) =
        looser_along o (standing_with v side o b) (fold (standing_with v side) (standing_with v side o b) bs) (looser_step o b)
        (looser_all (standing_with v side o b) bs)

    looser_front : (o : Option Held) (bs : List Held) (m : ℕ) → Looser (fold (standing_with v side) o (take m bs)) (fold (standing_with v side) o bs)
    looser_front o [] zero = looser_itself o
    looser_front o [] (suc m) = looser_itself o
    looser_front o (b ∷ bs) zero = looser_all o (b ∷ bs)
    looser_front o (b ∷ bs) (suc m) = looser_front (standing_with v side o b) bs m

    value_of : (o : Option Held) (x : Infinitesimal) → option_map (λ (b : Held). b.value) o ≡ Some x → (b : Held) × (o ≡ Some b) × (b.value ≡ x)
    value_of None x e = absurd (cc)
    value_of (Some b) x e = (b, refl, ap (λ (p : Option Infinitesimal). unwrap_or p x) e)

    pub bound_stays : (bs : List Held) (m : ℕ) (bound : Infinitesimal) → bound_in (take m bs) side v ≡ Some bound
        → (tighter : Infinitesimal) × (bound_in bs side v ≡ Some tighter) × ((x : Infinitesimal) → IsOutside (half side) bound x → IsOutside (half side) tighter x)
    unfolding Looser
    bound_stays bs m bound e =
        let there = value_of (standing (take m bs) v side) bound e in
        let later = looser_front None bs m there.0 there.1 in (
          later.0.value,
          ap (option_map (λ (b : Held). b.value)) later.1,
          λ x out. later.2 x (subst (λ (y : Infinitesimal). IsOutside (half side) y x) (sym there.2) out),
        )

  -- ---- A simplex

  module _ (s : State) (m : ℕ) (ns : List Node) where
    abbrev front : State
    front = record s { asserted = take m s.asserted }

    stays_on : (side : bland.Side) (k : ℕ) (bound : Infinitesimal) → bound_on side (position_over ns front) k ≡ Some bound
        → (tighter : Infinitesimal) × (bound_on side (position_over ns s) k ≡ Some tighter) × ((x : Infinitesimal) → IsOutside side bound x → IsOutside side tighter x)
    stays_on lower_side k bound e = bound_stays k Lower s.asserted m bound e
    stays_on upper_side k bound e = bound_stays k Upper s.asserted m bound e

    ready_front : MovesKeepReady → IsReadyToCheck (position_over ns s) → IsReadyToCheck (position_over ns front)
    ready_front moves ready =
        moves.looser (position_over ns s) (position_over ns front) ready refl (λ k. refl)
        (λ side k bound x e out. let there = stays_on side k bound e in (there.0, there.1, there.2 x out))
        (λ side k bound e. let there = stays_on side k bound e in ready.listed side k there.0 there.1)
        (λ k low high e f less.
        let lower = stays_on lower_side k low e in
        let upper = stays_on upper_side k high f in
        ready.consistent k lower.0 upper.0 lower.1 upper.1 (upper.2 lower.0 (lower.2 high less)))

  pub sound_front : MovesKeepReady → (s : State) (m : ℕ) → IsSound s → IsSound (record s { asserted = take m s.asserted })
  sound_front moves s m sound = record {
    marked = sound.marked;
    valued = sound.valued;
    known = sound.known;
    ready = λ ns over. ready_front s m ns moves (sound.ready ns (record { table = over.table; units = over.units }));
    right = λ ns k x over is.
        let h : HasValue (position_over ns s) k x = sound.right ns k x (record { table = over.table; units = over.units }) is in
        record { row = h.row; is_row = h.is_row; at = h.at };
  }
