-- How bounds of one side and of both sides compare, by the laws of a total order.
use Rattle.std.proofs.Common.{◌≡◌, ap, sym, ◌∙◌, refl}
use Rattle.std.specs.Ordering.{ordering_reverse}
use Rattle.std.specs.declared.cmp.Ordering.{Ordering}
use Rattle.std.specs.declared.cmp.Ordering.TheVariants.{Less, Equal, Greater}
use Rattle.std.specs.Cmp.{IsTotalOrder}
use Rattle.std.proofs.lemmas.Cmp.{tied_itself, alike_right}
use Rattle.nz_trail.specs.declared.limits.Side.{Side}
use Rattle.nz_trail.specs.declared.limits.Side.TheVariants.{Lower, Upper}
use Rattle.nz_trail.specs.Bounds.{IsTighter, AreApart, other_side}

-- an ordering that can't fail to be this one is it
less_stable : (o : Ordering) → ¬ (¬ (o ≡ Less)) → o ≡ Less
less_stable Less h = refl
less_stable Equal h = absurd (h (λ e. cc))
less_stable Greater h = absurd (h (λ e. cc))

greater_stable : (o : Ordering) → ¬ (¬ (o ≡ Greater)) → o ≡ Greater
greater_stable Less h = absurd (h (λ e. cc))
greater_stable Equal h = absurd (h (λ e. cc))
greater_stable Greater h = refl

module _ {S : Type 0} {order : S → S → Ordering} (total : IsTotalOrder order) where
  reversed : (x y : S) (o : Ordering) → order x y ≡ o → order y x ≡ ordering_reverse o
  reversed x y o e = total.antisymm y x ∙ ap ordering_reverse e

  -- x < y and y ≤ z
  less_by_second : (x y z : S) (o : Ordering) → order y z ≡ o → ¬ (o ≡ Greater) → order x y ≡ Less → order x z ≡ Less
  less_by_second x y z Less e n h = total.trans x y z h e
  less_by_second x y z Equal e n h = sym (alike_right total y z x e) ∙ h
  less_by_second x y z Greater e n h = absurd (n refl)

  -- x ≤ y and y < z
  less_by_first : (x y z : S) (o : Ordering) → order x y ≡ o → ¬ (o ≡ Greater) → order y z ≡ Less → order x z ≡ Less
  less_by_first x y z Less e n h = total.trans x y z e h
  less_by_first x y z Equal e n h = total.congr x y z e ∙ h
  less_by_first x y z Greater e n h = absurd (n refl)

  not_above : (x y : S) → ¬ (order x y ≡ Less) → ¬ (order y x ≡ Greater)
  not_above x y n e = n (reversed y x Greater e)

  greater_irreflexive : (x : S) → ¬ (order x x ≡ Greater)
  greater_irreflexive x e = let tied = tied_itself total x in cc

  less_irreflexive : (x : S) → ¬ (order x x ≡ Less)
  less_irreflexive x e = let tied = tied_itself total x in cc

  -- ---- Bounds of one side

  pub tighter_stable : (side : Side) (x y : S) → ¬ (¬ IsTighter order side x y) → IsTighter order side x y
  tighter_stable Lower x y h = greater_stable (order x y) h
  tighter_stable Upper x y h = less_stable (order x y) h

  pub tighter_irreflexive : (side : Side) (x : S) → ¬ IsTighter order side x x
  tighter_irreflexive Lower x = greater_irreflexive x
  tighter_irreflexive Upper x = less_irreflexive x

  -- tighter than one that is at least as tight
  pub tighter_past : (side : Side) (x y z : S) → IsTighter order side x y → ¬ IsTighter order side z y → IsTighter order side x z
  tighter_past Lower x y z h n = reversed z x Less (less_by_first z y x (order z y) refl n (reversed x y Greater h))
  tighter_past Upper x y z h n = less_by_second x y z (order y z) refl (not_above z y n) h

  pub tighter_trans : (side : Side) (x y z : S) → IsTighter order side x y → IsTighter order side y z → IsTighter order side x z
  tighter_trans Lower x y z h k = reversed z x Less (total.trans z y x (reversed y z Greater k) (reversed x y Greater h))
  tighter_trans Upper x y z h k = total.trans x y z h k

  pub tighter_asymmetric : (side : Side) (x y : S) → IsTighter order side x y → ¬ IsTighter order side y x
  tighter_asymmetric side x y h k = tighter_irreflexive side x (tighter_trans side x y x h k)

  -- ---- Bounds of both sides

  -- a bound is also apart from one of the other side that is at least as tight as one that it is apart from
  pub apart_past : (side : Side) (x y z : S) → AreApart order side x y → ¬ IsTighter order (other_side side) y z → AreApart order side x z
  apart_past Lower x y z h n = reversed z x Less (less_by_first z y x (order z y) refl (not_above y z n) (reversed x y Greater h))
  apart_past Upper x y z h n = reversed x z Less (less_by_second x y z (order y z) refl n (reversed y x Greater h))

  -- and so is each bound of its own side that is at least as tight
  pub apart_from : (side : Side) (x y z : S) → AreApart order side x z → ¬ IsTighter order side x y → AreApart order side y z
  apart_from Lower x y z h n = reversed z y Less (less_by_second z x y (order x y) refl n (reversed x z Greater h))
  apart_from Upper x y z h n = reversed y z Less (less_by_first y x z (order y x) refl (not_above x y n) (reversed z x Greater h))
