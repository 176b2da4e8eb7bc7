-- A value that follows a form to a target, by the distance that was computed.
use Rattle.std.proofs.Common.{◌≡◌, Bool, true, false, Option, Some, None, refl, sym, subst}
use Rattle.std.specs.Prelude.{IfSome, IsSome}
use Rattle.nz_fractions.specs.Fraction.{Fraction}
use Rattle.nz_spec.specs.numbers.Infinitesimal.{Infinitesimal, ◌=δ◌, ◌+δ◌, ◌-δ◌, scaled}
use Rattle.nz_spec.specs.laws.InfinitesimalMoves.{InfinitesimalsMove}
use Rattle.nz_spec.specs.terms.Term.{is_zero}
use Rattle.nz_simplex.specs.Choices.{IsAfter, IsFollowed}

-- how far it is to a target
abbrev pub IsDistance : {S : Type 0} → (S → Infinitesimal) → S → Option S → Option S → Type 0
IsDistance {S} stands target from distance = IfSome distance (λ d. (x : S) × (from ≡ Some x) × (stands d =δ (stands target -δ stands x)))

module _ {S : Type 0} (law : InfinitesimalsMove) (stands : S → Infinitesimal) (target : S) where
  by_distance : (from distance old : Option S) (c : Fraction) (y x d : S) → IsDistance stands target from distance → old ≡ Some x → distance ≡ Some d
      → stands y =δ (stands x +δ scaled (stands d) c) → IsFollowed stands from target c old (Some y)
  by_distance from distance old c y x d far was is value =
      let there = subst (λ (o : Option S). IfSome o (λ e. (w : S) × (from ≡ Some w) × (stands e =δ (stands target -δ stands w)))) is far in (
        there.0,
        x,
        there.1,
        was,
        law.along (stands y) (stands x +δ scaled (stands d) c) (stands x +δ scaled (stands target -δ stands there.0) c) value
            (law.same (stands x) (stands x) (stands d) (stands target -δ stands there.0) c (law.itself (stands x)) there.2),
      )

  at_zero : (from old : Option S) (c : Fraction) (y : S) → IsSome from → is_zero c ≡ true → Some y ≡ old → IsFollowed stands from target c old (Some y)
  at_zero None old c y some zero e = absurd (cc)
  at_zero (Some w) old c y some zero e = (w, y, refl, sym e, law.still (stands y) (stands target -δ stands w) c zero)

  pub followed_after : (from distance : Option S) (c : Fraction) (old new : Option S) → IsSome from → IsDistance stands target from distance → IsAfter stands false distance c old new
      → IsFollowed stands from target c old new
  followed_after from distance c old None some far after = tt
  followed_after from distance c old (Some y) some far after = by_test (is_zero c) refl
    where
      by_test : (b : Bool) → is_zero c ≡ b → IsFollowed stands from target c old (Some y)
      by_test true e = at_zero from old c y some e (after.still refl e)
      by_test false e =
          let there = after.follows refl e in
          by_distance from distance old c y there.0 there.1 far there.2 there.3 there.4
