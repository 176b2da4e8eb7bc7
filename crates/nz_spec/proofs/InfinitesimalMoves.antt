-- Infinitesimal numbers that are equal as values, part by part.
use Rattle.std.proofs.Common.{◌≡◌, true, pos, ap₂}
use Rattle.std.specs.Ordering.{ordering_then}
use Rattle.std.specs.declared.cmp.Ordering.{Ordering}
use Rattle.nz_fractions.specs.Fraction.{Fraction, whole, ◌=ℚ◌, ◌+ℚ◌, ◌*ℚ◌}
use Rattle.nz_spec.specs.numbers.Infinitesimal.{Infinitesimal, ◌=δ◌, ◌+δ◌, scaled, infinitesimal_cmp}
use Rattle.nz_spec.specs.terms.Term.{is_zero}
use Rattle.nz_spec.specs.laws.InfinitesimalMoves.{InfinitesimalsMove}
use Rattle.nz_fractions.proofs.Laws.{=ℚ_refl, =ℚ_sym}
use Rattle.nz_fractions.proofs.Order.{same-fraction_eq}
use Rattle.nz_fractions.proofs.Arithmetic.{+ℚ-zero, +ℚ-same, *ℚ-same, cmp-same}
use Rattle.nz_fractions.proofs.Identities.{times_zero}
use Rattle.nz_fractions.proofs.Solver.{◌∙ℚ◌, plus_right, times_right}
use Rattle.nz_spec.proofs.InfinitesimalOrder.{=δ_refl, =δ_sym, =δ_trans, at_most-less, at_most-from_less}

still-part : (x d q : Fraction) → is_zero q ≡ true → x =ℚ (x +ℚ d *ℚ q)
still-part x d q e =
    =ℚ_sym (plus_right x (times_right d (same-fraction_eq q (whole (pos 0)) e) ∙ℚ times_zero d) ∙ℚ +ℚ-zero x)

same-part : {x y d e : Fraction} (q : Fraction) → x =ℚ y → d =ℚ e → (x +ℚ d *ℚ q) =ℚ (y +ℚ e *ℚ q)
same-part q h k = +ℚ-same h (*ℚ-same k (=ℚ_refl q))

still : (x d : Infinitesimal) (q : Fraction) → is_zero q ≡ true → x =δ (x +δ scaled d q)
unfolding ◌+δ◌ scaled
still x d q e = record { standard = still-part x.standard d.standard q e; coefficient = still-part x.coefficient d.coefficient q e }

same : (x y d e : Infinitesimal) (q : Fraction) → x =δ y → d =δ e → (x +δ scaled d q) =δ (y +δ scaled e q)
unfolding ◌+δ◌ scaled
same x y d e q h k = record { standard = same-part q h.standard k.standard; coefficient = same-part q h.coefficient k.coefficient }

ordered : (x y z w : Infinitesimal) → x =δ y → z =δ w → infinitesimal_cmp x z ≡ infinitesimal_cmp y w
unfolding infinitesimal_cmp
ordered x y z w h k = ap₂ (λ (o p : Ordering). ordering_then o p) (cmp-same h.standard k.standard) (cmp-same h.coefficient k.coefficient)

pub infinitesimals_move : InfinitesimalsMove
infinitesimals_move = record {
  itself = =δ_refl;
  back = λ x y h. =δ_sym h;
  along = λ x y z h k. =δ_trans h k;
  still = still;
  same = same;
  ordered = ordered;
  less = λ x y z h k. at_most-less x y z (at_most-from_less x y h) k;
}
