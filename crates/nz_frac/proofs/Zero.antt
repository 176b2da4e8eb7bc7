-- Numbers other than zero.
use Rattle.std.proofs.Common.{◌≡◌, suc, false, pos, ◌*ℤ◌, sym, ap, ◌∙◌, true≢false}
use Rattle.std.proofs.Math.IntN.{zero-*ℤ}
use Rattle.std.proofs.lemmas.Bool.Decides.{Decides-int_eq}
use Rattle.nz_fractions.specs.Fraction.{Fraction, denominator, fraction_eq}
use Rattle.nz_spec.specs.terms.Term.{is_zero}

-- a number whose numerator is 0 is zero
pub is_not_zero : (q : Fraction) → is_zero q ≡ false → q.numerator ≡ pos 0 → ⊥
unfolding fraction_eq denominator
is_not_zero q e z =
    let same : q.numerator *ℤ pos 1 ≡ pos 0 *ℤ pos (suc q.below) = ap (λ n. n *ℤ pos 1) z ∙ zero-*ℤ (pos 1) ∙ sym (zero-*ℤ (pos (suc q.below))) in
    true≢false (sym ((Decides-int_eq (q.numerator *ℤ pos 1) (pos 0 *ℤ pos (suc q.below))).1 same) ∙ e)
