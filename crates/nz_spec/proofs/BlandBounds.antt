-- Bounds of fractions: what stands before an infinitesimal decides, and then the infinitesimal does.
use Rattle.std.proofs.Common.{◌≡◌, refl, sym, ap, true≢false, Ordering, Less, Equal, Greater}
use Rattle.std.specs.Prelude.{◌↔◌}
use Rattle.std.specs.Ordering.{ordering_then, is_lt}
use Rattle.nz_fractions.specs.Fraction.{Fraction, denominator, ◌≤ℚ◌, ◌<ℚ◌, fraction_cmp}
use Rattle.nz_spec.specs.numbers.Infinitesimal.{infinitesimal_cmp}
use Rattle.nz_spec.specs.simplex.Bland.{BoundsSayWhatTheyMean}
use Rattle.nz_fractions.proofs.Laws.{≤ℚ-from_eq, ≤ℚ-from_lt, <ℚ_irrefl}
use Rattle.nz_fractions.proofs.Order.{fraction_ranked, fraction_cmp_is}

-- ---- Level and tilted

level : (p q : Fraction) → (ordering_then (fraction_cmp p q) Equal ≡ Less) ↔ (p <ℚ q)
level p q = (λ e. to (fraction_cmp p q) refl e, λ h. ap (λ (o : Ordering). ordering_then o Equal) (sym (fraction_cmp_is p q Less h)))
  where
    to : (o : Ordering) → o ≡ fraction_cmp p q → ordering_then o Equal ≡ Less → p <ℚ q
    to Less e h = fraction_ranked p q Less e
    to Equal e h = absurd (true≢false (sym (ap is_lt h)))
    to Greater e h = absurd (true≢false (sym (ap is_lt h)))

tilted : (p q : Fraction) → (ordering_then (fraction_cmp p q) Less ≡ Less) ↔ (p ≤ℚ q)
tilted p q = (λ e. to (fraction_cmp p q) refl e, λ h. back (fraction_cmp p q) refl h)
  where
    to : (o : Ordering) → o ≡ fraction_cmp p q → ordering_then o Less ≡ Less → p ≤ℚ q
    to Less e h = ≤ℚ-from_lt (fraction_ranked p q Less e)
    to Equal e h = ≤ℚ-from_eq (fraction_ranked p q Equal e)
    to Greater e h = absurd (true≢false (sym (ap is_lt h)))

    back : (o : Ordering) → o ≡ fraction_cmp p q → p ≤ℚ q → ordering_then o Less ≡ Less
    back Less e h = refl
    back Equal e h = refl
    back Greater e h = absurd (<ℚ_irrefl (fraction_ranked p q Greater e) h)

pub bounds_say_what_they_mean : BoundsSayWhatTheyMean
unfolding infinitesimal_cmp fraction_cmp denominator
bounds_say_what_they_mean = record {
  at_most = λ p q. level q p;
  below = λ p q. tilted q p;
  at_least = λ p q. level p q;
  above = λ p q. tilted p q;
}
