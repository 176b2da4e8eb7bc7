-- The sign of a fraction, by its numerator.
use Rattle.std.proofs.Common.{◌≡◌, ◌⊎◌, inl, inr, Bool, true, false, pos, int_lt, refl, sym, ◌∙◌, true≢false, arith}
use Rattle.std.proofs.lemmas.Int.{ints}
use Rattle.nz_fractions.specs.Fraction.{Fraction, whole, denominator, fraction_eq, ◌≤ℚ◌, ◌<ℚ◌}
use Rattle.nz_fractions.proofs.Order.{same-fraction_eq}
use Rattle.nz_fractions.proofs.Laws.{≤ℚ-from_eq, ≤ℚ_antisymm, ≤ℚ_total, =ℚ_sym, <ℚ_irrefl}
use Rattle.nz_fractions.proofs.Identities.{nonzero-test}

pub below_told : (c : Fraction) → int_lt c.numerator (pos 0) ≡ true → c <ℚ whole (pos 0)
unfolding denominator
below_told c e = record { cross = omega (arith, ints, e) }

pub below_back : (c : Fraction) → c <ℚ whole (pos 0) → int_lt c.numerator (pos 0) ≡ true
unfolding denominator
below_back c h = by_test (int_lt c.numerator (pos 0)) refl
  where
    by_test : (b : Bool) → int_lt c.numerator (pos 0) ≡ b → b ≡ true
    by_test true e = refl
    by_test false e = absurd (omega (arith, ints, e, h.cross))

pub above_told : (c : Fraction) → fraction_eq c (whole (pos 0)) ≡ false → int_lt c.numerator (pos 0) ≡ false → whole (pos 0) <ℚ c
above_told c nonzero e = by_order (≤ℚ_total c (whole (pos 0))) (≤ℚ_total (whole (pos 0)) c)
  where
    by_order : (c ≤ℚ whole (pos 0)) ⊎ (whole (pos 0) <ℚ c) → (whole (pos 0) ≤ℚ c) ⊎ (c <ℚ whole (pos 0)) → whole (pos 0) <ℚ c
    by_order (inr above) k = above
    by_order (inl low) (inl high) = absurd (nonzero-test c nonzero (≤ℚ_antisymm low high))
    by_order (inl low) (inr below) = absurd (true≢false (sym (below_back c below) ∙ e))

pub above_back : (c : Fraction) → whole (pos 0) <ℚ c → int_lt c.numerator (pos 0) ≡ false
unfolding denominator
above_back c h = by_test (int_lt c.numerator (pos 0)) refl
  where
    by_test : (b : Bool) → int_lt c.numerator (pos 0) ≡ b → b ≡ false
    by_test true e = absurd (omega (arith, ints, e, h.cross))
    by_test false e = refl

pub below_nonzero : (c : Fraction) → c <ℚ whole (pos 0) → fraction_eq c (whole (pos 0)) ≡ false
below_nonzero c h = by_test (fraction_eq c (whole (pos 0))) refl
  where
    by_test : (b : Bool) → fraction_eq c (whole (pos 0)) ≡ b → b ≡ false
    by_test true e = absurd (<ℚ_irrefl h (≤ℚ-from_eq (=ℚ_sym (same-fraction_eq c (whole (pos 0)) e))))
    by_test false e = refl

pub above_nonzero : (c : Fraction) → whole (pos 0) <ℚ c → fraction_eq c (whole (pos 0)) ≡ false
above_nonzero c h = by_test (fraction_eq c (whole (pos 0))) refl
  where
    by_test : (b : Bool) → fraction_eq c (whole (pos 0)) ≡ b → b ≡ false
    by_test true e = absurd (<ℚ_irrefl h (≤ℚ-from_eq (same-fraction_eq c (whole (pos 0)) e)))
    by_test false e = refl
