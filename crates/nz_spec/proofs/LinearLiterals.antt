-- How the other sign turns the order, and its tests.
use Rattle.std.proofs.Common.{◌≡◌, not, inl, inr, [], ◌∷◌, pos, ◌*ℤ◌, neg_ℤ, refl, sym, ap, ◌∙◌, arith}
use Rattle.std.proofs.lemmas.Int.{ints}
use Rattle.nz_ints.proofs.Ring.{Atom, ◌⊗◌, Minus, solve}
use Rattle.nz_fractions.specs.Fraction.{Fraction, denominator, neg_ℚ, ◌=ℚ◌, ◌≤ℚ◌, ◌<ℚ◌, fraction_le, fraction_lt}
use Rattle.nz_fractions.proofs.Laws.{=ℚ_sym, ≤ℚ-from_eq, ≤ℚ_trans, <ℚ-≤ℚ_trans, ≤ℚ-<ℚ_trans, ≤ℚ_total}
use Rattle.nz_fractions.proofs.Order.{lt_is, lt_is_not, le_is, le_is_not}

-- ---- The other sign turns the order

crossed : (p q : Fraction) → (neg_ℚ p).numerator *ℤ pos (denominator (neg_ℚ q)) ≡ neg_ℤ (p.numerator *ℤ pos (denominator q))
unfolding neg_ℚ denominator
crossed p q = solve (p.numerator ∷ pos (denominator q) ∷ []) (Minus (Atom 0) ⊗ Atom 1) (Minus (Atom 0 ⊗ Atom 1)) refl

pub turned_le : (p q : Fraction) → p ≤ℚ q → neg_ℚ q ≤ℚ neg_ℚ p
turned_le p q h = record { cross = omega (arith, ints, h.cross, crossed p q, crossed q p) }

pub turned_lt : (p q : Fraction) → p <ℚ q → neg_ℚ q <ℚ neg_ℚ p
turned_lt p q h = record { cross = omega (arith, ints, h.cross, crossed p q, crossed q p) }

pub at_most_turned : (x p b : Fraction) → x =ℚ neg_ℚ p → fraction_lt x (neg_ℚ b) ≡ not (fraction_le p b)
at_most_turned x p b e =
    elim (≤ℚ_total p b) [
      | inl h ↦ lt_is_not x (neg_ℚ b) (≤ℚ_trans (turned_le p b h) (≤ℚ-from_eq (=ℚ_sym e))) ∙ sym (ap not (le_is p b h))
      | inr h ↦ lt_is x (neg_ℚ b) (≤ℚ-<ℚ_trans (≤ℚ-from_eq e) (turned_lt b p h)) ∙ sym (ap not (le_is_not p b h))
    ]

pub below_turned : (x p b : Fraction) → x =ℚ neg_ℚ p → fraction_le x (neg_ℚ b) ≡ not (fraction_lt p b)
below_turned x p b e =
    elim (≤ℚ_total b p) [
      | inl h ↦ le_is x (neg_ℚ b) (≤ℚ_trans (≤ℚ-from_eq e) (turned_le b p h)) ∙ sym (ap not (lt_is_not p b h))
      | inr h ↦ le_is_not x (neg_ℚ b) (<ℚ-≤ℚ_trans (turned_lt p b h) (≤ℚ-from_eq (=ℚ_sym e))) ∙ sym (ap not (lt_is p b h))
    ]
