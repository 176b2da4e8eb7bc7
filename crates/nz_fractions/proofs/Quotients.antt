-- Quotients of fractions: what they are by value, and what a divisor other than 0 leaves.
use Rattle.std.proofs.Common.{◌≡◌, ℕ, zero, suc, [], ◌∷◌, ℤ, pos, negsuc, ◌*ℤ◌, refl, sym, subst}
use Rattle.nz_ints.proofs.Ring as ring
use Rattle.nz_ints.proofs.Ring.{Atom, Literal, ◌⊗◌, Minus}
use Rattle.nz_fractions.specs.Fraction.{Fraction, denominator, over, whole, ◌=ℚ◌, ◌<ℚ◌, ◌*ℚ◌, ◌/ℚ◌, flipped, reciprocal, outcome, exact, Quotient}
use Rattle.nz_fractions.proofs.Laws.{=ℚ_refl, =ℚ_sym, =ℚ_trans, ≤ℚ-from_eq, <ℚ_irrefl, reduce-same}
use Rattle.nz_fractions.proofs.Arithmetic.{own_parts, product_parts, whole_parts, by_parts, *ℚ_assoc, *ℚ-one, *ℚ-same}
use Rattle.nz_fractions.proofs.Identities.{zero_times}
use Rattle.nz_fractions.proofs.Solver.{◌∙ℚ◌, solve, times_left, times_right}

turned_back : (n : ℤ) (b : ℕ) → (n ≡ pos 0 → ⊥) → (flipped n b *ℚ (let q : Fraction = record { numerator = n; below = b } in q)) =ℚ whole (pos 1)
unfolding flipped over denominator
turned_back (pos zero) b h = absurd (h refl)
turned_back (pos (suc m)) b h =
    by_parts
    (product_parts (own_parts (flipped (pos (suc m)) b)) (own_parts (record { numerator = pos (suc m); below = b })))
    (whole_parts (pos 1))
    (ring.solve (pos (suc b) ∷ pos (suc m) ∷ []) ((Atom 0 ⊗ Atom 1) ⊗ Literal (pos 1)) (Literal (pos 1) ⊗ (Atom 1 ⊗ Atom 0)) refl)
turned_back (negsuc m) b h =
    by_parts
    (product_parts (own_parts (flipped (negsuc m) b)) (own_parts (record { numerator = negsuc m; below = b })))
    (whole_parts (pos 1))
    (ring.solve (pos (suc b) ∷ pos (suc m) ∷ []) ((Minus (Atom 0) ⊗ Minus (Atom 1)) ⊗ Literal (pos 1)) (Literal (pos 1) ⊗ (Atom 1 ⊗ Atom 0)) refl)

zero-numerator : (q : Fraction) → q.numerator ≡ pos 0 → q =ℚ whole (pos 0)
unfolding denominator
zero-numerator q e =
    record {
      cross =
          subst (λ (z : ℤ). (z *ℤ pos 1) ≡ (pos 0 *ℤ pos (suc q.below))) (sym e)
          (ring.solve (pos (suc q.below) ∷ []) (Literal (pos 0) ⊗ Literal (pos 1)) (Literal (pos 0) ⊗ Atom 0) refl);
    }

-- the reciprocal of what isn't 0
pub reciprocal-times : (q : Fraction) → (q =ℚ whole (pos 0) → ⊥) → (reciprocal q *ℚ q) =ℚ whole (pos 1)
unfolding reciprocal
reciprocal-times q h = turned_back q.numerator q.below (λ e. h (zero-numerator q e))

pub quotient-back : (p q : Fraction) → whole (pos 0) <ℚ q → ((p /ℚ q) *ℚ q) =ℚ p
unfolding ◌/ℚ◌
quotient-back p q h =
    =ℚ_trans (*ℚ_assoc p (reciprocal q) q)
    (=ℚ_trans (*ℚ-same (=ℚ_refl p) (reciprocal-times q (λ e. <ℚ_irrefl h (≤ℚ-from_eq e)))) (*ℚ-one p))

pub outcome-divided : (p q : Fraction) → outcome Quotient p q =ℚ (p /ℚ q)
unfolding outcome exact
outcome-divided p q = reduce-same (p /ℚ q)

pub outcome-quotient : (p q : Fraction) → outcome Quotient p q =ℚ (p *ℚ reciprocal q)
unfolding ◌/ℚ◌
outcome-quotient p q = outcome-divided p q

-- a product with what isn't 0 is 0 only where the other factor is
pub zero-factor : (p q : Fraction) → (q =ℚ whole (pos 0) → ⊥) → (p *ℚ q) =ℚ whole (pos 0) → p =ℚ whole (pos 0)
zero-factor p q h e =
    =ℚ_sym (*ℚ-one p)
    ∙ℚ times_right p (=ℚ_sym (reciprocal-times q h))
    ∙ℚ solve (p ∷ reciprocal q ∷ q ∷ []) (Atom 0 ⊗ (Atom 1 ⊗ Atom 2)) ((Atom 0 ⊗ Atom 2) ⊗ Atom 1) refl
    ∙ℚ times_left (reciprocal q) e
    ∙ℚ zero_times (reciprocal q)
