-- What met bounds on a difference say of the two forms' worth.
use Rattle.std.proofs.Common.{◌≡◌, Bool, true, false, refl}
use Rattle.nz_fractions.specs.Fraction.{Fraction, ◌=ℚ◌, ◌≤ℚ◌, ◌<ℚ◌, neg_ℚ, fraction_cmp, fraction_eq, Difference}
use Rattle.nz_fractions.proofs.Laws.{=ℚ_trans}
use Rattle.nz_fractions.proofs.Order.{same-fraction_eq}
use Rattle.nz_fractions.proofs.Arithmetic.{+ℚ-same, neg_ℚ-same}
use Rattle.nz_fractions.proofs.Bounds.{lt-carried, le-carried}
use Rattle.nz_spec.specs.terms.Term.{Term}
use Rattle.nz_spec.specs.terms.Form.{Numbering, Form}
use Rattle.nz_spec.specs.terms.FormOf.{form_of}
use Rattle.nz_spec.specs.clauses.Links.{minus, at_most_literal, below_literal}
use Rattle.nz_spec.specs.clauses.Forced.{Truths, worth_of}
use Rattle.nz_spec.specs.simplex.Basis.{Valuation, worth}
use Rattle.nz_spec.specs.clauses.Met.{IsMet}
use Rattle.nz_spec.proofs.FormValues.{by_difference, form_joined-worth}
use Rattle.nz_spec.proofs.LinkTruths.{moved_over}

pub apart : (p q : Fraction) → (p =ℚ q → ⊥) → fraction_eq p q ≡ false
apart p q n = by_test (fraction_eq p q) refl
  where
    by_test : (b : Bool) → fraction_eq p q ≡ b → fraction_eq p q ≡ false
    by_test true e = absurd (n (same-fraction_eq p q e))
    by_test false e = e

module _ (number : Numbering) (truths : Truths) (v : Valuation) where
  abbrev difference_of : (x y : Term) → Form
  difference_of x y = (minus number (form_of number x) (form_of number y)).result

  compared : (x y : Term) (p q : Fraction) → worth_of number v x =ℚ p → worth_of number v y =ℚ q
      → fraction_cmp (worth v (difference_of x y).parts) (neg_ℚ (difference_of x y).offset) ≡ fraction_cmp p q
  compared x y p q h k =
      let f = difference_of x y in
      moved_over (worth v f.parts) f.offset p q
      (=ℚ_trans (form_joined-worth number v Difference by_difference (form_of number x).result (form_of number y).result) (+ℚ-same h (neg_ℚ-same k)))

  pub at_most_said : (x y : Term) (p q : Fraction) → worth_of number v x =ℚ p → worth_of number v y =ℚ q → IsMet truths v (at_most_literal number x y).result → p ≤ℚ q
  at_most_said x y p q h k m = le-carried (worth v (difference_of x y).parts) (neg_ℚ (difference_of x y).offset) p q (compared x y p q h k) m

  pub below_said : (x y : Term) (p q : Fraction) → worth_of number v x =ℚ p → worth_of number v y =ℚ q → IsMet truths v (below_literal number x y).result → p <ℚ q
  below_said x y p q h k m = lt-carried (worth v (difference_of x y).parts) (neg_ℚ (difference_of x y).offset) p q (compared x y p q h k) m
