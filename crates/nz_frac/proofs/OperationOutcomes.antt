-- Operations that are carried out, and those that leave the numbers.
use Rattle.std.proofs.Common.{◌≡◌, true, false, IsTrue, pos, Some, None, refl, sym, ap, ◌∙◌, subst, Result, Ok, Err}
use Rattle.std.specs.Prelude.{◌↔◌, IsErr, IfOk, IfErr}
use Rattle.nz_lists.proofs.Tests.{told_false}
use Rattle.nz_fractions.specs.Fraction.{Fraction, Arithmetic, Quotient, first_wide, is_wide, outcome, whole}
use Rattle.nz_spec.specs.terms.Operations.{operation_on}
use Rattle.nz_spec.specs.terms.Term.{carried_out, number, is_undefined, is_zero, whole_number}
use Rattle.nz_frac.specs.Operations.{IsCarriedOut, IsStopped, operation_of, operator_of}
use Rattle.nz_frac.specs.declared.frac.Op.{Op}
use Rattle.nz_frac.specs.declared.frac.Op.TheVariants as op
use Rattle.nz_frac.specs.declared.frac.Wide.{Wide}

-- one operation that stays among the numbers
pub stays : (op : Arithmetic) (p q : Fraction) → is_undefined op q ≡ false → is_wide op p q ≡ false → first_wide (operation_on op p q) ≡ None
unfolding first_wide
stays op p q defined e = rw (defined, e)

-- and one that doesn't
pub leaves : (op : Arithmetic) (p q : Fraction) → is_undefined op q ≡ false → is_wide op p q ≡ true → first_wide (operation_on op p q) ≡ Some (record { operator = op; left = p; right = q })
unfolding first_wide
leaves op p q defined e = rw (defined, e)

-- what it comes to
pub comes_to : (op : Arithmetic) (p q r : Fraction) → is_undefined op q ≡ false → r ≡ outcome op p q → number r ≡ carried_out op (number p) (number q)
comes_to op p q r defined e = rw defined (ap number e)

-- ---- Operations of the code

pub carried : (o k : Op) (p q : Fraction) (r : Result Fraction Wide) → o ≡ k → is_undefined (operator_of k) q ≡ false → (IsErr r ↔ IsTrue (is_wide (operator_of k) p q))
    → IfOk r (λ x. x ≡ outcome (operator_of k) p q) → IfOk r (λ x. IsCarriedOut (operator_of o) p q x)
carried o k p q (Ok x) same defined wide e =
    subst (λ y. IsCarriedOut (operator_of y) p q x) (sym same) (stays (operator_of k) p q defined (told_false wide), comes_to (operator_of k) p q x defined e)
carried o k p q (Err w) same defined wide e = tt

pub stopped : (o k : Op) (p q : Fraction) (r : Result Fraction Wide) → o ≡ k → is_undefined (operator_of k) q ≡ false → (IsErr r ↔ IsTrue (is_wide (operator_of k) p q))
    → IfErr r (λ w. w ≡ record { op = k; a = p; b = q }) → IfErr r (λ w. IsStopped (operator_of o) p q w)
stopped o k p q (Ok x) same defined wide e = tt
stopped o k p q (Err w) same defined wide e =
    subst (λ y. IsStopped (operator_of y) p q w) (sym same) (leaves (operator_of k) p q defined (wide.0 refl) ∙ sym (ap (λ x. Some (operation_of x)) e))

-- a quotient by zero
no_operation : (p q : Fraction) → is_zero q ≡ true → first_wide (operation_on Quotient p q) ≡ None
unfolding first_wide
no_operation p q e = rw e

no_quotient : (p q : Fraction) → is_zero q ≡ true → whole_number (pos 0) ≡ carried_out Quotient (number p) (number q)
no_quotient p q e = rw e

pub by_zero : (o : Op) (p q r : Fraction) → o ≡ op.Div → is_zero q ≡ true → r ≡ whole (pos 0) → IsCarriedOut (operator_of o) p q r
by_zero o p q r same zero e = subst (λ y. IsCarriedOut (operator_of y) p q r) (sym same) (no_operation p q zero, ap number e ∙ no_quotient p q zero)
