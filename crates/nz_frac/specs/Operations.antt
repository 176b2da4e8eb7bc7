-- What the code's operations are.
use Rattle.std.specs.Prelude.{◌≡◌, Some, None}
use Rattle.nz_fractions.specs.Fraction as fraction
use Rattle.nz_fractions.specs.Fraction.{Fraction, Arithmetic, first_wide}
use Rattle.nz_spec.specs.terms.Operations.{operation_on}
use Rattle.nz_spec.specs.terms.Term.{carried_out, number}
use Rattle.nz_frac.specs.declared.frac.Op.{Op}
use Rattle.nz_frac.specs.declared.frac.Op.TheVariants as op
use Rattle.nz_frac.specs.declared.frac.Wide.{Wide}

abbrev pub operator_of : Op → fraction.Arithmetic
operator_of op.Add = fraction.Sum
operator_of op.Sub = fraction.Difference
operator_of op.Mul = fraction.Product
operator_of op.Div = fraction.Quotient

abbrev pub operation_of : Wide → fraction.Operation
operation_of w = record { operator = operator_of w.op; left = w.a; right = w.b }

-- one operation stays among the numbers, and comes to this one
abbrev pub IsCarriedOut : Arithmetic → Fraction → Fraction → Fraction → Type 0
IsCarriedOut op p q r = (first_wide (operation_on op p q) ≡ None) × (number r ≡ carried_out op (number p) (number q))

-- one operation leaves the numbers
abbrev pub IsStopped : Arithmetic → Fraction → Fraction → Wide → Type 0
IsStopped op p q w = first_wide (operation_on op p q) ≡ Some (operation_of w)
