-- The operations that the value of a term takes, in post-order: those of its arguments, from the left, and then its own.
-- Both branches of `ite` are among them.
use Rattle.std.specs.Prelude.{List, [], ◌∷◌, ◌++◌, if◌then◌else◌}
use Rattle.nz_fractions.specs.Fraction.{Fraction, Arithmetic, Sum, Difference, Product, Quotient, Operation}
use Rattle.nz_spec.specs.terms.Term.{Head, sum, difference, product, quotient, Term, apply, Terms, no_terms, terms, Value, number_of, is_undefined, carried_out, Assignment, values_of}

abbrev pub operation_on : Arithmetic → Fraction → Fraction → List Operation
operation_on op p q = if is_undefined op q then [] else record { operator = op; left = p; right = q } ∷ []

-- one operation of a value with each of the others, from the left
abbrev pub operations_by : Arithmetic → Value → List Value → List Operation
operations_by op v [] = []
operations_by op v (w ∷ ws) = operation_on op (number_of v) (number_of w) ++ operations_by op (carried_out op v w) ws

-- what an operator does with the values of its arguments; a negation, a comparison and whatever is of integers alone never
-- leaves the numbers
abbrev pub head_operations : Head → List Value → List Operation
head_operations (sum s) (v ∷ vs) = operations_by Sum v vs
head_operations (difference s) (v ∷ vs) = operations_by Difference v vs
head_operations (product s) (v ∷ vs) = operations_by Product v vs
head_operations quotient (v ∷ vs) = operations_by Quotient v vs
head_operations h vs = []

abbrev mutual
  pub operations_of : Assignment → Term → List Operation
  operations_of a (apply h ts) = operations_in a ts ++ head_operations h (values_of a ts)

  pub operations_in : Assignment → Terms → List Operation
  operations_in a no_terms = []
  operations_in a (terms t ts) = operations_of a t ++ operations_in a ts
