-- What a head of the code is.
use Rattle.nz_spec.specs.terms.Term as spec
use Rattle.nz_spec.specs.terms.Term.{constant, parameter, integer, decimal_number, verum, falsum, negation, conjunction, disjunction, exclusion, equality, choice, less, at_most, sum, difference, product, quotient, integer_quotient, modulus, magnitude, to_real, to_int, is_int}
use Rattle.nz_term.specs.declared.heads.Operator as code
use Rattle.nz_term.specs.declared.heads.Operator.TheVariants.{True, False, Not, And, Or, Xor, Equal, Ite, Less, AtMost, Sum, Difference, Product, Quotient, Div, Mod, Abs, ToReal, ToInt, IsInt}
use Rattle.nz_term.specs.declared.heads.Head.{Head}
use Rattle.nz_term.specs.declared.heads.Head.TheVariants.{Constant, Parameter, Integer, Decimal, Operator}
use Rattle.nz_term.specs.Constants.{constant_of, number_sort_of, sort_of}

abbrev pub operator_of : code.Operator → spec.Head
operator_of True = verum
operator_of False = falsum
operator_of Not = negation
operator_of And = conjunction
operator_of Or = disjunction
operator_of Xor = exclusion
operator_of Equal = equality
operator_of (Ite s) = choice (sort_of s)
operator_of Less = less
operator_of AtMost = at_most
operator_of (Sum s) = sum (number_sort_of s)
operator_of (Difference s) = difference (number_sort_of s)
operator_of (Product s) = product (number_sort_of s)
operator_of Quotient = quotient
operator_of Div = integer_quotient
operator_of Mod = modulus
operator_of Abs = magnitude
operator_of ToReal = to_real
operator_of ToInt = to_int
operator_of IsInt = is_int

abbrev pub head_of : Head → spec.Head
head_of (Constant c) = constant (constant_of c.now)
head_of (Parameter i s) = parameter i (sort_of s)
head_of (Integer n) = integer n
head_of (Decimal n places) = decimal_number n places
head_of (Operator o) = operator_of o
