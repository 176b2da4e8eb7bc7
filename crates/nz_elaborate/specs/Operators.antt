-- What the operators of the code are.
use Rattle.std.specs.Prelude.{ℕ, List}
use Rattle.std.specs.Borrow.{Bor}
use Rattle.nz_spec.specs.terms.Operators as spec
use Rattle.nz_spec.specs.terms.Operators.{true_operator, false_operator, not_operator, and_operator, or_operator, implies_operator, xor_operator, equals_operator, distinct_operator, ite_operator, at_most_operator, less_operator, at_least_operator, greater_operator, plus_operator, times_operator, minus_operator, over_operator, div_operator, mod_operator, abs_operator, to_real_operator, to_int_operator, is_int_operator, bools, ints, reals, numbers, alike, branches}
use Rattle.nz_elaborate.specs.declared.operators.Operator.{Operator}
use Rattle.nz_elaborate.specs.declared.operators.Operator.TheVariants as operators
use Rattle.nz_elaborate.specs.declared.operators.Operands.{Operands}
use Rattle.nz_elaborate.specs.declared.operators.Operands.TheVariants as operands

abbrev pub operator_meaning : Operator → spec.Operator
operator_meaning operators.True = true_operator
operator_meaning operators.False = false_operator
operator_meaning operators.Not = not_operator
operator_meaning operators.And = and_operator
operator_meaning operators.Or = or_operator
operator_meaning operators.Implies = implies_operator
operator_meaning operators.Xor = xor_operator
operator_meaning operators.Equals = equals_operator
operator_meaning operators.Distinct = distinct_operator
operator_meaning operators.Ite = ite_operator
operator_meaning operators.AtMost = at_most_operator
operator_meaning operators.Less = less_operator
operator_meaning operators.AtLeast = at_least_operator
operator_meaning operators.Greater = greater_operator
operator_meaning operators.Plus = plus_operator
operator_meaning operators.Times = times_operator
operator_meaning operators.Minus = minus_operator
operator_meaning operators.Over = over_operator
operator_meaning operators.Div = div_operator
operator_meaning operators.Mod = mod_operator
operator_meaning operators.Abs = abs_operator
operator_meaning operators.ToReal = to_real_operator
operator_meaning operators.ToInt = to_int_operator
operator_meaning operators.IsInt = is_int_operator

abbrev pub operands_meaning : Operands → spec.Operands
operands_meaning operands.Bools = bools
operands_meaning operands.Ints = ints
operands_meaning operands.Reals = reals
operands_meaning operands.Numbers = numbers
operands_meaning operands.Alike = alike
operands_meaning operands.Branches = branches

-- a name with its operator
abbrev pub entry_meaning : Bor (List ℕ) × Operator → List ℕ × spec.Operator
entry_meaning e = (e.0.now, operator_meaning e.1)
