-- Which arguments of well sorted terms are of sort Bool.
use Rattle.std.proofs.Common.{◌≡◌, true, false, sym, ap, subst, true≢false}
use Rattle.std.proofs.lemmas.Bool.{and_parts}
use Rattle.nz_spec.specs.terms.Term.{Sort, bool_sort, int_sort, real_sort, is_bool, Head, constant, parameter, integer, decimal_number, Terms, no_terms, terms, sort_of}
use Rattle.nz_spec.specs.terms.Operators.{Operator, not_operator, and_operator, or_operator, xor_operator, equals_operator, ite_operator, at_most_operator, less_operator, plus_operator, times_operator, minus_operator, over_operator, to_real_operator, has_sort, all_terms, operands_of, operator_head}
use Rattle.nz_spec.specs.terms.WellSorted.{AllAre, are_numbers, AreOperands, HaveOperands, OperandsAreSorted}
use Rattle.nz_spec.proofs.Sorted.{same_sorts}

all_alike : (s : Sort) (ts : Terms) → all_terms (has_sort s) ts ≡ true → AllAre (is_bool s) ts
all_alike s no_terms e = tt
all_alike s (terms t ts) e =
    let both = and_parts (has_sort s t) (all_terms (has_sort s) ts) e in
    (ap is_bool (sym (same_sorts s (sort_of t) both.0)), all_alike s ts both.1)

all_numbers : (s : Sort) (ts : Terms) → are_numbers s ts ≡ true → AllAre false ts
all_numbers bool_sort ts e = absurd (true≢false (sym e))
all_numbers int_sort ts e = all_alike int_sort ts e
all_numbers real_sort ts e = all_alike real_sort ts e

by_operator : (o : Operator) (s : Sort) (ts : Terms) → AreOperands (operands_of o) s ts → HaveOperands (operator_head o s) ts
by_operator not_operator s ts e = all_alike bool_sort ts e
by_operator and_operator s ts e = all_alike bool_sort ts e
by_operator or_operator s ts e = all_alike bool_sort ts e
by_operator xor_operator s ts e = all_alike bool_sort ts e
by_operator equals_operator s ts e = (is_bool s, all_alike s ts e)
by_operator ite_operator s no_terms e = absurd e
by_operator ite_operator s (terms c ts) e = (ap is_bool (sym (same_sorts bool_sort (sort_of c) e.0)), all_alike s ts e.1)
by_operator at_most_operator s ts e = all_numbers s ts e
by_operator less_operator s ts e = all_numbers s ts e
by_operator plus_operator s ts e = all_numbers s ts e
by_operator times_operator s ts e = all_numbers s ts e
by_operator minus_operator s ts e = all_numbers s ts e
by_operator over_operator s ts e = all_alike real_sort ts e
by_operator to_real_operator s ts e = all_alike int_sort ts e
by_operator o s ts e = tt

pub operands_are : OperandsAreSorted
operands_are (constant c) ts k = tt
operands_are (parameter n s) ts k = tt
operands_are (integer n) ts k = tt
operands_are (decimal_number n places) ts k = tt
operands_are h ts k = subst (λ (g : Head). HaveOperands g ts) (sym k.is) (by_operator k.operator k.sort ts k.operands)
