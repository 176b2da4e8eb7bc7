-- Well sorted linear terms are what the tables of links and units ask for, and the units of forms have values of their sorts.
use Rattle.std.proofs.Common.{◌≡◌, true, [], sym, subst}
use Rattle.std.specs.List.{AllByRecursion}
use Rattle.std.proofs.lemmas.Bool.{and_parts}
use Rattle.nz_spec.specs.terms.Term.{Sort, int_sort, Head, constant, parameter, integer, decimal_number, Term, apply, Terms, no_terms, terms, sort_of}
use Rattle.nz_spec.specs.terms.Model.{HasSort}
use Rattle.nz_spec.specs.terms.Operators.{Operator, equals_operator, div_operator, mod_operator, abs_operator, has_sort, all_terms, operands_of, operator_head}
use Rattle.nz_spec.specs.clauses.Gates.{list_of}
use Rattle.nz_spec.specs.clauses.Links.{HasSortedArguments}
use Rattle.nz_spec.specs.terms.WellSorted.{AreOperands, IsApplied, IsSortedHead, IsWellSorted, AreWellSorted, SortedTermsAreArithmetic}
use Rattle.nz_spec.proofs.Sorted.{same_sorts, value_is}
use Rattle.nz_spec.proofs.SumUnits.{OverTerm, OverTerms, form-over}

own_sort : (t : Term) → IsWellSorted [] t → HasSort (sort_of t) t
own_sort t i a good = value_is a good [] t i

each_own : (ts : Terms) → AreWellSorted [] ts → AllByRecursion (λ (u : Term). HasSort (sort_of u) u) (list_of ts)
each_own no_terms i = tt
each_own (terms t ts) i = (own_sort t i.0, each_own ts i.1)

pub each_has : (s : Sort) (ts : Terms) → all_terms (has_sort s) ts ≡ true → AreWellSorted [] ts → AllByRecursion (HasSort s) (list_of ts)
each_has s no_terms e i = tt
each_has s (terms t ts) e i =
    let both = and_parts (has_sort s t) (all_terms (has_sort s) ts) e in
    (subst (λ (r : Sort). HasSort r t) (sym (same_sorts s (sort_of t) both.0)) (own_sort t i.0), each_has s ts both.1 i.1)

-- by the operator
by_operator : (o : Operator) (s : Sort) (ts : Terms) → AreOperands (operands_of o) s ts → AreWellSorted [] ts → HasSortedArguments (apply (operator_head o s) ts)
by_operator equals_operator s ts e i = each_own ts i
by_operator div_operator s ts e i = each_has int_sort ts e i
by_operator mod_operator s ts e i = each_has int_sort ts e i
by_operator abs_operator s ts e i = each_has int_sort ts e i
by_operator o s ts e i = tt

applied : (h : Head) (ts : Terms) → IsApplied h ts → AreWellSorted [] ts → HasSortedArguments (apply h ts)
applied h ts k i = subst (λ (g : Head). HasSortedArguments (apply g ts)) (sym k.is) (by_operator k.operator k.sort ts k.operands i)

arguments_are : (h : Head) (ts : Terms) → IsSortedHead [] h ts → AreWellSorted [] ts → HasSortedArguments (apply h ts)
arguments_are (constant c) ts k i = tt
arguments_are (parameter n s) ts k i = tt
arguments_are (integer n) ts k i = tt
arguments_are (decimal_number n places) ts k i = tt
arguments_are h ts k i = applied h ts k i

arguments_of : (t : Term) → IsWellSorted [] t → HasSortedArguments t
arguments_of (apply h ts) i = arguments_are h ts i.0 i.1

-- what a well sorted term is made of is well sorted
mutual
  all_sorted : (t : Term) → IsWellSorted [] t → OverTerm (λ (u : Term). HasSort (sort_of u) u) t
  all_sorted (apply h ts) i = (own_sort (apply h ts) i, each_sorted ts i.1)

  each_sorted : (ts : Terms) → AreWellSorted [] ts → OverTerms (λ (u : Term). HasSort (sort_of u) u) ts
  each_sorted no_terms i = tt
  each_sorted (terms t ts) i = (all_sorted t i.0, each_sorted ts i.1)

pub sorted_terms_are_arithmetic : SortedTermsAreArithmetic
sorted_terms_are_arithmetic =
    record {
      tables = λ t i e. record { linear = e; arguments = arguments_of t i };
      units = λ number t i. form-over (λ (u : Term). HasSort (sort_of u) u) number t (all_sorted t i);
    }
