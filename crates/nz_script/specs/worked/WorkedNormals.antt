-- Worked normal terms over numbers: what is chained, pairwise or grouped is written out.
use Rattle.std.specs.Prelude.{◌≡◌, Some, codes}
use Rattle.nz_spec.specs.terms.Term.{conjunction, equality, less, at_most, sum, difference, quotient, integer_quotient, Term, over_int}
use Rattle.nz_spec.specs.terms.Normal.{negated, paired}
use Rattle.nz_spec.specs.worked.TermSamples.{over_one, x_term, y_term, u_term, numeral_term, real_of}
use Rattle.nz_script.specs.worked.Samples.{normal_in}
use Rattle.nz_spec.specs.worked.TruthTables.{of_three}

abbrev pub one_term : Term
one_term = numeral_term 1

-- A comparison of three is one of each neighbours; the greater of two is written behind the lesser.
pub record HasChains : Type 0 where
  pub greater_once : normal_in (codes "(> x y)") ≡ Some (paired less y_term x_term)
  pub at_least_once : normal_in (codes "(>= x y)") ≡ Some (paired at_most y_term x_term)
  pub less_of_three : normal_in (codes "(< x y 1)") ≡ Some (paired conjunction (paired less x_term y_term) (paired less y_term one_term))
  pub at_most_of_three : normal_in (codes "(<= x y 1)") ≡ Some (paired conjunction (paired at_most x_term y_term) (paired at_most y_term one_term))
  pub greater_of_three : normal_in (codes "(> x y 1)") ≡ Some (paired conjunction (paired less y_term x_term) (paired less one_term y_term))
  pub at_least_of_three : normal_in (codes "(>= x y 1)") ≡ Some (paired conjunction (paired at_most y_term x_term) (paired at_most one_term y_term))
  pub equal_of_three : normal_in (codes "(= x y 1)") ≡ Some (paired conjunction (paired equality x_term y_term) (paired equality y_term one_term))
  pub distinct_of_three : normal_in (codes "(distinct x y 1)")
      ≡ Some (of_three conjunction (negated (paired equality x_term y_term)) (negated (paired equality x_term one_term)) (negated (paired equality y_term one_term)))
  pub inside : normal_in (codes "(not (and (>= x y)))") ≡ Some (negated (paired at_most y_term x_term))

-- Quotients are grouped from the left; sums, differences and products keep their arguments, and of one argument are that
-- argument.
pub record HasGroups : Type 0 where
  pub quotients : normal_in (codes "(/ u x 3)") ≡ Some (paired quotient (paired quotient u_term (real_of x_term)) (real_of (numeral_term 3)))
  pub whole_quotients : normal_in (codes "(div x y 3)") ≡ Some (paired integer_quotient (paired integer_quotient x_term y_term) (numeral_term 3))
  pub sum_of_one : normal_in (codes "(+ x)") ≡ Some x_term
  pub product_of_one : normal_in (codes "(* u)") ≡ Some u_term
  pub sum_of_three : normal_in (codes "(+ x y 1)") ≡ Some (of_three (sum over_int) x_term y_term one_term)
  pub difference_of_three : normal_in (codes "(- x y 1)") ≡ Some (of_three (difference over_int) x_term y_term one_term)
  pub negated_number : normal_in (codes "(- x)") ≡ Some (over_one (difference over_int) x_term)
