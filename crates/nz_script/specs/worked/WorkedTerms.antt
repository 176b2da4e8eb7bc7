-- Worked terms: short texts, and the terms that they stand for.
use Rattle.std.specs.Prelude.{◌≡◌, Some, None, codes}
use Rattle.nz_spec.specs.terms.Term.{real_sort, decimal_number, verum, conjunction, distinction, choice, less, sum, quotient, to_int, is_int, apply, no_terms, terms, over_int, over_real}
use Rattle.nz_spec.specs.terms.Normal.{paired}
use Rattle.nz_spec.specs.worked.TermSamples.{alone, over_one, a_term, x_term, y_term, u_term, numeral_term, real_of}
use Rattle.nz_script.specs.worked.Samples.{sample_term}

-- Names: `let` binds in parallel, and hides constants; a definition stands for its body, in which the names of its use mean
-- nothing.
pub record HasNames : Type 0 where
  pub parallel : sample_term (codes "(let ((x y) (y x)) (< x y))") ≡ Some (paired less y_term x_term)
  pub hides : sample_term (codes "(let ((x true)) (and x a))") ≡ Some (paired conjunction (alone verum) a_term)
  pub nests : sample_term (codes "(let ((x 1)) (let ((x 2) (z x)) (< x z)))") ≡ Some (paired less (numeral_term 2) (numeral_term 1))
  pub defined : sample_term (codes "(half x)") ≡ Some (paired quotient (real_of x_term) (real_of (numeral_term 2)))
  pub keeps_constant : sample_term (codes "(let ((x y)) (above x))") ≡ Some (paired less x_term y_term)
  pub exchanged : sample_term (codes "(below y x)") ≡ Some (paired less y_term x_term)
  pub nested : sample_term (codes "(half (half u))") ≡ Some (paired quotient (paired quotient u_term (real_of (numeral_term 2))) (real_of (numeral_term 2)))

-- Sorts: an integer where a real number is wanted is read as `to_real` of it.
pub record HasSorts : Type 0 where
  pub mixed : sample_term (codes "(+ 1 0.5)") ≡ Some (paired (sum over_real) (real_of (numeral_term 1)) (alone (decimal_number 5 1)))
  pub whole : sample_term (codes "(+ 1 x)") ≡ Some (paired (sum over_int) (numeral_term 1) x_term)
  pub quotients : sample_term (codes "(/ 1 2)") ≡ Some (paired quotient (real_of (numeral_term 1)) (real_of (numeral_term 2)))
  pub branches : sample_term (codes "(ite a 1 0.5)") ≡ Some (apply (choice real_sort) (terms a_term (terms (real_of (numeral_term 1)) (terms (alone (decimal_number 5 1)) no_terms))))
  pub floors : sample_term (codes "(to_int 3)") ≡ Some (over_one to_int (real_of (numeral_term 3)))
  pub tests : sample_term (codes "(is_int x)") ≡ Some (over_one is_int (real_of x_term))
  pub differs : sample_term (codes "(distinct u 1)") ≡ Some (paired distinction u_term (real_of (numeral_term 1)))

-- These have no term.
pub record HasNoTerms : Type 0 where
  pub compares_truth : sample_term (codes "(< true 1)") ≡ None
  pub real_of_real : sample_term (codes "(to_real 1.0)") ≡ None
  pub constant_applied : sample_term (codes "(x 1)") ≡ None
  pub bound_applied : sample_term (codes "(let ((half x)) (half x))") ≡ None
  pub unknown : sample_term (codes "(+ x z)") ≡ None
  pub own_name : sample_term (codes "(let ((z z)) z)") ≡ None
  pub branches : sample_term (codes "(ite a 1 true)") ≡ None
  pub divides_reals : sample_term (codes "(div 1.0 2)") ≡ None
  pub too_few : sample_term (codes "(= x)") ≡ None
  pub too_many : sample_term (codes "(mod x 2 2)") ≡ None
  pub argument_sort : sample_term (codes "(above u)") ≡ None
  pub argument_count : sample_term (codes "(half u u)") ≡ None
