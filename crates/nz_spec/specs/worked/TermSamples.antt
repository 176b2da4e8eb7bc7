-- Constants and terms that worked examples are over.
use Rattle.std.specs.Prelude.{ℕ, List, [], ◌∷◌, codes}
use Rattle.nz_spec.specs.terms.Term.{Sort, bool_sort, int_sort, real_sort, Constant, Head, constant, integer, to_real, Term, apply, no_terms, terms}

abbrev pub constant_of_sort : Sort → List ℕ → Constant
constant_of_sort s name = record { name = name; sort = s }

-- the Boolean a, the integers x and y, and the real number u
abbrev pub sample_constants : List Constant
sample_constants =
    constant_of_sort bool_sort (codes "a") ∷ constant_of_sort int_sort (codes "x") ∷ constant_of_sort int_sort (codes "y")
    ∷ constant_of_sort real_sort (codes "u") ∷ []

abbrev pub alone : Head → Term
alone h = apply h no_terms

abbrev pub over_one : Head → Term → Term
over_one h t = apply h (terms t no_terms)

abbrev pub a_term : Term
a_term = alone (constant (constant_of_sort bool_sort (codes "a")))

abbrev pub x_constant : Constant
x_constant = constant_of_sort int_sort (codes "x")

abbrev pub x_term : Term
x_term = alone (constant x_constant)

abbrev pub y_term : Term
y_term = alone (constant (constant_of_sort int_sort (codes "y")))

abbrev pub u_term : Term
u_term = alone (constant (constant_of_sort real_sort (codes "u")))

abbrev pub numeral_term : ℕ → Term
numeral_term n = alone (integer n)

abbrev pub real_of : Term → Term
real_of t = over_one to_real t
