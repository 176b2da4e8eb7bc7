-- Normal terms: of the operators only not, and, or, xor, =, <, <=, / and div of two arguments, ite, +, -, *, mod, abs, to_real,
-- to_int and is_int. What is chained, pairwise or grouped is written out.
use Rattle.std.specs.Prelude.{◌≡◌}
use Rattle.nz_spec.specs.terms.Term.{Head, constant, parameter, integer, decimal_number, verum, falsum, negation, conjunction, disjunction, implication, exclusion, equality, distinction, choice, less, at_most, greater, at_least, sum, difference, product, quotient, integer_quotient, modulus, magnitude, to_real, to_int, is_int, Term, apply, Terms, no_terms, terms, Assignment, value_of}

abbrev pub negated : Term → Term
negated t = apply negation (terms t no_terms)

abbrev pub paired : Head → Term → Term → Term
paired h t u = apply h (terms t (terms u no_terms))

-- the greater of two terms is written behind the lesser
abbrev pub turned : Head → Term → Term → Term
turned h t u = paired h u t

-- `=>` by `or` and `not`
abbrev pub implication_of : Terms → Term
implication_of no_terms = apply verum no_terms
implication_of (terms t no_terms) = t
implication_of (terms t (terms u ts)) = paired disjunction (negated t) (implication_of (terms u ts))

-- an operator by pairs, from the left
abbrev pub grouped_onto : Head → Term → Terms → Term
grouped_onto h t no_terms = t
grouped_onto h t (terms u ts) = grouped_onto h (paired h t u) ts

abbrev pub grouped_by : Head → Terms → Term
grouped_by h no_terms = apply h no_terms
grouped_by h (terms t ts) = grouped_onto h t ts

-- a pair for each term and the next
abbrev pub neighbours_of : (Term → Term → Term) → Terms → Terms
neighbours_of pair no_terms = no_terms
neighbours_of pair (terms t no_terms) = no_terms
neighbours_of pair (terms t (terms u ts)) = terms (pair t u) (neighbours_of pair (terms u ts))

-- the negated equations of one term with each of these, and then others
abbrev pub disequations_onto : Term → Terms → Terms → Terms
disequations_onto t no_terms others = others
disequations_onto t (terms u ts) others = terms (negated (paired equality t u)) (disequations_onto t ts others)

-- a negated equation for each two terms, by the place of the first and then of the second
abbrev pub disequations_of : Terms → Terms
disequations_of no_terms = no_terms
disequations_of (terms t ts) = disequations_onto t ts (disequations_of ts)

-- an operator over one term that stands for that term
abbrev pub joined_by : Head → Terms → Term
joined_by h (terms t no_terms) = t
joined_by h ts = apply h ts

-- a conjunction of what is said of each term and the next
abbrev pub chained_by : (Term → Term → Term) → Terms → Term
chained_by pair ts = joined_by conjunction (neighbours_of pair ts)

-- a term of this head over terms that are normal already
abbrev pub normal_node : Head → Terms → Term
normal_node (constant c) ts = apply (constant c) ts
normal_node (parameter i s) ts = apply (parameter i s) ts
normal_node (integer n) ts = apply (integer n) ts
normal_node (decimal_number n places) ts = apply (decimal_number n places) ts
normal_node verum ts = apply verum ts
normal_node falsum ts = apply falsum ts
normal_node negation ts = apply negation ts
normal_node conjunction ts = joined_by conjunction ts
normal_node disjunction ts = joined_by disjunction ts
normal_node implication ts = implication_of ts
normal_node exclusion ts = grouped_by exclusion ts
normal_node equality ts = chained_by (paired equality) ts
normal_node distinction ts = joined_by conjunction (disequations_of ts)
normal_node (choice s) ts = apply (choice s) ts
normal_node less ts = chained_by (paired less) ts
normal_node at_most ts = chained_by (paired at_most) ts
normal_node greater ts = chained_by (turned less) ts
normal_node at_least ts = chained_by (turned at_most) ts
normal_node (sum s) ts = joined_by (sum s) ts
normal_node (difference s) ts = apply (difference s) ts
normal_node (product s) ts = joined_by (product s) ts
normal_node quotient ts = grouped_by quotient ts
normal_node integer_quotient ts = grouped_by integer_quotient ts
normal_node modulus ts = apply modulus ts
normal_node magnitude ts = apply magnitude ts
normal_node to_real ts = apply to_real ts
normal_node to_int ts = apply to_int ts
normal_node is_int ts = apply is_int ts

abbrev mutual
  pub normal_of : Term → Term
  normal_of (apply h ts) = normal_node h (normals_of ts)

  pub normals_of : Terms → Terms
  normals_of no_terms = no_terms
  normals_of (terms t ts) = terms (normal_of t) (normals_of ts)

-- A term and its normal term have one value under each assignment.
abbrev pub NormalKeepsValue : Type 0
NormalKeepsValue = (a : Assignment) (t : Term) → value_of a (normal_of t) ≡ value_of a t
