-- The operators of the theories over their arguments: how many they take, of which sorts, and what term they make
-- (SMT-LIB 2.6, theories Core and Reals_Ints).
use Rattle.std.specs.Prelude.{ℕ, suc, ◌&&◌, ◌||◌, ◌==◌, nat_lt, Bool, true, Option, Some, None, option_map, if◌then◌else◌}
use Rattle.nz_spec.specs.terms.Term.{Sort, bool_sort, int_sort, real_sort, sort_of, NumberSort, over_int, over_real, are_same_sort, Head, verum, falsum, negation, conjunction, disjunction, implication, exclusion, equality, distinction, choice, less, at_most, greater, at_least, sum, difference, product, quotient, integer_quotient, modulus, magnitude, to_real, to_int, is_int, Term, apply, Terms, no_terms, terms}

-- the operators of the theories, which are declared from the start
pub data Operator : Type 0 where
  true_operator : Operator
  false_operator : Operator
  not_operator : Operator
  and_operator : Operator
  or_operator : Operator
  implies_operator : Operator
  xor_operator : Operator
  equals_operator : Operator
  distinct_operator : Operator
  ite_operator : Operator
  at_most_operator : Operator
  less_operator : Operator
  at_least_operator : Operator
  greater_operator : Operator
  plus_operator : Operator
  times_operator : Operator
  minus_operator : Operator
  over_operator : Operator
  div_operator : Operator
  mod_operator : Operator
  abs_operator : Operator
  to_real_operator : Operator
  to_int_operator : Operator
  is_int_operator : Operator

-- ---- Sorts of arguments

abbrev pub has_sort : Sort → Term → Bool
has_sort s t = are_same_sort s (sort_of t)

abbrev pub is_number_term : Term → Bool
is_number_term t = has_sort int_sort t || has_sort real_sort t

abbrev pub all_terms : (Term → Bool) → Terms → Bool
all_terms test no_terms = true
all_terms test (terms t ts) = test t && all_terms test ts

abbrev pub term_count : Terms → ℕ
term_count no_terms = 0
term_count (terms t ts) = suc (term_count ts)

-- a term of sort Int where a Real is wanted is read as `to_real` of it
abbrev pub as_real : Term → Term
as_real t = if has_sort int_sort t then apply to_real (terms t no_terms) else t

abbrev pub as_reals : Terms → Terms
as_reals no_terms = no_terms
as_reals (terms t ts) = terms (as_real t) (as_reals ts)

-- a term where one of this sort is wanted
abbrev pub placed : Sort → Term → Option Term
placed s t =
    if has_sort s t then Some t
    else (if are_same_sort s real_sort && has_sort int_sort t then Some (as_real t) else None)

-- ---- Operators over their arguments

-- how many arguments an operator takes
abbrev pub takes : Operator → ℕ → Bool
takes true_operator n = n == 0
takes false_operator n = n == 0
takes not_operator n = n == 1
takes and_operator n = nat_lt 0 n
takes or_operator n = nat_lt 0 n
takes implies_operator n = nat_lt 1 n
takes xor_operator n = nat_lt 1 n
takes equals_operator n = nat_lt 1 n
takes distinct_operator n = nat_lt 1 n
takes ite_operator n = n == 3
takes at_most_operator n = nat_lt 1 n
takes less_operator n = nat_lt 1 n
takes at_least_operator n = nat_lt 1 n
takes greater_operator n = nat_lt 1 n
takes plus_operator n = nat_lt 0 n
takes times_operator n = nat_lt 0 n
takes minus_operator n = nat_lt 0 n
takes over_operator n = nat_lt 1 n
takes div_operator n = nat_lt 1 n
takes mod_operator n = n == 2
takes abs_operator n = n == 1
takes to_real_operator n = n == 1
takes to_int_operator n = n == 1
takes is_int_operator n = n == 1

-- which arguments it takes
pub data Operands : Type 0 where
  bools : Operands
  ints : Operands
  reals : Operands  -- numbers, read as Real
  numbers : Operands  -- numbers, all Int or read as Real
  alike : Operands  -- all Bool, or numbers as before
  branches : Operands  -- one Bool, and then as before

abbrev pub operands_of : Operator → Operands
operands_of true_operator = bools
operands_of false_operator = bools
operands_of not_operator = bools
operands_of and_operator = bools
operands_of or_operator = bools
operands_of implies_operator = bools
operands_of xor_operator = bools
operands_of equals_operator = alike
operands_of distinct_operator = alike
operands_of ite_operator = branches
operands_of at_most_operator = numbers
operands_of less_operator = numbers
operands_of at_least_operator = numbers
operands_of greater_operator = numbers
operands_of plus_operator = numbers
operands_of times_operator = numbers
operands_of minus_operator = numbers
operands_of over_operator = reals
operands_of div_operator = ints
operands_of mod_operator = ints
operands_of abs_operator = ints
operands_of to_real_operator = ints
operands_of to_int_operator = reals
operands_of is_int_operator = reals

-- the sort that terms are read at, side by side: Int where all are Int, else Real
abbrev pub number_sort : Terms → Option Sort
number_sort ts =
    if all_terms (has_sort int_sort) ts then Some int_sort
    else (if all_terms is_number_term ts then Some real_sort else None)

abbrev pub alike_sort : Terms → Option Sort
alike_sort ts = if all_terms (has_sort bool_sort) ts then Some bool_sort else number_sort ts

-- the sort that the arguments are read at, where they are such operands
abbrev pub operand_sort : Operands → Terms → Option Sort
operand_sort bools ts = if all_terms (has_sort bool_sort) ts then Some bool_sort else None
operand_sort ints ts = if all_terms (has_sort int_sort) ts then Some int_sort else None
operand_sort reals ts = if all_terms is_number_term ts then Some real_sort else None
operand_sort numbers ts = number_sort ts
operand_sort alike ts = alike_sort ts
operand_sort branches no_terms = None
operand_sort branches (terms c ts) = if has_sort bool_sort c then alike_sort ts else None

-- the arguments, read at a sort
abbrev pub read_at : Sort → Terms → Terms
read_at bool_sort ts = ts
read_at int_sort ts = ts
read_at real_sort ts = as_reals ts

-- the sort of numbers that are read at a sort
abbrev pub numbers_at : Sort → NumberSort
numbers_at int_sort = over_int
numbers_at s = over_real

-- the head of an operator over arguments that are read at a sort
abbrev pub operator_head : Operator → Sort → Head
operator_head true_operator s = verum
operator_head false_operator s = falsum
operator_head not_operator s = negation
operator_head and_operator s = conjunction
operator_head or_operator s = disjunction
operator_head implies_operator s = implication
operator_head xor_operator s = exclusion
operator_head equals_operator s = equality
operator_head distinct_operator s = distinction
operator_head ite_operator s = choice s
operator_head at_most_operator s = at_most
operator_head less_operator s = less
operator_head at_least_operator s = at_least
operator_head greater_operator s = greater
operator_head plus_operator s = sum (numbers_at s)
operator_head times_operator s = product (numbers_at s)
operator_head minus_operator s = difference (numbers_at s)
operator_head over_operator s = quotient
operator_head div_operator s = integer_quotient
operator_head mod_operator s = modulus
operator_head abs_operator s = magnitude
operator_head to_real_operator s = to_real
operator_head to_int_operator s = to_int
operator_head is_int_operator s = is_int

-- An operator over its arguments, where their number and their sorts are those that it takes.
abbrev pub applied : Operator → Terms → Option Term
applied o ts =
    if takes o (term_count ts) then option_map (λ s. apply (operator_head o s) (read_at s ts)) (operand_sort (operands_of o) ts)
    else None
