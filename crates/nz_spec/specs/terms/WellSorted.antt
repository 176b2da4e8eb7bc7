-- Well sorted terms (SMT-LIB 2.6, section 3.6): each operator has as many arguments as it takes, of the sorts that it takes.
use Rattle.std.specs.Prelude.{◌≡◌, ◌&&◌, not, Bool, true, false, IsTrue, List, [], Some, slice_get, ⊤}
use Rattle.nz_spec.specs.terms.Term.{Sort, bool_sort, int_sort, real_sort, is_bool, Head, constant, parameter, integer, decimal_number, negation, conjunction, disjunction, exclusion, equality, choice, less, at_most, sum, difference, product, quotient, to_real, Term, apply, Terms, no_terms, terms, sort_of, holds_number, are_same_sort, Assignment, value_of, IsOfSort}
use Rattle.nz_spec.specs.terms.Model.{IsAssignment}
use Rattle.nz_spec.specs.terms.Normal.{normal_of}
use Rattle.nz_spec.specs.terms.Operators.{has_sort, all_terms, term_count, Operator, takes, Operands, bools, ints, reals, numbers, alike, branches, operands_of, operator_head}
use Rattle.nz_spec.specs.terms.Definitions.{Definition}
use Rattle.nz_spec.specs.clauses.Gates.{is_boolean_term, IsGated}
use Rattle.nz_spec.specs.terms.Linear.{is_linear}
use Rattle.nz_spec.specs.terms.Form.{Numbering}
use Rattle.nz_spec.specs.terms.FormOf.{form_of}
use Rattle.nz_spec.specs.clauses.LinearLiteral.{HaveSortedUnits}
use Rattle.nz_spec.specs.clauses.Links.{IsArithmetic}

-- numbers of this sort
abbrev pub are_numbers : Sort → Terms → Bool
are_numbers s ts = not (is_bool s) && all_terms (has_sort s) ts

-- Such operands, where all that are read at one sort are of it.
abbrev pub AreOperands : Operands → Sort → Terms → Type 0
AreOperands bools s ts = all_terms (has_sort bool_sort) ts ≡ true
AreOperands ints s ts = all_terms (has_sort int_sort) ts ≡ true
AreOperands reals s ts = all_terms (has_sort real_sort) ts ≡ true
AreOperands numbers s ts = are_numbers s ts ≡ true
AreOperands alike s ts = all_terms (has_sort s) ts ≡ true
AreOperands branches s no_terms = ⊥
AreOperands branches s (terms c ts) = (has_sort bool_sort c ≡ true) × (all_terms (has_sort s) ts ≡ true)

-- The head is an operator's, over as many arguments as it takes, of the sorts that it takes.
pub record IsApplied (h : Head) (ts : Terms) : Type 0 where
  pub operator : Operator
  pub sort : Sort
  pub is : h ≡ operator_head operator sort
  pub count : takes operator (term_count ts) ≡ true
  pub operands : AreOperands (operands_of operator) sort ts

-- Constants, parameters and numbers have no arguments; a parameter is of the sort that is listed at its place.
abbrev pub IsSortedHead : List Sort → Head → Terms → Type 0
IsSortedHead ss (constant c) ts = ts ≡ no_terms
IsSortedHead ss (parameter i s) ts = (slice_get ss i ≡ Some s) × (ts ≡ no_terms)
IsSortedHead ss (integer n) ts = ts ≡ no_terms
IsSortedHead ss (decimal_number n places) ts = ts ≡ no_terms
IsSortedHead ss h ts = IsApplied h ts

-- each is of sort Bool, or none is
abbrev pub AllAre : Bool → Terms → Type 0
AllAre b no_terms = ⊤
AllAre b (terms t ts) = (is_boolean_term t ≡ b) × AllAre b ts

-- The arguments are of sort Bool where the head takes such, and of no such sort where it takes numbers.
abbrev pub HaveOperands : Head → Terms → Type 0
HaveOperands negation ts = AllAre true ts
HaveOperands conjunction ts = AllAre true ts
HaveOperands disjunction ts = AllAre true ts
HaveOperands exclusion ts = AllAre true ts
HaveOperands equality ts = (b : Bool) × AllAre b ts
HaveOperands (choice s) (terms c ts) = (is_boolean_term c ≡ true) × AllAre (is_bool s) ts
HaveOperands less ts = AllAre false ts
HaveOperands at_most ts = AllAre false ts
HaveOperands (sum s) ts = AllAre false ts
HaveOperands (difference s) ts = AllAre false ts
HaveOperands (product s) ts = AllAre false ts
HaveOperands quotient ts = AllAre false ts
HaveOperands to_real ts = AllAre false ts
HaveOperands h ts = ⊤

-- The term is well sorted under parameters of these sorts.
abbrev mutual
  pub IsWellSorted : List Sort → Term → Type 0
  IsWellSorted ss (apply h ts) = IsSortedHead ss h ts × AreWellSorted ss ts

  pub AreWellSorted : List Sort → Terms → Type 0
  AreWellSorted ss no_terms = ⊤
  AreWellSorted ss (terms t ts) = IsWellSorted ss t × AreWellSorted ss ts

-- terms of the same sorts, one for one
abbrev pub SameSorts : Terms → Terms → Type 0
SameSorts no_terms no_terms = ⊤
SameSorts no_terms (terms u us) = ⊥
SameSorts (terms t ts) no_terms = ⊥
SameSorts (terms t ts) (terms u us) = (sort_of u ≡ sort_of t) × SameSorts ts us

-- a definition whose body is well sorted under its parameters
abbrev pub IsSortedDefinition : Definition → Type 0
IsSortedDefinition d = IsWellSorted d.parameters d.body

-- a well sorted term of sort Bool
abbrev pub IsSortedAssertion : Term → Type 0
IsSortedAssertion t = IsWellSorted [] t × (sort_of t ≡ bool_sort)

-- a term whose normal term is linear
abbrev pub HasLinearNormal : Term → Type 0
HasLinearNormal t = IsTrue (is_linear (normal_of t))

-- a definition whose body is such a term
abbrev pub HasLinearBody : Definition → Type 0
HasLinearBody d = HasLinearNormal d.body

-- ---- Laws

-- Two sorts are one where the test says so; operands stay what a head takes where their sorts stay; and a well sorted term has a value of its sort.
pub record SortsTell : Type 0 where
  pub one : (s t : Sort) → are_same_sort s t ≡ true → s ≡ t
  pub operands : (h : Head) (ts us : Terms) → SameSorts ts us → IsApplied h ts → IsApplied h us
  pub values : (a : Assignment) → IsAssignment a → (ss : List Sort) (t : Term) → IsWellSorted ss t → IsOfSort (sort_of t) (value_of a t)

-- The normal term of a well sorted term without parameters is one of the gate table, where it holds no number.
abbrev pub NormalTermsAreGated : Type 0
NormalTermsAreGated = (t : Term) → IsWellSorted [] t → holds_number (normal_of t) ≡ false → IsGated (normal_of t)

-- The normal term of a well sorted term is well sorted, and of its sort.
abbrev pub NormalStaysSorted : Type 0
NormalStaysSorted = (ss : List Sort) (t : Term) → IsWellSorted ss t → IsWellSorted ss (normal_of t) × (sort_of (normal_of t) ≡ sort_of t)

-- What linear arithmetic asks of terms is so of well sorted terms without parameters: the tables' rows are true of linear ones, and
-- the units of their forms have values of their sorts.
pub record SortedTermsAreArithmetic : Type 0 where
  pub tables : (t : Term) → IsWellSorted [] t → IsTrue (is_linear t) → IsArithmetic t
  pub units : (number : Numbering) (t : Term) → IsWellSorted [] t → HaveSortedUnits (form_of number t).result.parts

-- The arguments of a well sorted term without parameters are as its head takes them.
abbrev pub OperandsAreSorted : Type 0
OperandsAreSorted = (h : Head) (ts : Terms) → IsSortedHead [] h ts → HaveOperands h ts
