-- Terms that checks take: over Bool and Real, where each head has its rows in the tables of clauses, or is a number or is arithmetic.
-- Source: SMT-LIB 2.6, theories Core and Reals, and logic QF_LRA.
use Rattle.std.specs.Prelude.{◌≡◌, true, false, ⊤, IsTrue, [], ◌⊎◌, Contains}
use Rattle.nz_spec.specs.terms.Term.{Head, constant, integer, decimal_number, verum, falsum, negation, conjunction, disjunction, exclusion, equality, choice, bool_sort, int_sort, real_sort, less, at_most, sum, difference, product, quotient, to_real, is_int_sort, Term, apply, Terms, no_terms, terms, sort_of, holds_integer}
use Rattle.nz_spec.specs.terms.Normal.{normal_of}
use Rattle.nz_spec.specs.terms.Order.{post_order, listing_order}
use Rattle.nz_spec.specs.terms.Linear.{is_linear}
use Rattle.nz_spec.specs.terms.FormOf.{is_taken_whole}
use Rattle.nz_spec.specs.clauses.Gates.{is_boolean_term, gate_clauses, HasBooleanArguments}
use Rattle.nz_spec.specs.clauses.Links.{IsArithmetic}
use Rattle.nz_spec.specs.terms.WellSorted.{IsWellSorted}

-- a head over as many arguments as the tables, or arithmetic, have for it
abbrev pub IsTakenHead : Head → Terms → Type 0
IsTakenHead (constant c) no_terms = is_int_sort c.sort ≡ false
IsTakenHead (integer n) no_terms = ⊤
IsTakenHead (decimal_number n places) no_terms = ⊤
IsTakenHead verum no_terms = ⊤
IsTakenHead falsum no_terms = ⊤
IsTakenHead negation (terms t no_terms) = ⊤
IsTakenHead conjunction ts = ⊤
IsTakenHead disjunction ts = ⊤
IsTakenHead exclusion (terms t (terms u no_terms)) = ⊤
IsTakenHead equality (terms t (terms u no_terms)) = ⊤
IsTakenHead less (terms t (terms u no_terms)) = ⊤
IsTakenHead at_most (terms t (terms u no_terms)) = ⊤
IsTakenHead (choice bool_sort) (terms c (terms t (terms u no_terms))) = ⊤
IsTakenHead (choice real_sort) (terms c (terms t (terms u no_terms))) = ⊤
IsTakenHead (sum s) ts = ⊤
IsTakenHead (difference s) ts = ⊤
IsTakenHead (product s) ts = ⊤
IsTakenHead quotient ts = ⊤
IsTakenHead to_real (terms t no_terms) = ⊤
IsTakenHead h ts = ⊥

-- The term is so, and all that it is made of.
abbrev mutual
  pub HasTakenHeads : Term → Type 0
  HasTakenHeads (apply h ts) = IsTakenHead h ts × HaveTakenHeads ts

  pub HaveTakenHeads : Terms → Type 0
  HaveTakenHeads no_terms = ⊤
  HaveTakenHeads (terms t ts) = HasTakenHeads t × HaveTakenHeads ts

-- A well sorted linear term over Bool and Real.
pub record IsTaken (t : Term) : Type 0 where
  pub sorted : IsWellSorted [] t
  pub linear : IsTrue (is_linear t)
  pub heads : HasTakenHeads t

-- one of sort Bool
pub record IsTakenBoolean (t : Term) : Type 0 where
  pub taken : IsTaken t
  pub boolean : is_boolean_term t ≡ true

-- ---- Laws

-- The normal term of a well sorted one is taken where it is linear and holds no unit of sort Int.
abbrev pub NormalTermsAreTaken : Type 0
NormalTermsAreTaken = (t : Term) → IsWellSorted [] t → IsTrue (is_linear (normal_of t)) → holds_integer (normal_of t) ≡ false → IsTaken (normal_of t)

-- What a taken term is made of is taken, and no more is listed with it. It is arithmetic, it is no unit of sort Int, and where it has gates its arguments are
-- Boolean.
pub record TakenTermsAreInOrder : Type 0 where
  pub parts : (t u : Term) → IsTaken t → Contains (post_order t) u → IsTaken u
  pub arithmetic : (t : Term) → IsTaken t → IsArithmetic t
  pub gates : (t : Term) → IsTaken t → (gate_clauses t ≡ []) ⊎ HasBooleanArguments t
  pub listing : (t : Term) → IsTaken t → listing_order t ≡ post_order t
  pub units : (t : Term) → IsTaken t → is_taken_whole t ≡ true → sort_of t ≡ int_sort → ⊥
