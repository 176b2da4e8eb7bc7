-- Terms that checks take: well sorted, linear, and of heads that they take.
use Rattle.std.specs.Prelude.{◌≡◌, ℕ, ◌<◌, ◌≤◌, true, List, []}
use Rattle.nz_spec.specs.terms.Operators.{all_terms, has_sort, term_count}
use Rattle.nz_spec.specs.terms.Table.{Node, term_in}
use Rattle.nz_spec.specs.terms.Taken.{IsTaken, IsTakenHead}
use Rattle.nz_spec.specs.terms.Term.{Head, Sort, bool_sort, real_sort, Terms, no_terms, terms, sort_of}
use Rattle.nz_spec.specs.terms.WellSorted.{IsSortedHead}
use Rattle.nz_term.specs.declared.heads.NumberSort.TheVariants as number_sorts
use Rattle.nz_term.specs.declared.heads.Operator.{Operator}
use Rattle.nz_term.specs.declared.heads.Operator.TheVariants.{True, False, Not, And, Or, Xor, Equal, Ite, Less, AtMost, Sum}
use Rattle.nz_term.specs.declared.heads.Sort.TheVariants as sorts

-- checks take the terms before a number
abbrev pub AreTaken : List Node → ℕ → Type 0
AreTaken ns n = (i : ℕ) → i < n → IsTaken (term_in ns i)

-- A head over arguments that it takes, which checks take.
pub record IsRowOf (h : Head) (ts : Terms) : Type 0 where
  pub sorted : IsSortedHead [] h ts
  pub taken : IsTakenHead h ts

-- So many terms of a sort.
pub record AreAlike (s : Sort) (least most : ℕ) (ts : Terms) : Type 0 where
  pub enough : least ≤ term_count ts
  pub within : term_count ts ≤ most
  pub sorts : all_terms (has_sort s) ts ≡ true

-- two terms, of one sort
abbrev pub ArePair : Terms → Type 0
ArePair (terms t (terms u no_terms)) = has_sort (sort_of t) u ≡ true
ArePair ts = ⊥

-- a condition, and two terms of a sort
abbrev pub AreBranches : Sort → Terms → Type 0
AreBranches s (terms c (terms t (terms u no_terms))) = (has_sort bool_sort c ≡ true) × (has_sort s t ≡ true) × (has_sort s u ≡ true)
AreBranches s ts = ⊥

-- what is asked of an operator's arguments
abbrev pub AreTakenBy : Operator → Terms → Type 0
AreTakenBy True ts = AreAlike bool_sort 0 0 ts
AreTakenBy False ts = AreAlike bool_sort 0 0 ts
AreTakenBy Not ts = AreAlike bool_sort 1 1 ts
AreTakenBy And ts = AreAlike bool_sort 1 18446744073709551615 ts
AreTakenBy Or ts = AreAlike bool_sort 1 18446744073709551615 ts
AreTakenBy Xor ts = AreAlike bool_sort 2 2 ts
AreTakenBy Equal ts = ArePair ts
AreTakenBy Less ts = AreAlike real_sort 2 2 ts
AreTakenBy AtMost ts = AreAlike real_sort 2 2 ts
AreTakenBy (Sum number_sorts.Real) ts = AreAlike real_sort 1 18446744073709551615 ts
AreTakenBy (Ite sorts.Bool) ts = AreBranches bool_sort ts
AreTakenBy (Ite sorts.Real) ts = AreBranches real_sort ts
AreTakenBy o ts = ⊥
