-- Terms that checks take where they take their arguments.
use Rattle.std.proofs.Common.{◌≡◌, ℕ, ◌<◌, ◌≤◌, true, ◌&&◌, IsTrue, List, [], ◌∷◌, length, get_or, refl, sym, ap, suc, subst, arith}
use Rattle.std.specs.Prelude.{All}
use Rattle.std.proofs.lemmas.Bool.{and_from, lt-ltb}
use Rattle.std.proofs.lemmas.List.Elements.{All-head, All-tail}
use Rattle.std.proofs.lemmas.List.Recursion.{and_from_places}
use Rattle.nz_spec.specs.terms.Operators.{true_operator, false_operator, not_operator, and_operator, or_operator, xor_operator, equals_operator, ite_operator, less_operator, at_most_operator, plus_operator, all_terms, has_sort, term_count}
use Rattle.nz_spec.specs.terms.Linear.{is_linear}
use Rattle.nz_spec.specs.terms.Table.{Node, term_in, terms_at}
use Rattle.nz_spec.specs.terms.Taken.{HaveTakenHeads, IsTaken, IsTakenHead}
use Rattle.nz_spec.specs.terms.Term.{Sort, bool_sort, int_sort, real_sort, are_same_sort, Head, exclusion, choice, less, at_most, Term, apply, Terms, no_terms, terms, sort_of}
use Rattle.nz_spec.specs.terms.WellSorted.{AreWellSorted}
use Rattle.nz_term.specs.declared.heads.NumberSort.TheVariants as number_sorts
use Rattle.nz_term.specs.declared.heads.Operator.{Operator}
use Rattle.nz_term.specs.declared.heads.Operator.TheVariants.{True, False, Not, And, Or, Xor, Equal, Ite, Less, AtMost, Sum}
use Rattle.nz_term.specs.declared.heads.Sort.TheVariants as sorts
use Rattle.nz_term.specs.Heads.{operator_of}
use Rattle.nz_taken_samples.specs.Sorted.{AreAlike, AreBranches, AreTaken, AreTakenBy, IsRowOf}

-- ---- Terms by number

module _ (ns : List Node) (n : ℕ) (before : AreTaken ns n) where
  sorted_at : (kids : List ℕ) → All (λ k. k < n) kids → AreWellSorted [] (terms_at (term_in ns) kids)
  sorted_at [] inside = tt
  sorted_at (k ∷ kids) inside = ((before k (All-head (λ i. i < n) k kids inside)).sorted, sorted_at kids (All-tail (λ i. i < n) k kids inside))

  heads_at : (kids : List ℕ) → All (λ k. k < n) kids → HaveTakenHeads (terms_at (term_in ns) kids)
  heads_at [] inside = tt
  heads_at (k ∷ kids) inside = ((before k (All-head (λ i. i < n) k kids inside)).heads, heads_at kids (All-tail (λ i. i < n) k kids inside))

  pub next_taken : (h : Head) (kids : List ℕ) → term_in ns n ≡ apply h (terms_at (term_in ns) kids) → All (λ k. k < n) kids → IsRowOf h (terms_at (term_in ns) kids)
      → IsTrue (is_linear (term_in ns n)) → IsTaken (term_in ns n)
  next_taken h kids term inside row linear =
      subst IsTaken (sym term)
      (record {
        sorted = (row.sorted, sorted_at kids inside);
        linear = subst (λ t. IsTrue (is_linear t)) term linear;
        heads = (row.taken, heads_at kids inside);
      })

-- ---- Terms of one sort

count_at : (f : ℕ → Term) (kids : List ℕ) → term_count (terms_at f kids) ≡ length kids
count_at f [] = refl
count_at f (k ∷ kids) = ap suc (count_at f kids)

-- so many of a sort, each by its place
pub alike : (s : Sort) (least most : ℕ) (f : ℕ → Term) (kids : List ℕ) (d : ℕ) → least ≤ length kids → length kids ≤ most
    → ((i : ℕ) → i < length kids → has_sort s (f (get_or kids i d)) ≡ true) → AreAlike s least most (terms_at f kids)
alike s least most f kids d least_count most_count each =
    let count = count_at f kids in
    record {
      enough = omega (arith, count, least_count);
      within = omega (arith, count, most_count);
      sorts = and_from_places (λ ks. all_terms (has_sort s) (terms_at f ks)) (λ k. has_sort s (f k)) refl (λ k ks. refl) kids d each;
    }

same_itself : (s : Sort) → are_same_sort s s ≡ true
same_itself bool_sort = refl
same_itself int_sort = refl
same_itself real_sort = refl

-- ---- Operators over their arguments

-- what holds of two of a sort
of_two : (s : Sort) (P : Terms → Type 0) → ((t u : Term) → all_terms (has_sort s) (terms t (terms u no_terms)) ≡ true → P (terms t (terms u no_terms)))
    → (ts : Terms) → AreAlike s 2 2 ts → P ts
of_two s P two no_terms of = absurd (omega (arith, of.enough))
of_two s P two (terms t no_terms) of = absurd (omega (arith, of.enough))
of_two s P two (terms t (terms u no_terms)) of = two t u of.sorts
of_two s P two (terms t (terms u (terms v ts))) of = absurd (omega (arith, of.within))

choice_row : (s : Sort) → ((c t u : Term) → IsTakenHead (choice s) (terms c (terms t (terms u no_terms)))) → (ts : Terms) → AreBranches s ts → IsRowOf (choice s) ts
choice_row s taken no_terms of = absurd of
choice_row s taken (terms c no_terms) of = absurd of
choice_row s taken (terms c (terms t no_terms)) of = absurd of
choice_row s taken (terms c (terms t (terms u no_terms))) of =
    let branches = and_from (has_sort s t) (has_sort s u && true) of.1 (and_from (has_sort s u) true of.2 refl) in
    record { sorted = record { operator = ite_operator; sort = s; is = refl; count = refl; operands = (of.0, branches) }; taken = taken c t u }
choice_row s taken (terms c (terms t (terms u (terms v ts)))) of = absurd of

pub operator_row : (o : Operator) (ts : Terms) → AreTakenBy o ts → IsRowOf (operator_of o) ts
operator_row True no_terms of = record { sorted = record { operator = true_operator; sort = bool_sort; is = refl; count = refl; operands = refl }; taken = tt }
operator_row True (terms t ts) of = absurd (omega (arith, of.within))
operator_row False no_terms of = record { sorted = record { operator = false_operator; sort = bool_sort; is = refl; count = refl; operands = refl }; taken = tt }
operator_row False (terms t ts) of = absurd (omega (arith, of.within))
operator_row Not no_terms of = absurd (omega (arith, of.enough))
operator_row Not (terms t no_terms) of =
    record { sorted = record { operator = not_operator; sort = bool_sort; is = refl; count = refl; operands = of.sorts }; taken = tt }
operator_row Not (terms t (terms u ts)) of = absurd (omega (arith, of.within))
operator_row And no_terms of = absurd (omega (arith, of.enough))
operator_row And (terms t ts) of =
    record { sorted = record { operator = and_operator; sort = bool_sort; is = refl; count = lt-ltb 0 (suc (term_count ts)) (omega arith); operands = of.sorts }; taken = tt }
operator_row Or no_terms of = absurd (omega (arith, of.enough))
operator_row Or (terms t ts) of =
    record { sorted = record { operator = or_operator; sort = bool_sort; is = refl; count = lt-ltb 0 (suc (term_count ts)) (omega arith); operands = of.sorts }; taken = tt }
operator_row Xor ts of =
    of_two bool_sort (IsRowOf exclusion)
    (λ t u of_sort. record { sorted = record { operator = xor_operator; sort = bool_sort; is = refl; count = refl; operands = of_sort }; taken = tt }) ts of
operator_row Equal no_terms of = absurd of
operator_row Equal (terms t no_terms) of = absurd of
operator_row Equal (terms t (terms u no_terms)) of =
    let s = sort_of t in
    let both = and_from (has_sort s t) (has_sort s u && true) (same_itself s) (and_from (has_sort s u) true of refl) in
    record { sorted = record { operator = equals_operator; sort = s; is = refl; count = refl; operands = both }; taken = tt }
operator_row Equal (terms t (terms u (terms v ts))) of = absurd of
operator_row Less ts of =
    of_two real_sort (IsRowOf less)
    (λ t u of_sort. record { sorted = record { operator = less_operator; sort = real_sort; is = refl; count = refl; operands = of_sort }; taken = tt }) ts of
operator_row AtMost ts of =
    of_two real_sort (IsRowOf at_most)
    (λ t u of_sort. record { sorted = record { operator = at_most_operator; sort = real_sort; is = refl; count = refl; operands = of_sort }; taken = tt }) ts of
operator_row (Sum number_sorts.Real) no_terms of = absurd (omega (arith, of.enough))
operator_row (Sum number_sorts.Real) (terms t ts) of =
    record { sorted = record { operator = plus_operator; sort = real_sort; is = refl; count = lt-ltb 0 (suc (term_count ts)) (omega arith); operands = of.sorts }; taken = tt }
operator_row (Ite sorts.Bool) ts of = choice_row bool_sort (λ x y z. tt) ts of
operator_row (Ite sorts.Real) ts of = choice_row real_sort (λ x y z. tt) ts of
operator_row o ts of = absurd of
