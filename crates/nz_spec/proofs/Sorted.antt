-- A well sorted term has a value of its sort.
use Rattle.std.proofs.Common.{◌≡◌, ℕ, Bool, true, false, not, ◌==◌, List, [], ◌∷◌, refl, sym, subst, true≢false, if◌then◌else◌, ℤ, pos, ◌∙◌, ◌*◌, arith, eqb-true, unsigned_abs}
use Rattle.std.specs.Bool.{⊤}
use Rattle.std.proofs.Math.Nat.{div-le_self}
use Rattle.std.proofs.lemmas.Bool.{and_parts}
use Rattle.nz_ints.specs.Division.{gcd}
use Rattle.std.specs.List.{AllByRecursion}
use Rattle.nz_fractions.specs.Fraction.{Fraction, denominator, IsWhole, reduce, ◌+ℚ◌, neg_ℚ, ◌-ℚ◌, ◌*ℚ◌, outcome, exact, Arithmetic, Sum, Difference, Product, Quotient}
use Rattle.nz_spec.specs.terms.Term.{Sort, NumberSort, sort_over, bool_sort, int_sort, real_sort, Head, constant, parameter, integer, decimal_number, choice, sum, difference, product, head_sort, Term, apply, Terms, no_terms, terms, sort_of, is_bool, Value, truth, number, Assignment, is_true, number_of, IsOfSort, all_true, some_true, implied, excluded, combined, is_undefined, carried_out, divided, whole_number, default_value, head_value, value_of, values_of, are_same_sort}
use Rattle.nz_spec.specs.terms.Model.{IsAssignment}
use Rattle.nz_spec.specs.terms.Operators.{Operator, true_operator, false_operator, not_operator, and_operator, or_operator, implies_operator, xor_operator, equals_operator, distinct_operator, ite_operator, at_most_operator, less_operator, at_least_operator, greater_operator, plus_operator, times_operator, minus_operator, over_operator, div_operator, mod_operator, abs_operator, to_real_operator, to_int_operator, is_int_operator, has_sort, all_terms, term_count, takes, branches, operands_of, numbers_at, operator_head}
use Rattle.nz_spec.specs.terms.WellSorted.{are_numbers, AreOperands, IsApplied, IsSortedHead, IsWellSorted, AreWellSorted}
use Rattle.nz_fractions.proofs.Arithmetic.{denominator-sum, denominator-product, denominator-neg}
use Rattle.nz_fractions.proofs.Laws.{denominator-reduce, denominator_pos}

-- ---- Sorts

pub same_sorts : (s t : Sort) → are_same_sort s t ≡ true → s ≡ t
same_sorts bool_sort bool_sort e = refl
same_sorts int_sort int_sort e = refl
same_sorts real_sort real_sort e = refl
same_sorts bool_sort int_sort e = absurd (true≢false (sym e))
same_sorts bool_sort real_sort e = absurd (true≢false (sym e))
same_sorts int_sort bool_sort e = absurd (true≢false (sym e))
same_sorts int_sort real_sort e = absurd (true≢false (sym e))
same_sorts real_sort bool_sort e = absurd (true≢false (sym e))
same_sorts real_sort int_sort e = absurd (true≢false (sym e))

-- ---- Values of their sorts

-- the values of arguments, each of the sort of its term
abbrev HaveSorts : Assignment → Terms → Type 0
HaveSorts a no_terms = ⊤
HaveSorts a (terms t ts) = IsOfSort (sort_of t) (value_of a t) × HaveSorts a ts

-- terms of one sort have values of it
all_of : (a : Assignment) (s : Sort) (ts : Terms) → all_terms (has_sort s) ts ≡ true → HaveSorts a ts → AllByRecursion (IsOfSort s) (values_of a ts)
all_of a s no_terms e h = tt
all_of a s (terms t ts) e h =
    let first = (and_parts (has_sort s t) (all_terms (has_sort s) ts) e).0 in
    let second = (and_parts (has_sort s t) (all_terms (has_sort s) ts) e).1 in
    (subst (λ r. IsOfSort r (value_of a t)) (sym (same_sorts s (sort_of t) first)) h.0, all_of a s ts second h.1)

pub default_is : (s : Sort) → IsOfSort s (default_value s)
default_is bool_sort = tt
default_is int_sort = refl
default_is real_sort = tt

-- ---- Whole numbers

whole_by : (q : Fraction) → denominator q ≡ 1 → IsWhole q
unfolding denominator
whole_by q e = omega (arith, e)

by_whole : (q : Fraction) → IsWhole q → denominator q ≡ 1
unfolding denominator
by_whole q e = omega (arith, e)

reduce_whole : (q : Fraction) → denominator q ≡ 1 → IsWhole (reduce q)
reduce_whole q e =
    let shared = gcd (unsigned_abs q.numerator) (denominator q) in
    let small = div-le_self (denominator q) shared in
    whole_by (reduce q) (omega (arith, denominator-reduce q, denominator_pos (reduce q), small, e))

product_one : (m n : ℕ) → m ≡ 1 → n ≡ 1 → m * n ≡ 1
product_one m n e f = rw (e, f) refl

-- the operations that make whole numbers of whole numbers
abbrev KeepsWhole : Arithmetic → Type 0
KeepsWhole op = (p q : Fraction) → IsWhole p → IsWhole q → IsWhole (outcome op p q)

sum_whole : KeepsWhole Sum
unfolding outcome exact
sum_whole p q e f = reduce_whole (p +ℚ q) (denominator-sum p q ∙ product_one (denominator p) (denominator q) (by_whole p e) (by_whole q f))

difference_whole : KeepsWhole Difference
unfolding outcome exact ◌-ℚ◌
difference_whole p q e f =
    reduce_whole (p +ℚ neg_ℚ q)
    (denominator-sum p (neg_ℚ q) ∙ product_one (denominator p) (denominator (neg_ℚ q)) (by_whole p e) (denominator-neg q ∙ by_whole q f))

product_whole : KeepsWhole Product
unfolding outcome exact
product_whole p q e f = reduce_whole (p *ℚ q) (denominator-product p q ∙ product_one (denominator p) (denominator q) (by_whole p e) (by_whole q f))

negated_is : (s : Sort) (v : Value) → not (is_bool s) ≡ true → IsOfSort s v → IsOfSort s (number (neg_ℚ (number_of v)))
unfolding neg_ℚ
negated_is bool_sort v e i = absurd (true≢false (sym e))
negated_is int_sort (truth b) e i = absurd i
negated_is int_sort (number q) e i = i
negated_is real_sort v e i = tt

chosen_is : (b : Bool) (s : Sort) (v w : Value) → IsOfSort s v → IsOfSort s w → IsOfSort s (if b then v else w)
chosen_is true s v w i j = i
chosen_is false s v w i j = j

real_carried : (op : Arithmetic) (v w : Value) → IsOfSort real_sort (carried_out op v w)
real_carried op v w = chosen_is (is_undefined op (number_of w)) real_sort (whole_number (pos 0)) (number (outcome op (number_of v) (number_of w))) tt tt

carried_is : (s : Sort) (op : Arithmetic) → KeepsWhole op → not (is_bool s) ≡ true → (v w : Value) → IsOfSort s v → IsOfSort s w → IsOfSort s (carried_out op v w)
carried_is bool_sort op k e v w i j = absurd (true≢false (sym e))
carried_is int_sort op k e (truth b) w i j = absurd i
carried_is int_sort op k e (number p) (truth b) i j = absurd j
carried_is int_sort op k e (number p) (number q) i j = chosen_is (is_undefined op q) int_sort (whole_number (pos 0)) (number (outcome op p q)) refl (k p q i j)
carried_is real_sort op k e v w i j = real_carried op v w

whole_is : (s : Sort) (n : ℤ) → not (is_bool s) ≡ true → IsOfSort s (whole_number n)
whole_is bool_sort n e = absurd (true≢false (sym e))
whole_is int_sort n e = refl
whole_is real_sort n e = tt

-- ---- Values of heads

combined_is : (s : Sort) (f : Value → Value → Value) → ((v w : Value) → IsOfSort s v → IsOfSort s w → IsOfSort s (f v w))
    → (v : Value) (ws : List Value) → IsOfSort s v → AllByRecursion (IsOfSort s) ws → IsOfSort s (combined f v ws)
combined_is s f keeps v [] i h = i
combined_is s f keeps v (w ∷ ws) i h = combined_is s f keeps (f v w) ws (keeps v w i h.0) h.1

all_true_is : (vs : List Value) → AllByRecursion (IsOfSort bool_sort) vs → IsOfSort bool_sort (all_true vs)
all_true_is [] h = tt
all_true_is (v ∷ []) h = h.0
all_true_is (v ∷ w ∷ vs) h = tt

some_true_is : (vs : List Value) → AllByRecursion (IsOfSort bool_sort) vs → IsOfSort bool_sort (some_true vs)
some_true_is [] h = tt
some_true_is (v ∷ []) h = h.0
some_true_is (v ∷ w ∷ vs) h = tt

implied_is : (vs : List Value) → AllByRecursion (IsOfSort bool_sort) vs → IsOfSort bool_sort (implied vs)
implied_is [] h = tt
implied_is (v ∷ []) h = h.0
implied_is (v ∷ w ∷ vs) h = tt

real_is : (v : Value) → IsOfSort int_sort v → IsOfSort real_sort v
real_is (truth b) i = absurd i
real_is (number q) i = tt

choice_is : (a : Assignment) (s : Sort) (ts : Terms) → (term_count ts == 3) ≡ true → AreOperands branches s ts → HaveSorts a ts
    → IsOfSort s (head_value a (choice s) (values_of a ts))
choice_is a s no_terms n e h = absurd e
choice_is a s (terms c no_terms) n e h = absurd (true≢false (sym n))
choice_is a s (terms c (terms t no_terms)) n e h = absurd (true≢false (sym n))
choice_is a s (terms c (terms t (terms u no_terms))) n e h =
    let both = all_of a s (terms t (terms u no_terms)) e.1 h.1 in
    chosen_is (is_true (value_of a c)) s (value_of a t) (value_of a u) both.0 both.1.0
choice_is a s (terms c (terms t (terms u (terms w ts)))) n e h =
    let three : term_count (terms c (terms t (terms u (terms w ts)))) ≡ 3 = eqb-true (term_count (terms c (terms t (terms u (terms w ts))))) 3 n in
    absurd (omega (arith, three))

sum_is : (a : Assignment) (n : NumberSort) (ts : Terms) → are_numbers (sort_over n) ts ≡ true → HaveSorts a ts → IsOfSort (sort_over n) (head_value a (sum n) (values_of a ts))
sum_is a n no_terms e h = let s = sort_over n in whole_is s (pos 0) (and_parts (not (is_bool s)) true e).0
sum_is a n (terms t ts) e h =
    let s = sort_over n in
    let wanted = (and_parts (not (is_bool s)) (all_terms (has_sort s) (terms t ts)) e).0 in
    let all = all_of a s (terms t ts) (and_parts (not (is_bool s)) (all_terms (has_sort s) (terms t ts)) e).1 h in
    combined_is s (carried_out Sum) (carried_is s Sum sum_whole wanted) (value_of a t) (values_of a ts) all.0 all.1

product_is : (a : Assignment) (n : NumberSort) (ts : Terms) → are_numbers (sort_over n) ts ≡ true → HaveSorts a ts → IsOfSort (sort_over n) (head_value a (product n) (values_of a ts))
product_is a n no_terms e h = let s = sort_over n in whole_is s (pos 1) (and_parts (not (is_bool s)) true e).0
product_is a n (terms t ts) e h =
    let s = sort_over n in
    let wanted = (and_parts (not (is_bool s)) (all_terms (has_sort s) (terms t ts)) e).0 in
    let all = all_of a s (terms t ts) (and_parts (not (is_bool s)) (all_terms (has_sort s) (terms t ts)) e).1 h in
    combined_is s (carried_out Product) (carried_is s Product product_whole wanted) (value_of a t) (values_of a ts) all.0 all.1

difference_is : (a : Assignment) (n : NumberSort) (ts : Terms) → are_numbers (sort_over n) ts ≡ true → HaveSorts a ts → IsOfSort (sort_over n) (head_value a (difference n) (values_of a ts))
difference_is a n no_terms e h = let s = sort_over n in whole_is s (pos 0) (and_parts (not (is_bool s)) true e).0
difference_is a n (terms t no_terms) e h =
    let s = sort_over n in
    let wanted = (and_parts (not (is_bool s)) (all_terms (has_sort s) (terms t no_terms)) e).0 in
    let all = all_of a s (terms t no_terms) (and_parts (not (is_bool s)) (all_terms (has_sort s) (terms t no_terms)) e).1 h in
    negated_is s (value_of a t) wanted all.0
difference_is a n (terms t (terms u ts)) e h =
    let s = sort_over n in
    let us = terms u ts in
    let wanted = (and_parts (not (is_bool s)) (all_terms (has_sort s) (terms t us)) e).0 in
    let all = all_of a s (terms t us) (and_parts (not (is_bool s)) (all_terms (has_sort s) (terms t us)) e).1 h in
    combined_is s (carried_out Difference) (carried_is s Difference difference_whole wanted) (value_of a t) (values_of a us) all.0 all.1

-- numbers of a sort are read at it
numbers_at_sort : (s : Sort) (us : Terms) → are_numbers s us ≡ true → are_numbers (sort_over (numbers_at s)) us ≡ true
numbers_at_sort bool_sort us e = absurd (true≢false (sym e))
numbers_at_sort int_sort us e = e
numbers_at_sort real_sort us e = e

applied_is : (a : Assignment) (o : Operator) (s : Sort) (ts : Terms) → takes o (term_count ts) ≡ true → AreOperands (operands_of o) s ts → HaveSorts a ts
    → IsOfSort (head_sort (operator_head o s)) (head_value a (operator_head o s) (values_of a ts))
applied_is a true_operator s ts n e h = tt
applied_is a false_operator s ts n e h = tt
applied_is a not_operator s no_terms n e h = tt
applied_is a not_operator s (terms t ts) n e h = tt
applied_is a and_operator s ts n e h = all_true_is (values_of a ts) (all_of a bool_sort ts e h)
applied_is a or_operator s ts n e h = some_true_is (values_of a ts) (all_of a bool_sort ts e h)
applied_is a implies_operator s ts n e h = implied_is (values_of a ts) (all_of a bool_sort ts e h)
applied_is a xor_operator s no_terms n e h = tt
applied_is a xor_operator s (terms t ts) n e h =
    let all = all_of a bool_sort (terms t ts) e h in
    combined_is bool_sort excluded (λ v w i j. tt) (value_of a t) (values_of a ts) all.0 all.1
applied_is a equals_operator s ts n e h = tt
applied_is a distinct_operator s ts n e h = tt
applied_is a ite_operator s ts n e h = choice_is a s ts n e h
applied_is a at_most_operator s ts n e h = tt
applied_is a less_operator s ts n e h = tt
applied_is a at_least_operator s ts n e h = tt
applied_is a greater_operator s ts n e h = tt
applied_is a plus_operator s ts n e h = sum_is a (numbers_at s) ts (numbers_at_sort s ts e) h
applied_is a times_operator s ts n e h = product_is a (numbers_at s) ts (numbers_at_sort s ts e) h
applied_is a minus_operator s ts n e h = difference_is a (numbers_at s) ts (numbers_at_sort s ts e) h
applied_is a over_operator s no_terms n e h = tt
applied_is a over_operator s (terms t ts) n e h =
    let all = all_of a real_sort (terms t ts) e h in
    combined_is real_sort (carried_out Quotient) (λ v w i j. real_carried Quotient v w) (value_of a t) (values_of a ts) all.0 all.1
applied_is a div_operator s no_terms n e h = refl
applied_is a div_operator s (terms t ts) n e h =
    let all = all_of a int_sort (terms t ts) e h in
    combined_is int_sort divided (λ v w i j. refl) (value_of a t) (values_of a ts) all.0 all.1
applied_is a mod_operator s no_terms n e h = refl
applied_is a mod_operator s (terms t no_terms) n e h = refl
applied_is a mod_operator s (terms t (terms u no_terms)) n e h = refl
applied_is a mod_operator s (terms t (terms u (terms v ts))) n e h = refl
applied_is a abs_operator s no_terms n e h = refl
applied_is a abs_operator s (terms t no_terms) n e h = refl
applied_is a abs_operator s (terms t (terms u ts)) n e h = refl
applied_is a to_real_operator s no_terms n e h = tt
applied_is a to_real_operator s (terms t no_terms) n e h = real_is (value_of a t) (all_of a int_sort (terms t no_terms) e h).0
applied_is a to_real_operator s (terms t (terms u ts)) n e h = tt
applied_is a to_int_operator s no_terms n e h = refl
applied_is a to_int_operator s (terms t no_terms) n e h = refl
applied_is a to_int_operator s (terms t (terms u ts)) n e h = refl
applied_is a is_int_operator s no_terms n e h = tt
applied_is a is_int_operator s (terms t no_terms) n e h = tt
applied_is a is_int_operator s (terms t (terms u ts)) n e h = tt

by_operator : (a : Assignment) (h : Head) (ts : Terms) → IsApplied h ts → HaveSorts a ts → IsOfSort (head_sort h) (head_value a h (values_of a ts))
by_operator a h ts i k =
    subst (λ g. IsOfSort (head_sort g) (head_value a g (values_of a ts))) (sym i.is) (applied_is a i.operator i.sort ts i.count i.operands k)

head_is : (a : Assignment) → IsAssignment a → (ss : List Sort) (h : Head) (ts : Terms) → IsSortedHead ss h ts → HaveSorts a ts
    → IsOfSort (head_sort h) (head_value a h (values_of a ts))
head_is a given ss (constant c) ts i k = given c
head_is a given ss (parameter n r) ts i k = default_is r
head_is a given ss (integer n) ts i k = refl
head_is a given ss (decimal_number n places) ts i k = tt
head_is a given ss h ts i k = by_operator a h ts i k

mutual
  pub value_is : (a : Assignment) → IsAssignment a → (ss : List Sort) (t : Term) → IsWellSorted ss t → IsOfSort (sort_of t) (value_of a t)
  value_is a given ss (apply h ts) i = head_is a given ss h ts i.0 (values_are a given ss ts i.1)

  values_are : (a : Assignment) → IsAssignment a → (ss : List Sort) (ts : Terms) → AreWellSorted ss ts → HaveSorts a ts
  values_are a given ss no_terms i = tt
  values_are a given ss (terms t ts) i = (value_is a given ss t i.0, values_are a given ss ts i.1)
