-- The normal term of a well sorted term is well sorted, and of its sort.
use Rattle.std.proofs.Common.{◌≡◌, suc, ℕ, true, not, ◌&&◌, List, refl, sym, ap, subst, ◌∙◌, true≢false, arith}
use Rattle.std.specs.Prelude.{nat_lt}
use Rattle.std.proofs.lemmas.Bool.{and_from, and_parts}
use Rattle.std.proofs.lemmas.Bool.Decides.{nat_tests}
use Rattle.nz_spec.specs.terms.Term.{Sort, bool_sort, int_sort, real_sort, are_same_sort, is_bool, sort_over, Head, constant, parameter, integer, decimal_number, conjunction, disjunction, exclusion, equality, less, at_most, sum, product, quotient, integer_quotient, head_sort, Term, apply, Terms, no_terms, terms, sort_of}
use Rattle.nz_spec.specs.terms.Normal.{negated, paired, turned, implication_of, grouped_onto, grouped_by, neighbours_of, disequations_onto, disequations_of, joined_by, normal_node, normal_of, normals_of}
use Rattle.nz_spec.specs.terms.Operators.{Operator, true_operator, false_operator, not_operator, and_operator, or_operator, implies_operator, xor_operator, equals_operator, distinct_operator, ite_operator, at_most_operator, less_operator, at_least_operator, greater_operator, plus_operator, times_operator, minus_operator, over_operator, div_operator, mod_operator, abs_operator, to_real_operator, to_int_operator, is_int_operator, has_sort, all_terms, term_count, takes, operands_of, numbers_at, operator_head}
use Rattle.nz_spec.specs.terms.WellSorted.{AreOperands, IsApplied, IsSortedHead, IsWellSorted, AreWellSorted, NormalStaysSorted, SameSorts}
use Rattle.nz_spec.proofs.Sorted.{same_sorts}
use Rattle.nz_spec.proofs.SameSorts.{applied_same}

-- what has a sort is of it
pub of_sort : (s : Sort) (t : Term) → has_sort s t ≡ true → sort_of t ≡ s
of_sort s t e = sym (same_sorts s (sort_of t) e)

to_sort : (s : Sort) (t : Term) → sort_of t ≡ s → has_sort s t ≡ true
to_sort s t e = ap (are_same_sort s) e ∙ one_sort s
  where
    one_sort : (s : Sort) → are_same_sort s s ≡ true
    one_sort bool_sort = refl
    one_sort int_sort = refl
    one_sort real_sort = refl

pub first_has : (s : Sort) (t : Term) (ts : Terms) → all_terms (has_sort s) (terms t ts) ≡ true → has_sort s t ≡ true
first_has s t ts e = (and_parts (has_sort s t) (all_terms (has_sort s) ts) e).0

rest_have : (s : Sort) (t : Term) (ts : Terms) → all_terms (has_sort s) (terms t ts) ≡ true → all_terms (has_sort s) ts ≡ true
rest_have s t ts e = (and_parts (has_sort s t) (all_terms (has_sort s) ts) e).1

both_have : (s : Sort) (t u : Term) → has_sort s t ≡ true → has_sort s u ≡ true → all_terms (has_sort s) (terms t (terms u no_terms)) ≡ true
both_have s t u e f = and_from (has_sort s t) (has_sort s u && true) e (and_from (has_sort s u) true f refl)

above_zero : (n : ℕ) → nat_lt 0 (suc n) ≡ true
above_zero n = grind (arith, nat_tests)

module _ (ss : List Sort) where
  -- well sorted, and of this sort
  abbrev Fits : Sort → Term → Type 0
  Fits s t = IsWellSorted ss t × (sort_of t ≡ s)

  -- two terms of one sort make a term of another
  abbrev Pairs : Sort → Sort → (Term → Term → Term) → Type 0
  Pairs s r pair = (t u : Term) → Fits s t → Fits s u → Fits r (pair t u)

  equation_fits : (s : Sort) → Pairs s bool_sort (paired equality)
  equation_fits s t u h k = (
    (
      record { operator = equals_operator; sort = s; is = refl; count = refl; operands = both_have s t u (to_sort s t h.1) (to_sort s u k.1) },
      (h.0, (k.0, tt)),
    ),
    refl,
  )

  exclusion_fits : Pairs bool_sort bool_sort (paired exclusion)
  exclusion_fits t u h k = (
    (
      record { operator = xor_operator; sort = bool_sort; is = refl; count = refl; operands = both_have bool_sort t u (to_sort bool_sort t h.1) (to_sort bool_sort u k.1) },
      (h.0, (k.0, tt)),
    ),
    refl,
  )

  disjunction_fits : Pairs bool_sort bool_sort (paired disjunction)
  disjunction_fits t u h k = (
    (
      record { operator = or_operator; sort = bool_sort; is = refl; count = refl; operands = both_have bool_sort t u (to_sort bool_sort t h.1) (to_sort bool_sort u k.1) },
      (h.0, (k.0, tt)),
    ),
    refl,
  )

  less_fits : (s : Sort) → not (is_bool s) ≡ true → Pairs s bool_sort (paired less)
  less_fits s n t u h k = (
    (
      record {
        operator = less_operator;
        sort = s;
        is = refl;
        count = refl;
        operands = and_from (not (is_bool s)) (all_terms (has_sort s) (terms t (terms u no_terms))) n (both_have s t u (to_sort s t h.1) (to_sort s u k.1));
      },
      (h.0, (k.0, tt)),
    ),
    refl,
  )

  at_most_fits : (s : Sort) → not (is_bool s) ≡ true → Pairs s bool_sort (paired at_most)
  at_most_fits s n t u h k = (
    (
      record {
        operator = at_most_operator;
        sort = s;
        is = refl;
        count = refl;
        operands = and_from (not (is_bool s)) (all_terms (has_sort s) (terms t (terms u no_terms))) n (both_have s t u (to_sort s t h.1) (to_sort s u k.1));
      },
      (h.0, (k.0, tt)),
    ),
    refl,
  )

  quotient_fits : Pairs real_sort real_sort (paired quotient)
  quotient_fits t u h k = (
    (
      record { operator = over_operator; sort = real_sort; is = refl; count = refl; operands = both_have real_sort t u (to_sort real_sort t h.1) (to_sort real_sort u k.1) },
      (h.0, (k.0, tt)),
    ),
    refl,
  )

  division_fits : Pairs int_sort int_sort (paired integer_quotient)
  division_fits t u h k = (
    (
      record { operator = div_operator; sort = int_sort; is = refl; count = refl; operands = both_have int_sort t u (to_sort int_sort t h.1) (to_sort int_sort u k.1) },
      (h.0, (k.0, tt)),
    ),
    refl,
  )

  negated_fits : (t : Term) → Fits bool_sort t → Fits bool_sort (negated t)
  negated_fits t h = (
    (
      record { operator = not_operator; sort = bool_sort; is = refl; count = refl; operands = and_from (has_sort bool_sort t) true (to_sort bool_sort t h.1) refl },
      (h.0, tt),
    ),
    refl,
  )

  -- ---- Lists

  -- terms of one sort, well sorted
  abbrev AllFit : Sort → Terms → Type 0
  AllFit s ts = AreWellSorted ss ts × (all_terms (has_sort s) ts ≡ true)

  first_fits : (s : Sort) (t : Term) (ts : Terms) → AllFit s (terms t ts) → Fits s t
  first_fits s t ts h = (h.0.0, of_sort s t (first_has s t ts h.1))

  rest_fit : (s : Sort) (t : Term) (ts : Terms) → AllFit s (terms t ts) → AllFit s ts
  rest_fit s t ts h = (h.0.1, rest_have s t ts h.1)

  more_fit : (s : Sort) (t : Term) (ts : Terms) → Fits s t → AllFit s ts → AllFit s (terms t ts)
  more_fit s t ts h k = ((h.0, k.0), and_from (has_sort s t) (all_terms (has_sort s) ts) (to_sort s t h.1) k.1)

  -- one, or more than one under `and`, and under `or`
  all_fits : (t : Term) (ts : Terms) → AllFit bool_sort (terms t ts) → Fits bool_sort (joined_by conjunction (terms t ts))
  all_fits t no_terms h = first_fits bool_sort t no_terms h
  all_fits t (terms u ts) h = ((record { operator = and_operator; sort = bool_sort; is = refl; count = above_zero (suc (term_count ts)); operands = h.1 }, h.0), refl)

  some_fits : (t : Term) (ts : Terms) → AllFit bool_sort (terms t ts) → Fits bool_sort (joined_by disjunction (terms t ts))
  some_fits t no_terms h = first_fits bool_sort t no_terms h
  some_fits t (terms u ts) h = ((record { operator = or_operator; sort = bool_sort; is = refl; count = above_zero (suc (term_count ts)); operands = h.1 }, h.0), refl)

  implied_fits : (t : Term) (ts : Terms) → AllFit bool_sort (terms t ts) → Fits bool_sort (implication_of (terms t ts))
  implied_fits t no_terms h = first_fits bool_sort t no_terms h
  implied_fits t (terms u ts) h =
      disjunction_fits (negated t) (implication_of (terms u ts)) (negated_fits t (first_fits bool_sort t (terms u ts) h)) (implied_fits u ts (rest_fit bool_sort t (terms u ts) h))

  grouped_fits : (s : Sort) (h : Head) → Pairs s s (paired h) → (t : Term) (ts : Terms) → Fits s t → AllFit s ts → Fits s (grouped_onto h t ts)
  grouped_fits s h pairs t no_terms k l = k
  grouped_fits s h pairs t (terms u ts) k l =
      grouped_fits s h pairs (paired h t u) ts (pairs t u k (first_fits s u ts l)) (rest_fit s u ts l)

  neighbours_fit : (s : Sort) (pair : Term → Term → Term) → Pairs s bool_sort pair → (ts : Terms) → AllFit s ts → AllFit bool_sort (neighbours_of pair ts)
  neighbours_fit s pair pairs no_terms h = (tt, refl)
  neighbours_fit s pair pairs (terms t no_terms) h = (tt, refl)
  neighbours_fit s pair pairs (terms t (terms u ts)) h =
      let rest = rest_fit s t (terms u ts) h in
      more_fit bool_sort (pair t u) (neighbours_of pair (terms u ts)) (pairs t u (first_fits s t (terms u ts) h) (first_fits s u ts rest)) (neighbours_fit s pair pairs (terms u ts) rest)

  -- what is chained has two terms at least
  chained_fits : (s : Sort) (pair : Term → Term → Term) → Pairs s bool_sort pair → (ts : Terms) → nat_lt 1 (term_count ts) ≡ true → AllFit s ts
      → Fits bool_sort (joined_by conjunction (neighbours_of pair ts))
  chained_fits s pair pairs no_terms n h = absurd (true≢false (sym n))
  chained_fits s pair pairs (terms t no_terms) n h = absurd (true≢false (sym n))
  chained_fits s pair pairs (terms t (terms u ts)) n h =
      all_fits (pair t u) (neighbours_of pair (terms u ts)) (neighbours_fit s pair pairs (terms t (terms u ts)) h)

  onto_fit : (s : Sort) (t : Term) (ts others : Terms) → Fits s t → AllFit s ts → AllFit bool_sort others → AllFit bool_sort (disequations_onto t ts others)
  onto_fit s t no_terms others h k l = l
  onto_fit s t (terms u ts) others h k l =
      more_fit bool_sort (negated (paired equality t u)) (disequations_onto t ts others)
      (negated_fits (paired equality t u) (equation_fits s t u h (first_fits s u ts k)))
      (onto_fit s t ts others h (rest_fit s u ts k) l)

  disequations_fit : (s : Sort) (ts : Terms) → AllFit s ts → AllFit bool_sort (disequations_of ts)
  disequations_fit s no_terms h = (tt, refl)
  disequations_fit s (terms t ts) h =
      onto_fit s t ts (disequations_of ts) (first_fits s t ts h) (rest_fit s t ts h) (disequations_fit s ts (rest_fit s t ts h))

  distinct_fits : (s : Sort) (ts : Terms) → nat_lt 1 (term_count ts) ≡ true → AllFit s ts → Fits bool_sort (joined_by conjunction (disequations_of ts))
  distinct_fits s no_terms n h = absurd (true≢false (sym n))
  distinct_fits s (terms t no_terms) n h = absurd (true≢false (sym n))
  distinct_fits s (terms t (terms u ts)) n h =
      all_fits (negated (paired equality t u)) (disequations_onto t ts (disequations_of (terms u ts))) (disequations_fit s (terms t (terms u ts)) h)

  -- ---- Numbers

  -- terms that are read at a sort of numbers
  read_over : (s : Sort) → not (is_bool s) ≡ true → s ≡ sort_over (numbers_at s)
  read_over bool_sort n = absurd (true≢false (sym n))
  read_over int_sort n = refl
  read_over real_sort n = refl

  sum_fits : (s : Sort) (ts : Terms) → nat_lt 0 (term_count ts) ≡ true → AreOperands (operands_of plus_operator) s ts → AreWellSorted ss ts
      → Fits (sort_over (numbers_at s)) (joined_by (sum (numbers_at s)) ts)
  sum_fits s no_terms n e k = absurd (true≢false (sym n))
  sum_fits s (terms t no_terms) n e k =
      let both = and_parts (not (is_bool s)) (all_terms (has_sort s) (terms t no_terms)) e in
      (k.0, of_sort s t (first_has s t no_terms both.1) ∙ read_over s both.0)
  sum_fits s (terms t (terms u ts)) n e k = ((record { operator = plus_operator; sort = s; is = refl; count = n; operands = e }, k), refl)

  product_fits : (s : Sort) (ts : Terms) → nat_lt 0 (term_count ts) ≡ true → AreOperands (operands_of times_operator) s ts → AreWellSorted ss ts
      → Fits (sort_over (numbers_at s)) (joined_by (product (numbers_at s)) ts)
  product_fits s no_terms n e k = absurd (true≢false (sym n))
  product_fits s (terms t no_terms) n e k =
      let both = and_parts (not (is_bool s)) (all_terms (has_sort s) (terms t no_terms)) e in
      (k.0, of_sort s t (first_has s t no_terms both.1) ∙ read_over s both.0)
  product_fits s (terms t (terms u ts)) n e k = ((record { operator = times_operator; sort = s; is = refl; count = n; operands = e }, k), refl)

  -- ---- Operators

  numbers_of : (s : Sort) (ts : Terms) → (not (is_bool s) && all_terms (has_sort s) ts) ≡ true → (not (is_bool s) ≡ true) × (all_terms (has_sort s) ts ≡ true)
  numbers_of s ts e = and_parts (not (is_bool s)) (all_terms (has_sort s) ts) e

  turned_fits : (s : Sort) (h : Head) → Pairs s bool_sort (paired h) → Pairs s bool_sort (turned h)
  turned_fits s h pairs t u k l = pairs u t l k

  grouped_from : (s : Sort) (h : Head) → Pairs s s (paired h) → (ts : Terms) → nat_lt 1 (term_count ts) ≡ true → AllFit s ts → Fits s (grouped_by h ts)
  grouped_from s h pairs no_terms n k = absurd (true≢false (sym n))
  grouped_from s h pairs (terms t ts) n k = grouped_fits s h pairs t ts (first_fits s t ts k) (rest_fit s t ts k)

  joined_from : (h : Head) → ((t : Term) (ts : Terms) → AllFit bool_sort (terms t ts) → Fits bool_sort (joined_by h (terms t ts))) → (ts : Terms) → nat_lt 0 (term_count ts) ≡ true → AllFit bool_sort ts → Fits bool_sort (joined_by h ts)
  joined_from h fits no_terms n k = absurd (true≢false (sym n))
  joined_from h fits (terms t ts) n k = fits t ts k

  implied_from : (ts : Terms) → nat_lt 1 (term_count ts) ≡ true → AllFit bool_sort ts → Fits bool_sort (implication_of ts)
  implied_from no_terms n k = absurd (true≢false (sym n))
  implied_from (terms t ts) n k = implied_fits t ts k

  operator_fits : (o : Operator) (s : Sort) (ts : Terms) → takes o (term_count ts) ≡ true → AreOperands (operands_of o) s ts → AreWellSorted ss ts
      → Fits (head_sort (operator_head o s)) (normal_node (operator_head o s) ts)
  operator_fits true_operator s ts n e k = ((record { operator = true_operator; sort = s; is = refl; count = n; operands = e }, k), refl)
  operator_fits false_operator s ts n e k = ((record { operator = false_operator; sort = s; is = refl; count = n; operands = e }, k), refl)
  operator_fits not_operator s ts n e k = ((record { operator = not_operator; sort = s; is = refl; count = n; operands = e }, k), refl)
  operator_fits and_operator s ts n e k = joined_from conjunction all_fits ts n (k, e)
  operator_fits or_operator s ts n e k = joined_from disjunction some_fits ts n (k, e)
  operator_fits implies_operator s ts n e k = implied_from ts n (k, e)
  operator_fits xor_operator s ts n e k = grouped_from bool_sort exclusion exclusion_fits ts n (k, e)
  operator_fits equals_operator s ts n e k = chained_fits s (paired equality) (equation_fits s) ts n (k, e)
  operator_fits distinct_operator s ts n e k = distinct_fits s ts n (k, e)
  operator_fits ite_operator s ts n e k = ((record { operator = ite_operator; sort = s; is = refl; count = n; operands = e }, k), refl)
  operator_fits at_most_operator s ts n e k = let both = numbers_of s ts e in chained_fits s (paired at_most) (at_most_fits s both.0) ts n (k, both.1)
  operator_fits less_operator s ts n e k = let both = numbers_of s ts e in chained_fits s (paired less) (less_fits s both.0) ts n (k, both.1)
  operator_fits at_least_operator s ts n e k =
      let both = numbers_of s ts e in chained_fits s (turned at_most) (turned_fits s at_most (at_most_fits s both.0)) ts n (k, both.1)
  operator_fits greater_operator s ts n e k =
      let both = numbers_of s ts e in chained_fits s (turned less) (turned_fits s less (less_fits s both.0)) ts n (k, both.1)
  operator_fits plus_operator s ts n e k = sum_fits s ts n e k
  operator_fits times_operator s ts n e k = product_fits s ts n e k
  operator_fits minus_operator s ts n e k = ((record { operator = minus_operator; sort = s; is = refl; count = n; operands = e }, k), refl)
  operator_fits over_operator s ts n e k = grouped_from real_sort quotient quotient_fits ts n (k, e)
  operator_fits div_operator s ts n e k = grouped_from int_sort integer_quotient division_fits ts n (k, e)
  operator_fits mod_operator s ts n e k = ((record { operator = mod_operator; sort = s; is = refl; count = n; operands = e }, k), refl)
  operator_fits abs_operator s ts n e k = ((record { operator = abs_operator; sort = s; is = refl; count = n; operands = e }, k), refl)
  operator_fits to_real_operator s ts n e k = ((record { operator = to_real_operator; sort = s; is = refl; count = n; operands = e }, k), refl)
  operator_fits to_int_operator s ts n e k = ((record { operator = to_int_operator; sort = s; is = refl; count = n; operands = e }, k), refl)
  operator_fits is_int_operator s ts n e k = ((record { operator = is_int_operator; sort = s; is = refl; count = n; operands = e }, k), refl)

  applied_fits : (h : Head) (ts : Terms) → IsApplied h ts → AreWellSorted ss ts → Fits (head_sort h) (normal_node h ts)
  applied_fits h ts i k = subst (λ (g : Head). Fits (head_sort g) (normal_node g ts)) (sym i.is) (operator_fits i.operator i.sort ts i.count i.operands k)

  none : (ts us : Terms) → SameSorts ts us → ts ≡ no_terms → us ≡ no_terms
  none no_terms no_terms r e = refl
  none no_terms (terms u us) r e = absurd r
  none (terms t ts) no_terms r e = refl
  none (terms t ts) (terms u us) r e = absurd (cc)

  -- a head over normal terms of the same sorts
  node_fits : (h : Head) (ts us : Terms) → IsSortedHead ss h ts → SameSorts ts us → AreWellSorted ss us → Fits (head_sort h) (normal_node h us)
  node_fits (constant c) ts us i r k = ((none ts us r i, k), refl)
  node_fits (parameter n s) ts us i r k = (((i.0, none ts us r i.1), k), refl)
  node_fits (integer n) ts us i r k = ((none ts us r i, k), refl)
  node_fits (decimal_number n places) ts us i r k = ((none ts us r i, k), refl)
  node_fits h ts us i r k = applied_fits h us (applied_same h ts us r i) k

  mutual
    normal_fits : (t : Term) → IsWellSorted ss t → Fits (sort_of t) (normal_of t)
    normal_fits (apply h ts) i = node_fits h ts (normals_of ts) i.0 (same_all ts i.1) (all_normal ts i.1)

    all_normal : (ts : Terms) → AreWellSorted ss ts → AreWellSorted ss (normals_of ts)
    all_normal no_terms i = tt
    all_normal (terms t ts) i = ((normal_fits t i.0).0, all_normal ts i.1)

    same_all : (ts : Terms) → AreWellSorted ss ts → SameSorts ts (normals_of ts)
    same_all no_terms i = tt
    same_all (terms t ts) i = ((normal_fits t i.0).1, same_all ts i.1)

pub normal_stays_sorted : NormalStaysSorted
normal_stays_sorted ss t i = normal_fits ss t i
