-- The heads of normal terms of well sorted ones: where a term holds no unit of sort Int, all are taken.
use Rattle.std.proofs.Common.{◌≡◌, suc, true, false, ◌==◌, [], refl, sym, ap, subst, ◌∙◌, true≢false, arith, eqb-true}
use Rattle.std.specs.Prelude.{⊤, nat_lt}
use Rattle.std.proofs.lemmas.Bool.{or_parts}
use Rattle.std.proofs.lemmas.Option.{none-some}
use Rattle.nz_spec.specs.terms.Term.{Sort, bool_sort, int_sort, real_sort, is_int_sort, Constant, Head, constant, parameter, integer, decimal_number, verum, falsum, negation, conjunction, disjunction, exclusion, equality, choice, less, at_most, sum, product, quotient, integer_quotient, to_real, Term, apply, Terms, no_terms, terms, is_integral, holds_integer, hold_integer}
use Rattle.nz_spec.specs.terms.Normal.{negated, paired, turned, implication_of, grouped_onto, grouped_by, neighbours_of, disequations_onto, disequations_of, joined_by, chained_by, normal_node, normal_of, normals_of}
use Rattle.nz_spec.specs.terms.Operators.{Operator, true_operator, false_operator, not_operator, and_operator, or_operator, implies_operator, xor_operator, equals_operator, distinct_operator, ite_operator, at_most_operator, less_operator, at_least_operator, greater_operator, plus_operator, times_operator, minus_operator, over_operator, div_operator, mod_operator, abs_operator, to_real_operator, to_int_operator, is_int_operator, term_count, takes, numbers_at, operator_head}
use Rattle.nz_spec.specs.terms.WellSorted.{IsApplied, IsSortedHead, IsWellSorted, AreWellSorted}
use Rattle.nz_spec.specs.terms.Taken.{IsTakenHead, HasTakenHeads, HaveTakenHeads}

-- taken, where it holds no unit of sort Int
abbrev pub HasHeads : Term → Type 0
HasHeads t = holds_integer t ≡ false → HasTakenHeads t

abbrev HaveHeads : Terms → Type 0
HaveHeads no_terms = ⊤
HaveHeads (terms t ts) = HasHeads t × HaveHeads ts

all_taken : (ts : Terms) → HaveHeads ts → hold_integer ts ≡ false → HaveTakenHeads ts
all_taken no_terms h e = tt
all_taken (terms t ts) h e =
    let parts = or_parts (holds_integer t) (hold_integer ts) e in (h.0 parts.0, all_taken ts h.1 parts.1)

-- a head that is taken over such terms
node : (h : Head) (ts : Terms) → IsTakenHead h ts → HaveHeads ts → HasHeads (apply h ts)
node h ts r k e = (r, all_taken ts k (or_parts (is_integral h) (hold_integer ts) e).1)

-- a head that makes a unit of sort Int, or asks for one
integral : (h : Head) (ts : Terms) → is_integral h ≡ true → HasHeads (apply h ts)
integral h ts i e = absurd (true≢false (sym i ∙ (or_parts (is_integral h) (hold_integer ts) e).0))

-- ---- Operators that are written out

-- of such terms a pair is one
abbrev Pairs : (Term → Term → Term) → Type 0
Pairs pair = (t u : Term) → HasHeads t → HasHeads u → HasHeads (pair t u)

paired_heads : (h : Head) → ((t u : Term) → IsTakenHead h (terms t (terms u no_terms))) → Pairs (paired h)
paired_heads h taken t u k l = node h (terms t (terms u no_terms)) (taken t u) (k, (l, tt))

turned_heads : (h : Head) → Pairs (paired h) → Pairs (turned h)
turned_heads h pairs t u k l = pairs u t l k

negated_heads : (t : Term) → HasHeads t → HasHeads (negated t)
negated_heads t k = node negation (terms t no_terms) tt (k, tt)

joined_heads : (h : Head) → ((ts : Terms) → IsTakenHead h ts) → (ts : Terms) → HaveHeads ts → HasHeads (joined_by h ts)
joined_heads h taken no_terms k = node h no_terms (taken no_terms) k
joined_heads h taken (terms t no_terms) k = k.0
joined_heads h taken (terms t (terms u ts)) k = node h (terms t (terms u ts)) (taken (terms t (terms u ts))) k

implied_heads : (ts : Terms) → HaveHeads ts → HasHeads (implication_of ts)
implied_heads no_terms k = node verum no_terms tt tt
implied_heads (terms t no_terms) k = k.0
implied_heads (terms t (terms u ts)) k =
    paired_heads disjunction (λ t u. tt) (negated t) (implication_of (terms u ts)) (negated_heads t k.0) (implied_heads (terms u ts) k.1)

grouped_heads : (h : Head) → Pairs (paired h) → (t : Term) (ts : Terms) → HasHeads t → HaveHeads ts → HasHeads (grouped_onto h t ts)
grouped_heads h pairs t no_terms k l = k
grouped_heads h pairs t (terms u ts) k l = grouped_heads h pairs (paired h t u) ts (pairs t u k l.0) l.1

grouped_from : (h : Head) → Pairs (paired h) → (ts : Terms) → nat_lt 1 (term_count ts) ≡ true → HaveHeads ts → HasHeads (grouped_by h ts)
grouped_from h pairs no_terms n k = absurd (true≢false (sym n))
grouped_from h pairs (terms t ts) n k = grouped_heads h pairs t ts k.0 k.1

neighbours_heads : (pair : Term → Term → Term) → Pairs pair → (ts : Terms) → HaveHeads ts → HaveHeads (neighbours_of pair ts)
neighbours_heads pair pairs no_terms k = tt
neighbours_heads pair pairs (terms t no_terms) k = tt
neighbours_heads pair pairs (terms t (terms u ts)) k = (pairs t u k.0 k.1.0, neighbours_heads pair pairs (terms u ts) k.1)

all_heads : (ts : Terms) → HaveHeads ts → HasHeads (joined_by conjunction ts)
all_heads ts k = joined_heads conjunction (λ ts. tt) ts k

chained_heads : (pair : Term → Term → Term) → Pairs pair → (ts : Terms) → HaveHeads ts → HasHeads (chained_by pair ts)
chained_heads pair pairs ts k = all_heads (neighbours_of pair ts) (neighbours_heads pair pairs ts k)

equation_heads : Pairs (paired equality)
equation_heads = paired_heads equality (λ t u. tt)

onto_heads : (t : Term) (ts others : Terms) → HasHeads t → HaveHeads ts → HaveHeads others → HaveHeads (disequations_onto t ts others)
onto_heads t no_terms others k l m = m
onto_heads t (terms u ts) others k l m = (negated_heads (paired equality t u) (equation_heads t u k l.0), onto_heads t ts others k l.1 m)

disequations_heads : (ts : Terms) → HaveHeads ts → HaveHeads (disequations_of ts)
disequations_heads no_terms k = tt
disequations_heads (terms t ts) k = onto_heads t ts (disequations_of ts) k.0 k.1 (disequations_heads ts k.1)

-- ---- As many arguments as an operator takes

over_none : (h : Head) → IsTakenHead h no_terms → (ts : Terms) → (term_count ts == 0) ≡ true → HaveHeads ts → HasHeads (apply h ts)
over_none h taken no_terms n k = node h no_terms taken k
over_none h taken (terms t ts) n k = absurd (omega (arith, eqb-true (term_count (terms t ts)) 0 n))

over_one : (h : Head) → ((t : Term) → IsTakenHead h (terms t no_terms)) → (ts : Terms) → (term_count ts == 1) ≡ true → HaveHeads ts → HasHeads (apply h ts)
over_one h taken no_terms n k = absurd (true≢false (sym n))
over_one h taken (terms t no_terms) n k = node h (terms t no_terms) (taken t) k
over_one h taken (terms t (terms u ts)) n k = absurd (omega (arith, eqb-true (term_count (terms t (terms u ts))) 1 n))

over_three : (h : Head) → ((t u v : Term) → IsTakenHead h (terms t (terms u (terms v no_terms)))) → (ts : Terms) → (term_count ts == 3) ≡ true → HaveHeads ts
    → HasHeads (apply h ts)
over_three h taken no_terms n k = absurd (true≢false (sym n))
over_three h taken (terms t no_terms) n k = absurd (true≢false (sym n))
over_three h taken (terms t (terms u no_terms)) n k = absurd (true≢false (sym n))
over_three h taken (terms t (terms u (terms v no_terms))) n k = node h (terms t (terms u (terms v no_terms))) (taken t u v) k
over_three h taken (terms t (terms u (terms v (terms w ts)))) n k = absurd (omega (arith, eqb-true (term_count (terms t (terms u (terms v (terms w ts))))) 3 n))

choice_heads : (s : Sort) (ts : Terms) → (term_count ts == 3) ≡ true → HaveHeads ts → HasHeads (apply (choice s) ts)
choice_heads bool_sort ts n k = over_three (choice bool_sort) (λ t u v. tt) ts n k
choice_heads int_sort ts n k = integral (choice int_sort) ts refl
choice_heads real_sort ts n k = over_three (choice real_sort) (λ t u v. tt) ts n k

-- ---- Normal terms of well sorted terms

operator_heads : (o : Operator) (s : Sort) (ts : Terms) → takes o (term_count ts) ≡ true → HaveHeads ts → HasHeads (normal_node (operator_head o s) ts)
operator_heads true_operator s ts n k = over_none verum tt ts n k
operator_heads false_operator s ts n k = over_none falsum tt ts n k
operator_heads not_operator s ts n k = over_one negation (λ t. tt) ts n k
operator_heads and_operator s ts n k = all_heads ts k
operator_heads or_operator s ts n k = joined_heads disjunction (λ ts. tt) ts k
operator_heads implies_operator s ts n k = implied_heads ts k
operator_heads xor_operator s ts n k = grouped_from exclusion (paired_heads exclusion (λ t u. tt)) ts n k
operator_heads equals_operator s ts n k = chained_heads (paired equality) equation_heads ts k
operator_heads distinct_operator s ts n k = all_heads (disequations_of ts) (disequations_heads ts k)
operator_heads ite_operator s ts n k = choice_heads s ts n k
operator_heads at_most_operator s ts n k = chained_heads (paired at_most) (paired_heads at_most (λ t u. tt)) ts k
operator_heads less_operator s ts n k = chained_heads (paired less) (paired_heads less (λ t u. tt)) ts k
operator_heads at_least_operator s ts n k = chained_heads (turned at_most) (turned_heads at_most (paired_heads at_most (λ t u. tt))) ts k
operator_heads greater_operator s ts n k = chained_heads (turned less) (turned_heads less (paired_heads less (λ t u. tt))) ts k
operator_heads plus_operator s ts n k = joined_heads (sum (numbers_at s)) (λ ts. tt) ts k
operator_heads times_operator s ts n k = joined_heads (product (numbers_at s)) (λ ts. tt) ts k
operator_heads minus_operator s ts n k = node (operator_head minus_operator s) ts tt k
operator_heads over_operator s ts n k = grouped_from quotient (paired_heads quotient (λ t u. tt)) ts n k
operator_heads div_operator s ts n k = grouped_from integer_quotient (λ t u k l. integral integer_quotient (terms t (terms u no_terms)) refl) ts n k
operator_heads mod_operator s ts n k = integral (operator_head mod_operator s) ts refl
operator_heads abs_operator s ts n k = integral (operator_head abs_operator s) ts refl
operator_heads to_real_operator s ts n k = over_one to_real (λ t. tt) ts n k
operator_heads to_int_operator s ts n k = integral (operator_head to_int_operator s) ts refl
operator_heads is_int_operator s ts n k = integral (operator_head is_int_operator s) ts refl

count_normal : (ts : Terms) → term_count (normals_of ts) ≡ term_count ts
count_normal no_terms = refl
count_normal (terms t ts) = ap suc (count_normal ts)

applied_heads : (h : Head) (ts : Terms) → IsApplied h ts → HaveHeads (normals_of ts) → HasHeads (normal_node h (normals_of ts))
applied_heads h ts i k =
    subst (λ (g : Head). HasHeads (normal_node g (normals_of ts))) (sym i.is)
    (operator_heads i.operator i.sort (normals_of ts) (ap (takes i.operator) (count_normal ts) ∙ i.count) k)

-- what has no arguments
leaf_heads : (h : Head) → HasHeads (apply h no_terms) → (ts : Terms) → ts ≡ no_terms → HasHeads (apply h (normals_of ts))
leaf_heads h taken ts e = subst (λ (us : Terms). HasHeads (apply h us)) (sym (ap normals_of e)) taken

constant_heads : (c : Constant) → HasHeads (apply (constant c) no_terms)
constant_heads c e = ((or_parts (is_int_sort c.sort) false e).0, tt)

head_heads : (h : Head) (ts : Terms) → IsSortedHead [] h ts → HaveHeads (normals_of ts) → HasHeads (normal_node h (normals_of ts))
head_heads (constant c) ts i k = leaf_heads (constant c) (constant_heads c) ts i
head_heads (parameter n s) ts i k = absurd (none-some s i.0)
head_heads (integer n) ts i k = leaf_heads (integer n) (node (integer n) no_terms tt tt) ts i
head_heads (decimal_number n places) ts i k = leaf_heads (decimal_number n places) (node (decimal_number n places) no_terms tt tt) ts i
head_heads h ts i k = applied_heads h ts i k

mutual
  pub normal_heads : (t : Term) → IsWellSorted [] t → HasHeads (normal_of t)
  normal_heads (apply h ts) w = head_heads h ts w.0 (normals_heads ts w.1)

  normals_heads : (ts : Terms) → AreWellSorted [] ts → HaveHeads (normals_of ts)
  normals_heads no_terms w = tt
  normals_heads (terms t ts) w = (normal_heads t w.0, normals_heads ts w.1)
