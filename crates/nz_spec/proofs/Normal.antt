-- A term and its normal term have one value.
use Rattle.std.proofs.Common.{◌≡◌, Bool, false, not, ◌&&◌, ◌||◌, List, [], ◌∷◌, refl, sym, ap, ◌∙◌}
use Rattle.std.specs.List.{list_all, list_any}
use Rattle.std.proofs.Math.Bool.{and-true, or-false}
use Rattle.nz_lists.proofs.Tests.{not_or}
use Rattle.nz_spec.specs.terms.Term.{NumberSort, Head, constant, parameter, integer, decimal_number, verum, falsum, negation, conjunction, disjunction, implication, exclusion, equality, distinction, choice, less, at_most, greater, at_least, sum, difference, product, quotient, integer_quotient, modulus, magnitude, to_real, to_int, is_int, Term, apply, Terms, no_terms, terms, Value, truth, Assignment, is_true, are_equal, is_less, is_at_most, implied, all_true, excluded, are_chained, are_distinct, combined, carried_out, divided, head_value, value_of, values_of}
use Rattle.nz_fractions.specs.Fraction.{Quotient}
use Rattle.nz_spec.specs.terms.Normal.{paired, turned, implication_of, grouped_onto, neighbours_of, disequations_onto, disequations_of, joined_by, chained_by, normal_node, normals_of, NormalKeepsValue}

-- ---- The normal terms of an operator

implication_keeps : (a : Assignment) (ts : Terms) → value_of a (implication_of ts) ≡ implied (values_of a ts)
implication_keeps a no_terms = refl
implication_keeps a (terms t no_terms) = refl
implication_keeps a (terms t (terms u ts)) =
    let premise = not (is_true (value_of a t)) in
    ap (λ v. truth (premise || (is_true v || false))) (implication_keeps a (terms u ts))
    ∙ ap (λ b. truth (premise || b)) (or-false (is_true (implied (values_of a (terms u ts)))))

-- what an operator of two arguments makes of pairs, one after another
grouped_keeps : (a : Assignment) (h : Head) (f : Value → Value → Value) → ((v w : Value) → head_value a h (v ∷ w ∷ []) ≡ f v w)
    → (t : Term) (ts : Terms) → value_of a (grouped_onto h t ts) ≡ combined f (value_of a t) (values_of a ts)
grouped_keeps a h f same t no_terms = refl
grouped_keeps a h f same t (terms u ts) =
    grouped_keeps a h f same (paired h t u) ts ∙ ap (λ v. combined f v (values_of a ts)) (same (value_of a t) (value_of a u))

-- what is said of each term and the next is all true where the values are chained
neighbours_keep : (a : Assignment) (pair : Term → Term → Term) (related : Value → Value → Bool)
    → ((t u : Term) → value_of a (pair t u) ≡ truth (related (value_of a t) (value_of a u)))
    → (ts : Terms) → list_all is_true (values_of a (neighbours_of pair ts)) ≡ are_chained related (values_of a ts)
neighbours_keep a pair related same no_terms = refl
neighbours_keep a pair related same (terms t no_terms) = refl
neighbours_keep a pair related same (terms t (terms u ts)) =
    let rest = values_of a (neighbours_of pair (terms u ts)) in
    ap (λ v. is_true v && list_all is_true rest) (same t u)
    ∙ ap (λ b. related (value_of a t) (value_of a u) && b) (neighbours_keep a pair related same (terms u ts))

chained_keeps : (a : Assignment) (pair : Term → Term → Term) (related : Value → Value → Bool)
    → ((t u : Term) → value_of a (pair t u) ≡ truth (related (value_of a t) (value_of a u)))
    → (ts : Terms) → value_of a (chained_by pair ts) ≡ truth (are_chained related (values_of a ts))
chained_keeps a pair related same no_terms = refl
chained_keeps a pair related same (terms t no_terms) = refl
chained_keeps a pair related same (terms t (terms u no_terms)) = same t u ∙ ap truth (sym (and-true (related (value_of a t) (value_of a u))))
chained_keeps a pair related same (terms t (terms u (terms v ts))) = ap truth (neighbours_keep a pair related same (terms t (terms u (terms v ts))))

pair_keeps : (related : Value → Value → Bool) (v w : Value) → truth (are_chained related (v ∷ w ∷ [])) ≡ truth (related v w)
pair_keeps related v w = ap truth (and-true (related v w))

-- the disequations of one term are all true where its value is none of the others
disequations_onto_keep : (a : Assignment) (t : Term) (ts others : Terms)
    → list_all is_true (values_of a (disequations_onto t ts others))
    ≡ (not (list_any (are_equal (value_of a t)) (values_of a ts)) && list_all is_true (values_of a others))
disequations_onto_keep a t no_terms others = refl
disequations_onto_keep a t (terms u ts) others =
    let same = are_equal (value_of a t) (value_of a u) in
    let rest = list_all is_true (values_of a (disequations_onto t ts others)) in
    ap (λ b. not b && rest) (and-true same)
    ∙ ap (λ b. not same && b) (disequations_onto_keep a t ts others)
    ∙ not_or same (list_any (are_equal (value_of a t)) (values_of a ts)) (list_all is_true (values_of a others))

disequations_keep : (a : Assignment) (ts : Terms) → list_all is_true (values_of a (disequations_of ts)) ≡ are_distinct (values_of a ts)
disequations_keep a no_terms = refl
disequations_keep a (terms t ts) =
    disequations_onto_keep a t ts (disequations_of ts)
    ∙ ap (λ b. not (list_any (are_equal (value_of a t)) (values_of a ts)) && b) (disequations_keep a ts)

-- Denied equations have truths for their values, so their conjunction has one too.
data AreTruths : List Value → Type 0 where
  no_truths : AreTruths []
  one_truth : {b : Bool} {vs : List Value} → AreTruths vs → AreTruths (truth b ∷ vs)

disequations_onto_truths : (a : Assignment) (t : Term) (ts others : Terms) → AreTruths (values_of a others) → AreTruths (values_of a (disequations_onto t ts others))
disequations_onto_truths a t no_terms others h = h
disequations_onto_truths a t (terms u ts) others h = one_truth (disequations_onto_truths a t ts others h)

disequations_truths : (a : Assignment) (ts : Terms) → AreTruths (values_of a (disequations_of ts))
disequations_truths a no_terms = no_truths
disequations_truths a (terms t ts) = disequations_onto_truths a t ts (disequations_of ts) (disequations_truths a ts)

all_of_truths : (vs : List Value) → AreTruths vs → all_true vs ≡ truth (list_all is_true vs)
all_of_truths [] h = refl
all_of_truths (v ∷ []) (one_truth h) = ap truth (sym (and-true _))
all_of_truths (v ∷ w ∷ vs) h = refl

conjunction_keeps : (a : Assignment) (ts : Terms) → value_of a (joined_by conjunction ts) ≡ head_value a conjunction (values_of a ts)
conjunction_keeps a no_terms = refl
conjunction_keeps a (terms t no_terms) = refl
conjunction_keeps a (terms t (terms u ts)) = refl

disjunction_keeps : (a : Assignment) (ts : Terms) → value_of a (joined_by disjunction ts) ≡ head_value a disjunction (values_of a ts)
disjunction_keeps a no_terms = refl
disjunction_keeps a (terms t no_terms) = refl
disjunction_keeps a (terms t (terms u ts)) = refl

sum_keeps : (a : Assignment) (s : NumberSort) (ts : Terms) → value_of a (joined_by (sum s) ts) ≡ head_value a (sum s) (values_of a ts)
sum_keeps a s no_terms = refl
sum_keeps a s (terms t no_terms) = refl
sum_keeps a s (terms t (terms u ts)) = refl

product_keeps : (a : Assignment) (s : NumberSort) (ts : Terms) → value_of a (joined_by (product s) ts) ≡ head_value a (product s) (values_of a ts)
product_keeps a s no_terms = refl
product_keeps a s (terms t no_terms) = refl
product_keeps a s (terms t (terms u ts)) = refl

node_keeps : (a : Assignment) (h : Head) (ts : Terms) → value_of a (normal_node h ts) ≡ head_value a h (values_of a ts)
node_keeps a (constant c) ts = refl
node_keeps a (parameter i s) ts = refl
node_keeps a (integer n) ts = refl
node_keeps a (decimal_number n places) ts = refl
node_keeps a verum ts = refl
node_keeps a falsum ts = refl
node_keeps a negation ts = refl
node_keeps a conjunction ts = conjunction_keeps a ts
node_keeps a disjunction ts = disjunction_keeps a ts
node_keeps a implication ts = implication_keeps a ts
node_keeps a exclusion no_terms = refl
node_keeps a exclusion (terms t ts) = grouped_keeps a exclusion excluded (λ v w. refl) t ts
node_keeps a equality ts = chained_keeps a (paired equality) are_equal (λ t u. pair_keeps are_equal (value_of a t) (value_of a u)) ts
node_keeps a distinction ts =
    conjunction_keeps a (disequations_of ts) ∙ all_of_truths (values_of a (disequations_of ts)) (disequations_truths a ts) ∙ ap truth (disequations_keep a ts)
node_keeps a (choice s) ts = refl
node_keeps a less ts = chained_keeps a (paired less) is_less (λ t u. pair_keeps is_less (value_of a t) (value_of a u)) ts
node_keeps a at_most ts = chained_keeps a (paired at_most) is_at_most (λ t u. pair_keeps is_at_most (value_of a t) (value_of a u)) ts
node_keeps a greater ts = chained_keeps a (turned less) (λ v w. is_less w v) (λ t u. pair_keeps is_less (value_of a u) (value_of a t)) ts
node_keeps a at_least ts = chained_keeps a (turned at_most) (λ v w. is_at_most w v) (λ t u. pair_keeps is_at_most (value_of a u) (value_of a t)) ts
node_keeps a (sum s) ts = sum_keeps a s ts
node_keeps a (difference s) ts = refl
node_keeps a (product s) ts = product_keeps a s ts
node_keeps a quotient no_terms = refl
node_keeps a quotient (terms t ts) = grouped_keeps a quotient (carried_out Quotient) (λ v w. refl) t ts
node_keeps a integer_quotient no_terms = refl
node_keeps a integer_quotient (terms t ts) = grouped_keeps a integer_quotient divided (λ v w. refl) t ts
node_keeps a modulus ts = refl
node_keeps a magnitude ts = refl
node_keeps a to_real ts = refl
node_keeps a to_int ts = refl
node_keeps a is_int ts = refl

mutual
  pub normal_keeps_value : NormalKeepsValue
  normal_keeps_value a (apply h ts) = node_keeps a h (normals_of ts) ∙ ap (head_value a h) (normals_keep a ts)

  normals_keep : (a : Assignment) (ts : Terms) → values_of a (normals_of ts) ≡ values_of a ts
  normals_keep a no_terms = refl
  normals_keep a (terms t ts) = ap (λ v. v ∷ values_of a (normals_of ts)) (normal_keeps_value a t) ∙ ap (λ vs. value_of a t ∷ vs) (normals_keep a ts)
