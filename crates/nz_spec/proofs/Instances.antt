-- The normal term of an instance is the instance of the normal terms.
use Rattle.std.proofs.Common.{◌≡◌, ℕ, zero, suc, Option, Some, None, refl, sym, ap, ◌∙◌}
use Rattle.std.specs.Prelude.{option_map}
use Rattle.nz_spec.specs.terms.Term.{Sort, Head, constant, parameter, integer, decimal_number, verum, falsum, negation, conjunction, disjunction, implication, exclusion, equality, distinction, choice, less, at_most, greater, at_least, sum, difference, product, quotient, integer_quotient, modulus, magnitude, to_real, to_int, is_int, Term, apply, Terms, no_terms, terms}
use Rattle.nz_spec.specs.terms.Normal.{negated, paired, turned, implication_of, grouped_onto, grouped_by, neighbours_of, disequations_onto, disequations_of, joined_by, chained_by, normal_node, normal_of, normals_of}
use Rattle.nz_spec.specs.terms.Definitions.{term_at, instance_node, instance_of, instances_of, InstanceKeepsNormal}

term_at-normal : (us : Terms) (i : ℕ) → term_at (normals_of us) i ≡ option_map normal_of (term_at us i)
term_at-normal no_terms i = refl
term_at-normal (terms t ts) zero = refl
term_at-normal (terms t ts) (suc i) = term_at-normal ts i

-- ---- Each way of writing an operator out

implication_instance : (us ts : Terms) → implication_of (instances_of us ts) ≡ instance_of us (implication_of ts)
implication_instance us no_terms = refl
implication_instance us (terms t no_terms) = refl
implication_instance us (terms t (terms u ts)) = ap (paired disjunction (negated (instance_of us t))) (implication_instance us (terms u ts))

grouped_instance : (us : Terms) (h : Head) → ((vs : Terms) → instance_node us h vs ≡ apply h vs) → (t : Term) (ts : Terms)
    → grouped_onto h (instance_of us t) (instances_of us ts) ≡ instance_of us (grouped_onto h t ts)
grouped_instance us h stays t no_terms = refl
grouped_instance us h stays t (terms u ts) =
    ap (λ x. grouped_onto h x (instances_of us ts)) (sym (stays (terms (instance_of us t) (terms (instance_of us u) no_terms))))
    ∙ grouped_instance us h stays (paired h t u) ts

grouped_by_instance : (us : Terms) (h : Head) → ((vs : Terms) → instance_node us h vs ≡ apply h vs) → (ts : Terms)
    → grouped_by h (instances_of us ts) ≡ instance_of us (grouped_by h ts)
grouped_by_instance us h stays no_terms = sym (stays no_terms)
grouped_by_instance us h stays (terms t ts) = grouped_instance us h stays t ts

joined_instance : (us : Terms) (h : Head) → ((vs : Terms) → instance_node us h vs ≡ apply h vs) → (ts : Terms)
    → joined_by h (instances_of us ts) ≡ instance_of us (joined_by h ts)
joined_instance us h stays no_terms = sym (stays no_terms)
joined_instance us h stays (terms t no_terms) = refl
joined_instance us h stays (terms t (terms u ts)) = sym (stays (instances_of us (terms t (terms u ts))))

neighbours_instance : (us : Terms) (pair : Term → Term → Term) → ((t u : Term) → pair (instance_of us t) (instance_of us u) ≡ instance_of us (pair t u)) → (ts : Terms)
    → neighbours_of pair (instances_of us ts) ≡ instances_of us (neighbours_of pair ts)
neighbours_instance us pair same no_terms = refl
neighbours_instance us pair same (terms t no_terms) = refl
neighbours_instance us pair same (terms t (terms u ts)) =
    ap (λ x. terms x (neighbours_of pair (instances_of us (terms u ts)))) (same t u)
    ∙ ap (λ xs. terms (instance_of us (pair t u)) xs) (neighbours_instance us pair same (terms u ts))

chained_instance : (us : Terms) (pair : Term → Term → Term) → ((t u : Term) → pair (instance_of us t) (instance_of us u) ≡ instance_of us (pair t u)) → (ts : Terms)
    → chained_by pair (instances_of us ts) ≡ instance_of us (chained_by pair ts)
chained_instance us pair same ts =
    ap (joined_by conjunction) (neighbours_instance us pair same ts) ∙ joined_instance us conjunction (λ vs. refl) (neighbours_of pair ts)

disequations_onto_instance : (us : Terms) (t : Term) (ts others : Terms)
    → disequations_onto (instance_of us t) (instances_of us ts) (instances_of us others) ≡ instances_of us (disequations_onto t ts others)
disequations_onto_instance us t no_terms others = refl
disequations_onto_instance us t (terms u ts) others =
    ap (terms (negated (paired equality (instance_of us t) (instance_of us u)))) (disequations_onto_instance us t ts others)

disequations_instance : (us ts : Terms) → disequations_of (instances_of us ts) ≡ instances_of us (disequations_of ts)
disequations_instance us no_terms = refl
disequations_instance us (terms t ts) =
    ap (disequations_onto (instance_of us t) (instances_of us ts)) (disequations_instance us ts) ∙ disequations_onto_instance us t ts (disequations_of ts)

-- ---- Each operator

node_instance : (us : Terms) (h : Head) → ((vs : Terms) → instance_node us h vs ≡ apply h vs) → (ts : Terms)
    → normal_node h (instances_of us ts) ≡ instance_of us (normal_node h ts)
node_instance us (constant c) stays ts = refl
node_instance us (parameter i s) stays ts = sym (stays (instances_of us ts))
node_instance us (integer n) stays ts = refl
node_instance us (decimal_number n places) stays ts = refl
node_instance us verum stays ts = refl
node_instance us falsum stays ts = refl
node_instance us negation stays ts = refl
node_instance us conjunction stays ts = joined_instance us conjunction stays ts
node_instance us disjunction stays ts = joined_instance us disjunction stays ts
node_instance us implication stays ts = implication_instance us ts
node_instance us exclusion stays ts = grouped_by_instance us exclusion stays ts
node_instance us equality stays ts = chained_instance us (paired equality) (λ t u. refl) ts
node_instance us distinction stays ts =
    ap (joined_by conjunction) (disequations_instance us ts) ∙ joined_instance us conjunction (λ vs. refl) (disequations_of ts)
node_instance us (choice s) stays ts = refl
node_instance us less stays ts = chained_instance us (paired less) (λ t u. refl) ts
node_instance us at_most stays ts = chained_instance us (paired at_most) (λ t u. refl) ts
node_instance us greater stays ts = chained_instance us (turned less) (λ t u. refl) ts
node_instance us at_least stays ts = chained_instance us (turned at_most) (λ t u. refl) ts
node_instance us (sum s) stays ts = joined_instance us (sum s) stays ts
node_instance us (difference s) stays ts = refl
node_instance us (product s) stays ts = joined_instance us (product s) stays ts
node_instance us quotient stays ts = grouped_by_instance us quotient stays ts
node_instance us integer_quotient stays ts = grouped_by_instance us integer_quotient stays ts
node_instance us modulus stays ts = refl
node_instance us magnitude stays ts = refl
node_instance us to_real stays ts = refl
node_instance us to_int stays ts = refl
node_instance us is_int stays ts = refl

-- ---- Terms

-- what stands for a parameter is normal where the terms are
put_normal : (o : Option Term) (u v : Term) → normal_of u ≡ v → normal_of (elim o [ Some t ↦ t | None ↦ u ]) ≡ elim (option_map normal_of o) [ Some t ↦ t | None ↦ v ]
put_normal (Some t) u v e = refl
put_normal None u v e = e

parameter_instance : (us : Terms) (i : ℕ) (s : Sort) (ts vs : Terms) → normals_of ts ≡ vs → normal_of (instance_node us (parameter i s) ts) ≡ instance_node (normals_of us) (parameter i s) vs
parameter_instance us i s ts vs e =
    put_normal (term_at us i) (apply (parameter i s) ts) (apply (parameter i s) vs) (ap (apply (parameter i s)) e)
    ∙ ap (λ o. elim o as (λ x. Term) [ Some t ↦ t | None ↦ apply (parameter i s) vs ]) (sym (term_at-normal us i))

head_instance : (us : Terms) (h : Head) → ((ws vs : Terms) → instance_node ws h vs ≡ apply h vs) → (ts vs : Terms) → normals_of ts ≡ instances_of (normals_of us) vs
    → normal_of (instance_node us h ts) ≡ instance_of (normals_of us) (normal_node h vs)
head_instance us h stays ts vs e =
    ap normal_of (stays us ts) ∙ ap (normal_node h) e ∙ node_instance (normals_of us) h (stays (normals_of us)) vs

by_head : (us : Terms) (h : Head) (ts vs : Terms) → normals_of ts ≡ instances_of (normals_of us) vs → normal_of (instance_node us h ts) ≡ instance_of (normals_of us) (normal_node h vs)
by_head us (parameter i s) ts vs e = parameter_instance us i s ts (instances_of (normals_of us) vs) e
by_head us (constant c) ts vs e = head_instance us (constant c) (λ ws xs. refl) ts vs e
by_head us (integer n) ts vs e = head_instance us (integer n) (λ ws xs. refl) ts vs e
by_head us (decimal_number n places) ts vs e = head_instance us (decimal_number n places) (λ ws xs. refl) ts vs e
by_head us verum ts vs e = head_instance us verum (λ ws xs. refl) ts vs e
by_head us falsum ts vs e = head_instance us falsum (λ ws xs. refl) ts vs e
by_head us negation ts vs e = head_instance us negation (λ ws xs. refl) ts vs e
by_head us conjunction ts vs e = head_instance us conjunction (λ ws xs. refl) ts vs e
by_head us disjunction ts vs e = head_instance us disjunction (λ ws xs. refl) ts vs e
by_head us implication ts vs e = head_instance us implication (λ ws xs. refl) ts vs e
by_head us exclusion ts vs e = head_instance us exclusion (λ ws xs. refl) ts vs e
by_head us equality ts vs e = head_instance us equality (λ ws xs. refl) ts vs e
by_head us distinction ts vs e = head_instance us distinction (λ ws xs. refl) ts vs e
by_head us (choice s) ts vs e = head_instance us (choice s) (λ ws xs. refl) ts vs e
by_head us less ts vs e = head_instance us less (λ ws xs. refl) ts vs e
by_head us at_most ts vs e = head_instance us at_most (λ ws xs. refl) ts vs e
by_head us greater ts vs e = head_instance us greater (λ ws xs. refl) ts vs e
by_head us at_least ts vs e = head_instance us at_least (λ ws xs. refl) ts vs e
by_head us (sum s) ts vs e = head_instance us (sum s) (λ ws xs. refl) ts vs e
by_head us (difference s) ts vs e = head_instance us (difference s) (λ ws xs. refl) ts vs e
by_head us (product s) ts vs e = head_instance us (product s) (λ ws xs. refl) ts vs e
by_head us quotient ts vs e = head_instance us quotient (λ ws xs. refl) ts vs e
by_head us integer_quotient ts vs e = head_instance us integer_quotient (λ ws xs. refl) ts vs e
by_head us modulus ts vs e = head_instance us modulus (λ ws xs. refl) ts vs e
by_head us magnitude ts vs e = head_instance us magnitude (λ ws xs. refl) ts vs e
by_head us to_real ts vs e = head_instance us to_real (λ ws xs. refl) ts vs e
by_head us to_int ts vs e = head_instance us to_int (λ ws xs. refl) ts vs e
by_head us is_int ts vs e = head_instance us is_int (λ ws xs. refl) ts vs e

mutual
  pub instance_keeps_normal : InstanceKeepsNormal
  instance_keeps_normal us (apply h ts) = by_head us h (instances_of us ts) (normals_of ts) (instances_keep_normal us ts)

  instances_keep_normal : (us ts : Terms) → normals_of (instances_of us ts) ≡ instances_of (normals_of us) (normals_of ts)
  instances_keep_normal us no_terms = refl
  instances_keep_normal us (terms t ts) =
      ap (λ x. terms x (normals_of (instances_of us ts))) (instance_keeps_normal us t) ∙ ap (terms (instance_of (normals_of us) (normal_of t))) (instances_keep_normal us ts)
