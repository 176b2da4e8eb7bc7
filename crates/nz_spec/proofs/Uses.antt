-- A use of a definition has the value of its body under the values of the arguments.
use Rattle.std.proofs.Common.{◌≡◌, ℕ, zero, suc, Bool, true, false, ◌&&◌, List, [], ◌∷◌, Option, Some, None, refl, ap, ◌∙◌, subst, if◌then◌else◌}
use Rattle.std.specs.Prelude.{slice_get, unwrap_or}
use Rattle.nz_lists.proofs.Options.{IfFound, map_found}
use Rattle.nz_spec.specs.terms.Term.{Sort, int_sort, real_sort, are_same_sort, Head, parameter, to_real, Term, apply, Terms, no_terms, terms, Value, Assignment, head_value, value_of, values_of}
use Rattle.nz_spec.specs.terms.Operators.{has_sort, as_real, placed}
use Rattle.nz_spec.specs.terms.Definitions.{term_at, terms_onto, all_placed, instance_node, instance_of, instances_of, Definition, expansion, head_value_under, body_value, body_values, UseHasBodyValue}

module _ (a : Assignment) where
  -- ---- Instances

  -- the value at a place of a list of terms
  term_value : (us : Terms) (i : ℕ) (t : Term) → value_of a (elim (term_at us i) [ Some u ↦ u | None ↦ t ]) ≡ unwrap_or (slice_get (values_of a us) i) (value_of a t)
  term_value no_terms i t = refl
  term_value (terms u us) zero t = refl
  term_value (terms u us) (suc i) t = term_value us i t

  node_value : (us : Terms) (h : Head) (ts : Terms) (vs : List Value) → values_of a ts ≡ vs → value_of a (instance_node us h ts) ≡ head_value_under a (values_of a us) h vs
  node_value us (parameter i s) ts vs e = term_value us i (apply (parameter i s) ts)
  node_value us h ts vs e = ap (head_value a h) e

  mutual
    instance_value : (us : Terms) (t : Term) → value_of a (instance_of us t) ≡ body_value a (values_of a us) t
    instance_value us (apply h ts) = node_value us h (instances_of us ts) (body_values a (values_of a us) ts) (instances_value us ts)

    instances_value : (us ts : Terms) → values_of a (instances_of us ts) ≡ body_values a (values_of a us) ts
    instances_value us no_terms = refl
    instances_value us (terms t ts) =
        ap (λ v. v ∷ values_of a (instances_of us ts)) (instance_value us t) ∙ ap (λ vs. body_value a (values_of a us) t ∷ vs) (instances_value us ts)

  -- ---- Arguments where terms of these sorts are wanted

  real_value_if : (b : Bool) (t : Term) → value_of a (if b then apply to_real (terms t no_terms) else t) ≡ value_of a t
  real_value_if true t = refl
  real_value_if false t = refl

  placed_value_by : (b c : Bool) (t : Term) → IfFound (λ u. value_of a u ≡ value_of a t) (if b then Some t else (if c then Some (as_real t) else None))
  placed_value_by true c t = refl
  placed_value_by false true t = real_value_if (has_sort int_sort t) t
  placed_value_by false false t = tt

  values_onto : (t : Term) (ts : Terms) (o : Option Term) (r : Option Terms) → IfFound (λ u. value_of a u ≡ value_of a t) o → IfFound (λ us. values_of a us ≡ values_of a ts) r
      → IfFound (λ us. values_of a us ≡ values_of a (terms t ts)) (terms_onto o r)
  values_onto t ts (Some u) (Some us) h k = ap (λ v. v ∷ values_of a us) h ∙ ap (λ vs. value_of a t ∷ vs) k
  values_onto t ts (Some u) None h k = tt
  values_onto t ts None r h k = tt

  placed_values : (ss : List Sort) (ts : Terms) → IfFound (λ us. values_of a us ≡ values_of a ts) (all_placed ss ts)
  placed_values [] no_terms = refl
  placed_values [] (terms t ts) = tt
  placed_values (s ∷ ss) no_terms = tt
  placed_values (s ∷ ss) (terms t ts) =
      values_onto t ts (placed s t) (all_placed ss ts) (placed_value_by (has_sort s t) (are_same_sort s real_sort && has_sort int_sort t) t) (placed_values ss ts)

  use_value : (d : Definition) (ts : Terms) → IfFound (λ u. value_of a u ≡ body_value a (values_of a ts) d.body) (expansion d ts)
  use_value d ts =
      map_found (λ us. values_of a us ≡ values_of a ts) (λ u. value_of a u ≡ body_value a (values_of a ts) d.body) (λ us. instance_of us d.body) (all_placed d.parameters ts)
      (λ us e. instance_value us d.body ∙ ap (λ vs. body_value a vs d.body) e) (placed_values d.parameters ts)

pub use_has_body_value : UseHasBodyValue
use_has_body_value a d ts u e = subst (IfFound (λ w. value_of a w ≡ body_value a (values_of a ts) d.body)) e (use_value a d ts)
