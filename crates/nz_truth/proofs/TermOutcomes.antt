-- What terms come to along a list in which each comes behind its arguments.
use Rattle.std.proofs.Common.{◌≡◌, ◌==◌, inl, inr, ℕ, suc, cond, List, [], ◌∷◌, ◌++◌, map, take, get_or, Option, Some, None, option_map, slice_get, refl, sym, ap, subst, ◌∙◌, arith}
use Rattle.std.specs.Prelude.{flat_map, unwrap_or}
use Rattle.std.specs.List.{AllByRecursion}
use Rattle.std.proofs.lemmas.Bool.Decides.{eqb_tells}
use Rattle.std.proofs.lemmas.List.Elements.{Contains-push_cases, recursion_from_All}
use Rattle.nz_fractions.specs.Fraction.{Operation, first_wide}
use Rattle.nz_spec.specs.terms.Operations.{head_operations, operations_in, operations_of}
use Rattle.nz_spec.specs.terms.Term as spec
use Rattle.nz_spec.specs.terms.Term.{Head, Term, apply, Assignment, head_value, value_of, values_of}
use Rattle.nz_spec.specs.terms.Table.{Node, IsTable, AssignsByNumber, assignment_by, term_in, terms_at}
use Rattle.nz_spec.specs.terms.Order.{ComeBehindArguments}
use Rattle.nz_frac.specs.Operations.{operation_of}
use Rattle.nz_frac.specs.declared.frac.Wide as wide
use Rattle.nz_term.specs.Values as own
use Rattle.nz_term.specs.declared.assign.Value as values
use Rattle.nz_truth.specs.Outcomes.{AreEvaluated, AreGiven, AreOutcomes, HasEvaluatedKids, IsOutcome, IsOutcomeOf, first_stop, values_in}
use Rattle.nz_truth.specs.declared.walk.Outcome.{Outcome}
use Rattle.nz_truth.specs.declared.walk.Outcome.TheVariants as outcome
use Rattle.nz_fractions.proofs.FirstOperations.{first_wide-none, first_wide-some}

-- ---- Arguments

-- the term of each number comes to what is listed for it
abbrev pub AreKnown : List Node → Assignment → List ℕ → (ℕ → Outcome) → Type 0
AreKnown ns a ks os = AllByRecursion (λ k. IsOutcome a (term_in ns k) (os k)) ks

stop_first : (a : Assignment) (t : Term) (rest : List Operation) (o : Outcome) (os : List Outcome) → IsOutcome a t o → first_wide rest ≡ option_map operation_of (first_stop os)
    → first_wide (operations_of a t ++ rest) ≡ option_map operation_of (first_stop (o ∷ os))
stop_first a t rest (outcome.Value v) os h e = first_wide-none (operations_of a t) rest h.0 ∙ e
stop_first a t rest (outcome.Wide w) os h e = first_wide-some (operations_of a t) rest (operation_of w) h

-- the first of them that has no value is where the first operation leaves the numbers
pub stop_is : (ns : List Node) (a : Assignment) (os : ℕ → Outcome) (ks : List ℕ) → AreKnown ns a ks os
    → first_wide (operations_in a (terms_at (term_in ns) ks)) ≡ option_map operation_of (first_stop (map os ks))
unfolding first_wide
stop_is ns a os [] h = refl
stop_is ns a os (k ∷ ks) h = stop_first a (term_in ns k) (operations_in a (terms_at (term_in ns) ks)) (os k) (map os ks) h.0 (stop_is ns a os ks h.1)

value_first : (a : Assignment) (t : Term) (rest : List spec.Value) (o : Outcome) (os : List Outcome) → IsOutcome a t o → first_stop (o ∷ os) ≡ None
    → (first_stop os ≡ None → map own.value_of (values_in os) ≡ rest) → map own.value_of (values_in (o ∷ os)) ≡ value_of a t ∷ rest
value_first a t rest (outcome.Value v) os h none e =
    let others : map own.value_of (values_in os) ≡ rest = e none in
    let here : own.value_of v ≡ value_of a t = h.1 in
    cc
value_first a t rest (outcome.Wide w) os h none e = cc

-- where each has a value, these are their values
pub values_are : (ns : List Node) (a : Assignment) (os : ℕ → Outcome) (ks : List ℕ) → AreKnown ns a ks os → first_stop (map os ks) ≡ None
    → map own.value_of (values_in (map os ks)) ≡ values_of a (terms_at (term_in ns) ks)
values_are ns a os [] h none = refl
values_are ns a os (k ∷ ks) h none =
    value_first a (term_in ns k) (values_of a (terms_at (term_in ns) ks)) (os k) (map os ks) h.0 none (values_are ns a os ks h.1)

-- ---- A node

behind_none : (xs ys : List Operation) (v : spec.Value) (o : Outcome) → first_wide xs ≡ None → IsOutcomeOf ys v o → IsOutcomeOf (xs ++ ys) v o
behind_none xs ys v (outcome.Value x) e h = (first_wide-none xs ys e ∙ h.0, h.1)
behind_none xs ys v (outcome.Wide w) e h = first_wide-none xs ys e ∙ h

module _ (ns : List Node) (a : Assignment) (os : ℕ → Outcome) (i : ℕ) (h : Head) (ks : List ℕ) (term : term_in ns i ≡ apply h (terms_at (term_in ns) ks)) (known : AreKnown ns a ks os) where
  -- a node with an argument that has no value
  pub stopped_node : (w : wide.Wide) → Some w ≡ first_stop (map os ks) → IsOutcome a (term_in ns i) (outcome.Wide w)
  stopped_node w e =
      subst (λ t. IsOutcome a t (outcome.Wide w)) (sym term)
      (first_wide-some (operations_in a (terms_at (term_in ns) ks)) (head_operations h (values_of a (terms_at (term_in ns) ks))) (operation_of w)
      (stop_is ns a os ks known ∙ ap (option_map operation_of) (sym e)))

  -- and one without
  pub valued_node : (vs : List values.Value) (o : Outcome) → None ≡ first_stop (map os ks) → vs ≡ values_in (map os ks)
      → IsOutcomeOf (head_operations h (map own.value_of vs)) (head_value a h (map own.value_of vs)) o → IsOutcome a (term_in ns i) o
  valued_node vs o none e is =
      let args : map own.value_of vs ≡ values_of a (terms_at (term_in ns) ks) = ap (map own.value_of) e ∙ values_are ns a os ks known (sym none) in
      subst (λ t. IsOutcome a t o) (sym term)
      (behind_none (operations_in a (terms_at (term_in ns) ks)) (head_operations h (values_of a (terms_at (term_in ns) ks))) (head_value a h (values_of a (terms_at (term_in ns) ks))) o
      (stop_is ns a os ks known ∙ ap (option_map operation_of) (sym none))
      (subst (λ xs. IsOutcomeOf (head_operations h xs) (head_value a h xs) o) args is))

-- ---- The walk

-- the pairs give the constants what their assignment gives
pub given : AssignsByNumber → (ns : List Node) → IsTable ns → (ps : List (ℕ × spec.Value)) → AreGiven ns (assignment_by ns ps) ps
given law ns table ps i n c at e = sym (law ns table ps i n c at e)

-- where each of the numbers so far is known, so are the arguments of the next
pub kids_known : (ns : List Node) (a : Assignment) (ids : List ℕ) (os : ℕ → Outcome) → ComeBehindArguments ns ids → (k i : ℕ) → slice_get ids k ≡ Some i
    → AreEvaluated ns a (take k ids) os → HasEvaluatedKids ns a i os
kids_known ns a ids os behind k i place done n at =
    recursion_from_All (λ j. IsOutcome a (term_in ns j) (os j)) n.kids (λ j d l. done (get_or n.kids j d) (behind k i n place at j d l))

-- one term more
pub one_more : (ns : List Node) (a : Assignment) (ids : List ℕ) (old new : ℕ → Option Outcome) (d : Outcome) (i : ℕ) (o : Outcome)
    → ((j : ℕ) → new j ≡ cond (i == j) (Some o) (old j)) → IsOutcome a (term_in ns i) o
    → AreEvaluated ns a ids (λ j. unwrap_or (old j) d) → AreEvaluated ns a (ids ++ i ∷ []) (λ j. unwrap_or (new j) d)
one_more ns a ids old new d i o put here done j m =
    elim (eqb_tells i j) [
      | inl e ↦
          subst (λ k. IsOutcome a (term_in ns k) (unwrap_or (new j) d)) e.1
          (subst (λ r. IsOutcome a (term_in ns i) (unwrap_or r d)) (sym (put j ∙ ap (λ b. cond b (Some o) (old j)) e.0)) here)
      | inr e ↦
          subst (λ r. IsOutcome a (term_in ns j) (unwrap_or r d)) (sym (put j ∙ ap (λ b. cond b (Some o) (old j)) e.0))
          (elim (Contains-push_cases ids i j m) [ inl l ↦ done j l | inr r ↦ absurd (e.1 r) ])
    ]

-- the roots, one for one
pub are_outcomes : (ns : List Node) (a : Assignment) (os : ℕ → Outcome) (ks : List ℕ) → AreKnown ns a ks os → AreOutcomes ns a ks (map os ks)
are_outcomes ns a os [] h = tt
are_outcomes ns a os (k ∷ ks) h = (h.0, are_outcomes ns a os ks h.1)

-- those that are in the list are known
pub known_roots : (ns : List Node) (a : Assignment) (os : ℕ → Outcome) (roots : List ℕ) → AreEvaluated ns a roots os → AreKnown ns a roots os
known_roots ns a os [] h = tt
known_roots ns a os (r ∷ rs) h = (h r (0, omega arith, refl), known_roots ns a os rs (λ i m. h i (suc m.0, omega (arith, m.1), m.2)))

-- ---- Lists of terms

pub operations_listed : (a : Assignment) (f : ℕ → Term) (ks : List ℕ) → operations_in a (terms_at f ks) ≡ flat_map (λ k. operations_of a (f k)) ks
operations_listed a f [] = refl
operations_listed a f (k ∷ ks) = ap (λ xs. operations_of a (f k) ++ xs) (operations_listed a f ks)

pub values_listed : (a : Assignment) (f : ℕ → Term) (ks : List ℕ) → values_of a (terms_at f ks) ≡ map (λ k. value_of a (f k)) ks
values_listed a f [] = refl
values_listed a f (k ∷ ks) = ap (λ vs. value_of a (f k) ∷ vs) (values_listed a f ks)

-- the first operation of these terms that leaves the numbers
pub roots_stop : (ns : List Node) (a : Assignment) (os : ℕ → Outcome) (roots : List ℕ) → AreEvaluated ns a roots os
    → first_wide (flat_map (λ r. operations_of a (term_in ns r)) roots) ≡ option_map operation_of (first_stop (map os roots))
roots_stop ns a os roots h = ap first_wide (sym (operations_listed a (term_in ns) roots)) ∙ stop_is ns a os roots (known_roots ns a os roots h)

-- their values, where none does
pub roots_values : (ns : List Node) (a : Assignment) (os : ℕ → Outcome) (roots : List ℕ) → AreEvaluated ns a roots os → first_stop (map os roots) ≡ None
    → map own.value_of (values_in (map os roots)) ≡ map (λ r. value_of a (term_in ns r)) roots
roots_values ns a os roots h none = values_are ns a os roots (known_roots ns a os roots h) none ∙ values_listed a (term_in ns) roots
