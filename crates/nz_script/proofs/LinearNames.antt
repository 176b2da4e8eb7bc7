-- A name stands for a term whose normal term is linear, where each definition's body has such a one.
use Rattle.std.proofs.Common.{◌≡◌, ℕ, List, [], ◌∷◌, refl, sym, ap, ◌∙◌, subst}
use Rattle.std.specs.Prelude.{option_map}
use Rattle.std.specs.List.{AllByRecursion}
use Rattle.nz_lists.proofs.Options.{IfFound}
use Rattle.nz_spec.specs.terms.Term.{Constant, Sort, Head, parameter, Term, apply, Terms, no_terms, terms}
use Rattle.nz_spec.specs.terms.Operators.{Operator, true_operator, false_operator, applied}
use Rattle.nz_spec.specs.terms.Definitions.{Definition, instance_node, instance_of, instances_of, all_placed}
use Rattle.nz_script.specs.commands.Elaboration.{name_term}
use Rattle.nz_spec.specs.terms.WellSorted.{HasLinearNormal, HasLinearBody}
use Rattle.nz_script.proofs.WrittenTerms.{IsConstant, are_constants, NamesAreSo, name_found}

-- ---- A body without parameters

same_node : (h : Head) (ts : Terms) → instance_node no_terms h ts ≡ apply h ts
same_node (parameter i s) ts = refl
same_node h ts = refl

mutual
  same_body : (t : Term) → instance_of no_terms t ≡ t
  same_body (apply h ts) = same_node h (instances_of no_terms ts) ∙ ap (apply h) (same_bodies ts)

  same_bodies : (ts : Terms) → instances_of no_terms ts ≡ ts
  same_bodies no_terms = refl
  same_bodies (terms t ts) = ap (λ u. terms u (instances_of no_terms ts)) (same_body t) ∙ ap (terms t) (same_bodies ts)

used_alone : (ss : List Sort) (t : Term) → HasLinearNormal t → IfFound HasLinearNormal (option_map (λ us. instance_of us t) (all_placed ss no_terms))
used_alone [] t h = subst HasLinearNormal (sym (same_body t)) h
used_alone (s ∷ ss) t h = tt

-- ---- Names

-- no other operator is a name alone
truth_values : (o : Operator) → IfFound HasLinearNormal (applied o no_terms)
truth_values true_operator = refl
truth_values false_operator = refl
truth_values o = tt

names_are : NamesAreSo HasLinearNormal IsConstant HasLinearBody
names_are = record { constants = λ c i. refl; operators = truth_values; uses = λ d h. used_alone d.parameters d.body h }

pub linear_name : (cs : List Constant) (ds : List Definition) → AllByRecursion HasLinearBody ds → (name : List ℕ)
    → IfFound HasLinearNormal (name_term (record { constants = cs; definitions = ds; bound = [] }) name)
linear_name cs ds h name =
    name_found HasLinearNormal IsConstant HasLinearBody names_are (record { constants = cs; definitions = ds; bound = [] }) name
    (record { constants = are_constants cs; definitions = h; bound = tt })
