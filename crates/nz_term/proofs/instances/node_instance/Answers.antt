-- The instance of a term by how its head and its arguments are.
use Rattle.std.proofs.Common.{◌≡◌, ◌<◌, List, [], ◌∷◌, ◌++◌, ℕ, length, map, slice_get, All, false, Some, sym, ap, subst, ◌∙◌, true≢false}
use Rattle.std.specs.Prelude.{◌⊎◌, bytes_eq}
use Rattle.std.proofs.lemmas.Option.{slice_get_within}
use Rattle.std.specs.Cmp.Lexicographic.{bytes_decides}
use Rattle.nz_lists.proofs.Results.{both_ok}
use Rattle.nz_spec.specs.terms.Term.{Head, apply}
use Rattle.nz_spec.specs.terms.Table.{HasItsArguments, term_in, terms_at}
use Rattle.nz_term.specs.Growth.{IsOperator}
use Rattle.nz_term.specs.Heads.{head_of}
use Rattle.nz_term.specs.Instances.{IsInstance, instance_in}
use Rattle.nz_term.specs.Nodes.{node_of, node_with}
use Rattle.nz_term.proofs.InstanceTerms.{argument_instance, free, grows_by, instances_within, made_instance, operator, own_instance}
use Rattle.nz_term.proofs.instances.node_instance.Goals as goal
use Rattle.nz_term.proofs.instances.node_instance.Goals.{After-detached}

pub returns-in-Some-clause-made : goal.returns-in-Some-clause-made
returns-in-Some-clause-made c =
    let n = c.node-node.result in
    argument_instance c.args.terms.now c.args.arguments.now c.args.id (head_of n.head) n.kids.now c.in-Some.argument c.requires.within (sym c.in-Some.ensures.argument)
    c.node-node.ensures.term

pub returns-then-eq-clause-made : goal.returns-then-eq-clause-made
returns-then-eq-clause-made c =
    let n = c.node-node.result in
    let equal : c.as_slice.result.now ≡ n.kids.now = (bytes_decides c.as_slice.result.now n.kids.now).0 (sym c.if-eq.ensures) in
    own_instance c.args.terms.now c.args.arguments.now (instance_in c.args.made.now) c.args.id (head_of n.head) n.kids.now (sym c.in_default.ensures.argument) c.node-node.ensures.term c.requires.id
    (c.requires.done (node_of n) c.node-node.ensures.node) (sym c.in_ok-instances.ensures.listed ∙ sym c.as_slice.ensures.value ∙ equal)

pub make-requires-clause-within : goal.make-requires-clause-within
make-requires-clause-within c =
    let n = c.node-node.result in
    let ns = c.args.terms.now in
    subst (All (λ k. k < length ns)) (sym (c.as_slice-2.ensures.value ∙ c.in_ok-instances.ensures.listed))
    (instances_within ns c.args.arguments.now (instance_in c.args.made.now) n.kids.now (c.requires.done (node_of n) c.node-node.ensures.node))

-- a head whose arguments have other instances is an operator's
changed : (h : Head) (kids instances again : List ℕ) (made : ℕ → ℕ) → HasItsArguments h kids → instances ≡ map made kids → again ≡ instances → false ≡ bytes_eq again kids → IsOperator h
changed h kids instances again made leaf listed equal other =
    operator h kids leaf (λ none. true≢false (sym (ap (λ l. bytes_eq l kids) (equal ∙ listed ∙ ap (map made) none) ∙ ap (bytes_eq []) none) ∙ sym other))

operates : (c : After-detached) → IsOperator (head_of c.node-node.result.head)
operates c =
    let n = c.node-node.result in
    changed (head_of n.head) n.kids.now c.in_ok-instances.instances.items c.as_slice.result.now (instance_in c.args.made.now) c.node-node.ensures.leaves
    c.in_ok-instances.ensures.listed c.as_slice.ensures.value c.if-eq.ensures

pub returns-in_default-detached-clause-made : goal.returns-in_default-detached-clause-made
returns-in_default-detached-clause-made c = absurd (c.in_default-detached.ensures.constant (operates (goal.at.returns-in_default-detached-clause-made c).After-detached))

pub make-requires-clause-leaves : goal.make-requires-clause-leaves
make-requires-clause-leaves c =
    let same : head_of c.in-Some-detached.head ≡ head_of c.node-node.result.head = c.in-Some-detached.ensures.same in
    free (head_of c.in-Some-detached.head) c.as_slice-2.result.now (subst IsOperator (sym same) (operates (goal.at.make-requires-clause-leaves c).After-detached))

pub returns-clause-made : goal.returns-clause-made
returns-clause-made c =
    let n = c.node-node.result in
    let old = c.args.terms.now in
    let new = c.make.new.self in
    let made = c.args.made.now in
    let kids = c.as_slice-2.result.now in
    let listed : kids ≡ map (instance_in made) n.kids.now = c.as_slice-2.ensures.value ∙ c.in_ok-instances.ensures.listed in
    let same : head_of c.in-Some-detached.head ≡ head_of n.head = c.in-Some-detached.ensures.same in
    let one = node_with c.in-Some-detached.head kids in
    let stays = subst IsOperator (sym same) (operates (goal.at.returns-clause-made c).After-detached) in
    both_ok c.make.result
    (λ id. (slice_get new id ≡ Some one) × (term_in new id ≡ apply (head_of c.in-Some-detached.head) (terms_at (term_in old) kids)))
    (λ id. (new ≡ old) ⊎ (new ≡ old ++ one ∷ []))
    (λ id. IsInstance new c.args.arguments.now c.args.id id)
    (
    λ id there grown.
    made_instance old new (grows_by old one new stays c.make.ensures.stays grown) c.args.arguments.now (instance_in made) c.args.id (head_of n.head) n.kids.now id c.requires.within (sym c.in_default.ensures.argument)
    c.node-node.ensures.term c.requires.id (c.requires.done (node_of n) c.node-node.ensures.node) (slice_get_within new id one there.0)
    (there.1 ∙ ap (λ h. apply h (terms_at (term_in old) kids)) same ∙ ap (λ l. apply (head_of n.head) (terms_at (term_in old) l)) listed)
    )
    (both_ok c.make.result
    (λ id. slice_get new id ≡ Some one)
    (λ id. term_in new id ≡ apply (head_of c.in-Some-detached.head) (terms_at (term_in old) kids))
    (λ id. (slice_get new id ≡ Some one) × (term_in new id ≡ apply (head_of c.in-Some-detached.head) (terms_at (term_in old) kids)))
    (λ id p q. (p, q)) c.make.ensures.node c.make.ensures.term)
    c.make.ensures.grown
