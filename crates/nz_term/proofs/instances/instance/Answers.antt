-- One instance after another, in the order of the terms.
use Rattle.std.proofs.Common.{◌≡◌, ℕ, ◌<◌, ◌≤◌, [], ◌∷◌, List, length, slice_index, All, sym, ap, subst, ◌∙◌, arith}
use Rattle.std.specs.Prelude.{Contains, nat_eq}
use Rattle.std.specs.HashMap.{get}
use Rattle.std.proofs.lemmas.Bool.{eqb-true}
use Rattle.std.proofs.lemmas.List.{nil_from_length}
use Rattle.std.proofs.lemmas.Option.{slice_get-get_or}
use Rattle.nz_spec.specs.terms.Definitions.{instance_of}
use Rattle.nz_spec.specs.terms.Order.{ComeBehindArguments}
use Rattle.nz_spec.specs.terms.Table.{Node, term_in, terms_at}
use Rattle.nz_term.specs.Instances.{instance_in}
use Rattle.nz_term.proofs.InstanceTerms.{AreOnWay, arguments_done, finish, one_written, own, start, step}
use Rattle.nz_term.proofs.instances.instance.Goals as goal

-- the list that the loop goes over is the order
within_list : (old : List Node) (list order : List ℕ) → list ≡ order → All (λ i. i < length old) order → All (λ i. i < length old) list
within_list old list order same within = subst (All (λ i. i < length old)) (sym same) within

id_within : (old : List Node) (list : List ℕ) (count : ℕ) → count < length list → All (λ i. i < length old) list → slice_index list count < length old
id_within old list count inside within = within count 0 inside

pub returns-then-is_empty-clause-made : goal.returns-then-is_empty-clause-made
returns-then-is_empty-clause-made c =
    let f = term_in c.args.terms.now in
    let empty : c.args.arguments.now ≡ [] = nil_from_length c.args.arguments.now (eqb-true (length c.args.arguments.now) 0 (sym c.is_empty.ensures ∙ c.if-is_empty.true)) in
    sym (ap (λ us. instance_of (terms_at f us) (f c.args.body)) empty ∙ own f (f c.args.body))

pub loop-id-init : goal.loop-id-init
loop-id-init c =
    start c.args.terms.now c.args.arguments.now c.deref-id-items.result.now c.requires.within
    (within_list c.args.terms.now c.deref-id-items.result.now c.in_ok-order.order.items c.deref-id-items.ensures.value c.in_ok-order.ensures.within) (instance_in c.new-made.result)

pub node_instance-requires-clause-done : goal.node_instance-requires-clause-done
node_instance-requires-clause-done c =
    let old = c.args.terms.now in
    let us = c.args.arguments.now in
    let list = c.deref-id-items.result.now in
    let count = c.loop-id.id-index in
    let same : list ≡ c.in_ok-order.order.items = c.deref-id-items.ensures.value in
    let inside : count < length list = omega arith in
    let listed = within_list old list c.in_ok-order.order.items same c.in_ok-order.ensures.within in
    arguments_done old us list c.requires.within listed c.loop-id.terms (instance_in c.loop-id.made) count (slice_index list count) c.loop-id.invariant
    (subst (ComeBehindArguments old) (sym same) c.in_ok-order.ensures.behind) (slice_get-get_or list count 0 inside) (id_within old list count inside listed)

pub loop-id-preserved : goal.loop-id-preserved
loop-id-preserved c =
    let old = c.args.terms.now in
    let us = c.args.arguments.now in
    let list = c.deref-id-items.result.now in
    let count = c.loop-id.id-index in
    let id = slice_index list count in
    let same : list ≡ c.in_ok-order.order.items = c.deref-id-items.ensures.value in
    let inside : count < length list = omega arith in
    let listed = within_list old list c.in_ok-order.order.items same c.in_ok-order.ensures.within in
    let write = one_written id c.in_ok-number.number (get nat_eq c.loop-id.made) (get nat_eq c.insert.new.self) c.in_ok-insert.ensures.updates.0 in
    step old us list c.requires.within listed c.loop-id.terms c.node_instance.new.terms (instance_in c.loop-id.made) (instance_in c.insert.new.self) count id c.in_ok-number.number
    write c.loop-id.invariant inside (slice_get-get_or list count 0 inside) (id_within old list count inside listed) c.in_ok-number.ensures.grows c.in_ok-number.ensures.made

-- what the map has for the body at the end
at_end : (old now : List Node) (us list order : List ℕ) (made : ℕ → ℕ) (count body read : ℕ) → list ≡ order → All (λ u. u < length old) us → All (λ i. i < length old) order
    → AreOnWay old now us list made count → length list ≤ count → All (Contains order) (body ∷ []) → body < length old → read ≡ made body
    → (read < length now) × (term_in now read ≡ instance_of (terms_at (term_in old) us) (term_in old body))
at_end old now us list order made count body read same arguments within way all roots below is =
    let root = subst (λ l. Contains l body) (sym same) (roots 0 0 (omega arith)) in
    subst (λ x. (x < length now) × (term_in now x ≡ instance_of (terms_at (term_in old) us) (term_in old body))) (sym is)
    (finish old us list arguments (within_list old list order same within) now made count body way all root below)

pub returns-clause-within : goal.returns-clause-within
returns-clause-within c =
    let all : length c.deref-id-items.result.now ≤ c.loop-id.id-index = omega arith in
    (at_end c.args.terms.now c.loop-id.terms c.args.arguments.now c.deref-id-items.result.now c.in_ok-order.order.items (instance_in c.loop-id.made) c.loop-id.id-index c.args.body c.instance_in.result
    c.deref-id-items.ensures.value c.requires.within c.in_ok-order.ensures.within c.loop-id.invariant all c.in_ok-order.ensures.roots c.requires.body c.instance_in.ensures.instance).0

pub returns-clause-made : goal.returns-clause-made
returns-clause-made c =
    let all : length c.deref-id-items.result.now ≤ c.loop-id.id-index = omega arith in
    (at_end c.args.terms.now c.loop-id.terms c.args.arguments.now c.deref-id-items.result.now c.in_ok-order.order.items (instance_in c.loop-id.made) c.loop-id.id-index c.args.body c.instance_in.result
    c.deref-id-items.ensures.value c.requires.within c.in_ok-order.ensures.within c.loop-id.invariant all c.in_ok-order.ensures.roots c.requires.body c.instance_in.ensures.instance).1
