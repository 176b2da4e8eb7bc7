-- What is made is the companion, and put last it has none itself.
use Rattle.std.proofs.Common.{◌≡◌, inl, inr, ◌++◌, ◌∷◌, [], length, Some, slice_get, sym, ap, subst, ◌∙◌, arith, length-append}
use Rattle.std.specs.List.{AllByRecursion}
use Rattle.std.proofs.lemmas.Option.{slice_get_within}
use Rattle.nz_spec.specs.terms.Order.{companions_of, IsInTable}
use Rattle.nz_spec.specs.terms.Term.{apply}
use Rattle.nz_spec.specs.terms.Table.{term_in, terms_at}
use Rattle.nz_term.specs.Heads.{head_of}
use Rattle.nz_term.specs.Nodes.{node_with}
use Rattle.nz_term.proofs.AddedCompanions.{companion_of, last_node, no_further}
use Rattle.nz_term.proofs.companions.make_companion.Goals as goal

pub returns-clause-made : goal.returns-clause-made
returns-clause-made c =
    let n = c.node-node.result in
    let old = c.args.terms.now in
    let new = c.make.new.self in
    let made = c.in_ok-make.field-0 in
    let kids = c.as_slice.ensures.value ∙ c.in_ok-kids.ensures.items in
    let term : term_in new made ≡ apply (head_of c.in-Some.head) (terms_at (term_in old) n.kids.now) =
    c.in_ok-make.ensures.term ∙ ap (λ ks. apply (head_of c.in-Some.head) (terms_at (term_in old) ks)) kids in
    subst (AllByRecursion (IsInTable new)) (sym (ap companions_of c.node-node.ensures.term
    ∙ companion_of (head_of n.head) (head_of c.in-Some.head) (terms_at (term_in old) n.kids.now) c.in-Some.ensures.companion))
    ((made, slice_get_within new made (node_with c.in-Some.head c.as_slice.result.now) c.in_ok-make.ensures.node, term), tt)

pub returns-clause-alone : goal.returns-clause-alone
returns-clause-alone c =
    λ i past below.
    let old = c.args.terms.now in
    let new = c.make.new.self in
    let made = c.in_ok-make.field-0 in
    let one = node_with c.in-Some.head c.as_slice.result.now in
    elim c.in_ok-make.ensures.grown [
      | inl same ↦ absurd (omega (arith, ap length same))
      | inr more ↦
          let here : i ≡ length old = omega (arith, ap length more, length-append old (one ∷ [])) in
          let at : slice_get new i ≡ Some one = ap (λ l. slice_get l i) more ∙ ap (slice_get (old ++ one ∷ [])) here ∙ last_node old one in
          let same : i ≡ made = c.make.ensures.table.once i made one at c.in_ok-make.ensures.node in
          ap (λ j. companions_of (term_in new j)) same ∙ ap companions_of c.in_ok-make.ensures.term
          ∙ no_further (head_of c.node-node.result.head) (head_of c.in-Some.head) (terms_at (term_in old) c.as_slice.result.now) c.in-Some.ensures.companion
    ]
