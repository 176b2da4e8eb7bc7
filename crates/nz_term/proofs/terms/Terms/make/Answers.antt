-- The table with the node looked up, or put last, and what is known of it.
use Rattle.std.proofs.Common.{◌≡◌, ◌<◌, ◌++◌, [], ◌∷◌, length, take, Some, All, slice_get, sym, ap, subst, ◌∙◌}
use Rattle.std.proofs.lemmas.Result.{IfOk-weaker}
use Rattle.nz_lists.proofs.Results.{on_ok}
use Rattle.nz_spec.specs.terms.Term.{apply}
use Rattle.nz_spec.specs.terms.Table.{term_in, terms_at}
use Rattle.nz_term.specs.Facts.{fact_of}
use Rattle.nz_term.specs.Growth.{GoesOn, KeepsTerms}
use Rattle.nz_term.specs.Heads.{head_of}
use Rattle.nz_term.specs.Nodes.{node_with}
use Rattle.nz_term.proofs.Knowledge.{facts_made}
use Rattle.nz_term.proofs.Tables.{grown_stays, made_term}
use Rattle.nz_term.proofs.terms.Terms.make.Goals as goal

pub returns-in_err-push-clause-one_number : goal.returns-in_err-push-clause-one_number
returns-in_err-push-clause-one_number c = c.one_number.ensures.one _ c.self.invariant.table

pub put-made-requires-clause-table : goal.put-made-requires-clause-table
put-made-requires-clause-table c = c.self.invariant.table

pub put-made-requires-clause-within : goal.put-made-requires-clause-within
put-made-requires-clause-within c = subst (λ l. All (λ i. i < length l) c.args.kids.now) (sym c.self.view_is) c.requires.within

pub invariant_of-self-2 : goal.invariant_of-self-2
invariant_of-self-2 c =
    let before = c.self.inside.nodes in
    let after = c.put-made.new.self in
    let facts = c.self.inside.facts in
    let node = node_with c.args.head c.args.kids.now in
    let fact : c.known-fact.result ≡ fact_of (apply (head_of c.args.head) (terms_at (term_in before) c.args.kids.now)) =
    c.known-fact.ensures.known
    ∙ ap (λ l. fact_of (apply (head_of c.args.head) (terms_at (term_in l) c.args.kids.now))) (sym c.self.view_is) in
    record {
      table = c.put-made.ensures.table;
      facts =
          c.truncate.ensures.front
          ∙ ap (take c.len.result) c.in_ok-push.ensures.grown
          ∙ ap (λ n. take n (facts ++ c.known-fact.result ∷ [])) c.len.ensures.len
          ∙ facts_made before node after facts c.known-fact.result c.self.invariant fact c.put-made.ensures.goes_on;
    }

pub returns-clause-term : goal.returns-clause-term
returns-clause-term c =
    let before = c.self.inside.nodes in
    let after = c.put-made.new.self in
    let node = node_with c.args.head c.args.kids.now in
    IfOk-weaker c.put-made.result (λ id. slice_get after id ≡ Some node)
    (λ id. term_in after id ≡ apply (head_of c.args.head) (terms_at (term_in c.args.self.now) c.args.kids.now))
    (
    λ id at.
    made_term c.term_of_node.ensures.node c.terms_stay.ensures.stays before node after id c.put-made.ensures.table c.put-made.ensures.goes_on
    (subst (λ l. All (λ i. i < length l) c.args.kids.now) (sym c.self.view_is) c.requires.within) at
    ∙ ap (λ l. apply (head_of c.args.head) (terms_at (term_in l) c.args.kids.now)) c.self.view_is
    )
    c.put-made.ensures.node

pub returns-clause-grown : goal.returns-clause-grown
returns-clause-grown c =
    on_ok c.put-made.result (subst (λ l. GoesOn l (node_with c.args.head c.args.kids.now) c.put-made.new.self) c.self.view_is c.put-made.ensures.goes_on)

pub returns-clause-stays : goal.returns-clause-stays
returns-clause-stays c =
    let before = c.self.inside.nodes in
    let after = c.put-made.new.self in
    subst (λ l. KeepsTerms l after) c.self.view_is
    (grown_stays c.term_stays.ensures.stays before (node_with c.args.head c.args.kids.now) after c.put-made.ensures.goes_on)

pub returns-clause-one_number : goal.returns-clause-one_number
returns-clause-one_number c = c.one_number.ensures.one _ c.put-made.ensures.table
