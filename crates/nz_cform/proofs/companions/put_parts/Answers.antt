-- The arguments are put, and then the companion, where there is one.
use Rattle.std.proofs.Common.{[], Some, None, ap, subst}
use Rattle.nz_spec.specs.terms.Table.{term_in}
use Rattle.nz_term.specs.Heads.{head_of}
use Rattle.nz_term.specs.Listings.{AreCompanions}
use Rattle.nz_cform.proofs.PartsPut.{puts_none, puts_one}
use Rattle.nz_cform.proofs.companions.put_parts.Goals as goal

pub returns-in_ok-push-in-Some : goal.returns-in_ok-push-in-Some
returns-in_ok-push-in-Some c = record {
  puts =
      puts_one c.args.terms.now c.args.term c.args.waiting.now.items c.node-node.result.kids.now (head_of c.node-node.result.head)
      (ap (λ o. elim o [ None ↦ [] | Some n ↦ n.kids ]) c.node-node.ensures.node) c.node-node.ensures.term c.node-node.ensures.before c.in-Some.companion
      c.extend_from_slice.new.self.items c.push.new.self.items c.in_ok-extend_from_slice.ensures.items c.in_ok-push-in-Some.ensures.items
      (subst (AreCompanions c.args.terms.now (term_in c.args.terms.now c.args.term)) c.in-Some.is c.in_ok-companion.ensures.companion);
}

pub returns-in-None : goal.returns-in-None
returns-in-None c = record {
  puts =
      puts_none c.args.terms.now c.args.term c.args.waiting.now.items c.node-node.result.kids.now (head_of c.node-node.result.head)
      (ap (λ o. elim o [ None ↦ [] | Some n ↦ n.kids ]) c.node-node.ensures.node) c.node-node.ensures.term c.node-node.ensures.before
      c.extend_from_slice.new.self.items c.in_ok-extend_from_slice.ensures.items
      (subst (AreCompanions c.args.terms.now (term_in c.args.terms.now c.args.term)) c.in-None.is c.in_ok-companion.ensures.companion);
}
