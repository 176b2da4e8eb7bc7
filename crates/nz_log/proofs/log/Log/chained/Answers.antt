-- The set of the first clause, and then one link after another.
use Rattle.std.proofs.Common.{◌≡◌, List, ap, subst, sym, ◌∙◌, rules}
use Rattle.nz_spec.specs.clauses.Literal.{once}
use Rattle.nz_log.specs.declared.lits.Lit.{Lit}
use Rattle.nz_log.specs.declared.origins.Link.{Link}
use Rattle.nz_log.specs.Lits.{are_same_lit, lit_resolvent}
use Rattle.nz_log.specs.Logs.{literals_at}
use Rattle.nz_log.proofs.ChainLinks.{chained_next, chained_of_set, resolvent_set}
use Rattle.nz_log.proofs.LiteralSets.{set_of_set}
use Rattle.nz_log.proofs.log.Log.chained.Goals as goal

pub loop-link-init : goal.loop-link-init
loop-link-init c =
    let s = c.args.self.now in
    let ls = literals_at s c.args.first in
    let is : c.add_all.new.self ≡ once are_same_lit ls = search rules in
    record {
      left = chained_of_set s ls c.add_all.new.self c.args.links.now c.requires.some is;
      set = ap (once are_same_lit) is ∙ set_of_set ls ∙ sym is;
    }

pub loop-link-preserved : goal.loop-link-preserved
loop-link-preserved c =
    let s = c.args.self.now in
    let ks = c.args.links.now in
    let k = c.link-item.result in
    let old = c.loop-link.resolvent in
    let new = c.resolve_with.new.self in
    let is : new ≡ lit_resolvent k.literal old (literals_at s k.clause) =
    c.in_ok-resolve_with.ensures.resolvent old (sym c.loop-link.invariant.set)
    ∙ ap (λ (ls : List Lit). lit_resolvent k.literal old ls) c.clause-in-loop-link.ensures.literals in
    let read = subst (λ (m : Link). new ≡ lit_resolvent m.literal old (literals_at s m.clause)) c.link-item.is is in
    record {
      left = chained_next s old new ks c.loop-link.link-index k c.loop-link-test.true read ∙ c.loop-link.invariant.left;
      set = resolvent_set k.literal old (literals_at s k.clause) new is;
    }
