-- The clause is in order over the old log, and the old clauses stay so.
use Rattle.std.proofs.Common.{◌≡◌, ℕ, ◌<◌, ◌≤◌, List, sym, subst, arith, rules}
use Rattle.std.specs.Prelude.{IfOk, OnErr}
use Rattle.std.proofs.lemmas.List.Elements.{recursion_from_All}
use Rattle.nz_log.specs.declared.origins.Link.{Link}
use Rattle.nz_log.specs.Atoms.{IsLitIn}
use Rattle.nz_log.specs.Logs.{LogState, chain_entry, chain_of, level_at, level_of_links, level_with, IsLive, Puts, RestsOn}
use Rattle.nz_log.proofs.ChainGrowth.{chain_grows}
use Rattle.nz_log.proofs.PremiseOrder.{chain_rests}
use Rattle.nz_log.proofs.Soundness.{chain_in_order, level_grows, rule_keeps_order}
use Rattle.nz_log.proofs.log.Log.chain.Goals as goal

pub returns-clause-sound : goal.returns-clause-sound
returns-clause-sound c ns levels within order =
    let s = c.args.self.now in
    let ks = c.args.links.now in
    let e = chain_entry s c.args.first ks in
    let made : IfOk c.put.result (λ id. Puts s id e c.put.new.self) = search rules in
    let unchanged : OnErr c.put.result (c.put.new.self ≡ s) = search rules in
    let atoms : c.put.new.self.atoms ≡ s.atoms = search rules in
    rule_keeps_order s c.put.new.self e c.put.result made unchanged atoms ns levels
    (λ id above. chain_in_order ns levels s order id c.args.first ks above c.requires.first
    (recursion_from_All (λ (k : Link). IsLive s k.clause) ks c.requires.live) (recursion_from_All (λ (k : Link). IsLitIn ns s.atoms k.literal) ks within))
    order

pub returns-clause-grows : goal.returns-clause-grows
returns-clause-grows c =
    let s = c.args.self.now in
    let ks = c.args.links.now in
    let made : IfOk c.put.result (λ id. Puts s id (chain_entry s c.args.first ks) c.put.new.self) = search rules in
    let unchanged : OnErr c.put.result (c.put.new.self ≡ s) = search rules in
    chain_grows s c.put.new.self c.args.first ks c.put.result made unchanged c.requires.first c.requires.live

pub put-requires : goal.put-requires
put-requires c =
    let s = c.args.self.now in
    let ks = c.args.links.now in
    let from = c.level_of_links-level.result in
    let start : from ≡ level_of_links s (level_at s c.args.first) ks = search rules in
    let n = c.level_with-level.result in
    let ends : n ≡ level_with s from c.as_slice.result.now = search rules in
    let grows = level_grows s from c.as_slice.result.now in
    let below : level_of_links s (level_at s c.args.first) ks ≤ n = omega (arith, start, grows, ends) in
    let P : LogState → Type 0 = λ r. (id : ℕ) → ((i : ℕ) → IsLive r i → i < id) → RestsOn r id n (chain_of c.args.first c.in_ok-links.links.items) in
    record {
      rests = subst P (sym c.last_of_chain.ensures.unchanged)
          (λ id above. subst (λ (l : List Link). RestsOn s id n (chain_of c.args.first l)) (sym c.in_ok-links.ensures.items)
          (chain_rests s id c.args.first ks above c.requires.first c.requires.live c.requires.some n below));
    }
