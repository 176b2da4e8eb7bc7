-- The clause stands behind those that were there, and rests on them.
use Rattle.std.proofs.Common.{◌≡◌, ℕ, ◌<◌, length, subst, sym, rules}
use Rattle.nz_log.specs.Logs.{LogState, IsLive, RestsOn}
use Rattle.nz_log.specs.Stored.{entry_of, log_of, origin_of}
use Rattle.nz_log.proofs.Entries.{puts_last}
use Rattle.nz_log.proofs.PremiseOrder.{puts_ordered}
use Rattle.nz_log.proofs.log.Log.put.Goals as goal

pub invariant_of-self-2 : goal.invariant_of-self-2
invariant_of-self-2 c =
    let n = c.len-id.result in
    let long : n ≡ length c.self.inside.clauses.items = search rules in
    let puts = puts_last c.self.inside.clauses.items c.self.inside.told.items c.self.inside.atoms c.args.stored n long in
    let P : LogState → Type 0 = λ r. (id : ℕ) → ((i : ℕ) → IsLive r i → i < id) → RestsOn r id c.args.stored.level (origin_of c.args.stored.origin) in
    let rests = subst P (sym c.self.view_is) c.requires.rests in
    rw c.in_ok-push.ensures.items
    (puts_ordered (log_of c.self.inside.clauses.items c.self.inside.told.items c.self.inside.atoms) _ n (entry_of c.args.stored) puts c.self.invariant.0 (rests n puts.above), c.self.invariant.1)

pub returns-clause-made : goal.returns-clause-made
returns-clause-made c =
    rw (c.in_ok-push.ensures.items, ← c.self.view_is)
    (puts_last c.self.inside.clauses.items c.self.inside.told.items c.self.inside.atoms c.args.stored c.len-id.result (search rules))
