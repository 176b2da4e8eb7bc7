-- The first clause, and then those of the links.
use Rattle.nz_log.proofs.MarkUpdates.{set_passes}
use Rattle.nz_log.specs.Spelling.{Pass}
use Rattle.nz_log.specs.Stored.{origin_of}
use Rattle.std.proofs.Common.{◌≡◌, true, List, subst, sym}
use Rattle.std.specs.Prelude.{All}
use Rattle.nz_log.specs.declared.origins.Link.{Link}
use Rattle.nz_log.proofs.steps.mark_origin.Goals as goal

pub returns-in-Chain-clause-only : goal.returns-in-Chain-clause-only
returns-in-Chain-clause-only c test old pass =
    let p = subst (λ o. Pass test (origin_of o)) c.in-Chain.is pass in
    c.mark_links.ensures.only test (set_passes test c.args.marks.now.items c.in-Chain.first p.0 old)
    (subst (λ (ks : List Link). All (λ (k : Link). test k.clause ≡ true) ks) (sym c.deref.ensures.value) p.1)
