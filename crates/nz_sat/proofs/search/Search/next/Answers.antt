-- An atom of a clause that is held is one of the search.
use Rattle.std.proofs.Common.{◌≡◌, ℕ, List, None, Option, Some, subst, Contains, IfSome}
use Rattle.nz_log.specs.Logs.{LogState}
use Rattle.nz_sat.specs.declared.clauses.Held.{Held}
use Rattle.nz_sat.specs.declared.search.Search.{Search}
use Rattle.nz_sat.specs.Sats.{ids}
use Rattle.nz_sat.specs.Searching.{IsSearch, IsUndecidedIn}
use Rattle.nz_sat.specs.Trails.{assigned}
use Rattle.nz_lists.proofs.Members.{map_has}
use Rattle.nz_sat.proofs.LearnedLines.{held_named}
use Rattle.nz_sat.proofs.WatchedTrails.{all_open}
use Rattle.nz_sat.proofs.search.Search.next.Goals as goal

undecided_named : (log : LogState) (held : List Held) (s : Search) → IsSearch log held s → (o : Option ℕ)
    → IfSome o (λ t. (h : Held) × Contains held h × IsUndecidedIn log h s.trail.entries t) → IfSome o (λ t. Contains s.atoms t × (assigned s.trail.entries t ≡ None))
undecided_named log held s search None h = tt
undecided_named log held s search (Some t) h =
    let has = map_has (λ (x : Held). x.id) held h.0 h.1 in
    (subst (Contains s.atoms) h.2.is (held_named s.atoms log (ids held) search.named h.0.id has h.2.literal h.2.has), h.2.free)

pub first_undecided-requires-clause-open : goal.first_undecided-requires-clause-open
first_undecided-requires-clause-open c = all_open c.args.log.now c.args.held.now c.args.self.now c.requires.search c.requires.ready

pub returns-in-None-clause-undecided : goal.returns-in-None-clause-undecided
returns-in-None-clause-undecided c = undecided_named c.args.log.now c.args.held.now c.args.self.now c.requires.search c.first_undecided.result c.first_undecided.ensures.undecided
