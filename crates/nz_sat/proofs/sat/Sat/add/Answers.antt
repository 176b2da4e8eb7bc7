-- What was kept is kept in the log that is seen now.
use Rattle.std.proofs.Common.{sym, subst, List}
use Rattle.nz_log.specs.Logs.{LogState}
use Rattle.nz_sat.specs.declared.clauses.Held.{Held}
use Rattle.nz_sat.specs.Sats.{AreSameSince, SatState}
use Rattle.nz_sat.specs.Stored.{log_of}
use Rattle.nz_sat.specs.Watched.{IsKept}
use Rattle.nz_sat.proofs.KeptClauses.{kept_more, kept_now}
use Rattle.nz_sat.proofs.sat.Sat.add.Goals as goal

pub invariant_of-self-2 : goal.invariant_of-self-2
invariant_of-self-2 g c =
    let log = c.args.log.now in
    let s = c.self.inside in
    let since = subst (λ (t : SatState g.row.T.Denot). AreSameSince t.seen log t.clauses) (sym c.self.view_is) c.requires.since in
    let kept = kept_now (log_of s.seen) log s.clauses.items s.kept c.self.invariant since in
    subst (λ (l : LogState). IsKept l c.push.new.self.items s.kept) (sym c.of.ensures)
    (subst (λ (hs : List Held). IsKept log hs s.kept) (sym c.in_ok-push.ensures.items) (kept_more log s.clauses.items _ s.kept kept))
