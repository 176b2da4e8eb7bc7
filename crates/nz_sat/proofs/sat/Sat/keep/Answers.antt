-- What the closure tests, and what is kept of what stays.
use Rattle.std.proofs.Common.{ap, sym, subst, ◌∙◌, List, rules}
use Rattle.nz_log.specs.Logs.{LogState}
use Rattle.nz_sat.specs.declared.clauses.Held.{Held}
use Rattle.nz_sat.specs.Sats.{SatState, held_part, is_in}
use Rattle.nz_sat.specs.Stored.{IsKeptSince, log_of}
use Rattle.nz_sat.specs.Watched.{IsKept}
use Rattle.nz_sat.proofs.KeptClauses.{part_since, some_log}
use Rattle.nz_sat.proofs.Retaining.{retained}
use Rattle.nz_sat.proofs.sat.Sat.keep.Goals as goal

pub keep-requires : goal.keep-requires
keep-requires g c =
    let s = c.self.inside in
    record {
      kept = subst (λ (hs : List Held). (log : LogState) × IsKept log hs s.kept) (sym c.deref.ensures.value) (some_log (log_of s.seen) s.clauses.items s.kept c.self.invariant);
    }

pub returns-clause-clauses : goal.returns-clause-clauses
returns-clause-clauses g c =
    retained _ (λ (h : Held). is_in c.args.part h) _ (λ x b f k. (search rules, search rules)) c.self.inside.clauses.items c.retain.new.self.items c.retain.ensures.filtered
    ∙ ap (λ (s : SatState g.row.T.Denot). held_part c.args.part s.clauses) c.self.view_is

pub invariant_of-self : goal.invariant_of-self
invariant_of-self g c =
    let s = c.self.inside in
    let old = s.clauses.items in
    let new = held_part c.args.part old in
    let is = retained _ (λ (h : Held). is_in c.args.part h) _ (λ x b f k. (search rules, search rules)) old c.retain.new.self.items c.retain.ensures.filtered in
    let kept : (log : LogState) → IsKept log old s.kept → IsKept log new c.keep.new.self =
    subst (λ (hs : List Held). (log : LogState) → IsKept log hs s.kept → IsKept log (held_part c.args.part hs) c.keep.new.self) c.deref.ensures.value c.keep.ensures.kept in
    subst (λ (hs : List Held). IsKeptSince (log_of s.seen) hs c.keep.new.self) (sym is) (part_since (log_of s.seen) old new s.kept c.keep.new.self kept c.self.invariant)
