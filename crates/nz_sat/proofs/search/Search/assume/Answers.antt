-- Each arm by what is known of the literal's atom.
use Rattle.std.proofs.Common.{◌≡◌, ◌∙◌, ℕ, List, false, None, ap, sym, subst, rules, Contains}
use Rattle.nz_log.specs.Lits.{are_same_lit}
use Rattle.nz_sat.specs.Clauses.{Visits}
use Rattle.nz_sat.specs.Trails.{TrailState, assigned, with_entry}
use Rattle.nz_sat.specs.Watched.{AreWatched, HasClause, watch_state}
use Rattle.nz_sat.proofs.Beginnings.{assumed_depth, assumes_so}
use Rattle.nz_sat.proofs.Clausal.{other_lit}
use Rattle.nz_sat.proofs.Propagations.{assume_fails}
use Rattle.nz_sat.proofs.WatchedTrails.{first_entry_watched}
use Rattle.nz_sat.proofs.search.Search.assume.Goals as goal

pub propagate-requires : goal.propagate-requires
propagate-requires c =
    let s = c.args.self.now in
    let l = c.args.literal in
    record {
      watched =
          subst (λ (t : TrailState). AreWatched c.args.log.now (watch_state s.propagation t)) (sym c.assume.ensures.put)
          (first_entry_watched c.args.log.now s.propagation s.trail (record { literal = l; level = 0; reason = None }) (assumed_depth s.trail.entries l c.requires.undecided) c.requires.watched);
    }

pub returns-in-Some-2-clause-comes : goal.returns-in-Some-2-clause-comes
returns-in-Some-2-clause-comes c held assumed may =
    let e = c.in-Some.entry in
    let differ : are_same_lit e.literal c.args.literal ≡ false = search rules in
    assume_fails c.args.log.now held assumed c.args.literal c.args.self.now may c.requires.undecided c.tells_lits.ensures.tells e
    (ap (assigned c.args.self.now.trail.entries) (sym c.atom.ensures.atom) ∙ sym c.in-Some.ensures.assigned)
    (other_lit c.tells_lits.ensures.tells e.literal c.args.literal differ)

pub returns-in-None-clause-comes : goal.returns-in-None-clause-comes
returns-in-None-clause-comes c held assumed may =
    let s = c.args.self.now in
    let log = c.args.log.now in
    let l = c.args.literal in
    let p = c.propagate.ensures in
    let t = c.propagate.new.trail in
    let among : List ℕ → Type 0 = λ us. (i : ℕ) → HasClause s.propagation i → Contains us i in
    let visits : Visits log among (with_entry s.trail (record { literal = l; level = 0; reason = None })) t = subst (λ (u : TrailState). Visits log among u t) c.assume.ensures.put p.visits in
    assumes_so log held assumed l s may c.requires.undecided (ap (assigned s.trail.entries) (sym c.atom.ensures.atom) ∙ sym c.in-None.ensures.assigned) t c.propagate.new.self visits p.keeps p.watched c.propagate.result p.all p.falsified
