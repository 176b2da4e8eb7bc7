-- Each two neighbouring bounds have their clause among those held: those that were, and those that are put.
use Rattle.std.proofs.Common.{◌≡◌, ◌++◌, ℕ, true, List, ap, ◌∙◌, map, subst, sym}
use Rattle.std.specs.Prelude.{All}
use Rattle.nz_log.specs.Logs.{IsLive}
use Rattle.nz_reals.specs.Exclusions.{HasNeighbours}
use Rattle.nz_reals.specs.State.{Theory, known_at}
use Rattle.nz_sat.specs.Sats.{SatState, held_of}
use Rattle.nz_engine.specs.Preparing.{ids_held}
use Rattle.nz_engine.proofs.ExclusionClauses.{excludes_by, excludes_none, live_ids, on_both}
use Rattle.nz_engine.proofs.SeenClauses.{still_seen}
use Rattle.nz_engine.proofs.prepared.exclusions.exclude.Goals as goal

pub returns-then-knows_none : goal.returns-then-knows_none
returns-then-knows_none c =
    record {
      excludes = excludes_none c.args.log.now c.args.sat.now c.args.atoms.now
          (λ i. ap (λ (s : SatState Theory). known_at s.theory i) (sym c.sat.view_is) ∙ c.knows_none.ensures.none c.if-knows_none.true i) c.requires.since;
    }

pub exclusions-requires-clause-held : goal.exclusions-requires-clause-held
exclusions-requires-clause-held c =
    let log = c.args.log.now in
    let held = c.args.sat.now.clauses in
    let ids : c.deref.result.now ≡ ids_held held = c.deref.ensures.value ∙ c.in_ok-held.ensures.ids ∙ ap ids_held c.clauses.ensures.clauses in
    subst (All (IsLive log)) (sym ids) (live_ids log held c.requires.held)

pub hold-requires-clause-since : goal.hold-requires-clause-since
hold-requires-clause-since c =
    let sat = c.args.sat.now in
    still_seen sat.seen c.args.log.now c.exclusions.new.log sat.clauses c.exclusions.ensures.adds.keeps.kept c.requires.since

pub returns : goal.returns
returns c =
    let atoms = c.args.atoms.now in
    let old = c.args.sat.now in
    let log = c.exclusions.new.log in
    let cs = c.in_ok-exclusions.exclusions.items in
    let ids : c.deref.result.now ≡ ids_held old.clauses = c.deref.ensures.value ∙ c.in_ok-held.ensures.ids ∙ ap ids_held c.clauses.ensures.clauses in
    let neighbours : HasNeighbours old.theory log atoms (ids_held old.clauses ++ cs) =
    subst (λ (s : SatState Theory). HasNeighbours s.theory log atoms (ids_held old.clauses ++ cs)) c.sat.view_is
    (subst (λ (is : List ℕ). HasNeighbours c.sat.inside.theory log atoms (is ++ cs)) ids c.in_ok-exclusions.ensures.neighbours) in
    record {
      excludes = on_both c.hold.result
          (λ joined since.
          let same : c.hold.new.sat.clauses ≡ old.clauses ++ map (held_of log) cs = subst (λ (is : List ℕ). c.hold.new.sat.clauses ≡ old.clauses ++ map (held_of log) is) c.deref-2.ensures.value joined in
          excludes_by c.args.log.now log old c.hold.new.sat atoms cs c.hold.ensures.theory c.exclusions.ensures.adds c.in_ok-exclusions.ensures.clauses same since neighbours) c.hold.ensures.held c.hold.ensures.since;
    }
