use Rattle.std.proofs.Common.{◌++◌, ◌∷◌, [], List, append_assoc, ap, get_or, map, sym, take, ◌∙◌}
use Rattle.std.proofs.lemmas.List.{map_more}
use Rattle.nz_sat.specs.declared.clauses.Held.{Held}
use Rattle.nz_sat.specs.Sats.{held_of}
use Rattle.nz_engine.proofs.SeenClauses.{seen_also}
use Rattle.nz_engine.proofs.prepared.hold.Goals as goal

pub loop-clause-preserved : goal.loop-clause-preserved
loop-clause-preserved c =
    let log = c.args.log.now in
    let first = c.args.sat.now.clauses in
    let ids = c.args.clauses.now in
    let k = c.loop-clause.clause-index in
    let id = get_or ids k 0 in
    let old = c.loop-clause.sat in
    let did = c.in_ok-add.ensures in
    let below = c.loop-clause-test.true in
    record {
      clauses = did.added ∙ ap (λ (hs : List Held). hs ++ held_of log id ∷ []) c.loop-clause.invariant.clauses ∙ append_assoc first (map (held_of log) (take k ids)) (held_of log id ∷ [])
          ∙ ap (λ (hs : List Held). first ++ hs) (sym (map_more (held_of log) ids k 0 below));
      since = seen_also old.seen c.add.new.self.seen log old.clauses c.add.new.self.clauses id c.loop-clause.invariant.since (c.requires.live k 0 below) did.added did.seen;
      theory = c.add.ensures.theory ∙ c.loop-clause.invariant.theory;
    }
