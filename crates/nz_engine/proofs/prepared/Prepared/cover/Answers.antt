use Rattle.std.proofs.Common.{◌++◌, map, refl, sym, ap, ◌∙◌, subst}
use Rattle.nz_spec.specs.terms.Table.{term_in}
use Rattle.nz_sat.specs.Sats.{held_of}
use Rattle.nz_engine.specs.Preparing.{PreparedState, CoversAlso, IsSeen}
use Rattle.nz_engine.proofs.SeenClauses.{still_seen}
use Rattle.nz_engine.proofs.prepared.Prepared.cover.Goals as goal

pub hold-requires-clause-since : goal.hold-requires-clause-since
hold-requires-clause-since c =
    let own = c.self.inside in
    still_seen own.sat.seen own.log c.add_term.new.log own.sat.clauses c.in-Ok.ensures.kept.clauses (subst IsSeen (sym c.self.view_is) c.requires.seen)

pub returns-clause-covered : goal.returns-clause-covered
returns-clause-covered c =
    let ns = c.args.terms.now in
    let did = c.in-Ok.ensures in
    let new : PreparedState = record { log = c.add_term.new.log; form = c.add_term.new.self; sat = c.hold.new.sat; given = c.self.inside.given; numbered = c.self.inside.numbered; above = c.self.inside.above; noted = c.self.inside.noted.items } in
    subst (λ (s : PreparedState). CoversAlso ns s c.args.term c.args.level new) c.self.view_is
    (record {
      covers = did.covers;
      kept = did.kept;
      grown = did.grown;
      made = did.made_of;
      here = did.covered;
      ids = c.in-Ok.clauses.items;
      added = did.answered;
      joined = c.in_ok-hold.ensures.held ∙ ap (λ is. c.self.inside.sat.clauses ++ map (held_of c.add_term.new.log) is) c.deref.ensures.value;
      seen = c.in_ok-hold.ensures.since;
      told = did.told;
      sound = did.sound;
      given = refl;
      numbered = refl;
    })

pub returns-in-Err-clause-stop : goal.returns-in-Err-clause-stop
returns-in-Err-clause-stop c = c.stop_of.ensures.stop c.args.terms.now (term_in c.args.terms.now c.args.term) c.in-Err.ensures.stop
