-- The next conflict, after a clause was learned.
use Rattle.std.proofs.Common.{◌≡◌, Err, ap, rules, subst, sym}
use Rattle.nz_sat.specs.declared.search.Search.{Search}
use Rattle.nz_sat.proofs.SearchSteps.{advances_err}
use Rattle.nz_sat.proofs.TheoryAnswers.{learned_advances, turns_learned}
use Rattle.nz_sat.proofs.SearchLines.{adds_limit}
use Rattle.nz_sat.proofs.search.Search.learn_on.Goals as goal

pub returns-in_err-learn-clause-steps : goal.returns-in_err-learn-clause-steps
returns-in_err-learn-clause-steps g c =
    let same : Err c.in_err-learn.field-0.0 ≡ c.from_residual.result = search rules in
    record { advances = advances_err c.from_residual.result same c.in_err-learn.ensures.advances; met = search rules; spent = search rules }

pub conflict-requires-clause-follow : goal.conflict-requires-clause-follow
conflict-requires-clause-follow g c = (c.learn.new.held.items, c.in_ok-learn.ensures.learned.may)

pub conflict-requires-clause-of : goal.conflict-requires-clause-of
conflict-requires-clause-of g c =
    let l = c.in_ok-learn.ensures.learned in
    subst (g.T.Theory.is_of c.learn.new.theory c.learn.new.log.atoms) (sym l.carries.atoms)
    (g.T.Theory.stays c.learn.new.theory c.args.log.now.atoms c.learn.new.log.atoms c.args.self.now.atoms
    (c.learn.ensures.advances.keeps.of c.args.log.now.atoms c.args.self.now.atoms c.requires.of) c.learn.ensures.advances.grows.atoms)

pub conflict-requires-clause-noted : goal.conflict-requires-clause-noted
conflict-requires-clause-noted g c = c.in_ok-learn.ensures.learned.noted.trail

pub returns-clause-steps : goal.returns-clause-steps
returns-clause-steps g c =
    let l = c.in_ok-learn.ensures.learned in
    record {
      advances = learned_advances l c.in_ok-learn.ensures.advances (c.conflict.ensures.advances c.learn.new.held.items l.may);
      met = c.conflict.ensures.met;
      spent = c.conflict.ensures.spent;
    }

pub returns-clause-turns : goal.returns-clause-turns
returns-clause-turns g c =
    let l = c.in_ok-learn.ensures.learned in
    let may = l.may in
    turns_learned c.conflict.new.self l (adds_limit c.args.work.now c.learn.new.work c.learn.ensures.advances.adds) (c.conflict.ensures.advances c.learn.new.held.items may).grows c.conflict.ensures.adds
    (ap (λ (r : Search). r.atoms) c.conflict.ensures.rest) c.conflict.result c.conflict.ensures.noted (c.conflict.ensures.comes c.learn.new.held.items may)
