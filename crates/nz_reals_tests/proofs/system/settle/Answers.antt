use Rattle.std.proofs.Common.{refl}
use Rattle.nz_reals.specs.State.{told_lits}
use Rattle.nz_reals_tests.proofs.TheoryOverLog.{are_told, clash_live, order_told}
use Rattle.nz_reals_tests.proofs.system.settle.Goals as goal

pub returns-clause-order : goal.returns-clause-order
returns-clause-order c =
    let ns = c.args.terms.now in
    let old = c.args.log.now in
    let t = c.args.reals.now in
    let ids = c.args.atoms.now in
    let h = c.requires.order in
    let made = c.in_ok-clause.ensures in
    order_told ns old c.check.new.log t c.check.new.self ids (told_lits t) h (made.grows (told_lits t) refl (are_told ns old t ids h)) (made.over ns h.over) (made.of old.atoms ids h.of)
    (made.told (told_lits t) refl) h.told

pub returns-clause-live : goal.returns-clause-live
returns-clause-live c = clash_live c.check.new.log _ c.in_ok-clause.clause (c.in_ok-clause.ensures.clash (told_lits c.args.reals.now) refl)
