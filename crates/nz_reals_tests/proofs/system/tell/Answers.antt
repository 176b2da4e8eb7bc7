use Rattle.std.proofs.Common.{rules, refl, subst}
use Rattle.std.specs.Prelude.{Contains}
use Rattle.nz_search.specs.Theories.{told_after}
use Rattle.nz_reals.specs.State.{told_lits}
use Rattle.nz_reals_tests.proofs.TheoryOverLog.{are_told_with, clash_live, order_told, told_among}
use Rattle.nz_reals_tests.proofs.system.tell.Goals as goal

pub returns-clause-order : goal.returns-clause-order
returns-clause-order c =
    let ns = c.args.terms.now in
    let old = c.args.log.now in
    let t = c.args.reals.now in
    let ids = c.args.atoms.now in
    let l = c.args.literal in
    let h = c.requires.order in
    let made = c.in_ok-clause.ensures in
    let found : Contains ids c.atom-atom.result = search rules in
    let has : Contains ids l.atom = subst (Contains ids) c.atom-atom.ensures.atom found in
    order_told ns old c.assert_lit.new.log t c.assert_lit.new.self ids (told_after (told_lits t) l c.in_ok-clause.clause) h (made.grows (told_lits t) refl (are_told_with ns old t ids h l has))
    (made.over ns h.over) (made.of old.atoms ids h.of) (made.told (told_lits t) refl) (told_among ids (told_lits t) l c.in_ok-clause.clause h.told has)

pub returns-clause-live : goal.returns-clause-live
returns-clause-live c = clash_live c.assert_lit.new.log _ c.in_ok-clause.clause (c.in_ok-clause.ensures.clash (told_lits c.args.reals.now) refl)
