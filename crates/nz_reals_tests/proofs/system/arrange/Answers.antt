use Rattle.std.proofs.Common.{[], refl}
use Rattle.nz_reals_tests.proofs.TheoryOverLog.{may_arrange, order_restarted, over_empty}
use Rattle.nz_reals_tests.proofs.system.arrange.Goals as goal

pub arrange-requires : goal.arrange-requires
arrange-requires c = record { may = may_arrange c.args.terms.now c.args.log.now c.args.reals.now c.args.atoms.now c.requires.order }

pub returns : goal.returns
returns c =
    let ns = c.args.terms.now in
    let log = c.args.log.now in
    let h = c.requires.order in
    let over = c.restart.ensures.over ns (c.arrange.ensures.over ns h.within (over_empty ns c.new.result c.new.ensures.empty h.over.table)) in
    record { order = order_restarted ns log c.args.reals.now c.restart.new.self c.args.atoms.now [] h refl over (c.in_ok-restart.ensures.of log.atoms) c.in_ok-restart.ensures.untold }
