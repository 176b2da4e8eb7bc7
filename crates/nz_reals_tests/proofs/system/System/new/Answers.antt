use Rattle.std.proofs.Common.{sym, subst, ◌<◌}
use Rattle.nz_reals_tests.proofs.TheoryOverLog.{order_empty}
use Rattle.nz_reals_tests.proofs.system.System.new.Goals as goal

pub invariant_of-result : goal.invariant_of-result
invariant_of-result c =
    let log = c.place_all.new.log in
    order_empty c.args.terms log c.new-2.result c.new-3.result.items c.new-2.ensures.empty c.new-3.ensures.items c.known_table.ensures.table
    (λ t less. c.in_ok-place_all.ensures.placed t (subst (λ n. t < n) (sym c.len.ensures.len) less)) (c.new-2.ensures.of log.atoms)
