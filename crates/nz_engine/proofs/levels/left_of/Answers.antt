use Rattle.std.proofs.Common.{length, ap, arith, add-one}
use Rattle.nz_engine.proofs.TermsByLevel.{count_next}
use Rattle.nz_engine.proofs.levels.left_of.Goals as goal

pub loop-added-preserved : goal.loop-added-preserved
loop-added-preserved c =
    let next = count_next c.args.kind c.args.levels.now c.loop-added.added-index c.added-item.result c.loop-added-test.true c.added-item.is in
    let before = c.loop-added.invariant in
    let left = c.saturating_sub-left.ensures in
    let same = ap length c.of_kind.ensures.terms in
    rw add-one (omega (arith, next, before, left, same))
