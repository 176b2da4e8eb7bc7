use Rattle.std.proofs.Common.{◌∙◌}
use Rattle.nz_reals_tests.proofs.TheoryOverLog.{placed_more}
use Rattle.nz_reals_tests.proofs.system.place_all.Goals as goal

pub loop-term-preserved : goal.loop-term-preserved
loop-term-preserved c =
    let so_far = c.loop-term.invariant in
    let made = c.in_ok-place.ensures in
    (placed_more c.loop-term.log c.place.new.self c.loop-term.term _ so_far.0 made.told made.others, made.atoms ∙ so_far.1)
