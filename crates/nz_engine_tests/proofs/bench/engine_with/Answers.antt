use Rattle.nz_engine_tests.proofs.ToldLevels.{kept_new, pushed_new}
use Rattle.nz_engine_tests.proofs.bench.engine_with.Goals as goal

pub loop-i-init : goal.loop-i-init
loop-i-init c = pushed_new _ _ _ c.in_ok-engine.ensures.none c.in_ok-push.ensures.ok c.push.ensures.table c.in_ok-engine.ensures.begins c.push.ensures.begins

pub loop-i-preserved : goal.loop-i-preserved
loop-i-preserved c = kept_new _ _ _ c.loop-i.invariant c.add_to.ensures.ready c.add_to.ensures.count c.add_to.ensures.begins
