use Rattle.std.specs.Prelude.{slice_get}
use Rattle.nz_session.specs.Completed.{bound_at, valued_at}
use Rattle.nz_session.proofs.LiveModels.{level_more}
use Rattle.nz_session.proofs.models.bindings_of.Goals as goal

pub loop-level-preserved : goal.loop-level-preserved
loop-level-preserved c =
    let ns = c.args.terms.now in
    let ps = c.args.assign.now in
    let ks = c.below-level-items.result.now in
    let i = c.loop-level.level-index in
    record {
      bindings = level_more (λ j. bound_at ns ps (slice_get ns j)) ks c.args.live.now.below i c.level-item.result c.constants.result.now c.loop-level.bindings c.bind_all.new.bindings _
          c.below-level-items.ensures.below c.loop-level-test.true c.level-item.is c.constants.ensures.constants c.in_ok-bind_all.ensures.bindings c.loop-level.invariant.bindings;
      values = level_more (λ j. valued_at ns ps j (slice_get ns j)) ks c.args.live.now.below i c.level-item.result c.constants.result.now c.loop-level.values c.bind_all.new.values _
          c.below-level-items.ensures.below c.loop-level-test.true c.level-item.is c.constants.ensures.constants c.in_ok-bind_all.ensures.values c.loop-level.invariant.values;
    }
