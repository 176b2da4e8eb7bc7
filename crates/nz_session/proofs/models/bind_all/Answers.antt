use Rattle.nz_session.proofs.LiveModels.{completed_more, valued_more}
use Rattle.nz_session.proofs.models.bind_all.Goals as goal

pub loop-accepted-preserved : goal.loop-accepted-preserved
loop-accepted-preserved c =
    let ns = c.args.terms.now in
    let ps = c.args.assign.now in
    let items = c.args.constants.now in
    let place = c.loop-accepted.accepted-index in
    record {
      bindings = completed_more ns ps items place (record { number = 0; term = 0 }) c.loop-accepted.bindings c.bind.new.bindings _ c.loop-accepted-test.true c.in_ok-bind.ensures.bindings c.loop-accepted.invariant.bindings;
      values = valued_more ns ps items place (record { number = 0; term = 0 }) c.loop-accepted.values c.bind.new.values _ c.loop-accepted-test.true c.in_ok-bind.ensures.values c.loop-accepted.invariant.values;
    }
