use Rattle.std.proofs.Common.{arith}
use Rattle.nz_session.proofs.ToldAssertions.{told_begin}
use Rattle.nz_session.proofs.told.begin_first.Goals as goal

pub returns-clause-told : goal.returns-clause-told
returns-clause-told g c =
    λ asserted some h.
    told_begin c.begin_level.result (g.E.Decide.levels c.args.engine.now) (g.E.Decide.levels c.begin_level.new.engine) c.args.told.now c.begin_level.new.told asserted some h
    (omega (arith, c.if-told-gt0.false)) c.begin_level.ensures.begun c.begin_level.ensures.unchanged
