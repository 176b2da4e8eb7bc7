-- The last thing heard is served.
use Rattle.std.proofs.Common.{true, sym, subst, inl, inr}
use Rattle.nz_script.specs.replies.Right.{beginning}
use Rattle.nz_script.specs.run.Transcript.{AreRight}
use Rattle.nz_session.specs.Serve.{IsCut, kept_at}
use Rattle.nz_session.proofs.InputPieces.{finished, finish_broken, finish_cut, finish_quiet, kept_alike, writes_more, writes_nothing}
use Rattle.nz_session.proofs.session.Session.finish.Goals as goal

pub returns-in-None-clause-ended : goal.returns-in-None-clause-ended
returns-in-None-clause-ended g c =
    λ _ limit bytes serves. finish_quiet g.E.Decide.levels g.E.Decide.table g.E.Decide.begins limit bytes c.args.self.now serves c.finish.result c.finish.ensures.heard c.in-None.is

pub returns-in-Some-clause-ended : goal.returns-in-Some-clause-ended
returns-in-Some-clause-ended g c =
    λ e limit bytes serves.
    finished g.E.Decide.levels g.E.Decide.table g.E.Decide.begins limit bytes c.args.self.now serves c.finish.result c.finish.ensures.heard c.in-Some.heard c.in-Some.is
    (kept_at c.serve.new.desk c.serve.new.kept.items) _ _ (c.serve.ensures.answered e)
    ((elim e as (λ _. AreRight (beginning limit) (kept_at c.serve.new.desk c.serve.new.kept.items)) [
      | inl went ↦ (c.serve.ensures.going went limit serves.going).right
      | inr left ↦ (c.serve.ensures.exited left limit serves.going).0
    ]))

pub returns-in-None-clause-goes_on : goal.returns-in-None-clause-goes_on
returns-in-None-clause-goes_on g c = λ _ limit bytes serves. serves.going.goes_on

pub returns-in-Some-clause-goes_on : goal.returns-in-Some-clause-goes_on
returns-in-Some-clause-goes_on g c = λ went limit bytes serves. (c.serve.ensures.going went limit serves.going).goes_on

pub returns-in-Some-clause-exits : goal.returns-in-Some-clause-exits
returns-in-Some-clause-exits g c = λ left limit bytes serves. (c.serve.ensures.exited left limit serves.going).1

pub returns-in-Some-clause-written : goal.returns-in-Some-clause-written
returns-in-Some-clause-written g c = λ e limit bytes serves. writes_more _ _ _ _ _ _ _ (writes_nothing _ (g.K.Sink.held c.args.sink.now)) (c.serve.ensures.answered e)

pub returns-in-Some-clause-cut : goal.returns-in-Some-clause-cut
returns-in-Some-clause-cut g c =
    λ e limit bytes serves.
    subst (IsCut limit true bytes) (sym (kept_alike c.args.self.now.desk c.serve.new.desk _ _ (c.serve.ensures.cut_desk e) (c.serve.ensures.cut e)))
    (finish_cut g.E.Decide.levels g.E.Decide.table g.E.Decide.begins limit bytes c.args.self.now serves c.finish.result c.finish.ensures.heard c.in-Some.heard c.in-Some.is)

pub returns-in-Some-clause-broken_off : goal.returns-in-Some-clause-broken_off
returns-in-Some-clause-broken_off g c =
    λ e limit bytes serves.
    finish_broken g.E.Decide.levels g.E.Decide.table g.E.Decide.begins limit bytes c.args.self.now serves c.finish.result c.finish.ensures.heard c.in-Some.heard c.in-Some.is
    (kept_at c.serve.new.desk c.serve.new.kept.items) _ _ (c.serve.ensures.broken_off_written e) (c.serve.ensures.broken_off e limit serves.going)
