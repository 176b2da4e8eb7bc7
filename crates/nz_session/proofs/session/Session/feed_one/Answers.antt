-- What the reader tells is served.
use Rattle.std.proofs.Common.{inl, inr, false, Some, ◌++◌, sym, subst, ap}
use Rattle.nz_script.specs.text.Text.{script_limits}
use Rattle.nz_sexpr.specs.View.{heard_view}
use Rattle.nz_session.specs.Serve.{IsCut, kept_at}
use Rattle.nz_session.specs.declared.session.Fed.TheVariants.{Going, Exited, SinkFault, Cut}
use Rattle.nz_session.proofs.InputPieces.{broken_fed, cut_fed, exited_fed, fed_all, fed_more, kept_alike, none_is, one_of, some_is, stands}
use Rattle.nz_session.proofs.session.Session.feed_one.Goals as goal

pub serve-requires : goal.serve-requires
serve-requires g c = let serving = c.requires in (serving.0, serving.2.going)

pub returns-in-None-clause-all_used : goal.returns-in-None-clause-all_used
returns-in-None-clause-all_used g c =
    λ _ limit bytes serving. fed_all g.E.Decide.levels g.E.Decide.table g.E.Decide.begins limit bytes c.args.piece.now c.args.self.now.reader _ c.args.self.now.desk c.args.self.now.kept
    c.feed-used.result.0 c.feed-used.result.1 serving c.feed-used.ensures.heard c.in-None.is
    (c.feed-used.ensures.all_used (none_is _ c.in-None.is)) (c.feed-used.ensures.settled (none_is _ c.in-None.is))
    (λ all things fit. c.feed-used.ensures.complete script_limits all things fit (none_is _ c.in-None.is))

pub returns-in-Some-clause-going : goal.returns-in-Some-clause-going
returns-in-Some-clause-going g c =
    λ e limit bytes serving.
    let went = stands c.serve.result Going e in
    fed_more g.E.Decide.levels g.E.Decide.table g.E.Decide.begins limit bytes c.args.piece.now c.args.self.now.reader _ c.args.self.now.desk c.args.self.now.kept
    c.feed-used.result.0 c.feed-used.result.1 serving c.feed-used.ensures.heard c.in-Some.heard c.in-Some.is
    c.serve.new.desk c.serve.new.kept _ _ (c.serve.ensures.answered (inl went)) (c.serve.ensures.going went limit serving.going)

pub returns-in-Some-clause-exited : goal.returns-in-Some-clause-exited
returns-in-Some-clause-exited g c =
    λ e limit bytes serving.
    let left = stands c.serve.result Exited e in
    exited_fed g.E.Decide.levels g.E.Decide.table g.E.Decide.begins limit bytes c.args.piece.now c.args.self.now.reader _ c.args.self.now.desk c.args.self.now.kept
    c.feed-used.result.0 c.feed-used.result.1 serving c.feed-used.ensures.heard c.in-Some.heard c.in-Some.is
    c.serve.new.desk c.serve.new.kept _ _ (c.serve.ensures.answered (inr left))
    c.one_reading.ensures.one c.reading_tells_first.ensures.first (c.serve.ensures.exited left limit serving.going)

pub returns-in-Some-clause-answered : goal.returns-in-Some-clause-answered
returns-in-Some-clause-answered g c = λ e. (heard_view c.in-Some.heard, c.serve.ensures.answered (one_of c.serve.result Going Exited e))

pub returns-in-Some-clause-cut : goal.returns-in-Some-clause-cut
returns-in-Some-clause-cut g c =
    λ e limit bytes serving.
    let short = stands c.serve.result Cut e in
    subst (IsCut limit false (bytes ++ c.args.piece.now)) (sym (kept_alike c.args.self.now.desk c.serve.new.desk _ _ (c.serve.ensures.cut_desk short) (c.serve.ensures.cut short)))
    (cut_fed g.E.Decide.levels g.E.Decide.table g.E.Decide.begins limit bytes c.args.piece.now c.args.self.now.reader _ c.args.self.now.desk c.args.self.now.kept
    c.feed-used.result.0 c.feed-used.result.1 serving c.feed-used.ensures.heard c.in-Some.heard c.in-Some.is c.reading_tells_first.ensures.first)

pub returns-in-Some-clause-cut_kept : goal.returns-in-Some-clause-cut_kept
returns-in-Some-clause-cut_kept g c =
    λ e.
    let short = stands c.serve.result Cut e in
    kept_alike c.args.self.now.desk c.serve.new.desk _ _ (c.serve.ensures.cut_desk short) (c.serve.ensures.cut short)

pub returns-in-Some-clause-cut_written : goal.returns-in-Some-clause-cut_written
returns-in-Some-clause-cut_written g c = λ e. c.serve.ensures.cut_written (stands c.serve.result Cut e)

pub returns-in-Some-clause-broken_off : goal.returns-in-Some-clause-broken_off
returns-in-Some-clause-broken_off g c =
    λ e limit bytes serving.
    let fault = stands c.serve.result SinkFault e in
    broken_fed g.E.Decide.levels g.E.Decide.table g.E.Decide.begins limit bytes c.args.piece.now c.args.self.now.reader _ c.args.self.now.desk c.args.self.now.kept
    c.feed-used.result.0 c.feed-used.result.1 serving c.feed-used.ensures.heard c.in-Some.heard c.in-Some.is
    (kept_at c.serve.new.desk c.serve.new.kept.items) _ _ (c.serve.ensures.broken_off_written fault) (c.serve.ensures.broken_off fault limit serving.going) c.reading_tells_first.ensures.first

pub returns-in-Some-clause-handed : goal.returns-in-Some-clause-handed
returns-in-Some-clause-handed g c = λ _ sound. c.serve.ensures.handed (λ e. sound (ap Some e))

pub returns-in-Some-clause-progress : goal.returns-in-Some-clause-progress
returns-in-Some-clause-progress g c = λ _ none. c.feed-used.ensures.progress (some_is _ c.in-Some.is) none
