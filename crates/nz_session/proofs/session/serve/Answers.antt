-- What was kept is what was kept before, and the answer.
use Rattle.std.proofs.Common.{List, sym, subst}
use Rattle.nz_reply.specs.declared.reply.Kept as code
use Rattle.nz_sexpr.specs.View.{heard_view}
use Rattle.nz_session.specs.Desk.{table_of}
use Rattle.nz_session.specs.Serve.{AnswersInPart, kept_at}
use Rattle.nz_session.proofs.SessionSteps.{answered, answered_in_part, cut_in_part, exits_on, going_on, right_on}
use Rattle.nz_session.proofs.session.serve.Goals as goal

pub returns-in-Ok-clause-exited : goal.returns-in-Ok-clause-exited
returns-in-Ok-clause-exited g c =
    λ _ limit going.
    rw (c.push.ensures.items, c.unwrap.ensures, c.room_for.ensures.same)
    (exits_on g.E.Decide.levels g.E.Decide.table g.E.Decide.begins c.kept_stay.ensures.stay c.transcript_grows.ensures.grows limit _ _ c.answer-reply.ensures.front
    c.args.kept.now.items c.in-Some.packed c.answer-reply.result going (heard_view c.args.heard) c.in-Some.ensures.packed (c.answer-reply.ensures.right _ going.holds) c.if-exits.true)

pub returns-clause-going : goal.returns-clause-going
returns-clause-going g c =
    λ _ limit going.
    rw (c.push.ensures.items, c.unwrap.ensures, c.room_for.ensures.same)
    (going_on g.E.Decide.levels g.E.Decide.table g.E.Decide.begins c.kept_stay.ensures.stay c.transcript_grows.ensures.grows limit _ _ c.answer-reply.ensures.front
    c.args.kept.now.items c.in-Some.packed c.answer-reply.result going (heard_view c.args.heard) c.in-Some.ensures.packed (c.answer-reply.ensures.right _ going.holds) c.if-exits.false)

pub returns-in-Err-clause-broken_off : goal.returns-in-Err-clause-broken_off
returns-in-Err-clause-broken_off g c =
    λ _ limit going.
    rw (c.push.ensures.items, c.unwrap.ensures, c.room_for.ensures.same)
    (right_on g.E.Decide.levels g.E.Decide.table g.E.Decide.begins c.kept_stay.ensures.stay c.transcript_grows.ensures.grows limit _ _ c.answer-reply.ensures.front
    c.args.kept.now.items c.in-Some.packed c.answer-reply.result going (heard_view c.args.heard) c.in-Some.ensures.packed (c.answer-reply.ensures.right _ going.holds))

pub returns-in-Ok-clause-answered : goal.returns-in-Ok-clause-answered
returns-in-Ok-clause-answered g c =
    λ _.
    rw (c.push.ensures.items, c.unwrap.ensures, c.room_for.ensures.same)
    (answered c.kept_stay.ensures.stay (table_of c.args.desk.now) (table_of c.answer-reply.new.self) c.answer-reply.ensures.front c.args.kept.now.items c.requires.1.within
    c.in-Some.packed c.answer-reply.result (heard_view c.args.heard) c.in-Some.ensures.packed _ _ c.in-Ok.ensures.whole)

pub returns-clause-answered : goal.returns-clause-answered
returns-clause-answered g c =
    λ _.
    rw (c.push.ensures.items, c.unwrap.ensures, c.room_for.ensures.same)
    (answered c.kept_stay.ensures.stay (table_of c.args.desk.now) (table_of c.answer-reply.new.self) c.answer-reply.ensures.front c.args.kept.now.items c.requires.1.within
    c.in-Some.packed c.answer-reply.result (heard_view c.args.heard) c.in-Some.ensures.packed _ _ c.in-Ok.ensures.whole)

pub returns-in-Err-clause-broken_off_written : goal.returns-in-Err-clause-broken_off_written
returns-in-Err-clause-broken_off_written g c =
    λ _.
    rw (c.push.ensures.items, c.unwrap.ensures, c.room_for.ensures.same)
    (answered_in_part c.kept_stay.ensures.stay (table_of c.args.desk.now) (table_of c.answer-reply.new.self) c.answer-reply.ensures.front c.args.kept.now.items c.requires.1.within
    c.in-Some.packed c.answer-reply.result (heard_view c.args.heard) c.in-Some.ensures.packed _ _ c.in-Err.ensures.front)

pub returns-in-None-clause-broken_off_written : goal.returns-in-None-clause-broken_off_written
returns-in-None-clause-broken_off_written g c =
    λ e.
    let P : List code.Kept → Type 0 =
    λ l. AnswersInPart (heard_view c.args.heard) (kept_at c.args.desk.now c.args.kept.now.items) (kept_at c.args.desk.now l) (g.K.Sink.held c.args.sink.now) (g.K.Sink.held c.cut.new.sink) in
    subst P (sym {A = List code.Kept} c.room_for.ensures.same) (cut_in_part (heard_view c.args.heard) (kept_at c.args.desk.now c.args.kept.now.items) _ _ (c.cut.ensures.front e))
