-- One thing after another is answered, until the piece is read.
use Rattle.std.proofs.Common.{◌≡◌, inl, inr, true, false, List, Option, Some, refl, sym, ap, subst, ◌∙◌, ◌++◌}
use Rattle.std.proofs.lemmas.List.{take_rest}
use Rattle.nz_spec.specs.outside.Outside.{counted}
use Rattle.nz_script.specs.run.Transcript.{Kept}
use Rattle.nz_session.specs.declared.session.Fed.{Fed}
use Rattle.nz_session.specs.declared.session.Fed.TheVariants.{Going, Exited, SinkFault, Cut}
use Rattle.nz_session.specs.Serve.{BreaksOff, HasExited, IsCut, Serves, Writes, fails_at, kept_by}
use Rattle.nz_session.proofs.InputPieces.{breaks_on, feeding_more, feeding_start, of_whole, some_is, stands, writes_cut, writes_more}
use Rattle.nz_session.proofs.session.Session.feed.Goals as goal

pub heard-init : goal.heard-init
heard-init g c =
    record {
      feeding = feeding_start g.E.Decide.levels g.E.Decide.table g.E.Decide.begins c.args.self.now c.args.piece.now (g.K.Sink.held c.args.sink.now);
      faults = refl;
      handed = λ before. before;
    }

pub feed_one-used-requires : goal.feed_one-used-requires
feed_one-used-requires g c =
    let serves = c.requires in
    let feeding = c.heard.invariant.feeding in
    (serves.0, serves.1 ++ feeding.done, feeding.serving serves.0 serves.1 serves.2)

-- ---- Nothing more is complete

pub returns-in-None-clause-going : goal.returns-in-None-clause-going
returns-in-None-clause-going g c =
    λ _ limit bytes serves.
    of_whole g.E.Decide.levels g.E.Decide.table g.E.Decide.begins c.args.self.now c.heard.self c.args.piece.now c.heard.rest.now _ _ c.heard.invariant.feeding
    (Serves g.E.Decide.levels g.E.Decide.table g.E.Decide.begins limit c.feed_one-used.new.self) limit bytes serves (c.feed_one-used.ensures.all_used c.in-None.is limit)

pub returns-in-None-clause-written : goal.returns-in-None-clause-written
returns-in-None-clause-written g c =
    λ _ limit bytes serves.
    subst (λ k. Writes (kept_by c.args.self.now) (kept_by c.feed_one-used.new.self) (g.K.Sink.held c.args.sink.now) (g.K.Sink.held k)) (sym (c.feed_one-used.ensures.nothing_written c.in-None.is))
    (subst (λ (ks : List Kept). Writes (kept_by c.args.self.now) ks (g.K.Sink.held c.args.sink.now) (g.K.Sink.held c.heard.sink)) (sym (c.feed_one-used.ensures.nothing_kept c.in-None.is)) c.heard.invariant.feeding.writes)

pub returns-in-None-clause-faults : goal.returns-in-None-clause-faults
returns-in-None-clause-faults g c = ap g.K.Sink.faults (c.feed_one-used.ensures.nothing_written c.in-None.is) ∙ c.heard.invariant.faults

pub returns-in-None-clause-handed : goal.returns-in-None-clause-handed
returns-in-None-clause-handed g c =
    λ _ before. subst (λ k. g.K.Sink.handed k ≡ g.K.Sink.held k) (sym (c.feed_one-used.ensures.nothing_written c.in-None.is)) (c.heard.invariant.handed before)

-- ---- One thing was answered, or wasn't for a fault

pub heard-preserved : goal.heard-preserved
heard-preserved g c =
    let is = c.in-Some.is ∙ ap Some c.in-Going.is in
    record {
      feeding =
          rw take_rest
          (feeding_more g.E.Decide.levels g.E.Decide.table g.E.Decide.begins c.args.self.now c.heard.self c.args.piece.now c.heard.rest.now _ _ c.heard.invariant.feeding
          c.feed_one-used.new.self c.feed_one-used.result.0 _ (c.feed_one-used.ensures.answered (inl is)) (c.feed_one-used.ensures.going is));
      faults =
          c.feed_one-used.ensures.faults ∙ ap (λ (o : Option Fed). counted g.K.Sink.last (fails_at o) (g.K.Sink.faults c.heard.sink)) is
          ∙ c.heard.invariant.faults;
      handed = λ _. c.feed_one-used.ensures.handed (some_is _ c.in-Some.is) (λ e. let same = stands SinkFault Going (sym e ∙ is) in cc);
    }

pub returns-in-Exited-clause-exited : goal.returns-in-Exited-clause-exited
returns-in-Exited-clause-exited g c =
    λ _ limit bytes serves.
    of_whole g.E.Decide.levels g.E.Decide.table g.E.Decide.begins c.args.self.now c.heard.self c.args.piece.now c.heard.rest.now _ _ c.heard.invariant.feeding
    (λ all. HasExited limit all (kept_by c.feed_one-used.new.self)) limit bytes serves (c.feed_one-used.ensures.exited (c.in-Some.is ∙ ap Some c.in-Exited.is) limit)

pub returns-in-Exited-clause-written : goal.returns-in-Exited-clause-written
returns-in-Exited-clause-written g c =
    λ _ limit bytes serves.
    let answers = c.feed_one-used.ensures.answered (inr (c.in-Some.is ∙ ap Some c.in-Exited.is)) in
    writes_more _ _ _ answers.0 _ _ _ c.heard.invariant.feeding.writes answers.1

pub returns-in-Exited-clause-faults : goal.returns-in-Exited-clause-faults
returns-in-Exited-clause-faults g c =
    c.feed_one-used.ensures.faults ∙ ap (λ (o : Option Fed). counted g.K.Sink.last (fails_at o) (g.K.Sink.faults c.heard.sink)) (c.in-Some.is ∙ ap Some c.in-Exited.is)
    ∙ c.heard.invariant.faults

pub returns-in-Exited-clause-handed : goal.returns-in-Exited-clause-handed
returns-in-Exited-clause-handed g c = λ _ _. c.feed_one-used.ensures.handed (some_is _ c.in-Some.is) (λ e. let same = stands SinkFault Exited (sym e ∙ c.in-Some.is ∙ ap Some c.in-Exited.is) in cc)

pub returns-in-SinkFault-clause-broken_off : goal.returns-in-SinkFault-clause-broken_off
returns-in-SinkFault-clause-broken_off g c =
    λ _ limit bytes serves.
    breaks_on limit false (bytes ++ c.args.piece.now) _ _ _ _ _ _ c.heard.invariant.feeding.writes
    (of_whole g.E.Decide.levels g.E.Decide.table g.E.Decide.begins c.args.self.now c.heard.self c.args.piece.now c.heard.rest.now _ _ c.heard.invariant.feeding
    (λ all. BreaksOff limit false all (kept_by c.heard.self) (kept_by c.feed_one-used.new.self) (g.K.Sink.held c.heard.sink) (g.K.Sink.held c.feed_one-used.new.sink)) limit bytes serves
    (c.feed_one-used.ensures.broken_off (c.in-Some.is ∙ ap Some c.in-SinkFault.is) limit))

pub returns-in-SinkFault-clause-faults : goal.returns-in-SinkFault-clause-faults
returns-in-SinkFault-clause-faults g c =
    c.feed_one-used.ensures.faults ∙ ap (λ (o : Option Fed). counted g.K.Sink.last (fails_at o) (g.K.Sink.faults c.heard.sink)) (c.in-Some.is ∙ ap Some c.in-SinkFault.is)
    ∙ ap (counted g.K.Sink.last true) c.heard.invariant.faults

pub returns-in-Cut-clause-cut : goal.returns-in-Cut-clause-cut
returns-in-Cut-clause-cut g c =
    λ _ limit bytes serves.
    of_whole g.E.Decide.levels g.E.Decide.table g.E.Decide.begins c.args.self.now c.heard.self c.args.piece.now c.heard.rest.now _ _ c.heard.invariant.feeding
    (λ all. IsCut limit false all (kept_by c.feed_one-used.new.self)) limit bytes serves (c.feed_one-used.ensures.cut (c.in-Some.is ∙ ap Some c.in-Cut.is) limit)

pub returns-in-Cut-clause-cut_written : goal.returns-in-Cut-clause-cut_written
returns-in-Cut-clause-cut_written g c =
    λ _ limit bytes serves.
    let is = c.in-Some.is ∙ ap Some c.in-Cut.is in
    writes_cut _ _ _ _ _ _ c.heard.invariant.feeding.writes (c.feed_one-used.ensures.cut_kept is) (c.feed_one-used.ensures.cut_written is)

pub returns-in-Cut-clause-faults : goal.returns-in-Cut-clause-faults
returns-in-Cut-clause-faults g c =
    c.feed_one-used.ensures.faults ∙ ap (λ (o : Option Fed). counted g.K.Sink.last (fails_at o) (g.K.Sink.faults c.heard.sink)) (c.in-Some.is ∙ ap Some c.in-Cut.is)
    ∙ c.heard.invariant.faults

pub returns-in-Cut-clause-handed : goal.returns-in-Cut-clause-handed
returns-in-Cut-clause-handed g c = λ _ _. c.feed_one-used.ensures.handed (some_is _ c.in-Some.is) (λ e. let same = stands SinkFault Cut (sym e ∙ c.in-Some.is ∙ ap Some c.in-Cut.is) in cc)
