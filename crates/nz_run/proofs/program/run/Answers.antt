use Rattle.std.proofs.Common.{◌≡◌, ◌==◌, sym, ap, ◌∙◌}
use Rattle.nz_spec.specs.outside.Outside.{counted}
use Rattle.nz_script.specs.run.Run.{status_of}
use Rattle.nz_reply.specs.Journals.{journal_of}
use Rattle.nz_session.specs.Serve.{kept_by}
use Rattle.nz_run.specs.Ending.{is_cut, status_by}
use Rattle.nz_run.proofs.Endings.{answered, broken_off, interrupted, read_status, reads_told, write_status}
use Rattle.nz_run.proofs.ReadOutcomes.{reading_begins}
use Rattle.nz_run.proofs.program.run.Goals as goal

pub returns-clause-answered : goal.returns-clause-answered
returns-clause-answered g c =
    λ e. (let started = reading_begins _ _ _ c.in-Ok.units c.in-Ok-new-2.session (g.S.Source.left c.args.input.now) (g.K.Sink.held c.args.out.now) c.in-Ok-new-2.ensures.serves c.in-Ok-new-2.ensures.nothing in
    let ks = kept_by c.serve-end.new.session in
    let kept : journal_of c.into_kept-journal.result.1 c.into_kept-journal.result.0 ≡ ks = c.into_kept-journal.ensures.kept in
    let cut = c.is_cut-cut.ensures.cut in
    let status : status_by c.serve-end.result ks ≡ status_of (is_cut c.serve-end.result) ks =
    ap (status_by c.serve-end.result) (sym kept) ∙ sym (c.status_at-status.ensures.status c.into_kept-journal.result.1) ∙ e ∙ ap (λ b. status_of b (journal_of c.into_kept-journal.result.1 c.into_kept-journal.result.0)) cut ∙ ap (status_of (is_cut c.serve-end.result)) kept in
    let run = answered c.in-Ok.units _ _ _ _ ks c.serve-end.result (c.serve-end.ensures.ended c.in-Ok.units started) status in
    (c.in-Ok.units, c.in-Ok.ensures.units, rw (cut, kept) run))

pub returns-clause-interrupted : goal.returns-clause-interrupted
returns-clause-interrupted g c =
    λ e. (let started = reading_begins _ _ _ c.in-Ok.units c.in-Ok-new-2.session (g.S.Source.left c.args.input.now) (g.K.Sink.held c.args.out.now) c.in-Ok-new-2.ensures.serves c.in-Ok-new-2.ensures.nothing in
    let ks = kept_by c.serve-end.new.session in
    let kept : journal_of c.into_kept-journal.result.1 c.into_kept-journal.result.0 ≡ ks = c.into_kept-journal.ensures.kept in
    let status : c.status_at-status.result ≡ status_by c.serve-end.result ks = c.status_at-status.ensures.status c.into_kept-journal.result.1 ∙ ap (status_by c.serve-end.result) kept in
    let run = interrupted c.in-Ok.units _ _ _ _ ks c.serve-end.result (c.serve-end.ensures.ended c.in-Ok.units started) (rw (sym status) e) in
    (c.in-Ok.units, c.in-Ok.ensures.units, rw kept run))

pub returns-clause-broken_off : goal.returns-clause-broken_off
returns-clause-broken_off g c =
    λ e. (let started = reading_begins _ _ _ c.in-Ok.units c.in-Ok-new-2.session (g.S.Source.left c.args.input.now) (g.K.Sink.held c.args.out.now) c.in-Ok-new-2.ensures.serves c.in-Ok-new-2.ensures.nothing in
    let ks = kept_by c.serve-end.new.session in
    let kept : journal_of c.into_kept-journal.result.1 c.into_kept-journal.result.0 ≡ ks = c.into_kept-journal.ensures.kept in
    let status : c.status_at-status.result ≡ status_by c.serve-end.result ks = c.status_at-status.ensures.status c.into_kept-journal.result.1 ∙ ap (status_by c.serve-end.result) kept in
    let run = broken_off c.in-Ok.units _ _ _ _ ks c.serve-end.result (c.serve-end.ensures.ended c.in-Ok.units started) (sym status ∙ e) in
    (c.in-Ok.units, c.in-Ok.ensures.units, rw kept run))

pub returns-clause-reads : goal.returns-clause-reads
returns-clause-reads g c =
    λ e. (let ks = journal_of c.into_kept-journal.result.1 c.into_kept-journal.result.0 in
    c.serve-end.ensures.reads (reads_told c.serve-end.result ks (sym (c.status_at-status.ensures.status c.into_kept-journal.result.1) ∙ e)))

pub returns-clause-unended : goal.returns-clause-unended
returns-clause-unended g c =
    λ e. (let ks = journal_of c.into_kept-journal.result.1 c.into_kept-journal.result.0 in
    c.serve-end.ensures.unended (reads_told c.serve-end.result ks (sym (c.status_at-status.ensures.status c.into_kept-journal.result.1) ∙ e)))

pub returns-clause-input_faults : goal.returns-clause-input_faults
returns-clause-input_faults g c =
    let ks = journal_of c.into_kept-journal.result.1 c.into_kept-journal.result.0 in
    let status : c.status_at-status.result ≡ status_by c.serve-end.result ks = c.status_at-status.ensures.status c.into_kept-journal.result.1 in
    c.serve-end.ensures.input_faults
    ∙ ap (λ b. counted g.S.Source.last b (g.S.Source.faults c.args.input.now)) (sym (ap (λ n. n == 3) status ∙ read_status c.serve-end.result ks))

pub returns-clause-output_faults : goal.returns-clause-output_faults
returns-clause-output_faults g c =
    let ks = journal_of c.into_kept-journal.result.1 c.into_kept-journal.result.0 in
    let status : c.status_at-status.result ≡ status_by c.serve-end.result ks = c.status_at-status.ensures.status c.into_kept-journal.result.1 in
    c.serve-end.ensures.output_faults
    ∙ ap (λ b. counted g.K.Sink.last b (g.K.Sink.faults c.args.out.now)) (sym (ap (λ n. n == 4) status ∙ write_status c.serve-end.result ks))

pub serve-end-requires : goal.serve-end-requires
serve-end-requires g c =
    record {
      start = (c.in-Ok.units, reading_begins _ _ _ c.in-Ok.units c.in-Ok-new-2.session (g.S.Source.left c.args.input.now) (g.K.Sink.held c.args.out.now) c.in-Ok-new-2.ensures.serves c.in-Ok-new-2.ensures.nothing);
    }
