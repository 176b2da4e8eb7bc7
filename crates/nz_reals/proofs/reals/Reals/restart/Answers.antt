use Rattle.std.proofs.Common.{sym, ap, ◌∙◌, subst}
use Rattle.nz_spec.specs.search.Work.{NoteLine, with_line}
use Rattle.nz_search.specs.declared.note.Note.TheVariants.{Start}
use Rattle.nz_search.specs.declared.note.StartNote.{StartNote}
use Rattle.nz_search.specs.Standing.{Stands}
use Rattle.nz_reals.specs.Stands.{IsAt}
use Rattle.nz_reals.specs.State.{Theory}
use Rattle.nz_reals.proofs.TheoryStarts.{notes_start, starts_there}
use Rattle.nz_reals.proofs.reals.Reals.restart.Goals as goal

pub returns-clause-notes : goal.returns-clause-notes
returns-clause-notes c =
    notes_start c.args.self.now c.args.work.now c.note.new.self c.in_ok-start.start c.in_ok-start.ensures.start
    (c.in_ok-note.ensures.ok ∙ ap (λ (s : StartNote). with_line c.args.work.now (NoteLine (Start s))) c.in_ok-new.ensures.value)

pub returns-clause-stands : goal.returns-clause-stands
returns-clause-stands c = λ ns q over may.
    let t = c.args.self.now in
    let notes = returns-clause-notes c in
    subst (λ (u : Theory). Stands (IsAt u ns) ns q c.note.new.self) (sym c.forget.ensures.forgotten) (starts_there c.more_terms_may_begin.ensures.begins ns q t c.args.work.now c.note.new.self c.requires.no_steps notes over may)
