use Rattle.std.proofs.Common.{get_or, sym, ap, ◌∙◌}
use Rattle.std.proofs.lemmas.Option.{get_or_from_slice_get}
use Rattle.nz_log.specs.declared.atoms.Atom.TheVariants.{Term}
use Rattle.nz_engine.specs.Checking.{note_of}
use Rattle.nz_engine.proofs.AtomNotes.{notes_more}
use Rattle.nz_engine.proofs.prepared.atoms.note_atoms.Goals as goal

pub loop-id-preserved : goal.loop-id-preserved
loop-id-preserved c =
    let all = c.args.log.now.atoms in
    let ids = c.args.atoms.now in
    let n = c.loop-id.id-index in
    notes_more all ids n 0 c.args.work.now c.loop-id.work c.note.new.self c.in_ok-line.line c.loop-id-test.true c.loop-id.invariant
    (c.in_ok-line.ensures.note ∙ ap note_of (sym (get_or_from_slice_get all (get_or ids n 0) c.atom.result.now (Term 0) c.atom.ensures.atom))) c.in_ok-note.ensures.ok
