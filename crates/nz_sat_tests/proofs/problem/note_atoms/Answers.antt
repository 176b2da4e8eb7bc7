use Rattle.std.proofs.Common.{◌≡◌, ◌+◌, ◌∷◌, ◌++◌, [], List, take, refl, sym, ap, ◌∙◌, subst}
use Rattle.std.proofs.lemmas.List.{take_more}
use Rattle.std.specs.Prelude.{Some}
use Rattle.nz_spec.specs.search.Work.{WorkLine, WorkList}
use Rattle.nz_search.specs.declared.note.Note.{Note}
use Rattle.nz_sat.specs.Numbers.{AreNotedIn}
use Rattle.nz_sat_tests.specs.Problems.{NamesAlone}
use Rattle.nz_sat_tests.proofs.NotedAtoms.{names_none, names_push, noted_one, term_note}
use Rattle.nz_sat_tests.proofs.problem.note_atoms.Goals as goal

pub loop-atom-init : goal.loop-atom-init
loop-atom-init c =
    (subst (λ (lines : List (WorkLine Note)). AreNotedIn c.args.log.now.atoms lines []) (sym c.requires.empty) refl, names_none c.args.work.now c.requires.empty)

pub loop-atom-preserved : goal.loop-atom-preserved
loop-atom-preserved c =
    let i = c.loop-atom.atom-index in
    let atoms = c.args.atoms.now in
    let old = c.loop-atom.work.lines in
    let t = c.in-Term.term in
    let lines : c.note.new.self.lines ≡ old ++ term_note t ∷ [] = ap (λ (w : WorkList Note). w.lines) c.in_ok-note-in-Term.ensures.ok in
    let so_far = c.loop-atom.invariant in
    let one = noted_one c.args.log.now.atoms old (take i atoms) _ t (c.atom.ensures.atom ∙ ap Some c.in-Term.is) so_far.0 in (
      subst (λ ls. AreNotedIn c.args.log.now.atoms ls (take (i + 1) atoms)) (sym lines)
          (subst (AreNotedIn c.args.log.now.atoms (old ++ term_note t ∷ [])) (sym (take_more atoms i _ c.loop-atom-test.true)) one),
      subst NamesAlone (sym c.in_ok-note-in-Term.ensures.ok) (names_push c.loop-atom.work t so_far.1),
    )
