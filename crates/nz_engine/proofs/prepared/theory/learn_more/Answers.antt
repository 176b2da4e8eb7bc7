-- The other atoms are noted, and then their sums join.
use Rattle.std.proofs.Common.{rules, ◌≡◌, ◌<◌, ◌++◌, ℕ, List, length, Err, sym, ap, subst, ◌∙◌}
use Rattle.std.specs.Prelude.{All}
use Rattle.std.proofs.lemmas.Option.{slice_get_within}
use Rattle.std.proofs.lemmas.List.Elements.{All-drop}
use Rattle.nz_search.specs.declared.stop.Stop.TheVariants.{Memory}
use Rattle.nz_engine.specs.Checking.{LearnsMore, NotesFirst, atom_lines}
use Rattle.nz_engine.proofs.MoreAtoms.{more_joined, more_stop, rest_is}
use Rattle.nz_engine.proofs.prepared.theory.learn_more.Goals as goal

pub note_atoms-requires : goal.note_atoms-requires
note_atoms-requires c =
    let all = c.args.log.now.atoms in
    record {
      within = subst (All (λ i. i < length all)) (sym (rest_is c.args.from c.args.atoms.now))
          (All-drop (λ i. i < length all) c.args.from c.args.atoms.now (λ k d below. let s = (c.requires.learnable.each k d below).within in slice_get_within all _ s.atom s.at));
    }

pub returns-in_err-note_atoms : goal.returns-in_err-note_atoms
returns-in_err-note_atoms c =
    let same : Err Memory ≡ c.from_residual.result = search rules in
    let all = c.args.log.now.atoms in
    let ids = c.args.atoms.now in
    let t = c.args.theory.now in
    record {
      learns = subst (LearnsMore all ids c.args.from t t c.args.work.now c.note_atoms.new.work) same
          (more_stop c.legal_work_goes_on.ensures.goes_on c.tells_lits.ensures.tells c.tells_literals.ensures.tells c.sums_renumber.ensures.renumber c.term_has_its_number.ensures.number all ids c.args.from t t c.args.work.now c.note_atoms.new.work (t, c.requires.learnable)
          (subst (λ (is : List ℕ). NotesFirst all is c.args.work.now c.note_atoms.new.work) (rest_is c.args.from ids) c.note_atoms.ensures.first));
    }

pub returns : goal.returns
returns c =
    let joins = c.join_sums.ensures in
    record {
      learns = more_joined c.legal_work_goes_on.ensures.goes_on c.tells_lits.ensures.tells c.tells_literals.ensures.tells c.sums_renumber.ensures.renumber c.term_has_its_number.ensures.number c.args.log.now.atoms c.args.atoms.now c.args.from (c.args.theory.now, c.requires.learnable) c.args.theory.now
          c.join_sums.new.theory c.args.work.now c.note_atoms.new.work c.join_sums.new.work
          (c.in_ok-note_atoms.ensures.all ∙ ap (λ (is : List ℕ). record c.args.work.now { lines = c.args.work.now.lines ++ atom_lines c.args.log.now.atoms is }) (rest_is c.args.from c.args.atoms.now)) joins.forms c.join_sums.result joins.untold joins.of joins.over joins.stands joins.stopped joins.unspent;
    }
