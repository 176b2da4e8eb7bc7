-- The forms with which it begins are noted, then the atoms, and then forms that join.
use Rattle.std.proofs.Common.{rules, ◌≡◌, Err, subst, sym}
use Rattle.std.proofs.lemmas.Option.{slice_get_within}
use Rattle.nz_spec.specs.search.Work.{WorkList}
use Rattle.nz_search.specs.declared.note.Note.{Note}
use Rattle.nz_search.specs.declared.stop.Stop.TheVariants.{Memory}
use Rattle.nz_engine.specs.Checking.{BeginsAnew}
use Rattle.nz_engine.proofs.TheoryAtoms.{names_stop, restart_stops, sums_joined}
use Rattle.nz_engine.proofs.prepared.theory.begin_theory.Goals as goal

pub returns-in_err-restart : goal.returns-in_err-restart
returns-in_err-restart c =
    let same : Err Memory ≡ c.from_residual.result = search rules in
    let all = c.args.log.now.atoms in
    let ids = c.args.atoms.now in
    let t = c.args.theory.now in
    let old = c.args.work.now in
    record {
      begins = subst (λ (w : WorkList Note). BeginsAnew all ids t c.restart.new.self old w c.from_residual.result) (sym c.in_err-restart.ensures.unchanged)
          (subst (BeginsAnew all ids t c.restart.new.self old old) same (restart_stops all ids t c.restart.new.self old c.requires.no_steps));
    }

pub note_atoms-requires : goal.note_atoms-requires
note_atoms-requires c =
    let learnable = c.requires.learnable in
    record { within = λ k d below. let s = (learnable.each k d below).within in slice_get_within c.args.log.now.atoms _ s.atom s.at }

pub returns-in_err-note_atoms : goal.returns-in_err-note_atoms
returns-in_err-note_atoms c =
    let same : Err Memory ≡ c.from_residual-in_err-note_atoms.result = search rules in
    let all = c.args.log.now.atoms in
    let ids = c.args.atoms.now in
    let t = c.args.theory.now in
    let new = c.restart.new.self in
    let after = c.note_atoms.new.work in
    record {
      begins = subst (BeginsAnew all ids t new c.args.work.now after) same
          (names_stop c.legal_work_goes_on.ensures.goes_on c.tells_lits.ensures.tells c.tells_literals.ensures.tells c.sums_renumber.ensures.renumber c.term_has_its_number.ensures.number all ids (t, c.requires.learnable) t new c.args.work.now c.restart.new.work c.requires.no_steps c.in_ok-restart.ensures.notes
          c.in_ok-restart.ensures.stands new after c.note_atoms.ensures.first);
    }

pub join_sums-requires-clause-of : goal.join_sums-requires-clause-of
join_sums-requires-clause-of c = c.in_ok-restart.ensures.of c.args.log.now.atoms

pub returns : goal.returns
returns c =
    let t = c.args.theory.now in
    let joins = c.join_sums.ensures in
    record {
      begins = sums_joined c.legal_work_goes_on.ensures.goes_on c.tells_lits.ensures.tells c.tells_literals.ensures.tells c.sums_renumber.ensures.renumber c.term_has_its_number.ensures.number c.args.log.now.atoms c.args.atoms.now (t, c.requires.learnable) t c.restart.new.self c.args.work.now c.restart.new.work
          c.requires.no_steps c.in_ok-restart.ensures.notes c.in_ok-restart.ensures.stands c.note_atoms.new.work c.in_ok-note_atoms.ensures.all c.join_sums.new.theory c.join_sums.new.work joins.forms
          c.join_sums.result c.restart.ensures.over joins.untold joins.of joins.over joins.stands joins.stopped joins.unspent;
    }
