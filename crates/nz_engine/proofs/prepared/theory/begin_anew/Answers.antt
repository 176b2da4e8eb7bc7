-- What comes of the theory that was arranged comes of it as it was.
use Rattle.std.proofs.Common.{rules, ◌≡◌, Err, subst}
use Rattle.std.proofs.lemmas.Option.{slice_get_within}
use Rattle.nz_search.specs.declared.stop.Stop.TheVariants.{Memory}
use Rattle.nz_reals.specs.State.{Theory}
use Rattle.nz_sat.specs.Sats.{SatState}
use Rattle.nz_engine.specs.Checking.{BeginsAnew}
use Rattle.nz_engine.proofs.ArrangedSums.{begins_arranged}
use Rattle.nz_engine.proofs.TheoryAtoms.{restart_stops}
use Rattle.nz_engine.proofs.prepared.theory.begin_anew.Goals as goal

pub returns-in_err-truths-clause-begins : goal.returns-in_err-truths-clause-begins
returns-in_err-truths-clause-begins c =
    let same : Err Memory ≡ c.from_residual.result = search rules in
    let all = c.args.log.now.atoms in
    let ids = c.args.atoms.now in
    let t = c.args.sat.now.theory in
    let work = c.args.work.now in
    subst (BeginsAnew all ids t t work work) same (restart_stops all ids t t work c.requires.no_steps)

pub returns-in_err-arrange-clause-begins : goal.returns-in_err-arrange-clause-begins
returns-in_err-arrange-clause-begins c =
    let same : Err Memory ≡ c.from_residual-in_err-arrange.result = search rules in
    let all = c.args.log.now.atoms in
    let ids = c.args.atoms.now in
    let t = c.args.sat.now.theory in
    let mid = c.arrange.new.theory in
    let work = c.args.work.now in
    subst (BeginsAnew all ids t mid work work) same (restart_stops all ids t mid work c.requires.no_steps)

pub returns-clause-begins : goal.returns-clause-begins
returns-clause-begins c =
    let all = c.args.log.now.atoms in
    let ids = c.args.atoms.now in
    let begun = c.begin_theory in
    subst (λ (s : SatState Theory). BeginsAnew all ids s.theory begun.new.theory c.args.work.now begun.new.work begun.result) c.sat.view_is
    (begins_arranged all ids c.sat.inside.theory c.arrange.new.theory c.arrange.ensures.over c.arrange.ensures.rest begun.new.theory c.args.work.now begun.new.work begun.result begun.ensures.begins)

pub truths_for-requires-clause-within : goal.truths_for-requires-clause-within
truths_for-requires-clause-within c = λ k d below. let s = (c.requires.learnable.each k d below).within in slice_get_within c.args.log.now.atoms _ s.atom s.at
