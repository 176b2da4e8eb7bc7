use Rattle.std.proofs.lemmas.Result.{IfOk-weaker}
use Rattle.nz_engine.specs.Checking.{HasCoveredWorths}
use Rattle.nz_engine.proofs.ModelSoundness.{made_true}
use Rattle.nz_engine.proofs.check.model.Goals as goal

pub returns-clause-model : goal.returns-clause-model
returns-clause-model c =
    let ns = c.args.terms.now in
    let p = c.args.prepared.now in
    IfOk-weaker c.values.result (HasCoveredWorths ns p) _
    (λ ps covered levels assumed posed found.
    made_true c.rows_meet_tables.ensures.met c.tables_decide.ensures.decide c.term_has_its_number.ensures.number c.term_of_node.ensures.node c.assigns_by_number.ensures.listed
    c.atoms_of_terms.ensures.atoms ns levels assumed p posed found ps covered)
    c.values.ensures.worths

pub values-requires-clause-over : goal.values-requires-clause-over
values-requires-clause-over c = c.requires.found.1.at.over

pub values-requires-clause-feasible : goal.values-requires-clause-feasible
values-requires-clause-feasible c = c.requires.found.1.bounds.feasible
