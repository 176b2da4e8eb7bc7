-- The roots have values, or one of their operations is the first to leave the numbers.
use Rattle.std.proofs.Common.{map, option_map, sym, ap, ◌∙◌}
use Rattle.nz_spec.specs.terms.Table.{assignment_by}
use Rattle.nz_frac.specs.Operations.{operation_of}
use Rattle.nz_term.specs.Values.{value_of}
use Rattle.nz_truth.specs.Outcomes.{outcome_in}
use Rattle.nz_truth.proofs.TermOutcomes.{roots_stop, roots_values}
use Rattle.nz_truth.proofs.value.eval.Goals as goal

pub returns-in-Some-clause-wide : goal.returns-in-Some-clause-wide
returns-in-Some-clause-wide c =
    let ns = c.args.terms.now in
    let a = assignment_by ns c.args.assign.now in
    let roots = c.args.roots.now in
    let known = c.in_ok-outcomes.ensures.roots in
    let os = outcome_in c.in_ok-outcomes.outcomes in
    roots_stop ns a os roots known ∙ ap (option_map operation_of) (sym c.in_ok-wide.ensures.stop ∙ c.in-Some.is)

pub returns-clause-values : goal.returns-clause-values
returns-clause-values c =
    let ns = c.args.terms.now in
    let a = assignment_by ns c.args.assign.now in
    let roots = c.args.roots.now in
    let known = c.in_ok-outcomes.ensures.roots in
    let os = outcome_in c.in_ok-outcomes.outcomes in
    let none = sym c.in_ok-wide.ensures.stop ∙ c.in-None.is in
    ap (map value_of) (c.in_ok-wide.ensures.values none) ∙ roots_values ns a os roots known none

pub returns-clause-fits : goal.returns-clause-fits
returns-clause-fits c =
    let ns = c.args.terms.now in
    let a = assignment_by ns c.args.assign.now in
    let roots = c.args.roots.now in
    let known = c.in_ok-outcomes.ensures.roots in
    let os = outcome_in c.in_ok-outcomes.outcomes in
    roots_stop ns a os roots known ∙ ap (option_map operation_of) (sym c.in_ok-wide.ensures.stop ∙ c.in-None.is)
