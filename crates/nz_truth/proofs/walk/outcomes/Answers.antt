-- The roots are among the terms that were evaluated.
use Rattle.std.proofs.Common.{sym, subst}
use Rattle.nz_spec.specs.terms.Table.{assignment_by}
use Rattle.nz_truth.specs.Outcomes.{AreOutcomes, outcome_in}
use Rattle.nz_truth.proofs.TermOutcomes.{are_outcomes, known_roots}
use Rattle.nz_truth.proofs.walk.outcomes.Goals as goal

pub returns : goal.returns
returns c =
    let ns = c.args.terms.now in
    let a = assignment_by ns c.args.assign.now in
    let roots = c.args.roots.now in
    let os = outcome_in c.in_ok-evaluated.evaluated in
    record { outcomes = subst (AreOutcomes ns a roots) (sym c.in_ok-outcomes_at.ensures.outcomes) (are_outcomes ns a os roots (known_roots ns a os roots c.in_ok-evaluated.ensures.roots)) }
