-- The terms so far have come to what they come to.
use Rattle.std.proofs.Common.{take}
use Rattle.nz_spec.specs.terms.Table.{assignment_by}
use Rattle.nz_truth.specs.Outcomes.{AreEvaluated, outcome_in}
use Rattle.nz_truth.proofs.walk.evaluated.Given as goal

abbrev pub invariant-loop-id : goal.invariant-loop-id
invariant-loop-id l = AreEvaluated l.terms (assignment_by l.terms l.assign) (take l.id-index l.id-items) (outcome_in l.outcomes)
