-- An operator comes to what the operator alone does.
use Rattle.std.proofs.Common.{map, ap}
use Rattle.nz_term.specs.Heads.{head_of}
use Rattle.nz_term.specs.Values.{value_of}
use Rattle.nz_truth.proofs.OperationSequences.{of_head}
use Rattle.nz_truth.proofs.heads.outcome_over.Goals as goal

pub returns-in-Operator : goal.returns-in-Operator
returns-in-Operator c = record { outcome = λ a given. of_head (head_of c.args.head) _ a (map value_of c.args.args.now) c.outcome_of.result (ap head_of c.in-Operator.is) (c.outcome_of.ensures.outcome a) }
