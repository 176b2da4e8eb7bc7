use Rattle.std.proofs.Common.{reverse}
use Rattle.std.specs.Prelude.{nat_eq}
use Rattle.std.specs.HashSet.{contains}
use Rattle.nz_spec.specs.terms.Table.{term_in}
use Rattle.nz_term.proofs.Traversal.{effort}
use Rattle.nz_term.proofs.Walks.{IsWalk}
use Rattle.nz_term.proofs.order.post_order.Given as goal

abbrev pub invariant-loop-step : goal.invariant-loop-step
invariant-loop-step l = IsWalk l.terms l.roots l.steps.items (contains nat_eq l.done) l.order.items

abbrev pub decreases-loop-step : goal.decreases-loop-step
decreases-loop-step l = effort (term_in l.terms) (reverse l.steps.items)
