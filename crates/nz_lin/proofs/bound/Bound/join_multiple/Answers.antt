-- A multiple, and then the sum.
use Rattle.std.proofs.Common.{List}
use Rattle.nz_spec.specs.numbers.Computation.{and_then}
use Rattle.nz_spec.specs.clauses.Farkas as farkas
use Rattle.nz_spec.specs.clauses.Farkas.{bound_scaled, bounds_joined}
use Rattle.nz_spec.specs.terms.FormOf.{number_in}
use Rattle.nz_spec.specs.terms.Table.{Node}
use Rattle.nz_lin.specs.Bounds.{HasUnits, bound_over}
use Rattle.nz_lin.specs.Comes.{Comes}
use Rattle.nz_lin.proofs.BoundSides.{comes_after, done_implies}
use Rattle.nz_lin.proofs.ComputationSequences.{handed_on, stop_first}
use Rattle.nz_lin.proofs.bound.Bound.join_multiple.Goals as goal

pub returns-in_err-scaled-clause-comes : goal.returns-in_err-scaled-clause-comes
returns-in_err-scaled-clause-comes c ns table own others =
    let x = bound_over ns c.args.self.now in
    let scaling = bound_scaled c.args.multiplier (bound_over ns c.args.other.now) in
    handed_on (λ r. Comes (and_then scaling (λ (y : farkas.Bound). bounds_joined (number_in ns) x y)) x r) c.from_residual.result c.in_err-scaled.field-0.0 c.from_residual.ensures.1
    (stop_first scaling (λ (y : farkas.Bound). bounds_joined (number_in ns) x y) c.in_err-scaled.field-0.0 (c.in_err-scaled.ensures.bounded ns others))

pub returns-clause-comes : goal.returns-clause-comes
returns-clause-comes c ns table own others =
    let x = bound_over ns c.args.self.now in
    let scaling = bound_scaled c.args.multiplier (bound_over ns c.args.other.now) in
    let h = c.in_ok-scaled.ensures.bounded ns others in
    comes_after scaling (λ (y : farkas.Bound). bounds_joined (number_in ns) x y) (bound_over ns c.in_ok-scaled.scaled) h.0 (bound_over ns c.join.new.self) c.join.result
    (c.join.ensures.comes ns table own h.1)

pub returns-clause-units : goal.returns-clause-units
returns-clause-units c =
    let x = c.args.self.now in
    let z = c.in_ok-scaled.scaled in
    let new = c.join.new.self in
    done_implies c.join.result ((ns : List Node) → HasUnits ns x → HasUnits ns z → HasUnits ns new) ((ns : List Node) → HasUnits ns x → HasUnits ns c.args.other.now → HasUnits ns new)
    (λ joined ns own others. joined ns own (c.in_ok-scaled.ensures.bounded ns others).1)
    c.join.ensures.units
