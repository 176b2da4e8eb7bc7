-- Both sides, and the signs.
use Rattle.std.proofs.Common.{rules, ◌≡◌, ◌||◌, Bool, sym, subst}
use Rattle.nz_spec.specs.clauses.Farkas.{bounds_joined}
use Rattle.nz_spec.specs.terms.FormOf.{number_in}
use Rattle.nz_lin.specs.Bounds.{bound_over}
use Rattle.nz_lin.specs.Comes.{Comes, IsDone}
use Rattle.nz_lin.specs.Forms.{form_over}
use Rattle.nz_lin.proofs.BoundSides.{sides_done, sides_stop, with_sign}
use Rattle.nz_lin.proofs.ComputationSequences.{handed_on}
use Rattle.nz_lin.proofs.bound.Bound.join.Goals as goal

pub returns-in_err-join-clause-comes : goal.returns-in_err-join-clause-comes
returns-in_err-join-clause-comes c ns table own others =
    let x = bound_over ns c.args.self.now in
    let y = bound_over ns c.args.other.now in
    handed_on (λ r. Comes (bounds_joined (number_in ns) x y) (record x { parts = (form_over ns c.join.new.self).parts; limit = (form_over ns c.join.new.self).offset }) r)
    c.from_residual.result c.in_err-join.field-0.0 c.from_residual.ensures.1
    (sides_stop (number_in ns) x y c.in_err-join.field-0.0 (c.in_err-join.ensures.comes ns table own others))

pub returns-clause-comes : goal.returns-clause-comes
returns-clause-comes c ns table own others =
    let x = bound_over ns c.args.self.now in
    let y = bound_over ns c.args.other.now in
    let f = form_over ns c.join.new.self in
    let strict : c.if-self.self ≡ (x.is_strict || y.is_strict) = search rules in
    subst (λ (s : Bool). IsDone (bounds_joined (number_in ns) x y) (with_sign s f)) (sym strict) (sides_done (number_in ns) x y f (c.in_ok-join.ensures.comes ns table own others))
