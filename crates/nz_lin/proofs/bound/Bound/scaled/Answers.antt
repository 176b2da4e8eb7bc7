-- Both sides, and the sign.
use Rattle.nz_spec.specs.clauses.Farkas.{bound_scaled}
use Rattle.nz_lin.specs.Bounds.{IsBounded, bound_over}
use Rattle.nz_lin.specs.Forms.{form_over}
use Rattle.nz_lin.proofs.BoundSides.{scaled_done, scaled_stop}
use Rattle.nz_lin.proofs.ComputationSequences.{handed_on}
use Rattle.nz_lin.proofs.bound.Bound.scaled.Goals as goal

pub returns-in_err-sides : goal.returns-in_err-sides
returns-in_err-sides c = record {
  bounded = λ ns units.
      let x = bound_over ns c.args.self.now in
      handed_on (λ r. IsBounded ns (bound_scaled c.args.multiplier x) r) c.from_residual.result c.in_err-sides.field-0.0 c.from_residual.ensures.1
      (scaled_stop c.args.multiplier x c.in_err-sides.field-0.0 (c.in_err-sides.ensures.formed ns units));
}

pub returns : goal.returns
returns c = record {
  bounded = λ ns units.
      let h = c.in_ok-sides.ensures.formed ns units in
      (scaled_done c.args.multiplier (bound_over ns c.args.self.now) (form_over ns c.in_ok-sides.sides) h.0, h.1);
}
