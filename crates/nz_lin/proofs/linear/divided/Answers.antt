use Rattle.nz_spec.specs.terms.FormOf.{divided_by}
use Rattle.nz_term.specs.declared.stops.ArithmeticStop.TheVariants.{Wide}
use Rattle.nz_lin.specs.Comes.{IsFormed}
use Rattle.nz_lin.specs.Forms.{form_over}
use Rattle.nz_lin.proofs.Operators.{divided_formed, inverse_stop}
use Rattle.nz_lin.proofs.ComputationSequences.{handed_on}
use Rattle.nz_lin.proofs.linear.divided.Goals as goal

pub returns-in_err-factor : goal.returns-in_err-factor
returns-in_err-factor c = record {
  formed = λ ns units.
      let f = form_over ns c.args.form.now in
      handed_on (λ r. IsFormed ns (divided_by c.args.k f) r) c.from_residual.result (Wide c.in_err-factor.field-0.0) c.from_residual.ensures.1
      (inverse_stop c.args.k f (Wide c.in_err-factor.field-0.0) c.in_err-factor.ensures.inverse);
}

pub returns : goal.returns
returns c = record {
  formed = λ ns units.
      divided_formed c.args.k (form_over ns c.args.form.now) ns c.in_ok-factor.factor c.in_ok-factor.ensures.inverse c.multiplied.result (c.multiplied.ensures.formed ns units);
}
