-- The other form joins.
use Rattle.nz_spec.specs.terms.Form.{joined}
use Rattle.nz_spec.specs.terms.FormOf.{number_in}
use Rattle.nz_lin.specs.Comes.{IsFormed, arithmetic_of}
use Rattle.nz_lin.specs.Forms.{form_over}
use Rattle.nz_lin.proofs.ComputationSequences.{handed_on}
use Rattle.nz_lin.proofs.form.Form.joined_with.Goals as goal

pub returns-in_err-join : goal.returns-in_err-join
returns-in_err-join c = record {
  formed = λ ns table own other.
      handed_on (λ r. IsFormed ns (joined (number_in ns) (arithmetic_of c.args.sign) (form_over ns c.args.self) (form_over ns c.args.other.now)) r) c.from_residual.result c.in_err-join.field-0.0
      c.from_residual.ensures.1 (c.in_err-join.ensures.comes ns table own other);
}

pub returns : goal.returns
returns c = record { formed = λ ns table own other. (c.in_ok-join.ensures.comes ns table own other, c.in_ok-join.ensures.units ns own other) }
