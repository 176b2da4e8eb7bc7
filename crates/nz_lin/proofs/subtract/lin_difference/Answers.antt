-- One form, the other, and then the difference.
use Rattle.nz_spec.specs.numbers.Computation.{and_then}
use Rattle.nz_spec.specs.terms.Form as spec
use Rattle.nz_spec.specs.terms.FormOf.{form_of, number_in}
use Rattle.nz_fractions.specs.Fraction.{Difference}
use Rattle.nz_spec.specs.clauses.Links.{minus}
use Rattle.nz_spec.specs.terms.Table.{term_in}
use Rattle.nz_lin.specs.Comes.{IsFormed}
use Rattle.nz_lin.specs.Forms.{form_over}
use Rattle.nz_lin.proofs.ComputationSequences.{done_both, handed_on, stop_first, stop_second}
use Rattle.nz_lin.proofs.subtract.lin_difference.Goals as goal

pub returns-in_err-form : goal.returns-in_err-form
returns-in_err-form c = record {
  formed =
      let ns = c.args.terms.now in
      let n = number_in ns in
      let t = form_of n (term_in ns c.args.left) in
      let u = form_of n (term_in ns c.args.right) in
      handed_on (λ r. IsFormed ns (minus n t u) r) c.from_residual.result c.in_err-form.field-0.0 c.from_residual.ensures.1
      (stop_first t (λ (f : spec.Form). and_then u (λ g. spec.joined n Difference f g)) c.in_err-form.field-0.0 c.in_err-form.ensures.stop);
}

pub returns-in_err-other : goal.returns-in_err-other
returns-in_err-other c = record {
  formed =
      let ns = c.args.terms.now in
      let n = number_in ns in
      let t = form_of n (term_in ns c.args.left) in
      let u = form_of n (term_in ns c.args.right) in
      let f = form_over ns c.in_ok-form.form in
      handed_on (λ r. IsFormed ns (minus n t u) r) c.from_residual-in_err-other.result c.in_err-other.field-0.0 c.from_residual-in_err-other.ensures.1
      (stop_second t (λ (x : spec.Form). and_then u (λ g. spec.joined n Difference x g)) f c.in_err-other.field-0.0
      (record { result = c.in_ok-form.ensures.form.form; fits = c.in_ok-form.ensures.form.fits })
      (stop_first u (λ (g : spec.Form). spec.joined n Difference f g) c.in_err-other.field-0.0 c.in_err-other.ensures.stop));
}

pub returns-in_err-join : goal.returns-in_err-join
returns-in_err-join c = record {
  formed =
      let ns = c.args.terms.now in
      let n = number_in ns in
      let t = form_of n (term_in ns c.args.left) in
      let u = form_of n (term_in ns c.args.right) in
      let f = form_over ns c.in_ok-form.form in
      let g = form_over ns c.in_ok-other.other in
      handed_on (λ r. IsFormed ns (minus n t u) r) c.from_residual-in_err-join.result c.in_err-join.field-0.0 c.from_residual-in_err-join.ensures.1
      (stop_second t (λ (x : spec.Form). and_then u (λ y. spec.joined n Difference x y)) f c.in_err-join.field-0.0
      (record { result = c.in_ok-form.ensures.form.form; fits = c.in_ok-form.ensures.form.fits })
      (stop_second u (λ (y : spec.Form). spec.joined n Difference f y) g c.in_err-join.field-0.0
      (record { result = c.in_ok-other.ensures.form.form; fits = c.in_ok-other.ensures.form.fits })
      (c.in_err-join.ensures.comes ns c.known_table.ensures.table c.in_ok-form.ensures.form.units c.in_ok-other.ensures.form.units)));
}

pub returns : goal.returns
returns c = record {
  formed =
      let ns = c.args.terms.now in
      let n = number_in ns in
      let t = form_of n (term_in ns c.args.left) in
      let u = form_of n (term_in ns c.args.right) in
      let f = form_over ns c.in_ok-form.form in
      let g = form_over ns c.in_ok-other.other in
      let table = c.known_table.ensures.table in (
        done_both t (λ (x : spec.Form). and_then u (λ y. spec.joined n Difference x y)) f (form_over ns c.join.new.self)
            (record { result = c.in_ok-form.ensures.form.form; fits = c.in_ok-form.ensures.form.fits })
            (done_both u (λ (y : spec.Form). spec.joined n Difference f y) g (form_over ns c.join.new.self)
            (record { result = c.in_ok-other.ensures.form.form; fits = c.in_ok-other.ensures.form.fits })
            (c.in_ok-join.ensures.comes ns table c.in_ok-form.ensures.form.units c.in_ok-other.ensures.form.units)),
        c.in_ok-join.ensures.units ns c.in_ok-form.ensures.form.units c.in_ok-other.ensures.form.units,
      );
}
