-- The coefficients, and then what is added.
use Rattle.std.proofs.Common.{List, sym, subst}
use Rattle.nz_spec.specs.terms.Form.{parts_scaled, scaled}
use Rattle.nz_fractions.specs.Fraction.{first_wide}
use Rattle.nz_term.specs.Stops.{IsStopAt}
use Rattle.nz_term.specs.declared.stops.ArithmeticStop.{ArithmeticStop}
use Rattle.nz_term.specs.declared.stops.ArithmeticStop.TheVariants.{Wide}
use Rattle.nz_lin.specs.declared.form.Part.{Part}
use Rattle.nz_lin.specs.Comes.{IsDone, IsFormed, times}
use Rattle.nz_lin.specs.Forms.{AreUnits, Numbered, form_over, parts_over}
use Rattle.nz_lin.proofs.FormAddition.{offset_stop, parts_stop, scaled_done}
use Rattle.nz_lin.proofs.ComputationSequences.{handed_on}
use Rattle.nz_lin.proofs.form.Form.multiplied.Goals as goal

pub returns-in_err-parts : goal.returns-in_err-parts
returns-in_err-parts c = record {
  formed = λ ns units.
      let t = times c.args.side c.args.factor in
      let f : Numbered = record { parts = c.self.inside.parts.items; offset = c.self.inside.offset } in
      let s : ArithmeticStop = c.in_err-parts.field-0.0 in
      handed_on (λ r. IsFormed ns (scaled t (form_over ns c.args.self.now)) r) c.from_residual.result s c.from_residual.ensures.1
      (subst (λ (v : Numbered). IsStopAt (first_wide (scaled t (form_over ns v)).operations) s) c.self.view_is
      (parts_stop t (form_over ns f) s
      (subst (λ (l : List Part). IsStopAt (first_wide (parts_scaled t (parts_over ns l)).operations) s) c.as_slice.ensures.value (c.in_err-parts.ensures.scaled ns))));
}

pub returns-in_err-offset : goal.returns-in_err-offset
returns-in_err-offset c = record {
  formed = λ ns units.
      let t = times c.args.side c.args.factor in
      let f : Numbered = record { parts = c.self.inside.parts.items; offset = c.self.inside.offset } in
      let new = parts_over ns c.in_ok-parts.parts.items in
      let s : ArithmeticStop = Wide c.in_err-offset.field-0.0 in
      handed_on (λ r. IsFormed ns (scaled t (form_over ns c.args.self.now)) r) c.from_residual-in_err-offset.result s c.from_residual-in_err-offset.ensures.1
      (subst (λ (v : Numbered). IsStopAt (first_wide (scaled t (form_over ns v)).operations) s) c.self.view_is
      (offset_stop t (form_over ns f) new
      (subst (λ (l : List Part). IsDone (parts_scaled t (parts_over ns l)) new) c.as_slice.ensures.value (c.in_ok-parts.ensures.scaled ns))
      s c.in_err-offset.ensures.product));
}

pub returns : goal.returns
returns c = record {
  formed = λ ns units.
      let t = times c.args.side c.args.factor in
      let f : Numbered = record { parts = c.self.inside.parts.items; offset = c.self.inside.offset } in
      let new = parts_over ns c.in_ok-parts.parts.items in
      let own = subst (λ (v : Numbered). AreUnits ns v.parts) (sym c.self.view_is) units in (
        subst (λ (v : Numbered). IsDone (scaled t (form_over ns v)) (record { parts = new; offset = c.in_ok-offset.offset })) c.self.view_is
            (scaled_done t (form_over ns f) new c.in_ok-offset.offset
            (subst (λ (l : List Part). IsDone (parts_scaled t (parts_over ns l)) new) c.as_slice.ensures.value (c.in_ok-parts.ensures.scaled ns))
            c.in_ok-offset.ensures.product),
        c.in_ok-parts.ensures.units ns (subst (AreUnits ns) (sym c.as_slice.ensures.value) own),
      );
}
