use Rattle.std.proofs.Common.{◌≡◌, map, sym, ap, subst, ◌∙◌}
use Rattle.nz_spec.specs.terms.Form.{negated_form}
use Rattle.nz_lin.specs.Forms.{AreUnits, Numbered, form_over, negated}
use Rattle.nz_lin.proofs.Units.{negated_is, units_negated}
use Rattle.nz_lin.proofs.form.Form.negated.Goals as goal

pub returns-clause-negated : goal.returns-clause-negated
returns-clause-negated c ns =
    let new = c.in_ok-negated_parts.field-0.items in
    let old = c.self.inside.parts.items in
    subst (λ (v : Numbered). form_over ns (record { parts = new; offset = c.neg.result }) ≡ negated_form (form_over ns v)) c.self.view_is
    (negated_is ns new old c.neg.result c.self.inside.offset (c.in_ok-negated_parts.ensures.negated ∙ ap (map negated) c.as_slice.ensures.value) c.neg.ensures)

pub returns-clause-units : goal.returns-clause-units
returns-clause-units c ns units =
    subst (AreUnits ns) (sym (c.in_ok-negated_parts.ensures.negated ∙ ap (map negated) c.as_slice.ensures.value))
    (units_negated ns c.self.inside.parts.items (subst (λ (v : Numbered). AreUnits ns v.parts) (sym c.self.view_is) units))
