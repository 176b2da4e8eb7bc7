-- An integer as a real.
use Rattle.std.proofs.Common.{◌≡◌, ℕ, List, length, get_or, sym, ap, subst, ◌∙◌, arith}
use Rattle.std.specs.Prelude.{nat_eq}
use Rattle.std.specs.HashMap.{get}
use Rattle.nz_spec.specs.terms.Form.{unit_form}
use Rattle.nz_spec.specs.terms.FormOf.{number_in}
use Rattle.nz_spec.specs.terms.Table.{term_in}
use Rattle.nz_lin.specs.declared.linear.Opening.{Opening}
use Rattle.nz_lin.specs.Comes.{IsDone}
use Rattle.nz_lin.specs.Forms.{AreUnits, Numbered, form_over}
use Rattle.nz_lin.specs.Making.{constants_at, made_forms, opened_by, real_of}
use Rattle.nz_fractions.proofs.FirstOperations.{no_operation}
use Rattle.nz_lin.proofs.TermForms.{made_is, only_one}
use Rattle.nz_lin.proofs.linear.opened.Goals as goal

pub returns-in_ok-copied-in-len1 : goal.returns-in_ok-copied-in-len1
returns-in_ok-copied-in-len1 c =
    let ns = c.args.terms.now in
    let m = get nat_eq c.args.forms.now in
    let ks = c.args.kids.now in
    let unit = unit_form (term_in ns c.args.id) in
    let long : length ks ≡ 1 = omega (arith, c.in-len1.len_at_least, c.in-len1.len_below) in
    let is = made_is m (get_or ks 0 0) c.index.result.now c.index.ensures in
    let same = c.in_ok-copied-in-len1.ensures.same in
    let new = form_over ns c.in_ok-copied-in-len1.field-0 in
    record {
      formed = (
        subst (λ (o : Opening). IsDone (opened_by (number_in ns) o (constants_at ns ks) (made_forms ns m ks) unit) new) (sym c.in-ToReal.is)
            (subst (λ (l : List ℕ). IsDone (real_of (made_forms ns m l) unit) new) (sym (only_one ks long)) (record { result = ap (form_over ns) (same ∙ sym is); fits = no_operation })),
        subst (λ (f : Numbered). AreUnits ns f.parts) (is ∙ sym same) (c.requires.units 0 0 (omega (arith, long))),
      );
    }
