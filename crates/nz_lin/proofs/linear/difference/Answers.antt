-- The negation of one term.
use Rattle.std.proofs.Common.{◌≡◌, ℕ, List, length, get_or, sym, subst, arith}
use Rattle.std.specs.Prelude.{nat_eq}
use Rattle.std.specs.HashMap.{get}
use Rattle.nz_spec.specs.numbers.Computation.{at_once}
use Rattle.nz_spec.specs.terms.Form.{negated_form}
use Rattle.nz_spec.specs.terms.FormOf.{number_in}
use Rattle.nz_lin.specs.Comes.{IsDone}
use Rattle.nz_lin.specs.Forms.{AreUnits, Numbered, form_over}
use Rattle.nz_lin.specs.Making.{difference_of, made_forms}
use Rattle.nz_fractions.proofs.FirstOperations.{no_operation}
use Rattle.nz_lin.proofs.TermForms.{made_is, only_one}
use Rattle.nz_lin.proofs.linear.difference.Goals as goal

pub returns-in_ok-negated-in-len1 : goal.returns-in_ok-negated-in-len1
returns-in_ok-negated-in-len1 c = record {
  formed = λ ns table have.
      let m = get nat_eq c.args.forms.now in
      let ks = c.args.kids.now in
      let long : length ks ≡ 1 = omega (arith, c.in-len1.len_at_least, c.in-len1.len_below) in
      let one = only_one ks long in
      let is = made_is m (get_or ks 0 0) c.index.result.now c.index.ensures in
      let new = form_over ns c.in_ok-negated-in-len1.field-0 in (
        subst (λ (l : List ℕ). IsDone (difference_of (number_in ns) (made_forms ns m l)) new) (sym one)
            (subst (λ (f : Numbered). IsDone (at_once (negated_form (form_over ns f))) new) (sym is) (record { result = c.in_ok-negated-in-len1.ensures.negated ns; fits = no_operation })),
        c.in_ok-negated-in-len1.ensures.units ns (subst (λ (f : Numbered). AreUnits ns f.parts) is (have 0 0 (omega (arith, long)))),
      );
}
