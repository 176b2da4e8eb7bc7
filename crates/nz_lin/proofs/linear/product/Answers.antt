-- The first argument that isn't constant, or none.
use Rattle.std.proofs.Common.{◌≡◌, ℕ, ◌+◌, ◌<◌, true, List, ◌∷◌, None, length, drop, get_or, sym, ap, subst, ◌∙◌, arith, rules}
use Rattle.std.specs.Prelude.{is_none, nat_eq}
use Rattle.std.specs.HashMap.{get}
use Rattle.std.proofs.lemmas.List.{drop_all, drop_more}
use Rattle.nz_spec.specs.terms.FormOf.{open_form}
use Rattle.nz_spec.specs.terms.Linear.{constant_value}
use Rattle.nz_spec.specs.terms.Table.{term_in}
use Rattle.nz_lin.specs.Comes.{IsFormed}
use Rattle.nz_lin.specs.Forms.{AreUnits, Numbered, form_over}
use Rattle.nz_lin.specs.Making.{constants_at, made_form, made_forms, product_of}
use Rattle.nz_lin.proofs.TermForms.{is_none_from, made_is}
use Rattle.nz_lin.proofs.Operators.{one_form, open_here, product_formed, product_stop}
use Rattle.nz_lin.proofs.ComputationSequences.{handed_on}
use Rattle.nz_lin.proofs.linear.product.Goals as goal

pub returns-in_err-factor : goal.returns-in_err-factor
returns-in_err-factor c = record {
  formed = λ have.
      let ns = c.args.terms.now in
      let cs = constants_at ns c.args.kids.now in
      let fs = made_forms ns (get nat_eq c.args.forms.now) c.args.kids.now in
      handed_on (λ r. IsFormed ns (product_of cs fs) r) c.from_residual.result c.in_err-factor.field-0.0 c.from_residual.ensures.1
      (product_stop cs fs c.in_err-factor.field-0.0 c.in_err-factor.ensures.product);
}

pub returns-then-is_none : goal.returns-then-is_none
returns-then-is_none c = record {
  formed = λ have.
      let ns = c.args.terms.now in
      let m = get nat_eq c.args.forms.now in
      let ks = c.args.kids.now in
      let i = c.loop-kid.kid-index in
      let k = get_or ks i 0 in
      let rest = drop (i + 1) ks in
      let f = c.index.result.now in
      let inside : i < length ks = omega arith in
      let left : drop i ks ≡ k ∷ rest = drop_more ks i 0 inside in
      let is = made_is m k f c.index.ensures in
      let test : is_none (constant_value (term_in ns k)) ≡ true = search rules in
      let none : constant_value (term_in ns k) ≡ None = is_none_from (constant_value (term_in ns k)) test in
      let here = subst (λ (l : List ℕ). open_form (constants_at ns l) (made_forms ns m l) ≡ open_form (constants_at ns ks) (made_forms ns m ks)) left c.loop-kid.invariant in
      product_formed ns (constants_at ns ks) (made_forms ns m ks) c.in_ok-factor.factor (form_over ns f) c.multiplied.result c.in_ok-factor.ensures.product
      (sym (ap (form_over ns) is) ∙ sym (open_here (constant_value (term_in ns k)) (constants_at ns rest) (form_over ns (made_form m k)) (made_forms ns m rest) none) ∙ here)
      (c.multiplied.ensures.formed ns (subst (λ (h : Numbered). AreUnits ns h.parts) is (have i 0 inside)));
}

pub returns : goal.returns
returns c = record {
  formed = λ have.
      let ns = c.args.terms.now in
      let m = get nat_eq c.args.forms.now in
      let ks = c.args.kids.now in
      let none = drop_all c.loop-kid.kid-index ks (omega arith) in
      let here = subst (λ (l : List ℕ). open_form (constants_at ns l) (made_forms ns m l) ≡ open_form (constants_at ns ks) (made_forms ns m ks)) none c.loop-kid.invariant in
      let one = one_form ns c.number.result c.whole.result c.number.ensures.form c.whole.ensures in
      product_formed ns (constants_at ns ks) (made_forms ns m ks) c.in_ok-factor.factor (form_over ns c.number.result) c.multiplied-3.result c.in_ok-factor.ensures.product
      (one.0 ∙ here) (c.multiplied-3.ensures.formed ns one.1);
}
