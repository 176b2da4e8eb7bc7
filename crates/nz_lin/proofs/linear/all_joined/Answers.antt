-- One form more.
use Rattle.std.proofs.Common.{◌≡◌, ℕ, ◌+◌, ◌<◌, List, ◌∷◌, length, drop, get_or, subst, arith}
use Rattle.std.specs.Prelude.{nat_eq}
use Rattle.std.specs.HashMap.{get}
use Rattle.std.proofs.lemmas.List.{drop_all, drop_more}
use Rattle.nz_spec.specs.numbers.Computation.{at_once, IsSame}
use Rattle.nz_spec.specs.terms.Form.{all_joined}
use Rattle.nz_spec.specs.terms.FormOf.{number_in}
use Rattle.nz_lin.specs.Comes.{IsFormed, arithmetic_of}
use Rattle.nz_lin.specs.Forms.{AreUnits, Numbered, form_over}
use Rattle.nz_lin.specs.Making.{made_forms}
use Rattle.nz_lin.proofs.FormAddition.{all_more, all_stop}
use Rattle.nz_lin.proofs.ComputationSequences.{at_once_done, handed_on, same_done}
use Rattle.nz_lin.proofs.TermForms.{made_is}
use Rattle.nz_lin.proofs.linear.all_joined.Goals as goal

pub returns-in_err-join : goal.returns-in_err-join
returns-in_err-join c = record {
  formed = λ ns table units have.
      let m = get nat_eq c.args.forms.now in
      let ks = c.args.kids.now in
      let i = c.loop-kid.kid-index in
      let k = get_or ks i 0 in
      let rest = drop (i + 1) ks in
      let n = number_in ns in
      let op = arithmetic_of c.args.sign in
      let now = form_over ns c.loop-kid.sum in
      let f = c.index.result.now in
      let whole = all_joined n op (form_over ns c.args.sum) (made_forms ns m ks) in
      let inside : i < length ks = omega arith in
      let left : drop i ks ≡ k ∷ rest = drop_more ks i 0 inside in
      let is = made_is m k f c.index.ensures in
      let here = subst (λ (h : Numbered). IsSame (all_joined n op now (form_over ns h ∷ made_forms ns m rest)) whole) is
      (subst (λ (l : List ℕ). IsSame (all_joined n op now (made_forms ns m l)) whole) left (c.loop-kid.invariant.joined ns table units have)) in
      let own : AreUnits ns f.parts = subst (λ (h : Numbered). AreUnits ns h.parts) is (have i 0 inside) in
      handed_on (λ r. IsFormed ns whole r) c.from_residual.result c.in_err-join.field-0.0 c.from_residual.ensures.1
      (all_stop n op now (form_over ns f) (made_forms ns m rest) whole here c.in_err-join.field-0.0
      (c.in_err-join.ensures.comes ns table (c.loop-kid.invariant.units ns units have) own));
}

pub loop-kid-preserved : goal.loop-kid-preserved
loop-kid-preserved c =
    let m = get nat_eq c.args.forms.now in
    let ks = c.args.kids.now in
    let i = c.loop-kid.kid-index in
    let k = get_or ks i 0 in
    let rest = drop (i + 1) ks in
    let op = arithmetic_of c.args.sign in
    let f = c.index.result.now in
    let inside : i < length ks = omega arith in
    let left : drop i ks ≡ k ∷ rest = drop_more ks i 0 inside in
    let is = made_is m k f c.index.ensures in
    record {
      joined = λ ns table units have.
          let n = number_in ns in
          let now = form_over ns c.loop-kid.sum in
          let whole = all_joined n op (form_over ns c.args.sum) (made_forms ns m ks) in
          let here = subst (λ (h : Numbered). IsSame (all_joined n op now (form_over ns h ∷ made_forms ns m rest)) whole) is
          (subst (λ (l : List ℕ). IsSame (all_joined n op now (made_forms ns m l)) whole) left (c.loop-kid.invariant.joined ns table units have)) in
          all_more n op now (form_over ns f) (made_forms ns m rest) whole here (form_over ns c.join.new.self)
          (c.in_ok-join.ensures.comes ns table (c.loop-kid.invariant.units ns units have) (subst (λ (h : Numbered). AreUnits ns h.parts) is (have i 0 inside)));
      units = λ ns units have. c.in_ok-join.ensures.units ns (c.loop-kid.invariant.units ns units have) (subst (λ (h : Numbered). AreUnits ns h.parts) is (have i 0 inside));
    }

pub returns : goal.returns
returns c = record {
  formed = λ ns table units have.
      let m = get nat_eq c.args.forms.now in
      let ks = c.args.kids.now in
      let n = number_in ns in
      let op = arithmetic_of c.args.sign in
      let now = form_over ns c.loop-kid.sum in
      let whole = all_joined n op (form_over ns c.args.sum) (made_forms ns m ks) in (
        same_done (at_once now) whole now
            (subst (λ (l : List ℕ). IsSame (all_joined n op now (made_forms ns m l)) whole) (drop_all c.loop-kid.kid-index ks (omega arith)) (c.loop-kid.invariant.joined ns table units have))
            (at_once_done now),
        c.loop-kid.invariant.units ns units have,
      );
}
