-- None, or the first one and the others.
use Rattle.std.proofs.Common.{ℕ, ◌<◌, List, length, slice_index_or, sym, subst, ◌∙◌}
use Rattle.std.specs.Prelude.{IsSome, nat_eq}
use Rattle.std.specs.HashMap.{get}
use Rattle.std.proofs.lemmas.List.{nil_from_length}
use Rattle.std.proofs.lemmas.List.Elements.{All-head, All-rest}
use Rattle.nz_spec.specs.terms.FormOf.{number_in}
use Rattle.nz_spec.specs.terms.Form.{all_joined}
use Rattle.nz_lin.specs.Comes.{IsFormed, arithmetic_of}
use Rattle.nz_lin.specs.Forms.{AreUnits, Numbered, form_over}
use Rattle.nz_lin.specs.Making.{joined_forms, made_form, made_forms}
use Rattle.nz_lin.proofs.TermForms.{made_is}
use Rattle.nz_lin.proofs.Operators.{none_joined}
use Rattle.nz_lin.proofs.linear.joined.Goals as goal

pub returns-in_default : goal.returns-in_default
returns-in_default c = record {
  formed = λ ns table have.
      none_joined ns (number_in ns) (arithmetic_of c.args.sign) (get nat_eq c.args.forms.now) c.args.kids.now (nil_from_length c.args.kids.now c.in_default.ensures.cases) c.number.result c.whole.result
      c.number.ensures.form c.whole.ensures;
}

pub all_joined-requires : goal.all_joined-requires
all_joined-requires c = record { forms = All-rest (λ id. IsSome (get nat_eq c.args.forms.now id)) c.in-Some.first.now c.in-Some.others.now c.args.kids.now c.in-Some.ensures.cases.0 c.requires.forms }

pub returns : goal.returns
returns c = record {
  formed = λ ns table have.
      let m = get nat_eq c.args.forms.now in
      let n = number_in ns in
      let op = arithmetic_of c.args.sign in
      let first = c.in-Some.first.now in
      let others = c.in-Some.others.now in
      let is = made_is m first c.index.result.now c.index.ensures ∙ sym c.in_ok-first.ensures.same in
      let units = subst (λ (l : List ℕ). (k d : ℕ) → k < length l → AreUnits ns (made_form m (slice_index_or l k d)).parts) c.in-Some.ensures.cases.0 have in
      subst (λ (l : List ℕ). IsFormed ns (joined_forms n op (made_forms ns m l)) c.all_joined.result) (sym c.in-Some.ensures.cases.0)
      (subst (λ (f : Numbered). IsFormed ns (all_joined n op (form_over ns f) (made_forms ns m others)) c.all_joined.result) (sym is)
      (c.all_joined.ensures.formed ns table (subst (λ (f : Numbered). AreUnits ns f.parts) is (All-head (λ id. AreUnits ns (made_form m id).parts) first others units))
      (All-rest (λ id. AreUnits ns (made_form m id).parts) first others c.args.kids.now c.in-Some.ensures.cases.0 have)));
}
