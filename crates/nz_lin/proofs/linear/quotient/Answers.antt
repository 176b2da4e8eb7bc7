-- None, or the first one and its divisors.
use Rattle.std.proofs.Common.{ℕ, ◌<◌, List, length, slice_index_or, sym, subst, ◌∙◌}
use Rattle.std.specs.Prelude.{IsTrue, nat_eq}
use Rattle.std.specs.HashMap.{get}
use Rattle.std.proofs.lemmas.List.{nil_from_length}
use Rattle.std.proofs.lemmas.List.Elements.{All-head, All-rest}
use Rattle.nz_spec.specs.terms.FormOf.{divided_by_each}
use Rattle.nz_spec.specs.terms.Linear.{divides_by_constants}
use Rattle.nz_lin.specs.Comes.{IsFormed}
use Rattle.nz_lin.specs.Forms.{AreUnits, Numbered, form_over}
use Rattle.nz_lin.specs.Making.{constants_at, made_form, made_forms, quotient_of}
use Rattle.nz_lin.proofs.TermForms.{made_is}
use Rattle.nz_lin.proofs.Operators.{none_divided}
use Rattle.nz_lin.proofs.linear.quotient.Goals as goal

pub returns-in_default : goal.returns-in_default
returns-in_default c = record {
  formed = λ have.
      none_divided c.args.terms.now (get nat_eq c.args.forms.now) c.args.kids.now (nil_from_length c.args.kids.now c.in_default.ensures.cases) c.number.result c.whole.result c.number.ensures.form c.whole.ensures;
}

pub all_divided-requires-clause-within : goal.all_divided-requires-clause-within
all_divided-requires-clause-within c =
    All-rest (λ (k : ℕ). k < length c.args.terms.now) c.in-Some.first.now c.in-Some.divisors.now c.args.kids.now c.in-Some.ensures.cases.0 c.requires.within

pub all_divided-requires-clause-divisors : goal.all_divided-requires-clause-divisors
all_divided-requires-clause-divisors c = subst (λ (l : List ℕ). IsTrue (divides_by_constants (constants_at c.args.terms.now l))) c.in-Some.ensures.cases.0 c.requires.divisors

pub returns : goal.returns
returns c = record {
  formed = λ have.
      let ns = c.args.terms.now in
      let m = get nat_eq c.args.forms.now in
      let first = c.in-Some.first.now in
      let others = c.in-Some.divisors.now in
      let is = made_is m first c.index.result.now c.index.ensures ∙ sym c.in_ok-first.ensures.same in
      let units = subst (λ (l : List ℕ). (k d : ℕ) → k < length l → AreUnits ns (made_form m (slice_index_or l k d)).parts) c.in-Some.ensures.cases.0 have in
      subst (λ (l : List ℕ). IsFormed ns (quotient_of (constants_at ns l) (made_forms ns m l)) c.all_divided.result) (sym c.in-Some.ensures.cases.0)
      (subst (λ (f : Numbered). IsFormed ns (divided_by_each (form_over ns f) (constants_at ns others)) c.all_divided.result) (sym is)
      (c.all_divided.ensures.formed (subst (λ (f : Numbered). AreUnits ns f.parts) is (All-head (λ id. AreUnits ns (made_form m id).parts) first others units))));
}
