-- By one constant more.
use Rattle.std.proofs.Common.{◌≡◌, ℕ, ◌+◌, List, ◌∷◌, Option, Some, drop, get_or, sym, subst, ◌∙◌, arith}
use Rattle.std.specs.Prelude.{IsTrue}
use Rattle.std.proofs.lemmas.List.{drop_all, drop_more}
use Rattle.nz_spec.specs.numbers.Computation.{at_once, IsSame}
use Rattle.nz_spec.specs.terms.FormOf.{divided_by_each}
use Rattle.nz_fractions.specs.Fraction.{Fraction}
use Rattle.nz_spec.specs.terms.Linear.{are_divisors, constant_value}
use Rattle.nz_spec.specs.terms.Table.{term_in}
use Rattle.nz_lin.specs.Comes.{IsFormed}
use Rattle.nz_lin.specs.Forms.{form_over}
use Rattle.nz_lin.specs.Making.{constants_at}
use Rattle.nz_lin.proofs.ComputationSequences.{at_once_done, handed_on, same_done}
use Rattle.nz_lin.proofs.Operators.{divide_more, divide_stop, later_divisors, nonzero_divisor}
use Rattle.nz_lin.proofs.linear.all_divided.Goals as goal

pub divided-requires : goal.divided-requires
divided-requires c =
    let ns = c.args.terms.now in
    let ds = c.args.divisors.now in
    let i = c.loop-divisor.divisor-index in
    let k = get_or ds i 0 in
    let left : drop i ds ≡ k ∷ drop (i + 1) ds = drop_more ds i 0 (omega arith) in
    let is : constant_value (term_in ns k) ≡ Some c.unwrap-constant.result = sym c.constant.ensures.constant ∙ c.unwrap-constant.ensures in
    record {
      nonzero = nonzero_divisor (constant_value (term_in ns k)) (constants_at ns (drop (i + 1) ds)) c.unwrap-constant.result
          (subst (λ (l : List ℕ). IsTrue (are_divisors (constants_at ns l))) left c.loop-divisor.invariant.divisors) is;
    }

pub returns-in_err-form : goal.returns-in_err-form
returns-in_err-form c = record {
  formed = λ units.
      let ns = c.args.terms.now in
      let ds = c.args.divisors.now in
      let i = c.loop-divisor.divisor-index in
      let k = get_or ds i 0 in
      let q = c.unwrap-constant.result in
      let rest = constants_at ns (drop (i + 1) ds) in
      let now = form_over ns c.loop-divisor.form in
      let whole = divided_by_each (form_over ns c.args.form) (constants_at ns ds) in
      let left : drop i ds ≡ k ∷ drop (i + 1) ds = drop_more ds i 0 (omega arith) in
      let is : constant_value (term_in ns k) ≡ Some q = sym c.constant.ensures.constant ∙ c.unwrap-constant.ensures in
      let here = subst (λ (d : Option Fraction). IsSame (divided_by_each now (d ∷ rest)) whole) is
      (subst (λ (l : List ℕ). IsSame (divided_by_each now (constants_at ns l)) whole) left (c.loop-divisor.invariant.divided units)) in
      handed_on (λ r. IsFormed ns whole r) c.from_residual.result c.in_err-form.field-0.0 c.from_residual.ensures.1
      (divide_stop now q rest whole here c.in_err-form.field-0.0 (c.in_err-form.ensures.formed ns (c.loop-divisor.invariant.units units)));
}

pub loop-divisor-preserved : goal.loop-divisor-preserved
loop-divisor-preserved c =
    let ns = c.args.terms.now in
    let ds = c.args.divisors.now in
    let i = c.loop-divisor.divisor-index in
    let k = get_or ds i 0 in
    let q = c.unwrap-constant.result in
    let rest = constants_at ns (drop (i + 1) ds) in
    let now = form_over ns c.loop-divisor.form in
    let whole = divided_by_each (form_over ns c.args.form) (constants_at ns ds) in
    let left : drop i ds ≡ k ∷ drop (i + 1) ds = drop_more ds i 0 (omega arith) in
    let is : constant_value (term_in ns k) ≡ Some q = sym c.constant.ensures.constant ∙ c.unwrap-constant.ensures in
    record {
      divided = λ units.
          let here = subst (λ (d : Option Fraction). IsSame (divided_by_each now (d ∷ rest)) whole) is
          (subst (λ (l : List ℕ). IsSame (divided_by_each now (constants_at ns l)) whole) left (c.loop-divisor.invariant.divided units)) in
          divide_more now q rest whole here (form_over ns c.in_ok-form.form) ((c.in_ok-form.ensures.formed ns (c.loop-divisor.invariant.units units)).0);
      units = λ units. (c.in_ok-form.ensures.formed ns (c.loop-divisor.invariant.units units)).1;
      divisors = later_divisors (constant_value (term_in ns k)) rest (subst (λ (l : List ℕ). IsTrue (are_divisors (constants_at ns l))) left c.loop-divisor.invariant.divisors);
    }

pub returns : goal.returns
returns c = record {
  formed = λ units.
      let ns = c.args.terms.now in
      let ds = c.args.divisors.now in
      let now = form_over ns c.loop-divisor.form in
      let whole = divided_by_each (form_over ns c.args.form) (constants_at ns ds) in (
        same_done (at_once now) whole now
            (subst (λ (l : List ℕ). IsSame (divided_by_each now (constants_at ns l)) whole) (drop_all c.loop-divisor.divisor-index ds (omega arith)) (c.loop-divisor.invariant.divided units))
            (at_once_done now),
        c.loop-divisor.invariant.units units,
      );
}
