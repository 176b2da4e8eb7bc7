-- One argument more.
use Rattle.std.proofs.Common.{◌≡◌, ℕ, ◌+◌, List, ◌∷◌, Option, Some, None, drop, get_or, sym, ap, subst, ◌∙◌, arith}
use Rattle.std.specs.Prelude.{unwrap_or}
use Rattle.std.proofs.lemmas.List.{drop_all, drop_more}
use Rattle.nz_spec.specs.numbers.Computation.{Computation, IsSame}
use Rattle.nz_spec.specs.terms.FormOf.{constants_product}
use Rattle.nz_fractions.specs.Fraction.{Fraction}
use Rattle.nz_spec.specs.terms.Linear.{constant_value}
use Rattle.nz_spec.specs.terms.Table.{term_in}
use Rattle.nz_term.specs.declared.stops.ArithmeticStop.TheVariants.{Wide}
use Rattle.nz_lin.specs.Comes.{IsDone, IsNumbered}
use Rattle.nz_lin.specs.Making.{constants_at}
use Rattle.nz_lin.proofs.Operators.{factor_more, factor_stop, factors_done, passed_over, rest_product}
use Rattle.nz_lin.proofs.ComputationSequences.{handed_on}
use Rattle.nz_lin.proofs.linear.constants_product.Goals as goal
use Rattle.nz_lin.proofs.linear.constants_product.Goals.{in-Some+in_ok-with_factor, in_default}

pub returns-in_err-with_factor : goal.returns-in_err-with_factor
returns-in_err-with_factor c =
    let ns = c.args.terms.now in
    let ks = c.args.kids.now in
    let i = c.loop-kid.kid-index in
    let k = get_or ks i 0 in
    let rest = drop (i + 1) ks in
    let o = c.loop-kid.product in
    let all = constants_product (constants_at ns ks) in
    let left : drop i ks ≡ k ∷ rest = drop_more ks i 0 (omega arith) in
    let here = subst (λ (l : List ℕ). IsSame (rest_product o (constants_at ns l)) all) left c.loop-kid.invariant in
    let is : constant_value (term_in ns k) ≡ Some c.in-Some.constant = sym c.constant.ensures.constant ∙ c.in-Some.is in
    record {
      product = handed_on (λ r. IsNumbered all r) c.from_residual.result (Wide c.in_err-with_factor.field-0.0) c.from_residual.ensures.1
          (factor_stop all o c.in-Some.constant (constants_at ns rest) (subst (λ (d : Option Fraction). IsSame (rest_product o (d ∷ constants_at ns rest)) all) is here)
          (Wide c.in_err-with_factor.field-0.0) c.in_err-with_factor.ensures.product);
    }

pub loop-kid-preserved : goal.loop-kid-preserved
loop-kid-preserved c =
    let ns = c.args.terms.now in
    let ks = c.args.kids.now in
    let i = c.loop-kid.kid-index in
    let k = get_or ks i 0 in
    let rest = drop (i + 1) ks in
    let o = c.loop-kid.product in
    let all = constants_product (constants_at ns ks) in
    let left : drop i ks ≡ k ∷ rest = drop_more ks i 0 (omega arith) in
    let here = subst (λ (l : List ℕ). IsSame (rest_product o (constants_at ns l)) all) left c.loop-kid.invariant in
    elim c.match-constant.branch [
      | in-Some+in_ok-with_factor w ↦
          let is : constant_value (term_in ns k) ≡ Some w.in-Some.constant = sym c.constant.ensures.constant ∙ w.in-Some.is in
          subst (λ (p : Option Fraction). IsSame (rest_product p (constants_at ns rest)) all) (sym w.product-is)
          (factor_more all o w.in-Some.constant (constants_at ns rest) (subst (λ (d : Option Fraction). IsSame (rest_product o (d ∷ constants_at ns rest)) all) is here)
          w.in_ok-with_factor.field-0 w.in_ok-with_factor.ensures.product)
      | in_default w ↦
          let none : constant_value (term_in ns k) ≡ None = sym c.constant.ensures.constant ∙ w.in_default.is in
          subst (λ (p : Option Fraction). IsSame (rest_product p (constants_at ns rest)) all) (sym w.product-is)
          (subst (λ (x : Computation Fraction). IsSame x all) (passed_over o (constant_value (term_in ns k)) (constants_at ns rest) none) here)
    ]

pub returns : goal.returns
returns c =
    let ns = c.args.terms.now in
    let ks = c.args.kids.now in
    let o = c.loop-kid.product in
    let all = constants_product (constants_at ns ks) in
    record {
      product = subst (λ (q : Fraction). IsDone all q) (sym (c.unwrap_or.ensures ∙ ap (λ (d : Fraction). unwrap_or o d) c.whole.ensures))
          (factors_done all o (subst (λ (l : List ℕ). IsSame (rest_product o (constants_at ns l)) all) (drop_all c.loop-kid.kid-index ks (omega arith)) c.loop-kid.invariant));
    }
