use Rattle.std.proofs.Common.{◌≡◌, ℤ, pos, refl, arith, ap, ap₂, ◌∙◌, sym, true≢false, unsigned_abs, int_lt, of_z}
use Rattle.std.proofs.lemmas.Int.{to_z-of_z}
use Rattle.std.specs.Int.{w128}
use Rattle.nz_frac.specs.Parts.{differ}
use Rattle.nz_frac.proofs.ProductLemmas.{divisor_pos, ratio_at, size-from_number, den-from_number, ratio_answers, number-from_answers}
use Rattle.nz_frac.proofs.frac.Frac.of.Goals as goal

pub quotient-size-requires : goal.quotient-size-requires
quotient-size-requires c =
    let nonzero : c.args.den ≡ pos 0 → ⊥ = λ e. c.if-den-eq0.false (ap (of_z w128) e) in
    divisor_pos c.args.den _ _ _ nonzero (c.unsigned_abs-d.ensures.value ∙ ap unsigned_abs (to_z-of_z w128 c.args.den c.ranges.den)) c.greatest_divisor-common.ensures

pub quotient-below-requires : goal.quotient-below-requires
quotient-below-requires c =
    let nonzero : c.args.den ≡ pos 0 → ⊥ = λ e. c.if-den-eq0.false (ap (of_z w128) e) in
    divisor_pos c.args.den _ _ _ nonzero (c.unsigned_abs-d.ensures.value ∙ ap unsigned_abs (to_z-of_z w128 c.args.den c.ranges.den)) c.greatest_divisor-common.ensures

pub returns-then-size-gt-LARGEST-clause-number : goal.returns-then-size-gt-LARGEST-clause-number
returns-then-size-gt-LARGEST-clause-number c =
    let nonzero : c.args.den ≡ pos 0 → ⊥ = λ e. c.if-den-eq0.false (ap (of_z w128) e) in
    let r = ratio_at c.args.num c.args.den nonzero (c.unsigned_abs-n.ensures.value ∙ ap unsigned_abs (to_z-of_z w128 c.args.num c.ranges.num)) (c.unsigned_abs-d.ensures.value ∙ ap unsigned_abs (to_z-of_z w128 c.args.den c.ranges.den)) c.greatest_divisor-common.ensures c.quotient-size.ensures c.quotient-below.ensures in
    (λ e. absurd (true≢false (sym e)), λ k. absurd (omega (arith, size-from_number r k.1)))

pub returns-then-below-gt-LARGEST-clause-number : goal.returns-then-below-gt-LARGEST-clause-number
returns-then-below-gt-LARGEST-clause-number c =
    let nonzero : c.args.den ≡ pos 0 → ⊥ = λ e. c.if-den-eq0.false (ap (of_z w128) e) in
    let r = ratio_at c.args.num c.args.den nonzero (c.unsigned_abs-n.ensures.value ∙ ap unsigned_abs (to_z-of_z w128 c.args.num c.ranges.num)) (c.unsigned_abs-d.ensures.value ∙ ap unsigned_abs (to_z-of_z w128 c.args.den c.ranges.den)) c.greatest_divisor-common.ensures c.quotient-size.ensures c.quotient-below.ensures in
    (λ e. absurd (true≢false (sym e)), λ k. absurd (omega (arith, den-from_number r k.1)))

pub invariant_of-result : goal.invariant_of-result
invariant_of-result c =
    let nonzero : c.args.den ≡ pos 0 → ⊥ = λ e. c.if-den-eq0.false (ap (of_z w128) e) in
    let r = ratio_at c.args.num c.args.den nonzero (c.unsigned_abs-n.ensures.value ∙ ap unsigned_abs (to_z-of_z w128 c.args.num c.ranges.num)) (c.unsigned_abs-d.ensures.value ∙ ap unsigned_abs (to_z-of_z w128 c.args.den c.ranges.den)) c.greatest_divisor-common.ensures c.quotient-size.ensures c.quotient-below.ensures in
    let sign = c.differ.ensures ∙ ap₂ (λ (x y : ℤ). differ (int_lt x (pos 0)) (int_lt y (pos 0))) (to_z-of_z w128 c.args.num c.ranges.num) (to_z-of_z w128 c.args.den c.ranges.den) in
    let a = ratio_answers r c.signed.result c.differ.result sign c.signed.ensures (omega arith) (omega arith) in
    a.parts

pub returns-clause-number : goal.returns-clause-number
returns-clause-number c =
    let nonzero : c.args.den ≡ pos 0 → ⊥ = λ e. c.if-den-eq0.false (ap (of_z w128) e) in
    let r = ratio_at c.args.num c.args.den nonzero (c.unsigned_abs-n.ensures.value ∙ ap unsigned_abs (to_z-of_z w128 c.args.num c.ranges.num)) (c.unsigned_abs-d.ensures.value ∙ ap unsigned_abs (to_z-of_z w128 c.args.den c.ranges.den)) c.greatest_divisor-common.ensures c.quotient-size.ensures c.quotient-below.ensures in
    let sign = c.differ.ensures ∙ ap₂ (λ (x y : ℤ). differ (int_lt x (pos 0)) (int_lt y (pos 0))) (to_z-of_z w128 c.args.num c.ranges.num) (to_z-of_z w128 c.args.den c.ranges.den) in
    let a = ratio_answers r c.signed.result c.differ.result sign c.signed.ensures (omega arith) (omega arith) in
    (λ e. (nonzero, number-from_answers a), λ k. refl)

pub returns-clause-value : goal.returns-clause-value
returns-clause-value c =
    let nonzero : c.args.den ≡ pos 0 → ⊥ = λ e. c.if-den-eq0.false (ap (of_z w128) e) in
    let r = ratio_at c.args.num c.args.den nonzero (c.unsigned_abs-n.ensures.value ∙ ap unsigned_abs (to_z-of_z w128 c.args.num c.ranges.num)) (c.unsigned_abs-d.ensures.value ∙ ap unsigned_abs (to_z-of_z w128 c.args.den c.ranges.den)) c.greatest_divisor-common.ensures c.quotient-size.ensures c.quotient-below.ensures in
    let sign = c.differ.ensures ∙ ap₂ (λ (x y : ℤ). differ (int_lt x (pos 0)) (int_lt y (pos 0))) (to_z-of_z w128 c.args.num c.ranges.num) (to_z-of_z w128 c.args.den c.ranges.den) in
    let a = ratio_answers r c.signed.result c.differ.result sign c.signed.ensures (omega arith) (omega arith) in
    a.value
