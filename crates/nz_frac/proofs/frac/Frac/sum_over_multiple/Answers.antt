use Rattle.nz_frac.proofs.SumLemmas.{at, common_pos, shared_pos, no_multiple, no_left, no_right, no_top, found, top_fits_back, sum_answers_back, sum_answers_apart, wide-from_fits}
use Rattle.nz_frac.proofs.frac.Frac.sum_over_multiple.Goals as goal

pub quotient-own-requires : goal.quotient-own-requires
quotient-own-requires c = common_pos _ c.other.invariant c.greatest_divisor-common.ensures

pub quotient-others-requires : goal.quotient-others-requires
quotient-others-requires c = common_pos _ c.other.invariant c.greatest_divisor-common.ensures

pub returns-in_err-multiple : goal.returns-in_err-multiple
returns-in_err-multiple c =
    let h = at c.self.invariant c.self.view_is c.other.invariant c.other.view_is c.greatest_divisor-common.ensures c.quotient-own.ensures c.quotient-others.ensures in
    rw c.from_residual.ensures (no_multiple h c.in_err-multiple.ensures)

pub returns-in_err-left : goal.returns-in_err-left
returns-in_err-left c =
    let h = at c.self.invariant c.self.view_is c.other.invariant c.other.view_is c.greatest_divisor-common.ensures c.quotient-own.ensures c.quotient-others.ensures in
    rw c.from_residual-in_err-left.ensures (no_left h c.in_err-left.ensures)

pub returns-in_err-right : goal.returns-in_err-right
returns-in_err-right c =
    let h = at c.self.invariant c.self.view_is c.other.invariant c.other.view_is c.greatest_divisor-common.ensures c.quotient-own.ensures c.quotient-others.ensures in
    rw c.from_residual-in_err-right.ensures (no_right h c.in_err-right.ensures)

pub returns-in_err-num : goal.returns-in_err-num
returns-in_err-num c =
    let h = at c.self.invariant c.self.view_is c.other.invariant c.other.view_is c.greatest_divisor-common.ensures c.quotient-own.ensures c.quotient-others.ensures in
    rw c.from_residual-in_err-num.ensures
    (no_top h c.in_ok-left.left c.in_ok-right.right c.in_ok-left.ensures c.in_ok-right.ensures c.in_err-num.ensures)

pub invariant_of-result : goal.invariant_of-result
invariant_of-result c =
    let h = at c.self.invariant c.self.view_is c.other.invariant c.other.view_is c.greatest_divisor-common.ensures c.quotient-own.ensures c.quotient-others.ensures in
    let f = found h c.in_ok-multiple.multiple c.in_ok-left.left c.in_ok-right.right c.in_ok-num.num c.in_ok-multiple.ensures c.in_ok-left.ensures c.in_ok-right.ensures c.in_ok-num.ensures in
    (sum_answers_apart h c.in_ok-num.num c.in_ok-multiple.multiple f c.if-common-eq1.true).parts

pub returns-then-common-eq1 : goal.returns-then-common-eq1
returns-then-common-eq1 c =
    let h = at c.self.invariant c.self.view_is c.other.invariant c.other.view_is c.greatest_divisor-common.ensures c.quotient-own.ensures c.quotient-others.ensures in
    let f = found h c.in_ok-multiple.multiple c.in_ok-left.left c.in_ok-right.right c.in_ok-num.num c.in_ok-multiple.ensures c.in_ok-left.ensures c.in_ok-right.ensures c.in_ok-num.ensures in (
      wide-from_fits _ _ f.fits,
      (sum_answers_apart h c.in_ok-num.num c.in_ok-multiple.multiple f c.if-common-eq1.true).value,
    )

pub divided-requires-clause-number : goal.divided-requires-clause-number
divided-requires-clause-number c =
    let h = at c.self.invariant c.self.view_is c.other.invariant c.other.view_is c.greatest_divisor-common.ensures c.quotient-own.ensures c.quotient-others.ensures in
    let f = found h c.in_ok-multiple.multiple c.in_ok-left.left c.in_ok-right.right c.in_ok-num.num c.in_ok-multiple.ensures c.in_ok-left.ensures c.in_ok-right.ensures c.in_ok-num.ensures in
    top_fits_back c.in_ok-num.num f

pub divided-requires-clause-divisor : goal.divided-requires-clause-divisor
divided-requires-clause-divisor c =
    shared_pos _ _ _ (common_pos _ c.other.invariant c.greatest_divisor-common.ensures) c.greatest_divisor-shared.ensures

pub quotient-requires : goal.quotient-requires
quotient-requires c =
    shared_pos _ _ _ (common_pos _ c.other.invariant c.greatest_divisor-common.ensures) c.greatest_divisor-shared.ensures

pub invariant_of-result-2 : goal.invariant_of-result-2
invariant_of-result-2 c =
    let h = at c.self.invariant c.self.view_is c.other.invariant c.other.view_is c.greatest_divisor-common.ensures c.quotient-own.ensures c.quotient-others.ensures in
    let f = found h c.in_ok-multiple.multiple c.in_ok-left.left c.in_ok-right.right c.in_ok-num.num c.in_ok-multiple.ensures c.in_ok-left.ensures c.in_ok-right.ensures c.in_ok-num.ensures in
    (sum_answers_back h c.in_ok-num.num c.in_ok-multiple.multiple _ _ c.divided.result c.quotient.result f c.unsigned_abs.ensures.value c.greatest_divisor-shared.ensures c.divided.ensures.value c.quotient.ensures).parts

pub returns : goal.returns
returns c =
    let h = at c.self.invariant c.self.view_is c.other.invariant c.other.view_is c.greatest_divisor-common.ensures c.quotient-own.ensures c.quotient-others.ensures in
    let f = found h c.in_ok-multiple.multiple c.in_ok-left.left c.in_ok-right.right c.in_ok-num.num c.in_ok-multiple.ensures c.in_ok-left.ensures c.in_ok-right.ensures c.in_ok-num.ensures in (
      wide-from_fits _ _ f.fits,
      (sum_answers_back h c.in_ok-num.num c.in_ok-multiple.multiple _ _ c.divided.result c.quotient.result f c.unsigned_abs.ensures.value c.greatest_divisor-shared.ensures c.divided.ensures.value c.quotient.ensures).value,
    )
