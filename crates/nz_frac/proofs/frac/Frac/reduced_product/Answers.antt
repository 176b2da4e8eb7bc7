use Rattle.nz_frac.proofs.ProductLemmas.{at, gcd_is_pos, no_size, no_den, not_wide, product_answers}
use Rattle.nz_frac.proofs.frac.Frac.reduced_product.Goals as goal

pub quotient-own-requires : goal.quotient-own-requires
quotient-own-requires c = gcd_is_pos _ c.other.invariant.den_positive c.greatest_divisor-left.ensures

pub quotient-others-requires : goal.quotient-others-requires
quotient-others-requires c = gcd_is_pos _ c.self.invariant.den_positive c.greatest_divisor-right.ensures

pub quotient-own_den-requires : goal.quotient-own_den-requires
quotient-own_den-requires c = gcd_is_pos _ c.self.invariant.den_positive c.greatest_divisor-right.ensures

pub quotient-others_den-requires : goal.quotient-others_den-requires
quotient-others_den-requires c = gcd_is_pos _ c.other.invariant.den_positive c.greatest_divisor-left.ensures

pub returns-in_err-size : goal.returns-in_err-size
returns-in_err-size c =
    let h = at c.self.invariant c.self.view_is c.other.invariant c.other.view_is c.unsigned_abs-a.ensures.value c.unsigned_abs-c.ensures.value c.greatest_divisor-left.ensures c.greatest_divisor-right.ensures c.quotient-own.ensures c.quotient-others.ensures c.quotient-own_den.ensures c.quotient-others_den.ensures c.differ-negative.ensures in
    rw c.from_residual.ensures (no_size h c.in_err-size.ensures)

pub returns-in_err-den : goal.returns-in_err-den
returns-in_err-den c =
    let h = at c.self.invariant c.self.view_is c.other.invariant c.other.view_is c.unsigned_abs-a.ensures.value c.unsigned_abs-c.ensures.value c.greatest_divisor-left.ensures c.greatest_divisor-right.ensures c.quotient-own.ensures c.quotient-others.ensures c.quotient-own_den.ensures c.quotient-others_den.ensures c.differ-negative.ensures in
    rw c.from_residual-in_err-den.ensures (no_den h c.in_err-den.ensures)

pub invariant_of-result : goal.invariant_of-result
invariant_of-result c =
    let h = at c.self.invariant c.self.view_is c.other.invariant c.other.view_is c.unsigned_abs-a.ensures.value c.unsigned_abs-c.ensures.value c.greatest_divisor-left.ensures c.greatest_divisor-right.ensures c.quotient-own.ensures c.quotient-others.ensures c.quotient-own_den.ensures c.quotient-others_den.ensures c.differ-negative.ensures in
    (product_answers h c.signed.result c.in_ok-size.size c.in_ok-den.den c.in_ok-size.ensures.0 c.in_ok-size.ensures.1 c.in_ok-den.ensures.0 c.in_ok-den.ensures.1 c.signed.ensures).parts

pub returns : goal.returns
returns c =
    let h = at c.self.invariant c.self.view_is c.other.invariant c.other.view_is c.unsigned_abs-a.ensures.value c.unsigned_abs-c.ensures.value c.greatest_divisor-left.ensures c.greatest_divisor-right.ensures c.quotient-own.ensures c.quotient-others.ensures c.quotient-own_den.ensures c.quotient-others_den.ensures c.differ-negative.ensures in
    (not_wide h c.in_ok-size.ensures.0 c.in_ok-den.ensures.0, (product_answers h c.signed.result c.in_ok-size.size c.in_ok-den.den c.in_ok-size.ensures.0 c.in_ok-size.ensures.1 c.in_ok-den.ensures.0 c.in_ok-den.ensures.1 c.signed.ensures).value)
