use Rattle.std.proofs.Common.{refl, arith}
use Rattle.nz_frac.proofs.ProductLemmas.{at_whole, no_size, not_wide, product_answers}
use Rattle.nz_frac.proofs.frac.Frac.product.Goals as goal

pub returns-in_err-size : goal.returns-in_err-size
returns-in_err-size c =
    let h = at_whole c.self.invariant c.self.view_is c.other.invariant c.other.view_is c.if-self-eq1.true c.if-other-eq1.true c.unsigned_abs.ensures.value c.unsigned_abs-then-other-eq1.ensures.value c.differ-negative.ensures in
    rw c.from_residual.ensures (no_size h c.in_err-size.ensures)

pub invariant_of-result : goal.invariant_of-result
invariant_of-result c =
    let h = at_whole c.self.invariant c.self.view_is c.other.invariant c.other.view_is c.if-self-eq1.true c.if-other-eq1.true c.unsigned_abs.ensures.value c.unsigned_abs-then-other-eq1.ensures.value c.differ-negative.ensures in
    (product_answers h c.signed.result c.in_ok-size.size 1 c.in_ok-size.ensures.0 c.in_ok-size.ensures.1 (omega arith) refl c.signed.ensures).parts

pub returns-in_ok-size : goal.returns-in_ok-size
returns-in_ok-size c =
    let h = at_whole c.self.invariant c.self.view_is c.other.invariant c.other.view_is c.if-self-eq1.true c.if-other-eq1.true c.unsigned_abs.ensures.value c.unsigned_abs-then-other-eq1.ensures.value c.differ-negative.ensures in
    (not_wide h c.in_ok-size.ensures.0 (omega arith), (product_answers h c.signed.result c.in_ok-size.size 1 c.in_ok-size.ensures.0 c.in_ok-size.ensures.1 (omega arith) refl c.signed.ensures).value)
