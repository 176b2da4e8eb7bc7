use Rattle.std.proofs.Common.{◌∙◌}
use Rattle.nz_frac.proofs.OrderLemmas.{both, order_one, order_less, order_greater, order_pos, order_neg}
use Rattle.nz_frac.proofs.frac.Frac.order.Goals as goal

pub returns-then-self-other : goal.returns-then-self-other
returns-then-self-other c = c.cmp.ensures ∙ order_one c.self.invariant c.self.view_is c.other.invariant c.other.view_is c.if-self-other.true

pub returns-then-other-lt0 : goal.returns-then-other-lt0
returns-then-other-lt0 c = c.cmp_products.ensures ∙ order_neg (both c.self.invariant c.self.view_is c.other.invariant c.other.view_is) c.unsigned_abs-a.ensures.value c.unsigned_abs-c.ensures.value c.if-self-lt0.true c.if-other-lt0.true

pub returns-else-other-lt0 : goal.returns-else-other-lt0
returns-else-other-lt0 c = order_less (both c.self.invariant c.self.view_is c.other.invariant c.other.view_is) c.if-self-lt0.true c.if-other-lt0.false

pub returns-then-other-lt0-2 : goal.returns-then-other-lt0-2
returns-then-other-lt0-2 c = order_greater (both c.self.invariant c.self.view_is c.other.invariant c.other.view_is) c.if-self-lt0.false c.if-other-lt0-2.true

pub returns-else-other-lt0-2 : goal.returns-else-other-lt0-2
returns-else-other-lt0-2 c = c.cmp_products-else-other-lt0-2.ensures ∙ order_pos (both c.self.invariant c.self.view_is c.other.invariant c.other.view_is) c.unsigned_abs-a.ensures.value c.unsigned_abs-c.ensures.value c.if-self-lt0.false c.if-other-lt0-2.false
