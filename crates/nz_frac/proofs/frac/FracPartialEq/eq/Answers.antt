use Rattle.std.proofs.Common.{◌∙◌, ne_eqb}
use Rattle.nz_frac.proofs.OrderLemmas.{both, eq_bits, eq_other_bits}
use Rattle.nz_frac.proofs.frac.FracPartialEq.eq.Goals as goal

pub returns-then-self-other : goal.returns-then-self-other
returns-then-self-other c =
    eq_bits (both c.self.invariant c.self.view_is c.other.invariant c.other.view_is) c.if-self-other.true

pub returns-else-self-other : goal.returns-else-self-other
returns-else-self-other c =
    ne_eqb _ _ c.if-self-other.false
    ∙ eq_other_bits c.self.invariant c.self.view_is c.other.invariant c.other.view_is c.if-self-other.false
