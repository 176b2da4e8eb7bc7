use Rattle.std.proofs.Common.{drop}
use Rattle.nz_spec.specs.terms.FormOf.{constants_product}
use Rattle.nz_lin.specs.Making.{constants_at}
use Rattle.nz_spec.specs.numbers.Computation.{IsSame}
use Rattle.nz_lin.proofs.Operators.{rest_product}
use Rattle.nz_lin.proofs.linear.constants_product.Given as goal

-- the product so far, with the constants that are left, gives the whole
abbrev pub invariant-loop-kid : goal.invariant-loop-kid
invariant-loop-kid l = IsSame (rest_product l.product (constants_at l.terms (drop l.kid-index l.kids))) (constants_product (constants_at l.terms l.kids))
