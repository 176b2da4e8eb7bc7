use Rattle.std.proofs.Common.{◌≡◌, drop}
use Rattle.std.specs.Prelude.{nat_eq}
use Rattle.std.specs.HashMap.{get}
use Rattle.nz_spec.specs.terms.FormOf.{open_form}
use Rattle.nz_lin.specs.Making.{constants_at, made_forms}
use Rattle.nz_lin.proofs.linear.product.Given as goal

-- the form that isn't constant is among those that are left
abbrev pub invariant-loop-kid : goal.invariant-loop-kid
invariant-loop-kid l =
    open_form (constants_at l.terms (drop l.kid-index l.kids)) (made_forms l.terms (get nat_eq l.forms) (drop l.kid-index l.kids))
    ≡ open_form (constants_at l.terms l.kids) (made_forms l.terms (get nat_eq l.forms) l.kids)
