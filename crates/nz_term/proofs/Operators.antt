-- Operators are no constants and no numbers.
use Rattle.std.proofs.Common.{ℕ, List, refl, IsTrue}
use Rattle.nz_spec.specs.terms.Term.{head_fits}
use Rattle.nz_spec.specs.terms.Table.{HasItsArguments}
use Rattle.nz_term.specs.declared.heads.Operator.{Operator}
use Rattle.nz_term.specs.declared.heads.Operator.TheVariants.{True}
use Rattle.nz_term.specs.Growth.{IsOperator}
use Rattle.nz_term.specs.Heads.{operator_of}

pub fits : (o : Operator) → IsTrue (head_fits (operator_of o))
fits True = refl
fits o = refl

pub is_operator : (o : Operator) → IsOperator (operator_of o)
is_operator True = tt
is_operator o = tt

pub takes : (o : Operator) (kids : List ℕ) → HasItsArguments (operator_of o) kids
takes True kids = tt
takes o kids = tt
