-- Each operator that takes no operation by the clause of its function.
use Rattle.std.proofs.Common.{map, refl, ap}
use Rattle.nz_spec.specs.terms.Term.{difference}
use Rattle.nz_term.specs.Constants.{number_sort_of, sort_of}
use Rattle.nz_term.specs.Heads.{operator_of}
use Rattle.nz_term.specs.Values.{value_of}
use Rattle.nz_truth.proofs.OperationSequences.{of_head, plain}
use Rattle.nz_truth.proofs.heads.outcome_of.Goals as goal

pub returns-in-Difference : goal.returns-in-Difference
returns-in-Difference c = record {
  outcome = λ a.
      of_head (operator_of c.args.operator) (difference (number_sort_of c.in-Difference.field-0)) a (map value_of c.args.args.now) c.difference.result (ap operator_of c.in-Difference.is) (c.difference.ensures.outcome a (number_sort_of c.in-Difference.field-0));
}

pub returns-in-Ite : goal.returns-in-Ite
returns-in-Ite c = record { outcome = plain _ _ c.in-Ite.is refl (λ a. c.choice.ensures.value a (sort_of c.in-Ite.field-0)) }

pub returns-in-Not : goal.returns-in-Not
returns-in-Not c = record { outcome = plain _ _ c.in-Not.is refl c.negation.ensures.value }

pub returns-in-And : goal.returns-in-And
returns-in-And c = record { outcome = plain _ _ c.in-And.is refl c.conjunction.ensures.value }

pub returns-in-Or : goal.returns-in-Or
returns-in-Or c = record { outcome = plain _ _ c.in-Or.is refl c.disjunction.ensures.value }

pub returns-in-Xor : goal.returns-in-Xor
returns-in-Xor c = record { outcome = plain _ _ c.in-Xor.is refl c.exclusion.ensures.value }

pub returns-in-Div : goal.returns-in-Div
returns-in-Div c = record { outcome = plain _ _ c.in-Div.is refl c.quotient.ensures.value }

pub returns-in-Mod : goal.returns-in-Mod
returns-in-Mod c = record { outcome = plain _ _ c.in-Mod.is refl c.remainder.ensures.value }

pub returns-in-Abs : goal.returns-in-Abs
returns-in-Abs c = record { outcome = plain _ _ c.in-Abs.is refl c.magnitude.ensures.value }

pub returns-in-ToReal : goal.returns-in-ToReal
returns-in-ToReal c = record { outcome = plain _ _ c.in-ToReal.is refl c.to_real.ensures.value }

pub returns-in-ToInt : goal.returns-in-ToInt
returns-in-ToInt c = record { outcome = plain _ _ c.in-ToInt.is refl c.to_int.ensures.value }

pub returns-in-IsInt : goal.returns-in-IsInt
returns-in-IsInt c = record { outcome = plain _ _ c.in-IsInt.is refl c.is_int.ensures.value }
