-- The bound of its case.
use Rattle.std.proofs.Common.{Bool, sym, subst}
use Rattle.nz_spec.specs.numbers.Computation.{turned_into}
use Rattle.nz_lin.specs.Bounds.{IsLiteral}
use Rattle.nz_rows.specs.Comparisons.{limit_of}
use Rattle.nz_rows.proofs.bounds.limited.Goals as goal

pub returns-then-strict : goal.returns-then-strict
returns-then-strict c = record {
  literal = λ ns d formed. subst (λ (b : Bool). IsLiteral ns (turned_into (limit_of b) d) c.below_zero.result) (sym c.if-strict.true) (c.below_zero.ensures.literal ns d formed);
}

pub returns-else-strict : goal.returns-else-strict
returns-else-strict c = record {
  literal = λ ns d formed. subst (λ (b : Bool). IsLiteral ns (turned_into (limit_of b) d) c.at_most_zero.result) (sym c.if-strict.false) (c.at_most_zero.ensures.literal ns d formed);
}
