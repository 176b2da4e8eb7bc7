use Rattle.nz_fractions.specs.Fraction.{largest}
use Rattle.nz_command.proofs.Digits.{wide_before, value_whole, wide_whole}
use Rattle.nz_command.proofs.numbers.decimal_value.Goals as goal

pub returns-in_err-start-clause-wide : goal.returns-in_err-start-clause-wide
returns-in_err-start-clause-wide c = rw c.from_residual.ensures (wide_before largest c.args.front.now c.args.places.now c.in_err-start.ensures.wide)

pub returns-clause-value : goal.returns-clause-value
returns-clause-value c = value_whole c.value_onto-2.result c.args.front.now c.args.places.now c.in_ok-start.start c.in_ok-start.ensures.value c.value_onto-2.ensures.value

pub returns-clause-wide : goal.returns-clause-wide
returns-clause-wide c = wide_whole c.value_onto-2.result largest c.args.front.now c.args.places.now c.in_ok-start.start c.in_ok-start.ensures.value c.value_onto-2.ensures.wide
