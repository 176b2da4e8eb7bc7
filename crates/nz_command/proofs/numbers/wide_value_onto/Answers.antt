use Rattle.std.proofs.Common.{arith, lit<}
use Rattle.nz_command.proofs.Digits.{wide_next, wide_then}
use Rattle.nz_command.proofs.numbers.wide_value_onto.Goals as goal

pub returns-then-value-clause-wide : goal.returns-then-value-clause-wide
returns-then-value-clause-wide c =
    wide_next _ _ _ c.loop-byte.value c.args.digits.now c.loop-byte.byte-index c.loop-byte.invariant.value c.loop-byte-test.true (lit< tt) c.if-value.true

pub returns-then-value-gt-GREATEST_NUMBER-clause-wide : goal.returns-then-value-gt-GREATEST_NUMBER-clause-wide
returns-then-value-gt-GREATEST_NUMBER-clause-wide c =
    wide_then _ _ c.loop-byte.value c.args.digits.now c.loop-byte.byte-index c.loop-byte.invariant.value c.loop-byte-test.true (omega arith)
