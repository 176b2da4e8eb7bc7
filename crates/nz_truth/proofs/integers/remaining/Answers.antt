-- A remainder is below its divisor, so it is a number.
use Rattle.std.proofs.Common.{◌≡◌, ◌≢◌, ◌≤◌, ◌<◌, ℤ, pos, unsigned_abs, to_z, of_z, ap, subst, ◌∙◌, arith}
use Rattle.std.specs.Int.{int_rem_euclid, w128}
use Rattle.nz_fractions.specs.Fraction.{largest}
use Rattle.nz_ints.proofs.Sizes.{cast-back}
use Rattle.nz_truth.proofs.IntegerDivision.{remainder_is, remainder_zero, read, zero_read}
use Rattle.nz_truth.proofs.integers.remaining.Goals as goal

pub returns-then-n-eq0-clause-remainder : goal.returns-then-n-eq0-clause-remainder
returns-then-n-eq0-clause-remainder c = cast-back c.args.m c.requires.left ∙ remainder_zero c.args.m c.args.n (zero_read c.args.n c.ranges.n c.if-n-eq0.true)

pub returns-clause-remainder : goal.returns-clause-remainder
returns-clause-remainder c =
    let m = c.args.m in
    let n = c.args.n in
    let other : n ≢ pos 0 = λ e. c.if-n-eq0.false (ap (of_z w128) e) in
    let short : unsigned_abs c.rem_euclid.result < unsigned_abs n = subst (λ (z : ℤ). unsigned_abs c.rem_euclid.result < unsigned_abs z) (read n c.ranges.n) c.rem_euclid.ensures.upper_bound in
    let fits : unsigned_abs c.rem_euclid.result ≤ largest = omega (arith, short, c.requires.right) in
    let is : c.rem_euclid.result ≡ int_rem_euclid m n =
    c.rem_euclid.ensures.value ∙ ap (λ (z : ℤ). int_rem_euclid z (to_z w128 (of_z w128 n))) (read m c.ranges.m) ∙ ap (int_rem_euclid m) (read n c.ranges.n) in
    cast-back c.rem_euclid.result fits ∙ is ∙ remainder_is m n other
