-- A quotient is at most its dividend, so it is a number.
use Rattle.std.proofs.Common.{◌≡◌, ◌≤◌, ℤ, pos, int_lt, unsigned_abs, true, false, to_z, of_z, sym, ap, subst, ◌∙◌, arith}
use Rattle.std.specs.Int.{int_div_euclid, w128}
use Rattle.nz_fractions.specs.Fraction.{largest}
use Rattle.nz_ints.proofs.Sizes.{cast-back}
use Rattle.nz_truth.proofs.IntegerDivision.{quotient_above, quotient_below, quotient_fits, quotient_is, read, zero_read}
use Rattle.nz_truth.proofs.integers.divided.Goals as goal

pub returns-then-m-lt0-clause-quotient : goal.returns-then-m-lt0-clause-quotient
returns-then-m-lt0-clause-quotient c =
    quotient_below c.args.m c.args.n (zero_read c.args.n c.ranges.n c.if-n-eq0.true) (subst (λ (z : ℤ). int_lt z (pos 0) ≡ true) (read c.args.m c.ranges.m) c.if-m-lt0.true)

pub returns-else-m-lt0-clause-quotient : goal.returns-else-m-lt0-clause-quotient
returns-else-m-lt0-clause-quotient c =
    quotient_above c.args.m c.args.n (zero_read c.args.n c.ranges.n c.if-n-eq0.true) (subst (λ (z : ℤ). int_lt z (pos 0) ≡ false) (read c.args.m c.ranges.m) c.if-m-lt0.false)

pub returns-clause-quotient : goal.returns-clause-quotient
returns-clause-quotient c =
    let m = c.args.m in
    let n = c.args.n in
    let small = quotient_fits m n in
    let fits : unsigned_abs (int_div_euclid m n) ≤ largest = omega (arith, small, c.requires.fits) in
    let is : c.div_euclid.result ≡ int_div_euclid m n =
    c.div_euclid.ensures ∙ ap (λ (z : ℤ). int_div_euclid z (to_z w128 (of_z w128 n))) (read m c.ranges.m) ∙ ap (int_div_euclid m) (read n c.ranges.n) in
    cast-back c.div_euclid.result (subst (λ (z : ℤ). unsigned_abs z ≤ largest) (sym is) fits) ∙ is ∙ quotient_is m n
