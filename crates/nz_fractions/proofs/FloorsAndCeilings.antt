-- Floors and ceilings.
use Rattle.std.proofs.Common.{ℕ, ℤ, pos, negsuc, ◌+ℤ◌, ◌*ℤ◌, neg_ℤ, ◌≤ℤ◌, ◌<ℤ◌, arith}
use Rattle.std.proofs.lemmas.Int.{ints}
use Rattle.nz_ints.proofs.Products.{mul-one, one-mul, minus_one-mul, add-mul, neg-mul}
use Rattle.nz_ints.proofs.FloorDivision.{floor_div-at_most, floor_div-greatest}
use Rattle.nz_fractions.specs.Fraction.{Fraction, denominator, neg_ℚ, floor, floor_div, ceiling, IsFloor, IsCeiling, Rounds}

floor_is : (q : Fraction) → IsFloor q (floor q)
unfolding floor denominator
floor_is q =
    let low = floor_div-at_most q.numerator (denominator q) (omega arith) in
    let high = floor_div-greatest q.numerator (denominator q) (omega arith) in
    record {
      at_most = record { cross = rw (mul-one q.numerator) low };
      greatest = record { cross = rw (mul-one q.numerator) high };
    }

-- the products by a negated number and by the one below it
ceiling_is : (q : Fraction) → IsCeiling q (ceiling q)
unfolding ceiling floor neg_ℚ denominator
ceiling_is q =
    let d : ℕ = denominator q in
    let f : ℤ = floor_div (neg_ℤ q.numerator) d in
    let low : (f *ℤ pos d) ≤ℤ neg_ℤ q.numerator = floor_div-at_most (neg_ℤ q.numerator) d (omega arith) in
    let high : neg_ℤ q.numerator <ℤ ((f +ℤ pos 1) *ℤ pos d) = floor_div-greatest (neg_ℤ q.numerator) d (omega arith) in
    let one = mul-one q.numerator in
    let above = add-mul f (pos 1) (pos d) in
    let unit = one-mul (pos d) in
    let turned = neg-mul f (pos d) in
    let below = add-mul (neg_ℤ f) (negsuc 0) (pos d) in
    let minus = minus_one-mul (pos d) in
    record {
      at_least = record { cross = omega (arith, ints, one, low, turned) };
      least = record { cross = omega (arith, ints, one, high, above, unit, turned, below, minus) };
    }

pub rounds : Rounds
rounds q = (floor_is q, ceiling_is q)
