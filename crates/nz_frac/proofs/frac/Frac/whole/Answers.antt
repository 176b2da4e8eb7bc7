use Rattle.std.proofs.Common.{ℤ, ◌≤◌, unsigned_abs, to_z, of_z, ap, ◌∙◌, arith}
use Rattle.std.proofs.lemmas.Int.{ints, to_z-of_z}
use Rattle.std.specs.Int.{w64, w128}
use Rattle.std.specs.Int.RustNames.{FitsSigned}
use Rattle.nz_ints.proofs.Sizes.{cast-back}
use Rattle.nz_fractions.specs.Fraction.{largest, whole}
use Rattle.nz_frac.proofs.frac.Frac.whole.Goals as goal

small : (n : ℤ) → FitsSigned w64 n → unsigned_abs n ≤ largest
small n h = omega (arith, ints, h.sfits)

pub integer-requires : goal.integer-requires
integer-requires c =
    let fits = small c.args.n c.ranges.n in
    record { fits = rw (to_z-of_z w64 c.args.n c.ranges.n, cast-back c.args.n fits) fits }

pub returns : goal.returns
returns c =
    let n = c.args.n in
    let same = to_z-of_z w64 n c.ranges.n in
    c.integer.ensures.value ∙ ap whole (ap (λ (z : ℤ). to_z w128 (of_z w128 z)) same ∙ cast-back n (small n c.ranges.n))
