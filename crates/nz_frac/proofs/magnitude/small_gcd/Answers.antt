use Rattle.std.proofs.Common.{ℕ, ap, sym, ◌∙◌}
use Rattle.nz_fractions.specs.Fraction.{gcd}
use Rattle.nz_ints.proofs.Divisors.{gcd-mod, gcd-zero}
use Rattle.nz_frac.proofs.magnitude.small_gcd.Goals as goal

pub loop-b-preserved : goal.loop-b-preserved
loop-b-preserved c = gcd-mod c.loop-b.a c.loop-b.b ∙ c.loop-b.invariant

pub returns : goal.returns
returns c =
    sym (gcd-zero c.loop-b.a) ∙ ap (λ (n : ℕ). gcd c.loop-b.a n) (sym c.loop-b-test.false) ∙ c.loop-b.invariant
