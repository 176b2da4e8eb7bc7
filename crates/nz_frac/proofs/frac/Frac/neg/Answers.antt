use Rattle.std.proofs.Common.{ℤ, ap, ◌∙◌}
use Rattle.nz_fractions.specs.Fraction.{neg_ℚ}
use Rattle.nz_frac.specs.Parts.{value_of}
use Rattle.nz_frac.proofs.PartLemmas.{negated, neg-value}
use Rattle.nz_frac.proofs.frac.Frac.neg.Goals as goal

pub returns : goal.returns
returns c =
    ap (λ (n : ℤ). value_of n c.self.inside.den) (negated c.self.inside.num c.self.invariant.num_fits)
    ∙ neg-value c.self.inside.num c.self.inside.den
    ∙ ap neg_ℚ c.self.view_is
