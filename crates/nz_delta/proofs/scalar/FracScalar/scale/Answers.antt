use Rattle.std.proofs.Common.{refl}
use Rattle.nz_fractions.specs.Fraction.{Product}
use Rattle.nz_delta.proofs.WideLemmas.{refused_alone}
use Rattle.nz_delta.proofs.scalar.FracScalar.scale.Goals as goal

pub returns-clause-wide : goal.returns-clause-wide
returns-clause-wide c = refused_alone c.mul.result Product c.args.self c.args.by _ refl c.mul.ensures.wide c.mul.ensures.named
