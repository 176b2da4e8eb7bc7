use Rattle.std.proofs.Common.{refl}
use Rattle.nz_fractions.specs.Fraction.{Sum}
use Rattle.nz_delta.proofs.WideLemmas.{refused_alone}
use Rattle.nz_delta.proofs.scalar.FracScalar.add.Goals as goal

pub returns-clause-wide : goal.returns-clause-wide
returns-clause-wide c = refused_alone c.add.result Sum c.args.self c.args.other _ refl c.add.ensures.wide c.add.ensures.named
