use Rattle.std.proofs.Common.{refl}
use Rattle.nz_fractions.specs.Fraction.{Difference}
use Rattle.nz_delta.proofs.WideLemmas.{refused_alone}
use Rattle.nz_delta.proofs.scalar.FracScalar.sub.Goals as goal

pub returns-clause-wide : goal.returns-clause-wide
returns-clause-wide c = refused_alone c.sub.result Difference c.args.self c.args.other _ refl c.sub.ensures.wide c.sub.ensures.named
