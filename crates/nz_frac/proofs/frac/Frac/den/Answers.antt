use Rattle.std.proofs.Common.{ap, sym, ◌∙◌, pos}
use Rattle.nz_frac.proofs.PartLemmas.{cast_natural, den_is, number-from_parts}
use Rattle.nz_frac.proofs.frac.Frac.den.Goals as goal

pub returns-clause-denominator : goal.returns-clause-denominator
returns-clause-denominator c =
    cast_natural c.self.inside.den c.self.invariant.den_fits
    ∙ ap pos (sym (den_is c.self.inside.num c.self.inside.den _ c.self.invariant c.self.view_is))

pub returns-clause-number : goal.returns-clause-number
returns-clause-number c = number-from_parts c.self.inside.num c.self.inside.den _ c.self.invariant c.self.view_is
