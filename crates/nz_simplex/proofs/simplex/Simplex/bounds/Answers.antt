-- What stands of a form is what its trail tells.
use Rattle.std.proofs.Common.{◌<◌, length, sym, ap, ◌∙◌, subst, arith}
use Rattle.nz_trail.specs.declared.limits.Side.TheVariants.{Lower, Upper}
use Rattle.nz_simplex.specs.Standing.{standing}
use Rattle.nz_simplex.specs.State.{State}
use Rattle.nz_simplex.proofs.Standings.{standing_told}
use Rattle.nz_simplex.proofs.simplex.Simplex.bounds.Goals as goal

pub bounds-requires : goal.bounds-requires
bounds-requires g c =
    let inside = subst (λ (s : State). c.args.var < length s.forms) (sym c.self.view_is) c.requires.known in
    record { known = omega (arith, inside, c.self.invariant.numbered) }

pub returns-clause-lower : goal.returns-clause-lower
returns-clause-lower g c =
    standing_told g.S.Coordinate.stands_for g.S.Scalar.order g.met.S.Scalar.laws.ordered g.met.S.Coordinate.faithful.compares c.args.var Lower c.self.inside.trail.asserted c.bounds.result.0 c.bounds.ensures.lower
    ∙ ap (λ (s : State). standing s.asserted c.args.var Lower) c.self.view_is

pub returns-clause-upper : goal.returns-clause-upper
returns-clause-upper g c =
    standing_told g.S.Coordinate.stands_for g.S.Scalar.order g.met.S.Scalar.laws.ordered g.met.S.Coordinate.faithful.compares c.args.var Upper c.self.inside.trail.asserted c.bounds.result.1 c.bounds.ensures.upper
    ∙ ap (λ (s : State). standing s.asserted c.args.var Upper) c.self.view_is
