-- What the trail tells of the side stands.
use Rattle.std.proofs.Common.{◌≡◌, map, sym, subst}
use Rattle.std.specs.Prelude.{option_map}
use Rattle.nz_trail.specs.declared.limits.Side.{Side}
use Rattle.nz_trail.specs.declared.limits.Side.TheVariants.{Lower, Upper}
use Rattle.nz_simplex.specs.Standing.{standing, told, told_on}
use Rattle.nz_simplex.proofs.Standings.{standing_told}
use Rattle.nz_simplex.proofs.helper.bound_of.Goals as goal

pub returns-in-Lower : goal.returns-in-Lower
returns-in-Lower g c =
    let stands = g.S.Coordinate.stands_for in
    let list = c.args.trail.now.asserted in
    let lower = c.bounds-lower.result.0 in
    record {
      bound =
          subst (λ (s : Side). option_map (told_on stands c.args.var s) lower ≡ standing (map (told stands) list) c.args.var s) (sym c.in-Lower.is)
          (standing_told stands g.S.Scalar.order g.met.S.Scalar.laws.ordered g.met.S.Coordinate.faithful.compares c.args.var Lower list lower c.bounds-lower.ensures.lower);
    }

pub returns-in-Upper : goal.returns-in-Upper
returns-in-Upper g c =
    let stands = g.S.Coordinate.stands_for in
    let list = c.args.trail.now.asserted in
    let upper = c.bounds-lower.result.1 in
    record {
      bound =
          subst (λ (s : Side). option_map (told_on stands c.args.var s) upper ≡ standing (map (told stands) list) c.args.var s) (sym c.in-Upper.is)
          (standing_told stands g.S.Scalar.order g.met.S.Scalar.laws.ordered g.met.S.Coordinate.faithful.compares c.args.var Upper list upper c.bounds-lower.ensures.upper);
    }
