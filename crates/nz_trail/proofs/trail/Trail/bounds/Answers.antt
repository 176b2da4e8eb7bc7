-- The pair of a variable has what stands.
use Rattle.std.proofs.Common.{refl}
use Rattle.nz_trail.specs.declared.limits.Side.TheVariants.{Lower, Upper}
use Rattle.nz_trail.proofs.Tables.{read_stands}
use Rattle.nz_trail.proofs.trail.Trail.bounds.Goals as goal

pub returns-clause-lower : goal.returns-clause-lower
returns-clause-lower g c =
    read_stands g.S.Scalar.order c.self.inside.limits.items c.self.inside.entries.items c.args.self.now c.self.view_is c.self.invariant
    c.args.var c.index-limits.result.now c.requires.known c.index-limits.ensures Lower c.index-limits.result.now.lower refl

pub returns-clause-upper : goal.returns-clause-upper
returns-clause-upper g c =
    read_stands g.S.Scalar.order c.self.inside.limits.items c.self.inside.entries.items c.args.self.now c.self.view_is c.self.invariant
    c.args.var c.index-limits.result.now c.requires.known c.index-limits.ensures Upper c.index-limits.result.now.upper refl
