-- The trail is always in order, and each entry has its place in the table.
use Rattle.std.proofs.Common.{◌≤◌, subst, arith}
use Rattle.nz_sat.specs.Trails.{IsTrail, TrailState}
use Rattle.nz_sat.proofs.trail.Trail.len.Goals as goal

pub returns-clause-trail : goal.returns-clause-trail
returns-clause-trail c = let P : TrailState → Type 0 = IsTrail in subst P c.self.view_is c.self.invariant.order

pub returns-clause-within : goal.returns-clause-within
returns-clause-within c =
    let P : TrailState → Type 0 = λ s. c.len.result ≤ s.size in
    subst P c.self.view_is (omega (arith, c.self.invariant.vacant, c.len.ensures))
