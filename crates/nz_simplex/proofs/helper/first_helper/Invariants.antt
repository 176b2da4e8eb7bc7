-- The first of those that are left is the first of all.
use Rattle.std.proofs.Common.{◌≡◌, drop}
use Rattle.nz_trail.specs.Bounds.{other_side}
use Rattle.nz_simplex.specs.Stored.{first_passing, is_helping}
use Rattle.nz_simplex.specs.Tabled.{rows_in}
use Rattle.nz_simplex.proofs.helper.first_helper.Given as goal

abbrev pub invariant-loop-var : goal.invariant-loop-var
invariant-loop-var g l =
    first_passing (λ k. is_helping g.S.Coordinate.stands_for l.trail.asserted l.values (other_side l.broken.side) k (rows_in l.tab l.broken.var k)) (drop l.var-index l.nonbasic)
    ≡ first_passing (λ k. is_helping g.S.Coordinate.stands_for l.trail.asserted l.values (other_side l.broken.side) k (rows_in l.tab l.broken.var k)) l.nonbasic
