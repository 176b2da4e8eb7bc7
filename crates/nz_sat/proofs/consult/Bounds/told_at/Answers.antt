-- No more was told than how many places there are.
use Rattle.std.proofs.Common.{◌<◌, arith, rules}
use Rattle.nz_sat.proofs.AtomTrails.{told_few}
use Rattle.nz_sat.proofs.consult.Bounds.told_at.Goals as goal

pub returns-then-has-clause-few : goal.returns-then-has-clause-few
returns-then-has-clause-few c es =
    let fits : c.args.self.now.told < 18446744073709551616 = search rules in
    let few = told_few c.args.self.now es in
    omega (arith, few, fits)

pub returns-clause-few : goal.returns-clause-few
returns-clause-few c es =
    let fits : c.args.self.now.told < 18446744073709551616 = search rules in
    let few = told_few c.args.self.now es in
    omega (arith, few, fits)
