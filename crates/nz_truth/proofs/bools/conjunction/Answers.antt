-- Two arguments or more are all true, or not.
use Rattle.std.proofs.Common.{◌≢◌, length, arith}
use Rattle.nz_truth.proofs.CombinedValues.{all_are}
use Rattle.nz_truth.proofs.bools.conjunction.Goals as goal

pub returns-in-len2-up : goal.returns-in-len2-up
returns-in-len2-up c =
    let other : length c.args.args.now ≢ 1 = omega arith in
    record { value = λ a. all_are c.args.args.now c.are_true.result c.are_true.ensures.all other }
