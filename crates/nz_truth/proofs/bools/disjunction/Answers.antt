-- One of two arguments or more is true, or none.
use Rattle.std.proofs.Common.{◌≢◌, length, arith}
use Rattle.nz_truth.proofs.CombinedValues.{one_is}
use Rattle.nz_truth.proofs.bools.disjunction.Goals as goal

pub returns-in-len2-up : goal.returns-in-len2-up
returns-in-len2-up c =
    let other : length c.args.args.now ≢ 1 = omega arith in
    record { value = λ a. one_is c.args.args.now c.is_one_true.result c.is_one_true.ensures.any other }
