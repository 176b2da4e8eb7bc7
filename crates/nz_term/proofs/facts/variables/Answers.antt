-- No more than the arguments so far are counted.
use Rattle.std.proofs.Common.{arith}
use Rattle.nz_term.proofs.facts.variables.Goals as goal

pub overflow_add-count : goal.overflow_add-count
overflow_add-count c =
    let few = c.loop-kid.invariant.0 in
    omega arith
