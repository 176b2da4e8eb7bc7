-- The units have the other sign.
use Rattle.nz_log.proofs.IntegerBranches.{above_done}
use Rattle.nz_log.proofs.integers.above.Goals as goal

pub returns-clause-literal : goal.returns-clause-literal
returns-clause-literal c ns units = (
  above_done ns c.args.bound.now c.in_ok-not.field-0 c.with_limit.result c.limit.result c.in_ok-limit.limit (c.in_ok-not.ensures.literal ns) (c.with_limit.ensures.literal ns) c.limit.ensures.limit
      c.in_ok-limit.ensures.next,
  c.with_limit.ensures.units ns (c.in_ok-not.ensures.units ns units),
)
