use Rattle.std.proofs.Common.{◌≡◌, ◌++◌, map}
use Rattle.nz_term.specs.declared.order.Step.TheVariants.{Enter}
use Rattle.nz_term.proofs.order.enter_each.Given as goal

-- the entries so far
abbrev pub invariant-loop-id : goal.invariant-loop-id
invariant-loop-id l = l.steps.items ≡ l.fn.steps.items ++ map Enter l.yielded
