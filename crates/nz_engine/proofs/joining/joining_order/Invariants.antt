-- The places so far are listed.
use Rattle.nz_engine.specs.Joining.{AreNumbersBelow}
use Rattle.nz_engine.proofs.joining.joining_order.Given as goal

abbrev pub invariant-loop-place : goal.invariant-loop-place
invariant-loop-place l = AreNumbersBelow l.place l.order.items
