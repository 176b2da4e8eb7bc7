-- The map has the signs of the literals so far.
use Rattle.std.proofs.Common.{take}
use Rattle.std.specs.Prelude.{nat_eq}
use Rattle.std.specs.HashMap.{get}
use Rattle.nz_session.proofs.OppositeLiterals.{HasSigns}
use Rattle.nz_session.proofs.assumed.are_consistent.Given as goal

abbrev pub invariant-loop-literal : goal.invariant-loop-literal
invariant-loop-literal l = record { signs : HasSigns (get nat_eq l.signs) (take l.literal-index l.literals) }
