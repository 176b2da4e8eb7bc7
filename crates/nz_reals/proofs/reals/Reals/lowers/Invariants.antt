use Rattle.std.proofs.Common.{take}
use Rattle.nz_reals.proofs.LowerBounds.{AreListed}
use Rattle.nz_reals.proofs.reals.Reals.lowers.Given as goal

abbrev pub invariant-loop-atom : goal.invariant-loop-atom
invariant-loop-atom l = AreListed l.self (take l.atom-index l.atoms) l.lowers.items
