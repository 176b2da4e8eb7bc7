use Rattle.std.proofs.Common.{List, take}
use Rattle.nz_spec.specs.terms.Table.{Node}
use Rattle.nz_log.specs.Axioms.{AreMultiplesIn}
use Rattle.nz_reals.specs.Tells.{AreBoundsOf}
use Rattle.nz_reals.proofs.refute.bounds_of.Given as goal

abbrev pub invariant-loop-multiple : goal.invariant-loop-multiple
invariant-loop-multiple l =
    (ns : List Node) → AreMultiplesIn ns l.log.atoms l.multiples → AreBoundsOf ns l.log.atoms (take l.multiple-index l.multiples) l.bounds.items
