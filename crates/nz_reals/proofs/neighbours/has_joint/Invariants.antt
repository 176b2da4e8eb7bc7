-- None of the clauses so far joins the two.
use Rattle.std.proofs.Common.{take}
use Rattle.nz_reals.specs.Exclusions.{HasNoJoint}
use Rattle.nz_reals.proofs.neighbours.has_joint.Given as goal

abbrev pub invariant-loop-id : goal.invariant-loop-id
invariant-loop-id l = record { none : HasNoJoint l.log (take l.id-index l.held) l.lowers l.place }
