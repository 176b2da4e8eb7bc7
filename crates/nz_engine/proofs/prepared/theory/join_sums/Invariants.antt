-- The theory knows the atoms of the places so far, and stands where the list leads.
use Rattle.std.proofs.Common.{take}
use Rattle.nz_engine.proofs.TheoryAtoms.{IsBeginning}
use Rattle.nz_engine.proofs.prepared.theory.join_sums.Given as goal

abbrev pub invariant-loop-place : goal.invariant-loop-place
invariant-loop-place l = IsBeginning l.log.atoms l.atoms l.from (take l.place-index l.place-items) l.fn.theory l.fn.work l.work l.theory
