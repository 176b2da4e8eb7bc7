use Rattle.nz_taken_samples.specs.Sorted.{AreTaken}
use Rattle.nz_taken_samples.proofs.taken.need_taken.Given as goal

abbrev pub invariant-loop-id : goal.invariant-loop-id
invariant-loop-id l = AreTaken l.terms l.id
