-- Each turn takes one of the candidates.
use Rattle.std.specs.BinaryHeap.{heap_len}
use Rattle.nz_engine.proofs.joining.Waiting.next.Given as goal

abbrev pub decreases-loop-candidate : goal.decreases-loop-candidate
decreases-loop-candidate l = heap_len l.self.candidates
