-- The numbers so far are marked.
use Rattle.std.proofs.Common.{◌≡◌, length, take}
use Rattle.nz_engine.specs.Checking.{AreMarksOf}
use Rattle.nz_engine.proofs.prepared.values.marks_of.Given as goal

abbrev pub invariant-loop-term : goal.invariant-loop-term
invariant-loop-term l = record {
  long : length l.marks.items ≡ l.count;
  marked : AreMarksOf (take l.term-index l.listed) l.marks.items;
}
