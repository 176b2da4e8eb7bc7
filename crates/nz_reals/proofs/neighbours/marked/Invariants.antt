-- Each place that is marked has its clause, and of the clauses so far each that is noted is marked.
use Rattle.std.proofs.Common.{◌≡◌, length, take}
use Rattle.nz_reals.specs.Exclusions.{AreJoined, AreMarked}
use Rattle.nz_reals.proofs.neighbours.marked.Given as goal

abbrev pub invariant-loop-id : goal.invariant-loop-id
invariant-loop-id l = record {
  long : length l.marks.items ≡ length l.lowers;
  joined : AreJoined l.log l.held l.lowers l.marks.items;
  noted : AreMarked l.log (take l.id-index l.held) l.lowers l.slots l.places l.marks.items;
}
