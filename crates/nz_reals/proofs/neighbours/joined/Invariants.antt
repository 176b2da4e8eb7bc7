-- Each of the first places is marked just where its bound has its clause.
use Rattle.std.proofs.Common.{◌≡◌, length}
use Rattle.nz_reals.specs.Exclusions.{AreJoined, AreOpen}
use Rattle.nz_reals.proofs.neighbours.joined.Given as goal

abbrev pub invariant-loop-place : goal.invariant-loop-place
invariant-loop-place l = record {
  long : length l.joined.items ≡ l.place;
  joined : AreJoined l.log l.held l.lowers l.joined.items;
  others : AreOpen l.log l.held l.lowers l.joined.items;
}
