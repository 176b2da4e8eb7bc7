use Rattle.nz_command.proofs.Members.{EachSoFar}
use Rattle.nz_command.proofs.parts.all_parts.Given as goal

abbrev pub invariant-loop-tree : goal.invariant-loop-tree
invariant-loop-tree g l = EachSoFar g.P.Part.meant_by g.P.Part.meaning l.list l.tree-index l.parts.items
