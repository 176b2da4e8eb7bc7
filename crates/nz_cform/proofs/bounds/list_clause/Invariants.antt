use Rattle.std.proofs.Common.{take}
use Rattle.nz_cform.proofs.ListedBounds.{IsListingClause}
use Rattle.nz_cform.proofs.bounds.list_clause.Given as goal

abbrev pub invariant-loop-literal : goal.invariant-loop-literal
invariant-loop-literal l = IsListingClause l.log l.clause (take l.literal-index l.literals) l.level l.fn.bounds l.bounds
