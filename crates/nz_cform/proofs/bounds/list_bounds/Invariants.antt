use Rattle.std.proofs.Common.{take}
use Rattle.nz_cform.proofs.ListedBounds.{IsListingAll}
use Rattle.nz_cform.proofs.bounds.list_bounds.Given as goal

abbrev pub invariant-loop-clause : goal.invariant-loop-clause
invariant-loop-clause l = IsListingAll l.log l.clauses (take l.clause-index l.clauses) l.level l.fn.bounds l.bounds
