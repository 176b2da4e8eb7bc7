-- The first of those that are left is the first of all.
use Rattle.std.proofs.Common.{◌≡◌, drop}
use Rattle.nz_simplex.specs.Stored.{first_passing, is_breaking}
use Rattle.nz_simplex.proofs.simplex.Simplex.first_breaking.Given as goal

abbrev pub invariant-loop-var : goal.invariant-loop-var
invariant-loop-var g l = first_passing (is_breaking l.self) (drop l.var-index l.forms) ≡ first_passing (is_breaking l.self) l.forms
