use Rattle.std.proofs.Common.{◌≡◌, ◌≤◌}
use Rattle.std.specs.Prelude.{vec_len, vec_capacity}
use Rattle.nz_spec.specs.simplex.BasisMoves.{numbers}
use Rattle.nz_tab.specs.Rows.{is_marked}
use Rattle.nz_tab.proofs.joining.list_marked.Given as goal

-- the numbers so far
abbrev pub invariant-loop-var : goal.invariant-loop-var
invariant-loop-var l = record {
  listed : l.columns.items ≡ numbers l.var (is_marked l.marks);
  len : vec_len l.columns ≤ l.var;
  capacity : vec_capacity l.columns ≡ vec_capacity l.fn.columns;
}
