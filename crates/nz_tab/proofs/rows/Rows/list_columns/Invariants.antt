use Rattle.std.proofs.Common.{◌≡◌, ◌≤◌}
use Rattle.std.specs.Prelude.{vec_len, vec_capacity}
use Rattle.nz_spec.specs.simplex.BasisMoves.{exchanged, numbers}
use Rattle.nz_tab.specs.Rows.{is_nonbasic}
use Rattle.nz_tab.proofs.rows.Rows.list_columns.Given as goal

-- the forms so far
abbrev pub invariant-loop-var : goal.invariant-loop-var
invariant-loop-var l = record {
  listed : l.columns.items ≡ numbers l.var (exchanged (is_nonbasic l.self) l.leaves l.enters);
  len : vec_len l.columns ≤ l.var;
  capacity : vec_capacity l.columns ≡ vec_capacity l.fn.columns;
}
