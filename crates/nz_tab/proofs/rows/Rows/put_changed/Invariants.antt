use Rattle.std.proofs.Common.{◌≡◌, ◌*◌, [], length, map, take}
use Rattle.std.specs.Prelude.{vec_capacity, vec_len}
use Rattle.nz_spec.specs.simplex.Basis.{Coefficients}
use Rattle.nz_tab.specs.Comes.{IsDone}
use Rattle.nz_tab.specs.Each.{behind}
use Rattle.nz_tab.specs.Exchanges.{changed_rows}
use Rattle.nz_tab.specs.Rows.{rows_of}
use Rattle.nz_tab.proofs.rows.Rows.put_changed.Given as goal

-- the rows so far
abbrev pub invariant-loop-var : goal.invariant-loop-var
invariant-loop-var l = record {
  done : (q : Coefficients) → l.solved ≡ map q l.columns → IsDone (behind [] (changed_rows (rows_of l.self) (take l.var-index l.changed) l.columns l.enters q)) l.block.items;
  long : vec_len l.block ≡ l.var-index * length l.columns;
  capacity : vec_capacity l.block ≡ vec_capacity l.fn.block;
}
