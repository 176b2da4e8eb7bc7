use Rattle.std.proofs.Common.{◌≡◌, ◌+◌, map, take}
use Rattle.std.specs.Prelude.{vec_len, vec_capacity}
use Rattle.nz_spec.specs.simplex.Basis.{Coefficients}
use Rattle.nz_tab.specs.Comes.{IsDone}
use Rattle.nz_tab.specs.Each.{behind}
use Rattle.nz_tab.specs.Exchanges.{sum_row}
use Rattle.nz_tab.specs.Rows.{coefficient}
use Rattle.nz_tab.proofs.exchange.put_sum.Given as goal

-- the columns so far
abbrev pub invariant-loop-place : goal.invariant-loop-place
invariant-loop-place l = record {
  done : (d : Coefficients) → l.other ≡ map d l.columns → IsDone (behind l.fn.rows.items (sum_row (take l.place l.columns) l.factor d (coefficient l.row))) l.rows.items;
  len : vec_len l.rows ≡ vec_len l.fn.rows + l.place;
  capacity : vec_capacity l.rows ≡ vec_capacity l.fn.rows;
}
