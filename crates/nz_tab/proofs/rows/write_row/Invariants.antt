use Rattle.std.proofs.Common.{◌≡◌, ◌++◌, drop, take}
use Rattle.std.specs.Prelude.{vec_len}
use Rattle.nz_tab.specs.Rows.{coefficients_at}
use Rattle.nz_tab.proofs.rows.write_row.Given as goal

-- the coefficients so far, and those that stood at the other columns
abbrev pub invariant-loop-index : goal.invariant-loop-index
invariant-loop-index l = record {
  written : coefficients_at l.places l.columns l.row.items ≡ take l.index l.coefficients ++ drop l.index (coefficients_at l.places l.columns l.fn.row.items);
  width : vec_len l.row ≡ vec_len l.fn.row;
}
