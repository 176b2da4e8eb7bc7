use Rattle.std.proofs.Common.{◌≡◌, ◌<◌, ◌≤◌, ℕ, false, pos}
use Rattle.std.specs.Prelude.{vec_capacity, vec_len, ◌≢◌}
use Rattle.nz_fractions.specs.Fraction.{whole}
use Rattle.nz_spec.specs.simplex.BasisMoves.{numbers}
use Rattle.nz_tab.specs.Exchanges.{changes}
use Rattle.nz_tab.specs.Rows.{is_nonbasic, rows_of}
use Rattle.nz_tab.proofs.rows.Rows.list_changed.Given as goal

-- the forms so far
abbrev pub invariant-loop-var : goal.invariant-loop-var
invariant-loop-var l = record {
  listed : l.changed.items ≡ numbers l.var (changes (is_nonbasic l.self) (rows_of l.self) l.leaves l.enters);
  none : (r : ℕ) → r < l.var → is_nonbasic l.self r ≡ false → r ≢ l.leaves → changes (is_nonbasic l.self) (rows_of l.self) l.leaves l.enters r ≡ false → rows_of l.self r l.enters ≡ whole (pos 0);
  len : vec_len l.changed ≤ l.var;
  capacity : vec_capacity l.changed ≡ vec_capacity l.fn.changed;
}
