use Rattle.std.proofs.Common.{Vec, Global, ◌≡◌, ◌+◌, ◌++◌, ◌<◌, ◌≤◌, ℕ, drop, map, take}
use Rattle.std.specs.Prelude.{slice_index_or, vec_len, vec_capacity}
use Rattle.nz_fractions.specs.Fraction.{Fraction}
use Rattle.nz_tab.specs.Sums.{lengthened}
use Rattle.nz_tab.proofs.joining.put_columns.Given as goal

-- the rows so far, and those behind them as they were
abbrev pub invariant-loop-place : goal.invariant-loop-place
invariant-loop-place l = record {
  rows : map (λ (x : Vec Fraction Global). x.items) l.rows.items
      ≡ map (lengthened l.units) (take l.place (map (λ (x : Vec Fraction Global). x.items) l.fn.rows.items)) ++ drop l.place (map (λ (x : Vec Fraction Global). x.items) l.fn.rows.items);
  room : (s : ℕ) (d : Vec Fraction Global) → l.place ≤ s → s < vec_len l.rows → vec_len (slice_index_or l.rows.items s d) + l.units ≤ vec_capacity (slice_index_or l.rows.items s d);
  len : vec_len l.rows ≡ vec_len l.fn.rows;
}
