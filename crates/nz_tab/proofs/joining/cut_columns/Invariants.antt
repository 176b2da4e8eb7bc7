use Rattle.std.proofs.Common.{Vec, Global, ◌≡◌, ◌++◌, drop, map, take}
use Rattle.std.specs.Prelude.{vec_len}
use Rattle.nz_fractions.specs.Fraction.{Fraction}
use Rattle.nz_tab.proofs.joining.cut_columns.Given as goal

-- the rows so far, and those behind them as they were
abbrev pub invariant-loop-place : goal.invariant-loop-place
invariant-loop-place l = record {
  rows : map (λ (x : Vec Fraction Global). x.items) l.rows.items
      ≡ map (take l.width) (take l.place (map (λ (x : Vec Fraction Global). x.items) l.fn.rows.items)) ++ drop l.place (map (λ (x : Vec Fraction Global). x.items) l.fn.rows.items);
  len : vec_len l.rows ≡ vec_len l.fn.rows;
}
