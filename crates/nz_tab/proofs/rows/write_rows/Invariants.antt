use Rattle.std.proofs.Common.{Vec, Global, ◌≡◌, map}
use Rattle.std.specs.Prelude.{vec_len}
use Rattle.nz_fractions.specs.Fraction.{Fraction}
use Rattle.nz_tab.specs.Exchanges.{IsRewritten}
use Rattle.nz_tab.proofs.rows.write_rows.Given as goal

-- the rows so far
abbrev pub invariant-loop-index : goal.invariant-loop-index
invariant-loop-index l = record {
  rows : IsRewritten l.places l.columns l.written l.block l.index (map (λ (x : Vec Fraction Global). x.items) l.fn.rows.items) (map (λ (x : Vec Fraction Global). x.items) l.rows.items);
  len : vec_len l.rows ≡ vec_len l.fn.rows;
}
