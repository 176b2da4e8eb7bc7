use Rattle.std.proofs.Common.{Vec, Global, ◌≡◌, ◌+◌, ◌<◌, ◌≤◌, ℕ, map}
use Rattle.std.specs.Prelude.{slice_index_or, vec_len, vec_capacity}
use Rattle.nz_fractions.specs.Fraction.{Fraction}
use Rattle.nz_tab.proofs.joining.reserve_columns.Given as goal

-- the rows so far
abbrev pub invariant-loop-place : goal.invariant-loop-place
invariant-loop-place l = record {
  rows : map (λ (x : Vec Fraction Global). x.items) l.rows.items ≡ map (λ (x : Vec Fraction Global). x.items) l.fn.rows.items;
  room : (s : ℕ) (d : Vec Fraction Global) → s < l.place → vec_len (slice_index_or l.rows.items s d) + l.units ≤ vec_capacity (slice_index_or l.rows.items s d);
  len : vec_len l.rows ≡ vec_len l.fn.rows;
}
