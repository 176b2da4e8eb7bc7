use Rattle.std.proofs.Common.{◌≡◌, ◌+◌, ◌++◌, true, replicate}
use Rattle.std.specs.Prelude.{vec_len, vec_capacity}
use Rattle.nz_tab.specs.Sums.{next_columns}
use Rattle.nz_tab.proofs.joining.put_units.Given as goal

-- the units so far
abbrev pub invariant-loop-unit : goal.invariant-loop-unit
invariant-loop-unit l = record {
  marks : l.nonbasic.items ≡ l.fn.nonbasic.items ++ replicate l.unit true;
  places : l.places.items ≡ l.fn.places.items ++ next_columns l.width l.unit;
  marks_len : vec_len l.nonbasic ≡ vec_len l.fn.nonbasic + l.unit;
  places_len : vec_len l.places ≡ vec_len l.fn.places + l.unit;
  marks_capacity : vec_capacity l.nonbasic ≡ vec_capacity l.fn.nonbasic;
  places_capacity : vec_capacity l.places ≡ vec_capacity l.fn.places;
}
