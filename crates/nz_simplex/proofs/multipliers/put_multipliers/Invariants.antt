-- The multipliers of the nonbasic forms so far.
use Rattle.std.proofs.Common.{◌≡◌, ◌+◌, ◌≤◌, ◌∷◌, flat_map, map, take}
use Rattle.std.specs.Prelude.{pos, vec_len, vec_capacity}
use Rattle.nz_fractions.specs.Fraction.{whole}
use Rattle.nz_simplex.specs.Standing.{told}
use Rattle.nz_simplex.specs.Stored.{held_back}
use Rattle.nz_simplex.specs.Tabled.{rows_in}
use Rattle.nz_simplex.proofs.multipliers.put_multipliers.Given as goal

abbrev pub invariant-loop-var : goal.invariant-loop-var
invariant-loop-var g l = record {
  put : l.why.items ≡ (l.broken.limit.reason, whole (pos 1)) ∷ flat_map (held_back (map (told g.S.Coordinate.stands_for) l.trail.asserted) l.broken.side (rows_in l.tab l.broken.var)) (take l.var-index l.nonbasic);
  len : vec_len l.why ≤ l.var-index + 1;
  capacity : vec_capacity l.why ≡ vec_capacity l.fn.why;
}
