-- The forms that have joined so far have their first values.
use Rattle.std.proofs.Common.{◌≡◌, ℕ, ◌<◌, ◌≤◌, Some, None, false, get_or, length, take}
use Rattle.std.specs.Prelude.{if◌then◌else◌, vec_len, vec_capacity}
use Rattle.nz_simplex.specs.Tabled.{marks_in}
use Rattle.nz_simplex.proofs.lists.extend_values.Given as goal

abbrev pub invariant-loop-var : goal.invariant-loop-var
invariant-loop-var g l = record {
  len : vec_len l.values ≡ l.var;
  long : length l.values.items ≡ l.var;
  stays : take (vec_len l.fn.values) l.values.items ≡ l.fn.values.items;
  joined : (k : ℕ) → vec_len l.fn.values ≤ k → k < l.var → get_or l.values.items k None ≡ (if get_or (marks_in l.tab) k false then Some g.S.Scalar.origin else None);
  capacity : vec_capacity l.values ≡ vec_capacity l.fn.values;
}
