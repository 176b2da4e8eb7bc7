-- The forms so far.
use Rattle.std.proofs.Common.{◌≡◌, ◌≤◌, false, get_or}
use Rattle.std.specs.Prelude.{not, vec_len, vec_capacity}
use Rattle.nz_spec.specs.simplex.BasisMoves.{numbers}
use Rattle.nz_simplex.specs.Tabled.{marks_in}
use Rattle.nz_simplex.proofs.lists.list_forms.Given as goal

abbrev pub invariant-loop-var : goal.invariant-loop-var
invariant-loop-var l = record {
  basic : l.basic.items ≡ numbers l.var (λ k. not (get_or (marks_in l.tab) k false));
  nonbasic : l.nonbasic.items ≡ numbers l.var (λ k. get_or (marks_in l.tab) k false);
  basic_len : vec_len l.basic ≤ l.var;
  nonbasic_len : vec_len l.nonbasic ≤ l.var;
  basic_capacity : vec_capacity l.basic ≡ vec_capacity l.fn.basic;
  nonbasic_capacity : vec_capacity l.nonbasic ≡ vec_capacity l.fn.nonbasic;
}
