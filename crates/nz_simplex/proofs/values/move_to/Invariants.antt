-- The forms so far have their values after the move, and the others have theirs from before.
use Rattle.std.proofs.Common.{◌≡◌, ℕ, ◌<◌, ◌≤◌, None, false, get_or}
use Rattle.nz_simplex.specs.Choices.{IsAfter}
use Rattle.nz_simplex.specs.Tabled.{marks_in, rows_in}
use Rattle.nz_simplex.proofs.values.move_to.Given as goal

abbrev pub invariant-loop-form : goal.invariant-loop-form
invariant-loop-form g l = record {
  done : (k : ℕ) → k < l.form → IsAfter g.S.Coordinate.stands_for (get_or (marks_in l.tab) k false) l.distance (rows_in l.tab k l.var) (get_or l.initial.values k None) (get_or l.values k None);
  rest : (k : ℕ) → l.form ≤ k → get_or l.values k None ≡ get_or l.initial.values k None;
}
