use Rattle.std.proofs.Common.{◌≡◌, ℕ, ◌<◌, get_or, length}
use Rattle.nz_sat.specs.Conflicts.{is_marked}
use Rattle.nz_sat.specs.Theories.{is_bound_at}
use Rattle.nz_sat.proofs.consult.Bounds.among.Given as goal

-- the atoms so far are marked as they are
abbrev pub invariant-loop-id : goal.invariant-loop-id
invariant-loop-id l =
    record {
      long : length l.marks.items ≡ l.size;
      marked : (k : ℕ) (d : ℕ) → k < l.id-index → is_marked l.marks.items (get_or l.ids k d) ≡ is_bound_at l.log.atoms (get_or l.ids k d);
    }
