use Rattle.std.proofs.Common.{◌≡◌, ℕ, List, length}
use Rattle.nz_spec.specs.terms.Table.{Node, IsTable}
use Rattle.nz_log.specs.Logs.{level_at}
use Rattle.nz_log.specs.Sound.{IsLog}
use Rattle.nz_log.specs.Spelling.{steps_of}
use Rattle.nz_log.proofs.Spelled.{ArePlaced}
use Rattle.nz_log.proofs.steps.spelled.Given as goal

-- what the clause rests on below this number is spelled out
abbrev pub invariant-loop-i : goal.invariant-loop-i
invariant-loop-i l =
    record {
      long : length l.places.items ≡ length l.log.entries;
      placed : (ns : List Node) (levels : List (List ℕ)) → IsTable ns → IsLog ns levels l.log
          → ArePlaced ns levels l.log (level_at l.log l.id) l.marks.items l.places.items (steps_of ns l.steps.items) l.i;
    }
