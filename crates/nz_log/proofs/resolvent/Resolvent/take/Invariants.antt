use Rattle.std.proofs.Common.{◌≡◌, ◌++◌, List, length}
use Rattle.std.specs.Prelude.{reverse}
use Rattle.nz_log.specs.declared.lits.Lit.{Lit}
use Rattle.nz_log.specs.Marked.{AreListed, has_mark, last_marked}
use Rattle.nz_log.proofs.resolvent.Resolvent.take.Given as goal

-- what is left of the list, and what was taken, turned round, are the literals
abbrev pub invariant-loop-literal : goal.invariant-loop-literal
invariant-loop-literal l =
    let left : List Lit = last_marked (has_mark l.self-inside.marks) l.self-inside.came.items in
    record {
      joined : left ++ reverse l.literals.items ≡ l.fn.self;
      listed : AreListed (has_mark l.self-inside.marks) l.self-inside.came.items;
    }

abbrev pub decreases-loop-literal : goal.decreases-loop-literal
decreases-loop-literal l = length l.self-inside.came.items
