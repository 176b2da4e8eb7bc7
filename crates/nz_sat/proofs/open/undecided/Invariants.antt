-- What was looked at is false, or an undecided literal was found, and none is true.
use Rattle.std.proofs.Common.{◌≡◌, None, take, Contains, IfSome}
use Rattle.nz_log.specs.declared.lits.Lit.{Lit}
use Rattle.nz_sat.specs.Clauses.{IsFalsified}
use Rattle.nz_sat.specs.Trails.{assigned}
use Rattle.nz_sat.proofs.open.undecided.Given as goal

abbrev pub invariant-loop-literal : goal.invariant-loop-literal
invariant-loop-literal l =
    record {
      free : IfSome l.found (λ (m : Lit). Contains l.literals m × (assigned l.trail.entries m.atom ≡ None));
      false_so_far : l.found ≡ None → IsFalsified l.trail.entries (take l.literal-index l.literals);
    }
