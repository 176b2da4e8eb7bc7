use Rattle.std.proofs.Common.{◌≡◌, ℕ, ◌<◌, ◌≤◌, length, Some}
use Rattle.std.specs.Prelude.{slice_get}
use Rattle.nz_sat.specs.declared.watches.Watch.{Watch}
use Rattle.nz_sat.specs.Lists.{list_of}
use Rattle.nz_sat.proofs.watches.Watches.place.Given as goal

-- the clause stands at the place, or before it
abbrev pub invariant-loop-literal : goal.invariant-loop-literal
invariant-loop-literal l =
    record {
      inside : l.i < length (list_of l.self l.literal);
      before : (k : ℕ) × (w : Watch) × (k ≤ l.i) × (slice_get (list_of l.self l.literal) k ≡ Some w) × (w.key ≡ l.key);
    }

abbrev pub decreases-loop-literal : goal.decreases-loop-literal
decreases-loop-literal l = l.i
