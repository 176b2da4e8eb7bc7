use Rattle.std.proofs.Common.{◌≡◌, ℕ, true, false, All, take}
use Rattle.nz_sat.specs.Conflicts.{is_marked}
use Rattle.nz_sat.proofs.analyze.unmark.Given as goal

-- the marks of the literals so far are off, and no more are on
abbrev pub invariant-loop-literal : goal.invariant-loop-literal
invariant-loop-literal l =
    ((t : ℕ) → is_marked l.seen t ≡ true → is_marked l.fn.seen t ≡ true) × All (λ m. is_marked l.seen m.atom ≡ false) (take l.literal-index l.literals)
