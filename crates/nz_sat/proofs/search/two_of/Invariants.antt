use Rattle.std.proofs.Common.{◌≡◌, ℕ, ◌<◌, get_or}
use Rattle.nz_log.specs.declared.lits.Lit.{Lit}
use Rattle.nz_sat.proofs.search.two_of.Given as goal

-- each so far is the first one
abbrev pub invariant-loop-literal : goal.invariant-loop-literal
invariant-loop-literal l = (k : ℕ) (d : Lit) → k < l.literal-index → get_or l.literals k d ≡ l.first
