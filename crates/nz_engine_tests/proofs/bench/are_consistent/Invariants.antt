-- None so far is the negation of another.
use Rattle.std.proofs.Common.{ℕ, ◌<◌, get_or}
use Rattle.std.specs.Prelude.{Contains}
use Rattle.nz_term.specs.declared.term_lits.TermLit.{TermLit}
use Rattle.nz_term.specs.TermLits.{turned}
use Rattle.nz_engine_tests.proofs.bench.are_consistent.Given as goal

abbrev pub invariant-loop-i : goal.invariant-loop-i
invariant-loop-i l = (k : ℕ) (d : TermLit) → k < l.i → Contains l.literals (turned (get_or l.literals k d)) → ⊥
