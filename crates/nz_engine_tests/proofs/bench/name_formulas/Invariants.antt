-- Each so far names a formula.
use Rattle.std.proofs.Common.{ℕ, ◌<◌, get_or}
use Rattle.nz_term.specs.declared.term_lits.TermLit.{TermLit}
use Rattle.nz_engine_tests.specs.Benches.{IsFormula}
use Rattle.nz_engine_tests.proofs.bench.name_formulas.Given as goal

abbrev pub invariant-loop-i : goal.invariant-loop-i
invariant-loop-i l = (k : ℕ) (d : TermLit) → k < l.i → IsFormula l.terms (get_or l.literals k d).term
