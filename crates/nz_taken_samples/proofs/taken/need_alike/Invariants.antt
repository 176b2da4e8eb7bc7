-- Each so far is of the sort.
use Rattle.std.proofs.Common.{◌≡◌, ℕ, ◌<◌, true, get_or}
use Rattle.nz_spec.specs.terms.Operators.{has_sort}
use Rattle.nz_spec.specs.terms.Table.{term_in}
use Rattle.nz_term.specs.Constants.{sort_of}
use Rattle.nz_taken_samples.proofs.taken.need_alike.Given as goal

abbrev pub invariant-loop-i : goal.invariant-loop-i
invariant-loop-i l = (k d : ℕ) → k < l.i → has_sort (sort_of l.sort) (term_in l.terms (get_or l.kids k d)) ≡ true
