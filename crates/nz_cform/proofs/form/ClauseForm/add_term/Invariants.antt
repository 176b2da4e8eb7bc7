use Rattle.nz_spec.specs.terms.Table.{term_in}
use Rattle.nz_cform.proofs.Sizes.{total}
use Rattle.nz_cform.proofs.Underway.{IsUnderway}
use Rattle.nz_cform.proofs.form.ClauseForm.add_term.Given as goal

abbrev pub invariant-loop-term : goal.invariant-loop-term
invariant-loop-term l = IsUnderway l.terms l.id l.level l.fn.log l.fn.self l.log l.self l.clauses.items l.waiting.items

abbrev pub decreases-loop-term : goal.decreases-loop-term
decreases-loop-term l = total (term_in l.terms) l.waiting.items
