-- A worked script: four clauses over two constants list eight terms, so that under a limit above 52496 their check isn't answered `unknown`.
use Rattle.std.specs.Prelude.{◌≡◌, ℕ, ◌≤◌, List, [], ◌∷◌, codes}
use Rattle.nz_script.specs.text.Text.{script_limits}
use Rattle.nz_script.specs.text.Reading.{reading_start, hear_on}
use Rattle.nz_spec.specs.terms.Term.{bool_sort, constant, disjunction, Term}
use Rattle.nz_spec.specs.terms.Normal.{negated, paired}
use Rattle.nz_spec.specs.laws.BooleanWork.{work_over}
use Rattle.nz_spec.specs.worked.TermSamples.{alone, constant_of_sort}
use Rattle.nz_script.specs.live.Live.{Reason}
use Rattle.nz_script.specs.replies.Reply.{quiet, unknown, Cause}
use Rattle.nz_script.specs.replies.Right.{Context, beginning, IsRightCheck}
use Rattle.nz_script.specs.run.Transcript.{Kept, context_of}
use Rattle.nz_script.specs.laws.BooleanChecks.{ListsBooleans}
use Rattle.nz_script.specs.worked.WorkedScripts.{replied}

abbrev pub clauses_text : List ℕ
clauses_text =
    codes
    "(declare-const p Bool)\n(declare-const q Bool)\n(assert (or p q))\n(assert (or (not p) q))\n(assert (or p (not q)))\n(assert (or (not p) (not q)))\n"

abbrev pub clauses_kept : List Kept
clauses_kept = replied (hear_on script_limits reading_start clauses_text) (quiet ∷ quiet ∷ quiet ∷ quiet ∷ quiet ∷ quiet ∷ [])

-- where the check stands, under a limit
abbrev pub clauses_context : ℕ → Context
clauses_context limit = context_of (beginning limit) clauses_kept

abbrev pub p_term : Term
p_term = alone (constant (constant_of_sort bool_sort (codes "p")))

abbrev pub q_term : Term
q_term = alone (constant (constant_of_sort bool_sort (codes "q")))

abbrev pub either : Term → Term → Term
either t u = paired disjunction t u

abbrev pub eight_terms : List Term
eight_terms =
    p_term ∷ q_term ∷ either p_term q_term ∷ negated p_term ∷ either (negated p_term) q_term ∷ negated q_term ∷ either p_term (negated q_term)
    ∷ either (negated p_term) (negated q_term) ∷ []

pub record HasFourClauses : Type 0 where
  pub lists : (limit : ℕ) → ListsBooleans (clauses_context limit).state [] eight_terms
  pub bound : work_over eight_terms ≡ 52496
  pub answered : (limit : ℕ) (r : Reason) (cause : Cause) → IsRightCheck (clauses_context limit) [] (unknown r) cause → limit ≤ 52496
