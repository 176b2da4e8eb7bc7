-- Checks over Booleans alone: under which limits they are answered.
-- Source: Marques-Silva and Sakallah 1999 (a search by clause learning ends, since it learns no clause twice).
use Rattle.std.specs.Prelude.{◌≡◌, ℕ, ◌≤◌, ⊤, true, List, flat_map, All}
use Rattle.std.specs.List.{AllByRecursion}
use Rattle.nz_script.specs.text.Tree.{Tree}
use Rattle.nz_spec.specs.terms.Term.{Term}
use Rattle.nz_spec.specs.clauses.Literal.{Literal}
use Rattle.nz_spec.specs.clauses.Gates.{is_boolean_term, IsGated}
use Rattle.nz_spec.specs.search.Work.{WorkList}
use Rattle.nz_spec.specs.search.Notes.{Note}
use Rattle.nz_spec.specs.laws.BooleanWork.{work_over}
use Rattle.nz_script.specs.live.Live.{State, Reason, Item, sought, wished, items_of}
use Rattle.nz_script.specs.live.TermList.{IsTermList}
use Rattle.nz_script.specs.commands.Command.{check_sat, accepted}
use Rattle.nz_script.specs.commands.Script.{outcome_of}
use Rattle.nz_script.specs.replies.Reply.{unknown, Cause, spent}
use Rattle.nz_script.specs.replies.Right.{beginning, normals_in, IsRightCheck}
use Rattle.nz_script.specs.run.Transcript.{Kept, context_of}

-- neither a goal nor a wish
abbrev pub IsStated : Item → Type 0
IsStated (sought g) = ⊥
IsStated (wished w) = ⊥
IsStated i = ⊤

-- No goal and no wish is live, and with what is assumed just these terms are listed, all of them Boolean.
pub record ListsBooleans (s : State) (assumed : List Literal) (terms : List Term) : Type 0 where
  pub stated : AllByRecursion IsStated (items_of s.levels)
  pub listed : IsTermList s (flat_map normals_in assumed) terms
  pub boolean : All (λ (t : Term). is_boolean_term t ≡ true) terms

-- Whatever was told and replied, of an accepted check over n such terms `unknown` is right, because each unit of the limit was used, only under a limit of at
-- most n * (3 ^ n + 1). Where the checks before were of such terms too, it is right for no other cause.
pub record BooleanChecksAreAnswered : Type 0 where
  pub units : (limit : ℕ) (kept : List Kept) (t : Tree) (assumed : List Literal) (terms : List Term) (r : Reason) (work : WorkList Note)
      → let c = context_of (beginning limit) kept in
      outcome_of c.state t ≡ accepted (check_sat assumed) → ListsBooleans c.state assumed terms → IsRightCheck c assumed (unknown r) (spent work) → limit ≤ work_over terms
  pub any : (limit : ℕ) (kept : List Kept) (t : Tree) (assumed : List Literal) (terms : List Term) (r : Reason) (cause : Cause)
      → let c = context_of (beginning limit) kept in
      outcome_of c.state t ≡ accepted (check_sat assumed) → ListsBooleans c.state assumed terms → All IsGated c.earlier → IsRightCheck c assumed (unknown r) cause
      → limit ≤ work_over terms
