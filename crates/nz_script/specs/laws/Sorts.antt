-- Terms and their sorts, after any commands.
use Rattle.std.specs.Prelude.{◌≡◌, ℕ, false, List, [], ◌∷◌, Some, map, ⊤}
use Rattle.std.specs.List.{AllByRecursion}
use Rattle.nz_script.specs.text.Tree.{Tree}
use Rattle.nz_script.specs.commands.Expression.{Expression}
use Rattle.nz_spec.specs.terms.Term.{bool_sort, Term, sort_of, holds_number, Assignment, value_of, IsOfSort}
use Rattle.nz_spec.specs.terms.Normal.{normal_of}
use Rattle.nz_spec.specs.clauses.Literal.{Literal, term_literal}
use Rattle.nz_spec.specs.terms.OverConstants.{IsOver}
use Rattle.nz_spec.specs.clauses.Gates.{IsGated}
use Rattle.nz_spec.specs.terms.Taken.{IsTakenBoolean}
use Rattle.nz_spec.specs.terms.Model.{IsAssignment}
use Rattle.nz_spec.specs.terms.Definitions.{Definition}
use Rattle.nz_script.specs.commands.Elaboration.{term_of}
use Rattle.nz_spec.specs.terms.WellSorted.{IsSortedDefinition, IsSortedAssertion, HasLinearNormal, HasLinearBody}
use Rattle.nz_script.specs.live.Live.{State, start, Item, LiveItem, items_of, constants_in, definitions_in, assertions_in, constants_of, assertions_of}
use Rattle.nz_script.specs.commands.Command.{Command, check_sat, accepted}
use Rattle.nz_script.specs.commands.Script.{scope_of, outcome_of}
use Rattle.nz_script.specs.text.Text.{What}
use Rattle.nz_script.specs.replies.Reply.{Reply}
use Rattle.nz_script.specs.replies.Right.{beginning, effect, after}
use Rattle.nz_script.specs.run.Transcript.{Kept, context_of}

-- Each definition and each assertion is well sorted and over the constants of the items, and its normal term is linear.
pub record AreSortedItems (items : List Item) : Type 0 where
  pub definitions : AllByRecursion IsSortedDefinition (definitions_in items)
  pub assertions : AllByRecursion IsSortedAssertion (assertions_in items)
  pub bodies_over : AllByRecursion (λ (d : Definition). IsOver (constants_in items) d.body) (definitions_in items)
  pub assertions_over : AllByRecursion (IsOver (constants_in items)) (assertions_in items)
  pub bodies_linear : AllByRecursion HasLinearBody (definitions_in items)
  pub assertions_linear : AllByRecursion HasLinearNormal (assertions_in items)

-- So are those that were live in each level: its own and the older ones.
abbrev pub AreSortedLevels : List (List LiveItem) → Type 0
AreSortedLevels [] = ⊤
AreSortedLevels (items ∷ older) = AreSortedItems (items_of (items ∷ older)) × AreSortedLevels older

abbrev pub IsSortedState : State → Type 0
IsSortedState s = AreSortedLevels s.levels

-- What is written in this state has a value of its sort, and each live assertion has a truth.
pub record HaveTheirSorts (s : State) (a : Assignment) : Type 0 where
  pub terms : (e : Expression) (t : Term) → term_of (scope_of s) e ≡ Some t → IsOfSort (sort_of t) (value_of a t)
  pub assertions : AllByRecursion (λ (t : Term). IsOfSort bool_sort (value_of a t)) (assertions_of s)

-- Whatever was told and replied, that holds under each assignment.
abbrev pub TermsHaveTheirSorts : Type 0
TermsHaveTheirSorts = (limit : ℕ) (kept : List Kept) (a : Assignment) → IsAssignment a → HaveTheirSorts (context_of (beginning limit) kept).state a

-- What is live is well sorted at first, and stays so whatever is told and replied.
pub record StatesStaySorted : Type 0 where
  pub start : IsSortedState start
  pub by_command : (s : State) (t : Tree) (c : Command) (reply : Reply) → outcome_of s t ≡ accepted c → IsSortedState s → IsSortedState (effect s c reply)
  pub by_reply : (s : State) (what : What) (reply : Reply) → IsSortedState s → IsSortedState (after s what reply)
  pub in_context : (limit : ℕ) (kept : List Kept) → IsSortedState (context_of (beginning limit) kept).state

-- In such a state the normal term of each assertion is one of the gate table, where it holds no number.
abbrev pub AssertionsAreGated : Type 0
AssertionsAreGated = (s : State) → IsSortedState s → AllByRecursion (λ (t : Term). holds_number t ≡ false → IsGated t) (map normal_of (assertions_of s))

-- The live assertions are over the live constants.
abbrev pub AssertionsAreOver : Type 0
AssertionsAreOver = (s : State) → IsSortedState s → AllByRecursion (IsOver (constants_of s)) (assertions_of s)

-- The literal is of a term over the live constants, and its normal term is one of sort Bool that checks take.
abbrev pub IsAssumable : State → Literal → Type 0
IsAssumable s (term_literal t sign) = IsOver (constants_of s) t × IsTakenBoolean (normal_of t)
IsAssumable s l = ⊥

-- So it is of each literal that an accepted check assumes.
abbrev pub AssumptionsAreTaken : Type 0
AssumptionsAreTaken = (s : State) → IsSortedState s → (t : Tree) (ls : List Literal) → outcome_of s t ≡ accepted (check_sat ls) → AllByRecursion (IsAssumable s) ls
