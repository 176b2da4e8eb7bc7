-- What a desk holds, and what its answers are.
use Rattle.std.specs.Prelude.{◌≡◌, ℕ, ◌<◌, Bool, true, false, List, length, map, Contains, option_map, Option, Some, ⊤}
use Rattle.std.specs.List.{AllByRecursion}
use Rattle.nz_script.specs.text.Text.{What, intact}
use Rattle.nz_script.specs.text.Tree.{Tree}
use Rattle.nz_spec.specs.terms.Term.{Term, Value}
use Rattle.nz_spec.specs.terms.Table.{Node, assignment_by}
use Rattle.nz_spec.specs.search.Decide.{IsFrontOfTable, asserted_terms}
use Rattle.nz_spec.specs.terms.Model.{Binding, assignment_of}
use Rattle.nz_script.specs.live.Live as live_state
use Rattle.nz_script.specs.live.Live.{State, constants_of}
use Rattle.nz_script.specs.laws.Sorts.{IsSortedState}
use Rattle.nz_script.specs.replies.Right.{Context, IsRight, IsExit, earlier_after, context_after, done}
use Rattle.nz_sort.specs.Live.{IsLive, asserted_by}
use Rattle.nz_reply.specs.Reasons.{reason_of}
use Rattle.nz_reply.specs.Replies.{reply_of, cause_of, IsCauseWithin}
use Rattle.nz_search.specs.Levels.{Level}
use Rattle.nz_session.specs.Told.{IsTold}
use Rattle.nz_session.specs.declared.desk.Desk.{Desk}
use Rattle.nz_session.specs.declared.desk.Answer.{Answer}
use Rattle.nz_reply.specs.declared.reply.Cause.TheVariants as causes
use Rattle.nz_session.specs.declared.desk.LastAnswer.{LastAnswer}
use Rattle.nz_session.specs.declared.desk.LastAnswer.TheVariants.{Model, Refutation, Undecided}

-- the desk's table of terms
abbrev pub table_of : {E : Type 0} → Desk E → List Node
table_of desk = desk.terms

-- the terms that are asserted
abbrev pub asserted_in : {E : Type 0} → Desk E → List Term
asserted_in desk = asserted_terms desk.terms (asserted_by desk.live)

-- what the last answer was
abbrev pub last_of : LastAnswer → live_state.LastAnswer
last_of (Model m) = live_state.model_found m.bindings.value
last_of Refutation = live_state.refutation
last_of (Undecided reason) = live_state.undecided (reason_of reason)

-- a model that was found binds the live constants, in their order
abbrev pub BindsConstants : Option live_state.LastAnswer → State → Type 0
BindsConstants (Some (live_state.model_found bs)) s = map (λ (b : Binding). b.constant) bs ≡ constants_of s
BindsConstants last s = ⊤

-- The values by numbers give each constant what the bindings give it. Their numbers are of the table, so that it may go on.
pub record AreValuesOf (ns : List Node) (bs : List Binding) (ps : List (ℕ × Value)) : Type 0 where
  pub within : AllByRecursion (λ (p : ℕ × Value). p.0 < length ns) ps
  pub assigns : assignment_by ns ps ≡ assignment_of bs

-- the values that are kept of a model are those that it binds
abbrev pub KeepsValues : List Node → Option LastAnswer → Type 0
KeepsValues ns (Some (Model m)) = AreValuesOf ns m.bindings.value m.values
KeepsValues ns last = ⊤

-- A search may begin with what an engine keeps where those before were asked of these terms, and of any more.
abbrev pub BeginsOver : {E : Type 0} → (E → List Term → Type 0) → E → List Term → Type 0
BeginsOver begins engine ts = (us : List Term) → ((t : Term) → Contains ts t → Contains us t) → begins engine us

-- the context where searches were asked of what a command asks too
abbrev pub asked_in : Context → Tree → Context
asked_in c t = record c { earlier = earlier_after c (intact t) }

-- The desk holds what a context says; what its engine was told stands in its table, and what it keeps a search may begin with.
pub record Holds {E : Type 0} (levels : E → List Level) (table : E → List Node) (begins : E → List Term → Type 0) (desk : Desk E) (c : Context) : Type 0 where
  pub live : IsLive desk.terms desk.live c.state
  pub sorted : IsSortedState c.state
  pub told : IsTold (levels desk.engine) desk.told (asserted_by desk.live)
  pub front : IsFrontOfTable (table desk.engine) desk.terms
  pub last : option_map last_of desk.last ≡ c.state.last
  pub bound : BindsConstants c.state.last c.state
  pub values : KeepsValues desk.terms desk.last
  pub success : desk.prints_success ≡ c.state.options.prints_success
  pub bounded : desk.limit ≡ c.limit
  pub begun : BeginsOver begins desk.engine c.earlier

-- The answer is right for what was heard, its cause names terms of the table, and the desk holds what it leaves.
pub record IsAnswer {E : Type 0} (levels : E → List Level) (table : E → List Node) (begins : E → List Term → Type 0) (c : Context) (what : What) (answer : Answer) (desk : Desk E) : Type 0 where
  pub right : IsRight c what (reply_of what answer.reply) (cause_of (table_of desk) answer.cause)
  pub within : IsCauseWithin (table_of desk) answer.cause
  pub holds : Holds levels table begins desk (context_after c what (reply_of what answer.reply))
  pub exits : answer.exits ≡ true → IsExit c.state what (reply_of what answer.reply)
  pub stays : answer.exits ≡ false → IsExit c.state what (reply_of what answer.reply) → ⊥

-- The answer goes on, and tells success or nothing, as this option says.
pub record Succeeds (prints_success : Bool) (answer : Answer) : Type 0 where
  pub plain : answer ≡ record { reply = answer.reply; cause = causes.Plain; exits = false }
  pub tells : (what : What) → reply_of what answer.reply ≡ done (record { prints_success = prints_success })
