-- Which reply to a thing heard is right, and what it leaves (SMT-LIB 2.6, section 4.2).
use Rattle.std.specs.Prelude.{◌≡◌, ℕ, Bool, true, false, not, List, [], ◌∷◌, ◌++◌, map, flat_map, drop, Option, Some, None, ◌⊎◌, if◌then◌else◌}
use Rattle.std.specs.List.{repeat}
use Rattle.nz_script.specs.text.Tree.{Tree}
use Rattle.nz_spec.specs.terms.Term.{Term, Assignment}
use Rattle.nz_spec.specs.terms.Normal.{negated, normal_of}
use Rattle.nz_spec.specs.clauses.Literal.{Literal, term_literal, is_at_most, is_below}
use Rattle.nz_spec.specs.terms.Form.{Part}
use Rattle.nz_spec.specs.terms.FormOf.{place_of}
use Rattle.nz_script.specs.text.Text.{What, intact, faulty, unclosed, unread}
use Rattle.nz_spec.specs.outside.Error.{nothing_to_show, incomplete, out_of_memory}
use Rattle.nz_spec.specs.terms.Model.{assignment_of, AreModel, IsUnsatisfiable}
use Rattle.nz_script.specs.live.Live.{units_spent, number_left, declared, defined, asserted, LastAnswer, model_found, refutation, undecided, Options, State, start, constants_of, assertions_of, grown, pushed_levels}
use Rattle.nz_script.specs.commands.Command.{Asked, Command, declare_const, define, assert_term, push_levels, pop_levels, reset, reset_assertions, check_sat, get_model, get_value, get_info, get_levels, get_reason, set_print_success, no_effect, echo, exit, Outcome, accepted, refused, not_taken}
use Rattle.nz_script.specs.commands.Script.{outcome_of}
use Rattle.nz_script.specs.live.TermList.{terms_added}
use Rattle.nz_spec.specs.search.Search.{Task}
use Rattle.nz_spec.specs.search.Legal.{IsSpentLegally}
use Rattle.nz_spec.specs.search.Places.{IsStoppedLegally}
use Rattle.nz_script.specs.replies.Reply.{Shown, term_shown, Reply, quiet, success, sat, unsat, unknown, model, values, info, levels, reason, echoed, unsupported, error, Cause, plain, spent, stopped}

-- What a reply is judged by: the most units of work that a check may use, the terms that the checks before were asked of, and the state that the
-- command meets.
pub record Context : Type 0 where
  pub limit : ℕ
  pub earlier : List Term
  pub state : State

-- the context of the first thing heard
abbrev pub beginning : ℕ → Context
beginning limit = record { limit = limit; earlier = []; state = start }

-- the normal terms of a literal: the one that it makes true, which is a negation where it is negated; or the units of its sum
abbrev pub normals_in : Literal → List Term
normals_in (term_literal t true) = normal_of t ∷ []
normals_in (term_literal t false) = negated (normal_of t) ∷ []
normals_in (is_at_most ps b) = map (λ (p : Part). normal_of p.unit) ps
normals_in (is_below ps b) = map (λ (p : Part). normal_of p.unit) ps

-- the terms that a check under these assumed literals is asked of
abbrev pub listed_under : State → List Literal → List Term
listed_under s assumed = terms_added s (flat_map normals_in assumed)

-- the literal, on normal terms
abbrev pub normal_part : Part → Part
normal_part p = record p { unit = normal_of p.unit }

abbrev pub normal_literal : Literal → Literal
normal_literal (term_literal t sign) = term_literal (normal_of t) sign
normal_literal (is_at_most ps b) = is_at_most (map normal_part ps) b
normal_literal (is_below ps b) = is_below (map normal_part ps) b

-- what a check under these assumed literals asks a search: whether the normal terms can be true. Units are numbered by their places in the list.
abbrev pub task_of : Context → List Literal → Task
task_of c assumed = record {
  asserted = map normal_of (assertions_of c.state);
  assumed = map normal_literal assumed;
  goals = [];
  groups = [];
  listed = listed_under c.state assumed;
  numbering = place_of (listed_under c.state assumed);
  earlier = c.earlier;
  earlier_goals = [];
}

-- An answer to a check under these assumed literals.
abbrev pub IsRightCheck : Context → List Literal → Reply → Cause → Type 0
IsRightCheck c assumed (sat bs) cause = AreModel (constants_of c.state) (assertions_of c.state) assumed bs × (cause ≡ plain)
IsRightCheck c assumed unsat cause = IsUnsatisfiable (assertions_of c.state) assumed × (cause ≡ plain)
-- Each unit of the limit was used, step by step as a search may.
IsRightCheck c assumed (unknown r) plain = ⊥
IsRightCheck c assumed (unknown r) (spent list) =
    (r ≡ units_spent c.limit) × (list.limit ≡ c.limit) × IsSpentLegally (task_of c assumed) list
-- An operation left the numbers, at its place.
IsRightCheck c assumed (unknown r) (stopped place list) =
    (r ≡ number_left place.operation) × (list.limit ≡ c.limit) × IsStoppedLegally (task_of c assumed) list place
IsRightCheck c assumed reply cause = ⊥

-- what the last answer shows, where it has something to show
abbrev pub IsRightModel : Option LastAnswer → Reply → Type 0
IsRightModel (Some (model_found bs)) reply = reply ≡ model bs
IsRightModel last reply = reply ≡ error nothing_to_show

abbrev pub IsRightReason : Option LastAnswer → Reply → Type 0
IsRightReason (Some (undecided r)) reply = reply ≡ reason r
IsRightReason last reply = reply ≡ error nothing_to_show

-- a term that is asked for, by its tree, and what is told of its value
abbrev pub shown_under : Assignment → Asked → Tree × Shown
shown_under a x = (x.tree, term_shown a x.term)

abbrev pub AreRightValues : Option LastAnswer → List Asked → Reply → Type 0
AreRightValues (Some (model_found bs)) xs reply = reply ≡ values (map (shown_under (assignment_of bs)) xs)
AreRightValues last xs reply = reply ≡ error nothing_to_show

-- the reply to a command that only changes the state, or nothing, where these are the options after it
abbrev pub done : Options → Reply
done o = if o.prints_success then success else quiet

abbrev pub IsRightCommand : Context → Command → Reply → Cause → Type 0
IsRightCommand c (declare_const k) reply cause = (reply ≡ done c.state.options) × (cause ≡ plain)
IsRightCommand c (define d) reply cause = (reply ≡ done c.state.options) × (cause ≡ plain)
IsRightCommand c (assert_term t) reply cause = (reply ≡ done c.state.options) × (cause ≡ plain)
IsRightCommand c (push_levels n) reply cause = (reply ≡ done c.state.options) × (cause ≡ plain)
IsRightCommand c (pop_levels n) reply cause = (reply ≡ done c.state.options) × (cause ≡ plain)
IsRightCommand c reset reply cause = (reply ≡ done start.options) × (cause ≡ plain)
IsRightCommand c reset_assertions reply cause = (reply ≡ done c.state.options) × (cause ≡ plain)
IsRightCommand c (check_sat assumed) reply cause = IsRightCheck c assumed reply cause
IsRightCommand c get_model reply cause = IsRightModel c.state.last reply × (cause ≡ plain)
IsRightCommand c (get_value xs) reply cause = AreRightValues c.state.last xs reply × (cause ≡ plain)
IsRightCommand c (get_info i) reply cause = (reply ≡ info i) × (cause ≡ plain)
IsRightCommand c get_levels reply cause = (reply ≡ levels (pushed_levels c.state)) × (cause ≡ plain)
IsRightCommand c get_reason reply cause = IsRightReason c.state.last reply × (cause ≡ plain)
IsRightCommand c (set_print_success b) reply cause = (reply ≡ done (record { prints_success = b })) × (cause ≡ plain)
IsRightCommand c no_effect reply cause = (reply ≡ done c.state.options) × (cause ≡ plain)
IsRightCommand c (echo bs) reply cause = (reply ≡ echoed bs) × (cause ≡ plain)
IsRightCommand c exit reply cause = (reply ≡ done c.state.options) × (cause ≡ plain)

abbrev pub IsRightOutcome : Context → Outcome → Reply → Cause → Type 0
IsRightOutcome c (accepted k) reply cause = IsRightCommand c k reply cause
IsRightOutcome c (refused e) reply cause = (reply ≡ error e) × (cause ≡ plain)
IsRightOutcome c not_taken reply cause = (reply ≡ unsupported) × (cause ≡ plain)

-- a command that takes no memory once it is accepted
abbrev pub always_answered : Command → Bool
always_answered (declare_const c) = false
always_answered (define d) = false
always_answered (assert_term t) = false
always_answered (push_levels n) = false
always_answered (pop_levels n) = true
always_answered reset = false
always_answered reset_assertions = false
always_answered (check_sat assumed) = false
always_answered get_model = false
always_answered (get_value xs) = false
always_answered (get_info i) = false
always_answered get_levels = false
always_answered get_reason = false
always_answered (set_print_success b) = false
always_answered no_effect = false
always_answered (echo bs) = true
always_answered exit = true

-- a command of which this becomes may be answered with want of memory
abbrev pub may_want_memory : Outcome → Bool
may_want_memory (accepted k) = not (always_answered k)
may_want_memory (refused e) = true
may_want_memory not_taken = true

-- the reply to want of memory
abbrev pub IsOutOfMemory : Reply → Cause → Type 0
IsOutOfMemory reply cause = (reply ≡ error out_of_memory) × (cause ≡ plain)

-- that reply in place of any other
abbrev pub IsWantOfMemory : Outcome → Reply → Cause → Type 0
IsWantOfMemory o reply cause = (may_want_memory o ≡ true) × IsOutOfMemory reply cause

-- The reply to a thing told.
abbrev pub IsRight : Context → What → Reply → Cause → Type 0
IsRight c (intact t) reply cause = IsRightOutcome c (outcome_of c.state t) reply cause ⊎ IsWantOfMemory (outcome_of c.state t) reply cause
IsRight c (faulty e) reply cause = (reply ≡ error e) × (cause ≡ plain)
IsRight c unclosed reply cause = (reply ≡ error incomplete) × (cause ≡ plain)
IsRight c unread reply cause = IsOutOfMemory reply cause

-- ---- What a command leaves

-- the last answer, where this is the reply to a check
abbrev pub last_after : Reply → Option LastAnswer
last_after (sat bs) = Some (model_found bs)
last_after unsat = Some refutation
last_after (unknown r) = Some (undecided r)
last_after reply = None

abbrev pub effect : State → Command → Reply → State
effect s (declare_const c) reply = grown s (declared c)
effect s (define d) reply = grown s (defined d)
effect s (assert_term t) reply = grown s (asserted t)
-- new levels are empty; what stood in a level that is taken off is live no more, and the numbers of its items aren't given again
effect s (push_levels n) reply = record s { levels = repeat n ([] ∷ []) ++ s.levels; last = None }
effect s (pop_levels n) reply = record s { levels = drop n s.levels; last = None }
effect s reset reply = start
effect s reset_assertions reply = record start { options = s.options }
effect s (check_sat assumed) reply = record s { last = last_after reply }
effect s get_model reply = s
effect s (get_value xs) reply = s
effect s (get_info i) reply = s
effect s get_levels reply = s
effect s get_reason reply = s
effect s (set_print_success b) reply = record s { options = record { prints_success = b } }
effect s no_effect reply = s
effect s (echo bs) reply = s
effect s exit reply = s

abbrev pub effect_of : State → Outcome → Reply → State
effect_of s (accepted c) reply = effect s c reply
effect_of s (refused e) reply = s
effect_of s not_taken reply = s

-- The state after a thing told and its reply. An error leaves it as it was.
abbrev pub after : State → What → Reply → State
after s (intact t) (error e) = s
after s (intact t) reply = effect_of s (outcome_of s t) reply
after s what reply = s

-- the thing told is an accepted exit
abbrev pub IsExit : State → What → Reply → Type 0
IsExit s (intact t) reply = (outcome_of s t ≡ accepted exit) × (reply ≡ done s.options)
IsExit s what reply = ⊥

-- the terms that a command asks a search of
abbrev pub searched_by : State → Command → List Term
searched_by s (declare_const c) = []
searched_by s (define d) = []
searched_by s (assert_term t) = []
searched_by s (push_levels n) = []
searched_by s (pop_levels n) = []
searched_by s reset = []
searched_by s reset_assertions = []
searched_by s (check_sat assumed) = listed_under s assumed
searched_by s get_model = []
searched_by s (get_value xs) = []
searched_by s (get_info i) = []
searched_by s get_levels = []
searched_by s get_reason = []
searched_by s (set_print_success b) = []
searched_by s no_effect = []
searched_by s (echo bs) = []
searched_by s exit = []

abbrev pub asked_of : State → Outcome → List Term
asked_of s (accepted c) = searched_by s c
asked_of s (refused e) = []
asked_of s not_taken = []

-- the terms that searches were asked of, when this is told
abbrev pub earlier_after : Context → What → List Term
earlier_after c (intact t) = c.earlier ++ asked_of c.state (outcome_of c.state t)
earlier_after c what = c.earlier

-- the context that a thing told and its reply leave
abbrev pub context_after : Context → What → Reply → Context
context_after c what reply = record { limit = c.limit; earlier = earlier_after c what; state = after c.state what reply }
