-- What becomes of a command over a live state (SMT-LIB 2.6, section 3.9 and chapter 4): it is accepted, or refused by the first
-- rule that it breaks.
use Rattle.std.specs.Prelude.{ℕ, ◌&&◌, ◌||◌, suc, nat_lt, Bool, true, false, List, [], ◌∷◌, map, Option, Some, None, option_and_then, is_none, if◌then◌else◌}
use Rattle.std.specs.List.{list_any}
use Rattle.nz_script.specs.text.Bounds.{has_token, is_wide_token, is_long_decimal}
use Rattle.nz_script.specs.text.Tree.{Tree}
use Rattle.nz_spec.specs.terms.Term.{Sort, bool_sort, parameter, Term, apply, Terms, no_terms, terms, holds_integer}
use Rattle.nz_spec.specs.terms.Normal.{normal_of}
use Rattle.nz_spec.specs.terms.Linear.{is_linear}
use Rattle.nz_spec.specs.clauses.Literal.{Literal, term_literal}
use Rattle.nz_script.specs.commands.Expression.{Expression, written_name, Expressions, no_expressions, expressions}
use Rattle.nz_script.specs.commands.Request.{WrittenSort, named_sort, listed_sort, Parameter, Assumption, Question, lex_priority, Setting, success_setting, models_setting, priority_setting, InfoKey, name_key, version_key, authors_key, behavior_key, levels_key, reason_key, other_key, Request, declares, defines, asserts, wishes, seeks, checks, checks_assuming, pushes, pops, resets, resets_assertions, shows_model, shows_values, shows_objectives, shows_info, sets_option, sets_nothing, echoes, exits, other_request}
use Rattle.nz_script.specs.commands.Parse.{cons_onto, request_of}
use Rattle.nz_script.specs.commands.Elaboration.{is_declared, sort_named, Scope, term_of, terms_of}
use Rattle.nz_spec.specs.terms.Operators.{has_sort, placed}
use Rattle.nz_script.specs.live.Live.{State, items_of, items_hold_integers, constants_of, definitions_of, pushed_levels}
use Rattle.nz_script.specs.commands.Command.{name_info, version_info, authors_info, error_behavior_info, Asked, Command, declare_const, define, assert_term, push_levels, pop_levels, reset, reset_assertions, check_sat, get_model, get_value, get_info, get_levels, get_reason, set_print_success, no_effect, echo, exit, Outcome, accepted, refused, not_taken}
use Rattle.nz_spec.specs.outside.Error.{bad_syntax, unknown_symbol, wrong_sort, not_linear, too_wide, past_limit, below_zero, already_declared}
use Rattle.nz_script.specs.commands.Limits.{passes_limit}
use Rattle.nz_script.specs.commands.Scoping.{has_unknown, have_unknown, clash, has_clash, have_clash}

-- ---- Sorts

abbrev pub sort_written : WrittenSort → Option Sort
sort_written (named_sort name) = sort_named name
sort_written listed_sort = None

-- a sort by a name that no sort has
abbrev pub is_unknown_sort : WrittenSort → Bool
is_unknown_sort (named_sort name) = is_none (sort_named name)
is_unknown_sort listed_sort = false

abbrev pub sorts_onto : Option Sort → Option (List Sort) → Option (List Sort)
sorts_onto (Some s) (Some ss) = Some (s ∷ ss)
sorts_onto s ss = None

abbrev pub sorts_written : List WrittenSort → Option (List Sort)
sorts_written [] = Some []
sorts_written (w ∷ ws) = sorts_onto (sort_written w) (sorts_written ws)

-- ---- The commands over what is live

abbrev pub is_live_name : State → List ℕ → Bool
is_live_name s name = is_declared (constants_of s) (definitions_of s) name

abbrev pub scope_of : State → Scope
scope_of s = record { constants = constants_of s; definitions = definitions_of s; bound = [] }

-- the sort of what is no function
abbrev pub constant_sort : List WrittenSort → WrittenSort → Option Sort
constant_sort [] sort = sort_written sort
constant_sort (w ∷ ws) sort = None

-- A constant of this name and sort, which is no function: it has no arguments.
abbrev pub declaration_of : State → List ℕ → List WrittenSort → WrittenSort → Outcome
declaration_of s name arguments sort =
    if list_any is_unknown_sort arguments || is_unknown_sort sort then refused unknown_symbol
    else (if is_live_name s name then refused already_declared
    else elim (constant_sort arguments sort) [ Some is ↦ accepted (declare_const (record { name = name; sort = is })) | None ↦ refused wrong_sort ])

abbrev pub parameter_names : List Parameter → List (List ℕ)
parameter_names ps = map (λ (p : Parameter). p.name) ps

abbrev pub parameter_sorts : List Parameter → List WrittenSort
parameter_sorts ps = map (λ (p : Parameter). p.sort) ps

-- each name with the parameter of its place and its sort
abbrev pub parameters_from : ℕ → List (List ℕ) → List Sort → List (List ℕ × Term)
parameters_from i [] ss = []
parameters_from i (name ∷ names) [] = []
parameters_from i (name ∷ names) (s ∷ ss) = (name, apply (parameter i s) no_terms) ∷ parameters_from (suc i) names ss

abbrev pub body_scope : State → List (List ℕ) → List Sort → Scope
body_scope s names sorts = record { constants = constants_of s; definitions = definitions_of s; bound = parameters_from 0 names sorts }

abbrev pub linear_outcome : Bool → Command → Outcome
linear_outcome linear c = if linear then accepted c else refused not_linear

-- a body of this sort under these parameters
abbrev pub definition_by : State → List ℕ → List (List ℕ) → Option (List Sort) → Option Sort → Expression → Outcome
definition_by s name names (Some sorts) (Some sort) body =
    elim (option_and_then (placed sort) (term_of (body_scope s names sorts) body)) [
      | Some t ↦ linear_outcome (is_linear (normal_of t)) (define (record { name = name; parameters = sorts; body = t }))
      | None ↦ refused wrong_sort
    ]
definition_by s name names sorts sort body = refused wrong_sort

abbrev pub definition_of : State → List ℕ → List Parameter → WrittenSort → Expression → Outcome
definition_of s name parameters sort body =
    let names = parameter_names parameters in
    if list_any is_unknown_sort (parameter_sorts parameters) || is_unknown_sort sort || has_unknown (is_live_name s) names body then refused unknown_symbol
    else (if is_live_name s name || clash names || has_clash body then refused already_declared
    else definition_by s name names (sorts_written (parameter_sorts parameters)) (sort_written sort) body)

-- a term of sort Bool, where it is linear
abbrev pub asserted_outcome : Term → Outcome
asserted_outcome t = if has_sort bool_sort t then linear_outcome (is_linear (normal_of t)) (assert_term t) else refused wrong_sort

abbrev pub assertion_of : State → Expression → Outcome
assertion_of s e =
    if has_unknown (is_live_name s) [] e then refused unknown_symbol
    else (if has_clash e then refused already_declared
    else elim (term_of (scope_of s) e) [ Some t ↦ asserted_outcome t | None ↦ refused wrong_sort ])

-- the terms that are asked for
abbrev pub asked_expressions : List Question → Expressions
asked_expressions [] = no_expressions
asked_expressions (q ∷ qs) = expressions q.expression (asked_expressions qs)

-- each question's tree with its term
abbrev pub asked_of : List Question → Terms → List Asked
asked_of (q ∷ qs) (terms u us) = record { tree = q.tree; term = u } ∷ asked_of qs us
asked_of qs us = []

abbrev pub all_linear : Terms → Bool
all_linear no_terms = true
all_linear (terms t ts) = is_linear (normal_of t) && all_linear ts

abbrev pub values_asked : State → List Question → Outcome
values_asked s qs =
    let es = asked_expressions qs in
    if have_unknown (is_live_name s) [] es then refused unknown_symbol
    else (if have_clash es then refused already_declared
    else elim (terms_of (scope_of s) es) [ Some us ↦ linear_outcome (all_linear us) (get_value (asked_of qs us)) | None ↦ refused wrong_sort ])

-- ---- Levels

-- so many levels are pushed; a number beyond the bounds passes a limit
abbrev pub push_of : Option ℕ → Outcome
push_of (Some n) = accepted (push_levels n)
push_of None = refused past_limit

-- no more levels are popped than were pushed
abbrev pub pop_of : State → Option ℕ → Outcome
pop_of s (Some n) = if nat_lt (pushed_levels s) n then refused below_zero else accepted (pop_levels n)
pop_of s None = refused too_wide

-- ---- Checks

-- the term that an assumed name stands for
abbrev pub assumed_term : State → Assumption → Option Term
assumed_term s x = term_of (scope_of s) (written_name x.name)

abbrev pub assumes_unknown : State → Assumption → Bool
assumes_unknown s x = has_unknown (is_live_name s) [] (written_name x.name)

abbrev pub assumes_integer : State → Assumption → Bool
assumes_integer s x = elim (assumed_term s x) [ Some t ↦ holds_integer (normal_of t) | None ↦ false ]

-- a name of sort Bool is assumed, to be true or to be false
abbrev pub assumed_literal : State → Assumption → Option Literal
assumed_literal s x = option_and_then (λ t. if has_sort bool_sort t then Some (term_literal t x.is_true) else None) (assumed_term s x)

abbrev pub assumed_literals : State → List Assumption → Option (List Literal)
assumed_literals s [] = Some []
assumed_literals s (x ∷ xs) = cons_onto (assumed_literal s x) (assumed_literals s xs)

-- a check under these assumptions; the program takes none yet where a term that is live, or assumed, is of sort Int or made of one that is
abbrev pub check_under : State → List Assumption → Outcome
check_under s xs =
    if items_hold_integers (items_of s.levels) || list_any (assumes_integer s) xs then not_taken
    else (if list_any (assumes_unknown s) xs then refused unknown_symbol
    else elim (assumed_literals s xs) [ Some ls ↦ accepted (check_sat ls) | None ↦ refused wrong_sort ])

-- what a get-info of this key asks
abbrev pub info_asked : InfoKey → Outcome
info_asked name_key = accepted (get_info name_info)
info_asked version_key = accepted (get_info version_info)
info_asked authors_key = accepted (get_info authors_info)
info_asked behavior_key = accepted (get_info error_behavior_info)
info_asked levels_key = accepted get_levels
info_asked reason_key = accepted get_reason
info_asked other_key = not_taken

-- what an option does that is set; of the orders of goals only `lex` is taken
abbrev pub option_set : Setting → Outcome
option_set (success_setting b) = accepted (set_print_success b)
option_set (models_setting b) = accepted no_effect
option_set (priority_setting lex_priority) = accepted no_effect
option_set s = not_taken

-- What becomes of a command that is within the limits. The program takes no other commands yet, and no checks over Int.
abbrev pub outcome_by : State → Request → Outcome
outcome_by s (declares name arguments sort) = declaration_of s name arguments sort
outcome_by s (defines name parameters sort body) = definition_of s name parameters sort body
outcome_by s (asserts e) = assertion_of s e
outcome_by s (wishes e a) = not_taken
outcome_by s (seeks direction e) = not_taken
outcome_by s checks = if items_hold_integers (items_of s.levels) then not_taken else accepted (check_sat [])
outcome_by s (checks_assuming xs) = check_under s xs
outcome_by s (pushes n) = push_of n
outcome_by s (pops n) = pop_of s n
outcome_by s resets = accepted reset
outcome_by s resets_assertions = accepted reset_assertions
outcome_by s shows_model = accepted get_model
outcome_by s (shows_values qs) = values_asked s qs
outcome_by s shows_objectives = not_taken
outcome_by s (shows_info k) = info_asked k
outcome_by s (sets_option o) = option_set o
outcome_by s sets_nothing = accepted no_effect
outcome_by s (echoes text) = accepted (echo text)
outcome_by s exits = accepted exit
outcome_by s other_request = not_taken

-- The rules in their order: the limits, the width of numbers anywhere in the command, what the program takes, and then the
-- names, the sorts and what is linear.
abbrev pub outcome_requested : State → Tree → Request → Outcome
outcome_requested s t r =
    if passes_limit s r || has_token is_long_decimal t then refused past_limit
    else (if has_token is_wide_token t then refused too_wide else outcome_by s r)

-- What becomes of a command; first of all it is of its form.
abbrev pub outcome_of : State → Tree → Outcome
outcome_of s t = elim (request_of t) [ Some r ↦ outcome_requested s t r | None ↦ refused bad_syntax ]
