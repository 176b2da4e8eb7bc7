-- Commands that may be answered with want of memory: all but those that take none.
use Rattle.std.proofs.Common.{◌≡◌, ◌||◌, Bool, true, false, true≢false, List, [], Option, Some, None, refl, sym, if◌then◌else◌}
use Rattle.std.specs.Prelude.{ℕ, option_and_then}
use Rattle.std.specs.List.{list_any}
use Rattle.nz_script.specs.text.Tree.{Tree}
use Rattle.nz_script.specs.text.Bounds.{has_token, is_wide_token, is_long_decimal}
use Rattle.nz_script.specs.commands.Expression.{Expression}
use Rattle.nz_script.specs.commands.Request.{WrittenSort, Parameter, Assumption, Question, lex_priority, box_priority, pareto_priority, Setting, success_setting, models_setting, priority_setting, other_setting, InfoKey, name_key, version_key, authors_key, behavior_key, levels_key, reason_key, other_key, Request, declares, defines, asserts, wishes, seeks, checks, checks_assuming, pushes, pops, resets, resets_assertions, shows_model, shows_values, shows_objectives, shows_info, sets_option, sets_nothing, echoes, exits, other_request}
use Rattle.nz_script.specs.commands.Parse.{request_of}
use Rattle.nz_spec.specs.terms.Term.{Sort, bool_sort, Term, Terms}
use Rattle.nz_spec.specs.terms.Normal.{normal_of}
use Rattle.nz_spec.specs.terms.Linear.{is_linear}
use Rattle.nz_spec.specs.terms.Operators.{has_sort, placed}
use Rattle.nz_spec.specs.clauses.Literal.{Literal}
use Rattle.nz_spec.specs.outside.Error.{bad_syntax, unknown_symbol, wrong_sort, not_linear, too_wide, past_limit, already_declared}
use Rattle.nz_script.specs.commands.Elaboration.{term_of, terms_of}
use Rattle.nz_script.specs.live.Live.{State, items_of, items_hold_integers}
use Rattle.nz_script.specs.commands.Command.{Command, declare_const, define, assert_term, check_sat, get_value, Outcome, accepted, refused, not_taken}
use Rattle.nz_script.specs.commands.Limits.{passes_limit}
use Rattle.nz_script.specs.commands.Scoping.{clash, has_clash, have_clash, has_unknown, have_unknown}
use Rattle.nz_script.specs.commands.Script.{is_live_name, scope_of, constant_sort, sort_written, is_unknown_sort, declaration_of, parameter_names, parameter_sorts, sorts_written, body_scope, linear_outcome, definition_by, definition_of, asserted_outcome, assertion_of, asked_expressions, all_linear, asked_of, values_asked, push_of, assumes_unknown, assumes_integer, assumed_literals, check_under, info_asked, option_set, outcome_by, outcome_requested, outcome_of}
use Rattle.nz_script.specs.replies.Right.{may_want_memory}
use Rattle.nz_command.specs.Requests.{may_take_memory}

-- A command of this outcome may be answered so.
abbrev MayWant : Outcome → Type 0
MayWant o = may_want_memory o ≡ true

either : (b : Bool) (o p : Outcome) → MayWant o → MayWant p → MayWant (if b then o else p)
either true o p h k = h
either false o p h k = k

linear : (b : Bool) (c : Command) → MayWant (accepted c) → MayWant (linear_outcome b c)
linear b c h = either b (accepted c) (refused not_linear) h refl

module _ (s : State) where
  constants : (name : List ℕ) (m : Option Sort) → MayWant (elim m [ Some is ↦ accepted (declare_const (record { name = name; sort = is })) | None ↦ refused wrong_sort ])
  constants name (Some is) = refl
  constants name None = refl

  declarations : (name : List ℕ) (arguments : List WrittenSort) (sort : WrittenSort) → MayWant (declaration_of s name arguments sort)
  declarations name arguments sort =
      let made : Outcome = elim (constant_sort arguments sort) [ Some is ↦ accepted (declare_const (record { name = name; sort = is })) | None ↦ refused wrong_sort ] in
      either (list_any is_unknown_sort arguments || is_unknown_sort sort) (refused unknown_symbol) (if is_live_name s name then refused already_declared else made) refl
      (either (is_live_name s name) (refused already_declared) made refl (constants name (constant_sort arguments sort)))

  bodies : (name : List ℕ) (sorts : List Sort) (m : Option Term)
      → MayWant (elim m [ Some t ↦ linear_outcome (is_linear (normal_of t)) (define (record { name = name; parameters = sorts; body = t })) | None ↦ refused wrong_sort ])
  bodies name sorts (Some t) = linear (is_linear (normal_of t)) (define (record { name = name; parameters = sorts; body = t })) refl
  bodies name sorts None = refl

  defined_by : (name : List ℕ) (names : List (List ℕ)) (m : Option (List Sort)) (n : Option Sort) (body : Expression) → MayWant (definition_by s name names m n body)
  defined_by name names (Some sorts) (Some sort) body = bodies name sorts (option_and_then (placed sort) (term_of (body_scope s names sorts) body))
  defined_by name names (Some sorts) None body = refl
  defined_by name names None n body = refl

  definitions : (name : List ℕ) (parameters : List Parameter) (sort : WrittenSort) (body : Expression) → MayWant (definition_of s name parameters sort body)
  definitions name parameters sort body =
      let names = parameter_names parameters in
      let made : Outcome = definition_by s name names (sorts_written (parameter_sorts parameters)) (sort_written sort) body in
      either (list_any is_unknown_sort (parameter_sorts parameters) || is_unknown_sort sort || has_unknown (is_live_name s) names body) (refused unknown_symbol)
      (if is_live_name s name || clash names || has_clash body then refused already_declared else made) refl
      (either (is_live_name s name || clash names || has_clash body) (refused already_declared) made refl
      (defined_by name names (sorts_written (parameter_sorts parameters)) (sort_written sort) body))

  stated : (m : Option Term) → MayWant (elim m [ Some t ↦ asserted_outcome t | None ↦ refused wrong_sort ])
  stated (Some t) =
      either (has_sort bool_sort t) (linear_outcome (is_linear (normal_of t)) (assert_term t)) (refused wrong_sort) (linear (is_linear (normal_of t)) (assert_term t) refl) refl
  stated None = refl

  assertions : (e : Expression) → MayWant (assertion_of s e)
  assertions e =
      let made : Outcome = elim (term_of (scope_of s) e) [ Some t ↦ asserted_outcome t | None ↦ refused wrong_sort ] in
      either (has_unknown (is_live_name s) [] e) (refused unknown_symbol) (if has_clash e then refused already_declared else made) refl
      (either (has_clash e) (refused already_declared) made refl (stated (term_of (scope_of s) e)))

  asked : (qs : List Question) (m : Option Terms) → MayWant (elim m [ Some us ↦ linear_outcome (all_linear us) (get_value (asked_of qs us)) | None ↦ refused wrong_sort ])
  asked qs (Some us) = linear (all_linear us) (get_value (asked_of qs us)) refl
  asked qs None = refl

  values : (qs : List Question) → MayWant (values_asked s qs)
  values qs =
      let es = asked_expressions qs in
      let made : Outcome = elim (terms_of (scope_of s) es) [ Some us ↦ linear_outcome (all_linear us) (get_value (asked_of qs us)) | None ↦ refused wrong_sort ] in
      either (have_unknown (is_live_name s) [] es) (refused unknown_symbol) (if have_clash es then refused already_declared else made) refl
      (either (have_clash es) (refused already_declared) made refl (asked qs (terms_of (scope_of s) es)))

  found : (m : Option (List Literal)) → MayWant (elim m [ Some ls ↦ accepted (check_sat ls) | None ↦ refused wrong_sort ])
  found (Some ls) = refl
  found None = refl

  checked : (xs : List Assumption) → MayWant (check_under s xs)
  checked xs =
      let made : Outcome = elim (assumed_literals s xs) [ Some ls ↦ accepted (check_sat ls) | None ↦ refused wrong_sort ] in
      either (items_hold_integers (items_of s.levels) || list_any (assumes_integer s) xs) not_taken (if list_any (assumes_unknown s) xs then refused unknown_symbol else made) refl
      (either (list_any (assumes_unknown s) xs) (refused unknown_symbol) made refl (found (assumed_literals s xs)))

  pushed : (n : Option ℕ) → MayWant (push_of n)
  pushed (Some n) = refl
  pushed None = refl

  infos : (k : InfoKey) → MayWant (info_asked k)
  infos name_key = refl
  infos version_key = refl
  infos authors_key = refl
  infos behavior_key = refl
  infos levels_key = refl
  infos reason_key = refl
  infos other_key = refl

  options : (o : Setting) → MayWant (option_set o)
  options (success_setting b) = refl
  options (models_setting b) = refl
  options (priority_setting lex_priority) = refl
  options (priority_setting box_priority) = refl
  options (priority_setting pareto_priority) = refl
  options other_setting = refl

  requests : (r : Request) → may_take_memory (Some r) ≡ true → MayWant (outcome_by s r)
  requests (declares name arguments sort) h = declarations name arguments sort
  requests (defines name parameters sort body) h = definitions name parameters sort body
  requests (asserts e) h = assertions e
  requests (wishes e a) h = refl
  requests (seeks direction e) h = refl
  requests checks h = either (items_hold_integers (items_of s.levels)) not_taken (accepted (check_sat [])) refl refl
  requests (checks_assuming xs) h = checked xs
  requests (pushes n) h = pushed n
  requests (pops n) h = absurd (true≢false (sym h))
  requests resets h = refl
  requests resets_assertions h = refl
  requests shows_model h = refl
  requests (shows_values qs) h = values qs
  requests shows_objectives h = refl
  requests (shows_info k) h = infos k
  requests (sets_option o) h = options o
  requests sets_nothing h = refl
  requests (echoes text) h = absurd (true≢false (sym h))
  requests exits h = absurd (true≢false (sym h))
  requests other_request h = refl

  bounded : (t : Tree) (r : Request) → may_take_memory (Some r) ≡ true → MayWant (outcome_requested s t r)
  bounded t r h =
      let narrow : Outcome = if has_token is_wide_token t then refused too_wide else outcome_by s r in
      either (passes_limit s r || has_token is_long_decimal t) (refused past_limit) narrow refl
      (either (has_token is_wide_token t) (refused too_wide) (outcome_by s r) refl (requests r h))

  parsed : (t : Tree) (m : Option Request) → may_take_memory m ≡ true → MayWant (elim m [ Some r ↦ outcome_requested s t r | None ↦ refused bad_syntax ])
  parsed t (Some r) h = bounded t r h
  parsed t None h = refl

pub wants_memory : (t : Tree) → may_take_memory (request_of t) ≡ true → (s : State) → may_want_memory (outcome_of s t) ≡ true
wants_memory t h s = parsed s t (request_of t) h
