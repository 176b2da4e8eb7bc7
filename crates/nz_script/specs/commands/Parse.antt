-- What a tree is as a term and as a command, if it is one (SMT-LIB 2.6, sections 3.2 to 3.6 and 3.9). A command that isn't of
-- its form is an error of syntax. A command that the program doesn't know has any form.
use Rattle.std.specs.Prelude.{ℕ, ◌&&◌, Bool, true, false, List, [], ◌∷◌, length, codes, bytes_eq, Option, Some, None, option_map, option_and_then, is_some, is_none, unwrap_or, if◌then◌else◌}
use Rattle.std.specs.List.{list_any}
use Rattle.nz_script.specs.text.Tree.{Token, symbol, keyword, numeral, decimal, literal, after_point, Tree, leaf, node, Trees, no_trees, trees}
use Rattle.nz_script.specs.text.Bounds.{digits_value, decimal_digits, are_wide}
use Rattle.nz_spec.specs.terms.Term.{head_fits}
use Rattle.nz_script.specs.commands.Expression.{Numeric, written_integer, written_decimal, numeric_head, Expression, written_number, written_name, written_use, written_let, Expressions, no_expressions, expressions, Locals, no_locals, locals}
use Rattle.nz_script.specs.commands.Request.{least, greatest, WrittenSort, named_sort, listed_sort, Parameter, Assumption, Attributes, Question, Priority, lex_priority, box_priority, pareto_priority, Setting, success_setting, models_setting, priority_setting, other_setting, InfoKey, name_key, version_key, authors_key, behavior_key, levels_key, reason_key, other_key, Request, declares, defines, asserts, wishes, seeks, checks, checks_assuming, pushes, pops, resets, resets_assertions, shows_model, shows_values, shows_objectives, shows_info, sets_option, sets_nothing, echoes, exits, other_request}

-- ---- Names and numbers

-- the name is one of these
abbrev pub is_one_of : List (List ℕ) → List ℕ → Bool
is_one_of names name = list_any (bytes_eq name) names

-- words that no symbol may be
abbrev pub reserved_words : List (List ℕ)
reserved_words = codes "!" ∷ codes "_" ∷ codes "as" ∷ codes "exists" ∷ codes "forall" ∷ codes "let" ∷ codes "match" ∷ codes "par" ∷ []

abbrev pub free_name : List ℕ → Option (List ℕ)
free_name name = if is_one_of reserved_words name then None else Some name

-- the name that a token is
abbrev pub token_name : Token → Option (List ℕ)
token_name (symbol name) = free_name name
token_name t = None

abbrev pub name_of : Tree → Option (List ℕ)
name_of (leaf t) = token_name t
name_of (node ts) = None

-- the number of a numeral or a decimal, where it is within the bounds on numbers
abbrev pub fitting : Numeric → Option Numeric
fitting n = if head_fits (numeric_head n) then Some n else None

abbrev pub token_number : Token → Option (Option Numeric)
token_number (numeral bs) = Some (fitting (written_integer (digits_value bs)))
token_number (decimal bs) = Some (fitting (written_decimal (digits_value (decimal_digits bs)) (length (after_point bs))))
token_number t = None

-- ---- Terms

abbrev pub token_expression : Token → Option Expression
token_expression (symbol name) = option_map written_name (free_name name)
token_expression t = option_map written_number (token_number t)

-- what a list that is a term begins with: `let`, or another name
pub data TermHead : Type 0 where
  name_head : List ℕ → TermHead
  let_head : TermHead
  no_head : TermHead

abbrev pub name_or_none : Option (List ℕ) → TermHead
name_or_none (Some name) = name_head name
name_or_none None = no_head

abbrev pub named_head : List ℕ → TermHead
named_head name = if bytes_eq name (codes "let") then let_head else name_or_none (free_name name)

abbrev pub term_head : Token → TermHead
term_head (symbol name) = named_head name
term_head t = no_head

-- one term or more under a name; one binding or more, and the term in which they hold
abbrev pub used : List ℕ → Option Expressions → Option Expression
used name (Some (expressions e es)) = Some (written_use name (expressions e es))
used name es = None

abbrev pub bound : Option Locals → Option Expression → Option Expression
bound (Some (locals name e ls)) (Some body) = Some (written_let (locals name e ls) body)
bound ls body = None

abbrev pub expressions_onto : Option Expression → Option Expressions → Option Expressions
expressions_onto (Some e) (Some es) = Some (expressions e es)
expressions_onto e es = None

abbrev pub named : Option (List ℕ) → Option Expression → Option (List ℕ × Expression)
named (Some name) (Some e) = Some (name, e)
named name e = None

abbrev pub locals_onto : Option (List ℕ × Expression) → Option Locals → Option Locals
locals_onto (Some l) (Some ls) = Some (locals l.0 l.1 ls)
locals_onto l ls = None

-- a numeral, a decimal, a name, a name over one term or more, or a `let` of one name or more
abbrev mutual
  pub expression_of : Tree → Option Expression
  expression_of (leaf t) = token_expression t
  expression_of (node no_trees) = None
  expression_of (node (trees (node inner) ts)) = None
  expression_of (node (trees (leaf t) ts)) = elim (term_head t) [ name_head name ↦ used name (expressions_of ts) | let_head ↦ let_in ts | no_head ↦ None ]

  pub expressions_of : Trees → Option Expressions
  expressions_of no_trees = Some no_expressions
  expressions_of (trees t ts) = expressions_onto (expression_of t) (expressions_of ts)

  -- bindings, and the term in which they hold
  pub let_in : Trees → Option Expression
  let_in no_trees = None
  let_in (trees b no_trees) = None
  let_in (trees b (trees body no_trees)) = bound (locals_in b) (expression_of body)
  let_in (trees b (trees body (trees t ts))) = None

  pub locals_in : Tree → Option Locals
  locals_in (leaf t) = None
  locals_in (node bs) = locals_of bs

  pub locals_of : Trees → Option Locals
  locals_of no_trees = Some no_locals
  locals_of (trees b bs) = locals_onto (local_of b) (locals_of bs)

  -- a name, and the term that it stands for
  pub local_of : Tree → Option (List ℕ × Expression)
  local_of (leaf t) = None
  local_of (node ts) = local_in ts

  pub local_in : Trees → Option (List ℕ × Expression)
  local_in no_trees = None
  local_in (trees x no_trees) = None
  local_in (trees x (trees t no_trees)) = named (name_of x) (expression_of t)
  local_in (trees x (trees t (trees u us))) = None

-- ---- Parts of commands

-- no argument; one; a first one, and then others; a list, and trees of one kind
abbrev pub none : {A : Type 0} → A → Trees → Option A
none made no_trees = Some made
none made (trees t ts) = None

abbrev pub one : {A : Type 0} {B : Type 0} → (Tree → Option A) → (A → B) → Trees → Option B
one part made no_trees = None
one part made (trees t no_trees) = option_map made (part t)
one part made (trees t (trees u us)) = None

abbrev pub first : {A : Type 0} {B : Type 0} → (Tree → Option A) → (A → Trees → Option B) → Trees → Option B
first part others no_trees = None
first part others (trees t ts) = option_and_then (λ a. others a ts) (part t)

abbrev pub within : {A : Type 0} → (Trees → Option A) → Tree → Option A
within part (leaf t) = None
within part (node ts) = part ts

abbrev pub cons_onto : {A : Type 0} → Option A → Option (List A) → Option (List A)
cons_onto (Some a) (Some others) = Some (a ∷ others)
cons_onto a others = None

abbrev pub each : {A : Type 0} → (Tree → Option A) → Trees → Option (List A)
each part no_trees = Some []
each part (trees t ts) = cons_onto (part t) (each part ts)

-- a sort: its name, or a list
abbrev pub written_sort : Tree → Option WrittenSort
written_sort (leaf t) = option_map named_sort (token_name t)
written_sort (node ts) = Some listed_sort

abbrev pub parameter_in : Trees → Option Parameter
parameter_in ts = first name_of (λ name. one written_sort (λ sort. record { name = name; sort = sort })) ts

abbrev pub parameter_of : Tree → Option Parameter
parameter_of t = within parameter_in t

abbrev pub is_negation : Tree → Bool
is_negation (leaf (symbol name)) = bytes_eq name (codes "not")
is_negation t = false

abbrev pub assumed : Bool → List ℕ → Assumption
assumed is_true name = record { name = name; is_true = is_true }

abbrev pub negated_name : Trees → Option Assumption
negated_name (trees operator (trees x no_trees)) = if is_negation operator then option_map (assumed false) (name_of x) else None
negated_name ts = None

-- a name, or `not` of one
abbrev pub assumption_of : Tree → Option Assumption
assumption_of (leaf t) = option_map (assumed true) (token_name t)
assumption_of (node ts) = negated_name ts

abbrev pub question_of : Tree → Option Question
question_of t = option_map (λ e. record { tree = t; expression = e }) (expression_of t)

abbrev pub some_questions : Trees → Option (List Question)
some_questions no_trees = None
some_questions (trees t ts) = each question_of (trees t ts)

abbrev pub literal_of : Tree → Option (List ℕ)
literal_of (leaf (literal text)) = Some text
literal_of t = None

-- the number of a numeral, where it is within the bounds on numbers
abbrev pub number_within : List ℕ → Option ℕ
number_within bs = if are_wide bs then None else Some (digits_value bs)

abbrev pub level_number : Tree → Option (Option ℕ)
level_number (leaf (numeral bs)) = Some (number_within bs)
level_number t = None

-- how many levels: one if nothing stands there
abbrev pub level_count : Trees → Option (Option ℕ)
level_count no_trees = Some (Some 1)
level_count ts = one level_number (λ n. n) ts

-- ---- Wishes

abbrev pub weight_of : Tree → Option (Option Numeric)
weight_of (leaf t) = token_number t
weight_of (node ts) = None

abbrev pub keyword_of : Tree → Option (List ℕ)
keyword_of (leaf (keyword name)) = Some name
keyword_of t = None

-- one attribute more, which was not there before
abbrev pub attribute_onto : Attributes → List ℕ → Tree → Option Attributes
attribute_onto a name v =
    if bytes_eq name (codes ":weight") && is_none a.weight then option_map (λ w. record a { weight = Some w }) (weight_of v)
    else (if bytes_eq name (codes ":id") && is_none a.group then option_map (λ g. record a { group = Some g }) (name_of v)
    else None)

-- the weight and the group of a wish, in any order, each at most once
abbrev pub attributes_onto : Attributes → Trees → Option Attributes
attributes_onto a no_trees = Some a
attributes_onto a (trees k no_trees) = None
attributes_onto a (trees k (trees v ts)) =
    elim (option_and_then (λ name. attribute_onto a name v) (keyword_of k)) [ Some b ↦ attributes_onto b ts | None ↦ None ]

abbrev pub wish_of : Expression → Trees → Option Request
wish_of e ts = option_map (wishes e) (attributes_onto (record { weight = None; group = None }) ts)

-- ---- Options and infos

-- what is listed with a word
abbrev pub listed_with : {A : Type 0} → List (List ℕ × A) → List ℕ → Option A
listed_with [] word = None
listed_with (p ∷ ps) word = if bytes_eq word p.0 then Some p.1 else listed_with ps word

abbrev pub word_among : {A : Type 0} → List (List ℕ × A) → Tree → Option A
word_among table (leaf (symbol name)) = listed_with table name
word_among table t = None

abbrev pub truth_words : List (List ℕ × Bool)
truth_words = (codes "true", true) ∷ (codes "false", false) ∷ []

abbrev pub priority_words : List (List ℕ × Priority)
priority_words = (codes "lex", lex_priority) ∷ (codes "box", box_priority) ∷ (codes "pareto", pareto_priority) ∷ []

-- the value of an attribute: a constant, a symbol or a list
abbrev pub is_attribute_value : Tree → Bool
is_attribute_value (leaf (keyword name)) = false
is_attribute_value (leaf (symbol name)) = is_some (free_name name)
is_attribute_value t = true

abbrev pub unknown_setting : Tree → Option Setting
unknown_setting v = if is_attribute_value v then Some other_setting else None

-- an option that is known has a value of its own; another has any attribute value
abbrev pub setting_of : List ℕ → Tree → Option Setting
setting_of name v =
    if bytes_eq name (codes ":print-success") then option_map success_setting (word_among truth_words v)
    else (if bytes_eq name (codes ":produce-models") then option_map models_setting (word_among truth_words v)
    else (if bytes_eq name (codes ":opt.priority") then option_map priority_setting (word_among priority_words v)
    else unknown_setting v))

abbrev pub info_words : List (List ℕ × InfoKey)
info_words =
    (codes ":name", name_key) ∷ (codes ":version", version_key) ∷ (codes ":authors", authors_key) ∷ (codes ":error-behavior", behavior_key)
    ∷ (codes ":assertion-stack-levels", levels_key) ∷ (codes ":reason-unknown", reason_key) ∷ []

abbrev pub info_key : List ℕ → InfoKey
info_key name = unwrap_or (listed_with info_words name) other_key

abbrev pub info_of : List ℕ → Trees → Option Request
info_of key no_trees = Some sets_nothing
info_of key ts = one (λ v. if is_attribute_value v then Some v else None) (λ v. sets_nothing) ts

-- ---- Commands

-- after its name: the sorts of its arguments and its own; parameters, a sort and a body
abbrev pub function_of : List ℕ → Trees → Option Request
function_of name ts = first (within (each written_sort)) (λ arguments. one written_sort (declares name arguments)) ts

abbrev pub written_definition : List ℕ → Trees → Option Request
written_definition name ts = first (within (each parameter_of)) (λ parameters. first written_sort (λ sort. one expression_of (defines name parameters sort))) ts

-- the commands that the program knows, each with what its arguments are
abbrev pub commands : List (List ℕ × (Trees → Option Request))
commands =
    (codes "assert", one expression_of asserts)
    ∷ (codes "assert-soft", first expression_of wish_of)
    ∷ (codes "check-sat", none checks)
    ∷ (codes "check-sat-assuming", one (within (each assumption_of)) checks_assuming)
    ∷ (codes "declare-const", first name_of (λ name. one written_sort (declares name [])))
    ∷ (codes "declare-fun", first name_of function_of)
    ∷ (codes "define-fun", first name_of written_definition)
    ∷ (codes "echo", one literal_of echoes)
    ∷ (codes "exit", none exits)
    ∷ (codes "get-info", one keyword_of (λ name. shows_info (info_key name)))
    ∷ (codes "get-model", none shows_model)
    ∷ (codes "get-objectives", none shows_objectives)
    ∷ (codes "get-value", one (within some_questions) shows_values)
    ∷ (codes "maximize", one expression_of (seeks greatest))
    ∷ (codes "minimize", one expression_of (seeks least))
    ∷ (codes "pop", λ ts. option_map pops (level_count ts))
    ∷ (codes "push", λ ts. option_map pushes (level_count ts))
    ∷ (codes "reset", none resets)
    ∷ (codes "reset-assertions", none resets_assertions)
    ∷ (codes "set-info", first keyword_of info_of)
    ∷ (codes "set-logic", one name_of (λ name. sets_nothing))
    ∷ (codes "set-option", first keyword_of (λ name. one (setting_of name) sets_option))
    ∷ []

-- a command of this name over these arguments
abbrev pub request_named : List ℕ → Trees → Option Request
request_named name ts = elim (listed_with commands name) [ Some arguments ↦ arguments ts | None ↦ Some other_request ]

-- a list that begins with a name
abbrev pub request_of : Tree → Option Request
request_of (leaf t) = None
request_of (node ts) = first name_of request_named ts
