-- Commands as they are written (SMT-LIB 2.6, section 3.9; νZ 2015 for goals and wishes): each with its parts, whatever their
-- names stand for.
use Rattle.std.specs.Prelude.{ℕ, Bool, List, Option}
use Rattle.nz_script.specs.text.Tree.{Tree}
use Rattle.nz_script.specs.commands.Expression.{Numeric, Expression}

-- which value of its term a goal seeks
pub data Direction : Type 0 where
  least : Direction
  greatest : Direction

-- a sort: its name, or a list, whatever stands in it
pub data WrittenSort : Type 0 where
  named_sort : List ℕ → WrittenSort
  listed_sort : WrittenSort

-- a parameter of a definition
pub record Parameter : Type 0 where
  pub name : List ℕ
  pub sort : WrittenSort

-- a name that is assumed to be true, or to be false
pub record Assumption : Type 0 where
  pub name : List ℕ
  pub is_true : Bool

-- what a wish tells beside its term, where it tells it
pub record Attributes : Type 0 where
  pub weight : Option (Option Numeric)
  pub group : Option (List ℕ)

-- a term that is asked for, with the tree that it was read from
pub record Question : Type 0 where
  pub tree : Tree
  pub expression : Expression

-- in which order goals come
pub data Priority : Type 0 where
  lex_priority : Priority
  box_priority : Priority
  pareto_priority : Priority

-- an option with its value
pub data Setting : Type 0 where
  success_setting : Bool → Setting
  models_setting : Bool → Setting
  priority_setting : Priority → Setting
  other_setting : Setting

-- what a get-info asks for
pub data InfoKey : Type 0 where
  name_key : InfoKey
  version_key : InfoKey
  authors_key : InfoKey
  behavior_key : InfoKey
  levels_key : InfoKey
  reason_key : InfoKey
  other_key : InfoKey

pub data Request : Type 0 where
  declares : List ℕ → List WrittenSort → WrittenSort → Request  -- a name, the sorts of its arguments and its own
  defines : List ℕ → List Parameter → WrittenSort → Expression → Request
  asserts : Expression → Request
  wishes : Expression → Attributes → Request
  seeks : Direction → Expression → Request
  checks : Request
  checks_assuming : List Assumption → Request
  pushes : Option ℕ → Request  -- so many levels, where that is a number within the bounds
  pops : Option ℕ → Request
  resets : Request
  resets_assertions : Request
  shows_model : Request
  shows_values : List Question → Request
  shows_objectives : Request
  shows_info : InfoKey → Request
  sets_option : Setting → Request
  sets_nothing : Request  -- a logic, or an info
  echoes : List ℕ → Request
  exits : Request
  other_request : Request  -- a command that the program doesn't know
