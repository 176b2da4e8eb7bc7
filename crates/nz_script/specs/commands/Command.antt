-- What a command asks for once it is accepted (SMT-LIB 2.6, section 4.2), and what becomes of one.
use Rattle.std.specs.Prelude.{ℕ, Bool, List}
use Rattle.nz_script.specs.text.Tree.{Tree}
use Rattle.nz_spec.specs.terms.Term.{Constant, Term}
use Rattle.nz_spec.specs.clauses.Literal.{Literal}
use Rattle.nz_spec.specs.terms.Definitions.{Definition}
use Rattle.nz_spec.specs.outside.Error.{Error}

-- what a get-info tells whatever the state
pub data Info : Type 0 where
  name_info : Info
  version_info : Info
  authors_info : Info
  error_behavior_info : Info

-- a term that is asked for, with the tree that it was read from
pub record Asked : Type 0 where
  pub tree : Tree
  pub term : Term

pub data Command : Type 0 where
  declare_const : Constant → Command
  define : Definition → Command
  assert_term : Term → Command
  push_levels : ℕ → Command
  pop_levels : ℕ → Command
  reset : Command
  reset_assertions : Command
  check_sat : List Literal → Command  -- under these assumed literals
  get_model : Command
  get_value : List Asked → Command
  get_info : Info → Command
  get_levels : Command  -- get-info of :assertion-stack-levels
  get_reason : Command  -- get-info of :reason-unknown
  set_print_success : Bool → Command
  no_effect : Command  -- it sets what this program heeds nowhere
  echo : List ℕ → Command
  exit : Command

-- What becomes of a command: it is accepted, or refused by the error of the first rule that it breaks;
-- or it is one that the program doesn't take.
pub data Outcome : Type 0 where
  accepted : Command → Outcome
  refused : Error → Outcome
  not_taken : Outcome
