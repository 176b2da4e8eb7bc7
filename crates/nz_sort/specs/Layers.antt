-- The levels of the live state, as the code keeps them.
use Rattle.std.specs.Prelude.{ℕ, Bool, List, []}
use Rattle.nz_sort.specs.declared.items.Accepted.{Accepted}
use Rattle.nz_sort.specs.declared.items.Goal.{Goal}
use Rattle.nz_sort.specs.declared.items.Wish.{Wish}
use Rattle.nz_sort.specs.declared.levels.Level.{Level}

-- What a level has, each list in the order of acceptance.
pub record Layer : Type 0 where
  pub constants : List Accepted
  pub assertions : List Accepted
  pub goals : List Goal
  pub wishes : List Wish
  pub accepted : List ℕ  -- the terms of its items of all kinds that have one
  pub names_before : ℕ  -- how many names stood when it began
  pub constant_count : ℕ  -- how many constants are live, those of the older levels among them
  pub holds_integers : Bool  -- a term of it or of an older level holds a unit of sort Int

abbrev pub layer_of : Level → Layer
layer_of l =
    record {
      constants = l.constants.items;
      assertions = l.assertions.items;
      goals = l.goals.items;
      wishes = l.wishes.items;
      accepted = l.accepted.items;
      names_before = l.names_before;
      constant_count = l.constant_count;
      holds_integers = l.holds_integers;
    }

-- a level in which nothing is accepted yet
abbrev pub empty_layer : ℕ → ℕ → Bool → Layer
empty_layer names_before constant_count holds_integers =
    record {
      constants = [];
      assertions = [];
      goals = [];
      wishes = [];
      accepted = [];
      names_before = names_before;
      constant_count = constant_count;
      holds_integers = holds_integers;
    }
