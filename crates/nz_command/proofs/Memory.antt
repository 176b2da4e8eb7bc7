-- Commands that are read with memory are none of those that take none.
use Rattle.std.proofs.Common.{◌≡◌, true, Option, Some, None, option_map, refl}
use Rattle.std.specs.Prelude.{option_and_then}
use Rattle.nz_script.specs.text.Tree.{Tree, Trees, no_trees, trees}
use Rattle.nz_script.specs.commands.Request.{Direction, Request, declares, defines, asserts, wishes, seeks, checks_assuming, shows_values}
use Rattle.nz_script.specs.commands.Parse.{name_of, expression_of, one, first, within, each, written_sort, parameter_of, assumption_of, some_questions, attributes_onto, wish_of, function_of, written_definition}
use Rattle.nz_command.specs.Requests.{may_take_memory}

module _ {A : Type 0} where
  mapped : (made : A → Request) → ((a : A) → may_take_memory (Some (made a)) ≡ true) → (m : Option A) → may_take_memory (option_map made m) ≡ true
  mapped made h (Some a) = h a
  mapped made h None = refl

  chained : (others : A → Option Request) → ((a : A) → may_take_memory (others a) ≡ true) → (m : Option A) → may_take_memory (option_and_then others m) ≡ true
  chained others h (Some a) = h a
  chained others h None = refl

  one_takes : (part : Tree → Option A) (made : A → Request) → ((a : A) → may_take_memory (Some (made a)) ≡ true) → (ts : Trees) → may_take_memory (one part made ts) ≡ true
  one_takes part made h no_trees = refl
  one_takes part made h (trees t no_trees) = mapped made h (part t)
  one_takes part made h (trees t (trees u us)) = refl

  first_takes : (part : Tree → Option A) (others : A → Trees → Option Request) → ((a : A) (ts : Trees) → may_take_memory (others a ts) ≡ true) → (ts : Trees)
      → may_take_memory (first part others ts) ≡ true
  first_takes part others h no_trees = refl
  first_takes part others h (trees t ts) = chained (λ a. others a ts) (λ a. h a ts) (part t)

pub assertion_takes : (ts : Trees) → may_take_memory (one expression_of asserts ts) ≡ true
assertion_takes ts = one_takes expression_of asserts (λ e. refl) ts

pub goal_takes : (d : Direction) (ts : Trees) → may_take_memory (one expression_of (seeks d) ts) ≡ true
goal_takes d ts = one_takes expression_of (seeks d) (λ e. refl) ts

pub wish_takes : (ts : Trees) → may_take_memory (first expression_of wish_of ts) ≡ true
wish_takes ts = first_takes expression_of wish_of (λ e us. mapped (wishes e) (λ a. refl) (attributes_onto (record { weight = None; group = None }) us)) ts

pub assuming_takes : (ts : Trees) → may_take_memory (one (within (each assumption_of)) checks_assuming ts) ≡ true
assuming_takes ts = one_takes (within (each assumption_of)) checks_assuming (λ xs. refl) ts

pub values_take : (ts : Trees) → may_take_memory (one (within some_questions) shows_values ts) ≡ true
values_take ts = one_takes (within some_questions) shows_values (λ qs. refl) ts

pub function_takes : (ts : Trees) → may_take_memory (first name_of function_of ts) ≡ true
function_takes ts =
    first_takes name_of function_of (λ name us. first_takes (within (each written_sort)) (λ arguments. one written_sort (declares name arguments)) (λ arguments vs. one_takes written_sort (declares name arguments) (λ sort. refl) vs) us) ts

pub definition_takes : (ts : Trees) → may_take_memory (first name_of written_definition ts) ≡ true
definition_takes ts =
    first_takes name_of written_definition
    (λ name us. first_takes (within (each parameter_of)) (λ parameters. first written_sort (λ sort. one expression_of (defines name parameters sort)))
    (λ parameters vs. first_takes written_sort (λ sort. one expression_of (defines name parameters sort)) (λ sort ws. one_takes expression_of (defines name parameters sort) (λ e. refl) ws) vs) us)
    ts
