-- What a reply shows of its command stands in the command's argument.
use Rattle.std.proofs.Common.{◌≡◌, ℕ, true, false, List, [], ◌∷◌, map, Option, Some, None, option_map, refl, ap, subst, bytes_eq}
use Rattle.std.specs.Prelude.{option_and_then, if◌then◌else◌, ⊤}
use Rattle.nz_script.specs.commands.Request.{greatest, least}
use Rattle.nz_script.specs.commands.Parse.{keyword_of, assumption_of, setting_of, info_key, parameter_of}
use Rattle.std.specs.List.{AllByRecursion}
use Rattle.nz_script.specs.text.Tree.{literal, Tree, leaf, node, Trees, no_trees, trees}
use Rattle.nz_script.specs.text.Reading.{trees_from}
use Rattle.nz_script.specs.commands.Expression.{Expression}
use Rattle.nz_script.specs.commands.Request.{Question, Request, declares, defines, asserts, wishes, seeks, checks, checks_assuming, pushes, pops, resets, resets_assertions, shows_model, shows_values, shows_objectives, shows_info, sets_option, sets_nothing, echoes, exits, other_request}
use Rattle.nz_script.specs.commands.Argument.{argument_in, argument_of, Tells, ArgumentTells}
use Rattle.nz_script.specs.commands.Parse.{name_of, one, first, none, within, cons_onto, each, expression_of, written_sort, question_of, some_questions, literal_of, level_count, wish_of, attributes_onto, info_of, is_attribute_value, function_of, written_definition, listed_with, commands, request_named}

-- of these arguments
abbrev only_tree : Trees → Option Tree
only_tree (trees t no_trees) = Some t
only_tree ts = None

abbrev IsTold : (Trees → Option Request) → Type 0
IsTold read = (us : Trees) → Tells (only_tree us) (read us)

-- nothing is read off the argument
abbrev IsSilent : (Trees → Option Request) → Type 0
IsSilent read = (us : Trees) (t : Option Tree) → Tells t (read us)

module _ {A : Type 0} (made : A → Request) (silent : (t : Option Tree) (a : A) → Tells t (Some (made a))) where
  made_silent : (t : Option Tree) (m : Option A) → Tells t (option_map made m)
  made_silent t (Some a) = silent t a
  made_silent t None = tt

  one_silent : (part : Tree → Option A) → IsSilent (one part made)
  one_silent part no_trees t = tt
  one_silent part (trees u no_trees) t = made_silent t (part u)
  one_silent part (trees u (trees v vs)) t = tt

none_silent : (r : Request) → ((t : Option Tree) → Tells t (Some r)) → IsSilent (none r)
none_silent r silent no_trees t = silent t
none_silent r silent (trees u us) t = tt

then_silent : {A : Type 0} (t : Option Tree) (m : Option A) (f : A → Option Request) → ((a : A) → Tells t (f a)) → Tells t (option_and_then f m)
then_silent t (Some a) f h = h a
then_silent t None f h = tt

first_silent : {A : Type 0} (part : Tree → Option A) (others : A → Trees → Option Request) → ((a : A) → IsSilent (others a)) → IsSilent (first part others)
first_silent part others h no_trees t = tt
first_silent part others h (trees u us) t = then_silent t (part u) (λ a. others a us) (λ a. h a us t)

info_silent : (key : List ℕ) → IsSilent (info_of key)
info_silent key no_trees t = tt
info_silent key (trees u us) t = one_silent (λ (v : Tree). sets_nothing) (λ t a. tt) (λ v. if is_attribute_value v then Some v else None) (trees u us) t

silent_tells : (read : Trees → Option Request) → IsSilent read → IsTold read
silent_tells read h us = h us (only_tree us)

-- ---- Values and texts

abbrev AreTreesOf : Trees → Option (List Question) → Type 0
AreTreesOf ts (Some qs) = ts ≡ trees_from (map (λ (q : Question). q.tree) qs)
AreTreesOf ts None = ⊤

question_onto : (t : Tree) (ts : Trees) (m : Option Expression) (r : Option (List Question)) → AreTreesOf ts r
    → AreTreesOf (trees t ts) (cons_onto (option_map (λ e. record { tree = t; expression = e }) m) r)
question_onto t ts (Some e) (Some qs) h = ap (trees t) h
question_onto t ts (Some e) None h = tt
question_onto t ts None r h = tt

each_question : (ts : Trees) → AreTreesOf ts (each question_of ts)
each_question no_trees = refl
each_question (trees t ts) = question_onto t ts (expression_of t) (each question_of ts) (each_question ts)

some_question : (ts : Trees) → AreTreesOf ts (some_questions ts)
some_question no_trees = tt
some_question (trees t ts) = each_question (trees t ts)

shown_told : (ts : Trees) (m : Option (List Question)) → AreTreesOf ts m → Tells (Some (node ts)) (option_map shows_values m)
shown_told ts (Some qs) h = h
shown_told ts None h = tt

values_told : IsTold (one (within some_questions) shows_values)
values_told no_trees = tt
values_told (trees (leaf t) no_trees) = tt
values_told (trees (node ts) no_trees) = shown_told ts (some_questions ts) (some_question ts)
values_told (trees t (trees u us)) = tt

text_told : (t : Tree) → Tells (Some t) (option_map echoes (literal_of t))
text_told (node ts) = tt
text_told (leaf (literal text)) = refl
text_told (leaf t) = tt

echo_told : IsTold (one literal_of echoes)
echo_told no_trees = tt
echo_told (trees t no_trees) = text_told t
echo_told (trees t (trees u us)) = tt

-- ---- All commands

listed_told : (table : List (List ℕ × (Trees → Option Request))) (name : List ℕ) → AllByRecursion (λ (p : List ℕ × (Trees → Option Request)). IsTold p.1) table
    → (us : Trees) → Tells (only_tree us) (elim (listed_with table name) [ Some arguments ↦ arguments us | None ↦ Some other_request ])
listed_told [] name h us = tt
listed_told (p ∷ ps) name h us =
    elim (bytes_eq name p.0) as (λ b. Tells (only_tree us) (elim (if b then Some p.1 else listed_with ps name) [ Some arguments ↦ arguments us | None ↦ Some other_request ])) [
      | true ↦ h.0 us
      | false ↦ listed_told ps name h.1 us
    ]

all_told : AllByRecursion (λ (p : List ℕ × (Trees → Option Request)). IsTold p.1) commands
all_told = (
  silent_tells (one expression_of asserts) (one_silent asserts (λ t e. tt) expression_of),
  (
    silent_tells (first expression_of wish_of) (first_silent expression_of wish_of (λ e us t. made_silent (wishes e) (λ o a. tt) t (attributes_onto (record { weight = None; group = None }) us))),
    (
      silent_tells (none checks) (none_silent checks (λ t. tt)),
      (
        silent_tells (one (within (each assumption_of)) checks_assuming) (one_silent checks_assuming (λ t a. tt) (within (each assumption_of))),
        (
          silent_tells (first name_of (λ name. one written_sort (declares name []))) (first_silent name_of (λ name. one written_sort (declares name [])) (λ name. one_silent (declares name []) (λ t s. tt) written_sort)),
          (
            silent_tells (first name_of function_of) (first_silent name_of function_of (λ name. first_silent (within (each written_sort)) (λ arguments. one written_sort (declares name arguments)) (λ arguments. one_silent (declares name arguments) (λ t s. tt) written_sort))),
            (
              silent_tells (first name_of written_definition) (first_silent name_of written_definition (λ name. first_silent (within (each parameter_of)) (λ parameters. first written_sort (λ sort. one expression_of (defines name parameters sort))) (λ parameters. first_silent written_sort (λ sort. one expression_of (defines name parameters sort)) (λ sort. one_silent (defines name parameters sort) (λ t e. tt) expression_of)))),
              (
                echo_told,
                (
                  silent_tells (none exits) (none_silent exits (λ t. tt)),
                  (
                    silent_tells (one keyword_of (λ name. shows_info (info_key name))) (one_silent (λ name. shows_info (info_key name)) (λ t name. tt) keyword_of),
                    (
                      silent_tells (none shows_model) (none_silent shows_model (λ t. tt)),
                      (
                        silent_tells (none shows_objectives) (none_silent shows_objectives (λ t. tt)),
                        (
                          values_told,
                          (
                            silent_tells (one expression_of (seeks greatest)) (one_silent (seeks greatest) (λ t e. tt) expression_of),
                            (
                              silent_tells (one expression_of (seeks least)) (one_silent (seeks least) (λ t e. tt) expression_of),
                              (
                                silent_tells (λ us. option_map pops (level_count us)) (λ us t. made_silent pops (λ o n. tt) t (level_count us)),
                                (
                                  silent_tells (λ us. option_map pushes (level_count us)) (λ us t. made_silent pushes (λ o n. tt) t (level_count us)),
                                  (
                                    silent_tells (none resets) (none_silent resets (λ t. tt)),
                                    (
                                      silent_tells (none resets_assertions) (none_silent resets_assertions (λ t. tt)),
                                      (
                                        silent_tells (first keyword_of info_of) (first_silent keyword_of info_of info_silent),
                                        (
                                          silent_tells (one name_of (λ name. sets_nothing)) (one_silent (λ name. sets_nothing) (λ t name. tt) name_of),
                                          (
                                            silent_tells (first keyword_of (λ name. one (setting_of name) sets_option)) (first_silent keyword_of (λ name. one (setting_of name) sets_option) (λ name. one_silent sets_option (λ t o. tt) (setting_of name))),
                                            tt,
                                          ),
                                        ),
                                      ),
                                    ),
                                  ),
                                ),
                              ),
                            ),
                          ),
                        ),
                      ),
                    ),
                  ),
                ),
              ),
            ),
          ),
        ),
      ),
    ),
  ),
)

named_told : (x : Tree) (us : Trees) (m : Option (List ℕ)) → Tells (argument_of (node (trees x us))) (option_and_then (λ name. request_named name us) m)
named_told x us None = tt
named_told x us (Some name) = subst (λ o. Tells o (request_named name us)) (argument_only x us) (listed_told commands name all_told us)
  where
    argument_only : (x : Tree) (us : Trees) → only_tree us ≡ argument_in (trees x us)
    argument_only x no_trees = refl
    argument_only x (trees t no_trees) = refl
    argument_only x (trees t (trees u us)) = refl

pub argument_tells : ArgumentTells
argument_tells (leaf t) = tt
argument_tells (node no_trees) = tt
argument_tells (node (trees x us)) = named_told x us (name_of x)
