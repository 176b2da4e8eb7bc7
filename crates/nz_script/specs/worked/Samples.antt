-- Short texts with what they stand for: the trees and the terms of worked values.
use Rattle.std.specs.Prelude.{ℕ, suc, false, List, [], ◌∷◌, ◌++◌, map, length, Option, None, option_map, option_and_then, codes}
use Rattle.nz_script.specs.text.Tree.{Tree, node, no_trees}
use Rattle.nz_script.specs.text.Text.{Heard, What, intact, faulty, unclosed, unread, script_limits}
use Rattle.nz_script.specs.text.Reading.{reading_start, hear_on}
use Rattle.nz_spec.specs.terms.Term.{int_sort, real_sort, parameter, less, quotient, Term, Value, truth, value_of}
use Rattle.nz_spec.specs.terms.Normal.{paired, normal_of}
use Rattle.nz_script.specs.commands.Parse.{expression_of}
use Rattle.nz_spec.specs.terms.Definitions.{Definition}
use Rattle.nz_script.specs.commands.Elaboration.{Scope, term_of}
use Rattle.nz_script.specs.live.Live.{Item, declared, defined, LiveItem, LastAnswer, State}
use Rattle.nz_script.specs.commands.Command.{Outcome}
use Rattle.nz_script.specs.commands.Script.{outcome_of}
use Rattle.nz_spec.specs.worked.TermSamples.{alone, numeral_term, real_of, sample_constants, x_term}

-- ---- Trees

-- the tree of what was heard, if it is one
abbrev pub heard_tree : What → Tree
heard_tree (intact t) = t
heard_tree (faulty e) = node no_trees
heard_tree unclosed = node no_trees
heard_tree unread = node no_trees

abbrev pub first_tree : List Heard → Tree
first_tree [] = node no_trees
first_tree (h ∷ hs) = heard_tree h.what

-- the tree that is heard first in a text
abbrev pub tree_in : List ℕ → Tree
tree_in text = first_tree (hear_on script_limits reading_start text)

-- ---- Definitions

-- (define-fun half ((r Real)) Real (/ r 2))
abbrev pub half : Definition
half = record { name = codes "half"; parameters = real_sort ∷ []; body = paired quotient (alone (parameter 0 real_sort)) (real_of (numeral_term 2)) }

-- (define-fun above ((y Int)) Bool (< x y)), whose body has the constant x
abbrev pub above : Definition
above = record { name = codes "above"; parameters = int_sort ∷ []; body = paired less x_term (alone (parameter 0 int_sort)) }

-- (define-fun below ((x Int) (y Int)) Bool (< x y))
abbrev pub below : Definition
below = record { name = codes "below"; parameters = int_sort ∷ int_sort ∷ []; body = paired less (alone (parameter 0 int_sort)) (alone (parameter 1 int_sort)) }

abbrev pub sample_definitions : List Definition
sample_definitions = half ∷ above ∷ below ∷ []

abbrev pub sample_scope : Scope
sample_scope = record { constants = sample_constants; definitions = sample_definitions; bound = [] }

-- the term of a text among these, its normal term, and its value where it holds no constant
abbrev pub sample_term : List ℕ → Option Term
sample_term text = option_and_then (term_of sample_scope) (expression_of (tree_in text))

abbrev pub normal_in : List ℕ → Option Term
normal_in text = option_map normal_of (sample_term text)

abbrev pub value_in : List ℕ → Option Value
value_in text = option_map (value_of (λ name. truth false)) (sample_term text)

-- ---- Commands

-- items by their numbers, the first of which is this one
abbrev pub numbered_from : ℕ → List Item → List LiveItem
numbered_from n [] = []
numbered_from n (i ∷ items) = record { number = n; item = i } ∷ numbered_from (suc n) items

-- one level of these items, and this last answer
abbrev pub state_with : List Item → Option LastAnswer → State
state_with items last = record { levels = numbered_from 0 items ∷ []; next = length items; last = last; options = record { prints_success = false } }

-- these are declared and defined, and nothing else was done
abbrev pub sample_state : State
sample_state = state_with (map declared sample_constants ++ map defined sample_definitions) None

-- what becomes of the command of a text there
abbrev pub outcome_in : List ℕ → Outcome
outcome_in text = outcome_of sample_state (tree_in text)
