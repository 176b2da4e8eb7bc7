-- The live state (SMT-LIB 2.6, section 4.1; νZ 2015 for goals and wishes): a stack of levels of items, what the last answer
-- shows while it stands, and the options.
use Rattle.std.specs.Prelude.{ℕ, suc, ◌-◌, Bool, true, false, List, [], ◌∷◌, ◌++◌, map, flat_map, length, Option, None, if◌then◌else◌}
use Rattle.std.specs.List.{list_any}
use Rattle.nz_fractions.specs.Fraction.{Fraction, Operation}
use Rattle.nz_script.specs.text.Tree.{Tree}
use Rattle.nz_spec.specs.terms.Term.{int_sort, Constant, constant, integer, choice, holds_integer, Term, apply, no_terms, terms}
use Rattle.nz_spec.specs.terms.Normal.{normal_of}
use Rattle.nz_spec.specs.terms.Definitions.{Definition}
use Rattle.nz_spec.specs.terms.Model.{Binding}
use Rattle.nz_script.specs.commands.Request.{Direction}

-- ---- Items

-- a goal, with the tree by which it is shown
pub record Goal : Type 0 where
  pub direction : Direction
  pub term : Term
  pub shown : Tree

-- a term that is to be true; where it is not, that costs its weight in its group
pub record Wish : Type 0 where
  pub term : Term
  pub weight : Fraction
  pub is_numeral : Bool  -- the weight was written as a numeral
  pub group : List ℕ

pub data Item : Type 0 where
  declared : Constant → Item
  defined : Definition → Item
  asserted : Term → Item
  sought : Goal → Item
  wished : Wish → Item

-- an item with its number in the order of acceptance
pub record LiveItem : Type 0 where
  pub number : ℕ
  pub item : Item

-- what a wish costs, before its weight: 0 where its term is true, else 1
abbrev pub cost_of : Wish → Term
cost_of w = apply (choice int_sort) (terms w.term (terms (apply (integer 0) no_terms) (terms (apply (integer 1) no_terms) no_terms)))

-- the term of an item, if it has one: a constant's own, and else the normal one of what is asserted or sought, or of a wish's cost
abbrev pub item_terms : Item → List Term
item_terms (declared c) = apply (constant c) no_terms ∷ []
item_terms (defined d) = []
item_terms (asserted t) = normal_of t ∷ []
item_terms (sought g) = normal_of g.term ∷ []
item_terms (wished w) = normal_of (cost_of w) ∷ []

-- ---- The state

-- why a check wasn't decided: each of so many units of work was used, or an operation left the numbers
pub data Reason : Type 0 where
  units_spent : ℕ → Reason
  number_left : Operation → Reason

-- what the last answer was
pub data LastAnswer : Type 0 where
  model_found : List Binding → LastAnswer  -- `sat`, with the model
  refutation : LastAnswer  -- `unsat`
  undecided : Reason → LastAnswer  -- `unknown`, and why

-- what the accepted commands have set
pub record Options : Type 0 where
  pub prints_success : Bool

-- The levels, the newest first, each with its items in the order of acceptance; the number of the next item, which no `pop`
-- gives back; the last answer, while it stands; and the options.
pub record State : Type 0 where
  pub levels : List (List LiveItem)
  pub next : ℕ
  pub last : Option LastAnswer
  pub options : Options

abbrev pub start : State
start = record { levels = [] ∷ []; next = 0; last = None; options = record { prints_success = false } }

-- the live items with their numbers, and without them, in the order of acceptance
abbrev pub numbered_items : List (List LiveItem) → List LiveItem
numbered_items [] = []
numbered_items (items ∷ older) = numbered_items older ++ items

abbrev pub items_of : List (List LiveItem) → List Item
items_of levels = map (λ (l : LiveItem). l.item) (numbered_items levels)

abbrev pub constants_in : List Item → List Constant
constants_in [] = []
constants_in (declared c ∷ items) = c ∷ constants_in items
constants_in (i ∷ items) = constants_in items

abbrev pub definitions_in : List Item → List Definition
definitions_in [] = []
definitions_in (defined d ∷ items) = d ∷ definitions_in items
definitions_in (i ∷ items) = definitions_in items

abbrev pub assertions_in : List Item → List Term
assertions_in [] = []
assertions_in (asserted t ∷ items) = t ∷ assertions_in items
assertions_in (i ∷ items) = assertions_in items

abbrev pub goals_in : List Item → List Goal
goals_in [] = []
goals_in (sought g ∷ items) = g ∷ goals_in items
goals_in (i ∷ items) = goals_in items

abbrev pub wishes_in : List Item → List Wish
wishes_in [] = []
wishes_in (wished w ∷ items) = w ∷ wishes_in items
wishes_in (i ∷ items) = wishes_in items

-- what is live, each in the order of acceptance
abbrev pub constants_of : State → List Constant
constants_of s = constants_in (items_of s.levels)

abbrev pub definitions_of : State → List Definition
definitions_of s = definitions_in (items_of s.levels)

abbrev pub assertions_of : State → List Term
assertions_of s = assertions_in (items_of s.levels)

-- an item's kind
abbrev pub is_constant : Item → Bool
is_constant (declared c) = true
is_constant i = false

abbrev pub is_assertion : Item → Bool
is_assertion (asserted t) = true
is_assertion i = false

abbrev pub is_goal : Item → Bool
is_goal (sought g) = true
is_goal i = false

abbrev pub is_wish : Item → Bool
is_wish (wished w) = true
is_wish i = false

-- the numbers of the items of a kind
abbrev pub numbers_of : (Item → Bool) → List LiveItem → List ℕ
numbers_of is_of_kind [] = []
numbers_of is_of_kind (l ∷ ls) = if is_of_kind l.item then l.number ∷ numbers_of is_of_kind ls else numbers_of is_of_kind ls

-- the levels with an item more in the newest
abbrev pub with_item : List (List LiveItem) → LiveItem → List (List LiveItem)
with_item [] l = (l ∷ []) ∷ []
with_item (items ∷ older) l = (items ++ l ∷ []) ∷ older

-- an item more; it ends the last answer
abbrev pub grown : State → Item → State
grown s i = record s { levels = with_item s.levels (record { number = s.next; item = i }); next = suc s.next; last = None }

-- how many levels were pushed
abbrev pub pushed_levels : State → ℕ
pushed_levels s = length s.levels - 1

-- a term of an item is, or is made of, one of sort Int that arithmetic takes as it is
abbrev pub items_hold_integers : List Item → Bool
items_hold_integers items = list_any holds_integer (flat_map item_terms items)
