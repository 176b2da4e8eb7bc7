-- The live state, as the code keeps it: names and items, with their numbers in the table of terms.
use Rattle.std.specs.Prelude.{◌≡◌, ℕ, ◌<◌, ◌≤◌, Bool, false, List, [], ◌∷◌, ◌++◌, length, take, map, flat_map, reverse, All, Some, ⊤}
use Rattle.nz_script.specs.text.Tree.{Tree}
use Rattle.nz_spec.specs.terms.Term.{Constant, constant, apply, Terms, no_terms}
use Rattle.nz_spec.specs.clauses.Literal.{Literal}
use Rattle.nz_spec.specs.terms.Normal.{normal_of}
use Rattle.nz_spec.specs.terms.Table.{Node, term_in}
use Rattle.nz_spec.specs.terms.Order.{HasCompanions}
use Rattle.nz_spec.specs.search.Decide.{asserted_numbers}
use Rattle.nz_script.specs.commands.Elaboration.{Scope}
use Rattle.nz_script.specs.commands.Command as commands
use Rattle.nz_script.specs.commands.Request.{Question, Request, shows_values, echoes}
use Rattle.nz_script.specs.commands.Parse.{request_of}
use Rattle.nz_script.specs.live.Live.{State, LiveItem, items_of, item_terms, items_hold_integers, constants_in, definitions_in, constants_of, assertions_of}
use Rattle.nz_script.specs.commands.Command.{Info, Command, declare_const, define, assert_term, push_levels, pop_levels, reset_assertions, check_sat, get_model, get_value, get_info, get_levels, get_reason, set_print_success, no_effect, exit, Outcome, accepted, not_taken}
use Rattle.nz_script.specs.commands.Script.{asked_of, outcome_of}
use Rattle.nz_script.specs.replies.Reply.{Reply}
use Rattle.nz_script.specs.replies.Right.{effect}
use Rattle.nz_elaborate.specs.declared.typed.Typed.{Typed}
use Rattle.nz_elaborate.specs.declared.names.Named.{Named}
use Rattle.nz_elaborate.specs.Names.{IsScope, nothing_declared}
use Rattle.nz_elaborate.specs.Typed.{AreTyped}
use Rattle.nz_term.specs.declared.term_lits.TermLit.{TermLit}
use Rattle.nz_sort.specs.declared.levels.Level.{Level}
use Rattle.nz_sort.specs.Assuming.{AreAssumed}
use Rattle.nz_sort.specs.Layers.{Layer, layer_of}
use Rattle.nz_sort.specs.Items.{table_numbers, StandForAll, items_in, AreConstants, AreAssertions, AreGoals, AreWishes}

-- What stands: the names of the operators and then those of each level, the newest level, and the others, the oldest first.
pub record Standing : Type 0 where
  pub names : List (List ℕ × Named)
  pub top : Layer
  pub below : List Layer
  pub next : ℕ  -- the number of the next item

-- what stands, by the parts that the code keeps
abbrev pub standing_of : List (List ℕ × Named) → Level → List Level → ℕ → Standing
standing_of names top below next = record { names = names; top = layer_of top; below = map layer_of below; next = next }

-- the levels, the oldest first
abbrev pub layers_of : Standing → List Layer
layers_of standing = standing.below ++ standing.top ∷ []

-- the terms of the assertions, by level
abbrev pub asserted_by : Standing → List (List ℕ)
asserted_by standing = map (λ (l : Layer). table_numbers l.assertions) (layers_of standing)

-- the terms of the constants, and those of the items of all kinds that have one
abbrev pub constants_by : Standing → List ℕ
constants_by standing = flat_map (λ (l : Layer). table_numbers l.constants) (layers_of standing)

abbrev pub accepted_by : Standing → List ℕ
accepted_by standing = flat_map (λ (l : Layer). l.accepted) (layers_of standing)

-- The items of each kind, and of all kinds, are those of these live items.
pub record HasItems (ns : List Node) (layer : Layer) (live : List LiveItem) : Type 0 where
  pub constants : AreConstants ns layer.constants live
  pub assertions : AreAssertions ns layer.assertions live
  pub goals : AreGoals ns layer.goals live
  pub wishes : AreWishes ns layer.wishes live
  pub all : StandForAll ns layer.accepted (flat_map item_terms (items_in live))

-- the scope of these levels
abbrev pub scope_in : List (List LiveItem) → Scope
scope_in levels = record { constants = constants_in (items_of levels); definitions = definitions_in (items_of levels); bound = [] }

-- The newest of these levels has these items, and the names are those of all of them.
pub record IsLevel (ns : List Node) (names : List (List ℕ × Named)) (layer : Layer) (items : List LiveItem) (older : List (List LiveItem)) : Type 0 where
  pub named : IsScope ns names [] (scope_in (items ∷ older))
  pub before : layer.names_before ≤ length names
  pub has : HasItems ns layer items
  pub count : layer.constant_count ≡ length (constants_in (items_of (items ∷ older)))
  pub integers : items_hold_integers (items_of (items ∷ older)) ≡ layer.holds_integers

-- So it is of each level, the newest first, where the names of newer levels are left out; without any, the names are the operators'.
abbrev pub AreLevels : List Node → List (List ℕ × Named) → List Layer → List (List LiveItem) → Type 0
AreLevels ns names [] [] = IsScope ns names [] nothing_declared
AreLevels ns names (l ∷ ls) (items ∷ older) = IsLevel ns names l items older × AreLevels ns (take l.names_before names) ls older
AreLevels ns names ls levels = ⊥

-- The table and what stands are those of a live state: its levels are those that stand; the terms of its assertions, of its constants
-- and of all its items are in the table; and the table has the companions of its terms.
pub record IsLive (ns : List Node) (standing : Standing) (s : State) : Type 0 where
  pub levels : AreLevels ns standing.names (standing.top ∷ reverse standing.below) s.levels
  pub companions : HasCompanions ns
  pub within : All (λ i. i < length ns) (asserted_numbers (asserted_by standing))
  pub terms : map (term_in ns) (asserted_numbers (asserted_by standing)) ≡ map normal_of (assertions_of s)
  pub constants : StandForAll ns (constants_by standing) (map (λ (c : Constant). apply (constant c) no_terms) (constants_of s))
  pub accepted : StandForAll ns (accepted_by standing) (flat_map item_terms (items_of s.levels))
  pub next : standing.next ≡ s.next

-- what a command asks of the session
pub data Ask : Type 0 where
  changed : Ask
  popped : Ask
  cleared : Ask
  reset : Ask
  check : List TermLit → Ask
  show_model : Ask
  show_values : List Typed → Ask
  show_reason : Ask
  show_info : Info → Ask
  show_levels : Ask
  print_success : Bool → Ask
  nothing : Ask
  echo : Ask
  leave : Ask
  unsupported : Ask

-- an item more, or levels more
abbrev pub IsChange : Command → Type 0
IsChange (declare_const c) = ⊤
IsChange (define d) = ⊤
IsChange (assert_term t) = ⊤
IsChange (push_levels n) = ⊤
IsChange c = ⊥

-- The command asks for the values of the terms of these questions, and these are the terms' numbers.
pub record AsksValues (ns : List Node) (xs : List Typed) (r : Request) (c : Command) : Type 0 where
  pub questions : List Question
  pub terms : Terms
  pub request : r ≡ shows_values questions
  pub typed : AreTyped ns xs terms
  pub is : c ≡ get_value (asked_of questions terms)

-- The command is a check under literals, and these are they.
pub record AsksCheck (ns : List Node) (xs : List TermLit) (c : Command) : Type 0 where
  pub literals : List Literal
  pub assumes : AreAssumed ns xs literals
  pub is : c ≡ check_sat literals

-- The command asks that its literal be told.
pub record AsksEcho (r : Request) (c : Command) : Type 0 where
  pub text : List ℕ
  pub request : r ≡ echoes text
  pub is : c ≡ commands.echo text

-- the command that is written so, where it is accepted, asks this
abbrev pub Asks : List Node → Ask → Request → Command → Type 0
Asks ns changed r c = IsChange c
Asks ns popped r c = (n : ℕ) × (c ≡ pop_levels n)
Asks ns cleared r c = c ≡ reset_assertions
Asks ns reset r c = c ≡ commands.reset
Asks ns (check xs) r c = AsksCheck ns xs c
Asks ns show_model r c = c ≡ get_model
Asks ns (show_values xs) r c = AsksValues ns xs r c
Asks ns show_reason r c = c ≡ get_reason
Asks ns (show_info i) r c = c ≡ get_info i
Asks ns show_levels r c = c ≡ get_levels
Asks ns (print_success b) r c = c ≡ set_print_success b
Asks ns nothing r c = c ≡ no_effect
Asks ns echo r c = AsksEcho r c
Asks ns leave r c = c ≡ exit
Asks ns unsupported r c = ⊥

-- The command is accepted and asks this, and what stands after it is what the command leaves, whatever the reply.
pub record IsAccepted (s : State) (r : Request) (outcome : Outcome) (ask : Ask) (ns : List Node) (standing : Standing) : Type 0 where
  pub command : Command
  pub is : outcome ≡ accepted command
  pub asks : Asks ns ask r command
  pub live : (reply : Reply) → IsLive ns standing (effect s command reply)

-- The command isn't taken, and what stands is what stood.
pub record IsSkipped (s : State) (outcome : Outcome) (ns : List Node) (standing : Standing) : Type 0 where
  pub is : outcome ≡ not_taken
  pub live : IsLive ns standing s

-- what stands after a command that is written so, of this outcome, which asks this; a check is of items that hold no unit of sort Int
abbrev pub Leaves : State → Request → Outcome → Ask → List Node → Standing → Type 0
Leaves s r outcome unsupported ns standing = IsSkipped s outcome ns standing
Leaves s r outcome (check xs) ns standing = IsAccepted s r outcome (check xs) ns standing × (items_hold_integers (items_of s.levels) ≡ false)
Leaves s r outcome ask ns standing = IsAccepted s r outcome ask ns standing

-- The tree is a command which asks this, and this is what stands after it.
pub record IsCarriedOut (s : State) (tree : Tree) (ask : Ask) (ns : List Node) (standing : Standing) : Type 0 where
  pub request : Request
  pub parsed : request_of tree ≡ Some request
  pub leaves : Leaves s request (outcome_of s tree) ask ns standing

-- This holds where the command isn't taken.
abbrev pub IfSkipped : Ask → Type 0 → Type 0
IfSkipped unsupported P = P
IfSkipped ask P = ⊤

-- ---- What comes of the assertions' terms, by level

-- The levels stay, and more is asserted in the last, or in further ones.
abbrev pub GoesOn : List (List ℕ) → List (List ℕ) → Type 0
GoesOn [] after = ⊤
GoesOn (l ∷ ls) [] = ⊥
GoesOn (l ∷ []) (m ∷ ms) = take (length l) m ≡ l
GoesOn (l ∷ k ∷ ls) (m ∷ ms) = (m ≡ l) × GoesOn (k ∷ ls) ms

-- The first of them stay, one or more.
pub record IsCutBack (before after : List (List ℕ)) : Type 0 where
  pub some : 0 < length after
  pub front : take (length after) before ≡ after

-- What comes of them where a command asks this: but for items, levels and resets they stay.
abbrev pub Moves : Ask → List (List ℕ) → List (List ℕ) → Type 0
Moves changed before after = GoesOn before after
Moves popped before after = IsCutBack before after
Moves cleared before after = ⊤
Moves reset before after = ⊤
Moves ask before after = after ≡ before
