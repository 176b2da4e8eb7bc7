-- The live items, as the code keeps them: by their numbers in the order of acceptance and in the table of terms.
use Rattle.std.specs.Prelude.{◌≡◌, ℕ, ◌<◌, List, length, map, All}
use Rattle.nz_sexpr.specs.View.{view}
use Rattle.nz_spec.specs.terms.Term.{Constant, constant, Term, apply, no_terms}
use Rattle.nz_spec.specs.terms.Normal.{normal_of}
use Rattle.nz_spec.specs.terms.Table.{Node, term_in}
use Rattle.nz_script.specs.live.Live.{LiveItem, Item, cost_of, numbers_of, is_constant, is_assertion, is_goal, is_wish, constants_in, assertions_in, goals_in, wishes_in}
use Rattle.nz_script.specs.live.Live as live_state
use Rattle.nz_sort.specs.declared.items.Accepted.{Accepted}
use Rattle.nz_command.specs.Requests.{direction_view}
use Rattle.nz_sort.specs.declared.items.Goal.{Goal}
use Rattle.nz_sort.specs.declared.items.Wish.{Wish}

-- the numbers of the items' terms in the table
abbrev pub table_numbers : List Accepted → List ℕ
table_numbers items = map (λ (a : Accepted). a.term) items

-- The numbers are those of these terms.
pub record StandForAll (ns : List Node) (ids : List ℕ) (ts : List Term) : Type 0 where
  pub within : All (λ i. i < length ns) ids
  pub terms : map (term_in ns) ids ≡ ts

-- the items without their numbers
abbrev pub items_in : List LiveItem → List Item
items_in live = map (λ (l : LiveItem). l.item) live

-- The items have these numbers in the order of acceptance, and these terms.
pub record AreItems (ns : List Node) (items : List Accepted) (ids : List ℕ) (ts : List Term) : Type 0 where
  pub numbers : map (λ (a : Accepted). a.number) items ≡ ids
  pub terms : StandForAll ns (table_numbers items) ts

-- ---- The items of a kind, where these items are live

abbrev pub AreConstants : List Node → List Accepted → List LiveItem → Type 0
AreConstants ns items live = AreItems ns items (numbers_of is_constant live) (map (λ (c : Constant). apply (constant c) no_terms) (constants_in (items_in live)))

abbrev pub AreAssertions : List Node → List Accepted → List LiveItem → Type 0
AreAssertions ns items live = AreItems ns items (numbers_of is_assertion live) (map normal_of (assertions_in (items_in live)))

pub record AreGoals (ns : List Node) (goals : List Goal) (live : List LiveItem) : Type 0 where
  pub items :
      AreItems ns (map (λ (g : Goal). g.accepted) goals) (numbers_of is_goal live)
      (map (λ (g : live_state.Goal). normal_of g.term) (goals_in (items_in live)))
  pub directions : map (λ (g : Goal). direction_view g.direction) goals ≡ map (λ (g : live_state.Goal). g.direction) (goals_in (items_in live))
  pub shown : map (λ (g : Goal). view g.shown) goals ≡ map (λ (g : live_state.Goal). g.shown) (goals_in (items_in live))

-- the term of a wish is that of its cost
pub record AreWishes (ns : List Node) (wishes : List Wish) (live : List LiveItem) : Type 0 where
  pub items :
      AreItems ns (map (λ (w : Wish). w.accepted) wishes) (numbers_of is_wish live)
      (map (λ (w : live_state.Wish). normal_of (cost_of w)) (wishes_in (items_in live)))
  pub weights : map (λ (w : Wish). w.weight) wishes ≡ map (λ (w : live_state.Wish). w.weight) (wishes_in (items_in live))
  pub numerals : map (λ (w : Wish). w.is_numeral) wishes ≡ map (λ (w : live_state.Wish). w.is_numeral) (wishes_in (items_in live))
  pub groups : map (λ (w : Wish). w.group) wishes ≡ map (λ (w : live_state.Wish). w.group) (wishes_in (items_in live))
