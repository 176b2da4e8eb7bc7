-- Levels: what holds of all of them, and what their changes leave.
use Rattle.std.proofs.Common.{◌+◌, ◌-◌, ◌≤◌, ◌≡◌, ℕ, zero, suc, ◌<◌, List, [], ◌∷◌, ◌++◌, length, map, take, drop, All, Bool, false, refl, sym, ap, ◌∙◌, append_assoc, append-nil, length-append, add-one, subst, arith}
use Rattle.std.specs.Prelude.{flat_map, reverse}
use Rattle.std.specs.List.{repeat}
use Rattle.std.proofs.lemmas.Grind.{flat_map-append}
use Rattle.std.proofs.lemmas.List.{map-append, length-map, reverse-append, length-reverse, take-append-le}
use Rattle.std.proofs.lemmas.List.Elements.{All-append, All-nil}
use Rattle.nz_spec.specs.terms.Term.{Constant, constant, Term, apply, no_terms}
use Rattle.nz_spec.specs.terms.Normal.{normal_of}
use Rattle.nz_spec.specs.terms.Table.{Node, term_in, TermStays}
use Rattle.nz_spec.specs.terms.Order.{HasCompanions}
use Rattle.nz_spec.specs.search.Decide.{asserted_numbers}
use Rattle.nz_script.specs.live.Live.{State, LiveItem, Item, numbered_items, items_of, item_terms, items_hold_integers, constants_in, definitions_in, assertions_in, with_item, pushed_levels}
use Rattle.nz_elaborate.specs.declared.names.Named as naming
use Rattle.nz_elaborate.specs.Names.{IsScope, nothing_declared}
use Rattle.nz_sort.specs.Items.{table_numbers, items_in, StandForAll}
use Rattle.nz_sort.specs.declared.levels.Level.{Level}
use Rattle.nz_sort.specs.Layers.{Layer, layer_of, empty_layer}
use Rattle.nz_sort.specs.Live.{Standing, standing_of, layers_of, asserted_by, HasItems, scope_in, IsLevel, AreLevels, IsLive, GoesOn, IsCutBack}
use Rattle.nz_sort.specs.Changes.{fresh_layer, with_level, with_levels, Drops, DropsMany, IsCleared}
use Rattle.nz_sort.proofs.LiveItems.{constants_in-append, assertions_in-append, items_kept}
use Rattle.nz_sort.proofs.LiveNames.{scope_stays}
use Rattle.nz_sort.proofs.Lists.{take_front, take_whole}

-- the layers of what stands, the newest first
abbrev pub newest_first : Standing → List Layer
newest_first standing = standing.top ∷ reverse standing.below

-- ---- What a level has

module _ (ns : List Node) (names : List (List ℕ × naming.Named)) (l : Layer) (ls : List Layer) where
  pub top_scope : (levels : List (List LiveItem)) → AreLevels ns names (l ∷ ls) levels → IsScope ns names [] (scope_in levels)
  top_scope [] h = absurd h
  top_scope (items ∷ older) h = h.0.named

  pub top_count : (levels : List (List LiveItem)) → AreLevels ns names (l ∷ ls) levels → l.constant_count ≡ length (constants_in (items_of levels))
  top_count [] h = absurd h
  top_count (items ∷ older) h = h.0.count

  pub top_integers : (levels : List (List LiveItem)) → AreLevels ns names (l ∷ ls) levels → items_hold_integers (items_of levels) ≡ l.holds_integers
  top_integers [] h = absurd h
  top_integers (items ∷ older) h = h.0.integers

-- there are as many layers as levels
pub as_many_levels : (ns : List Node) (names : List (List ℕ × naming.Named)) (ls : List Layer) (levels : List (List LiveItem)) → AreLevels ns names ls levels → length ls ≡ length levels
as_many_levels ns names [] [] h = refl
as_many_levels ns names [] (items ∷ older) h = absurd h
as_many_levels ns names (l ∷ ls) [] h = absurd h
as_many_levels ns names (l ∷ ls) (items ∷ older) h = ap suc (as_many_levels ns (take l.names_before names) ls older h.1)

pub levels_pushed : (ns : List Node) (standing : Standing) (s : State) → IsLive ns standing s → length standing.below ≡ pushed_levels s
levels_pushed ns standing s live =
    let many : suc (length (reverse standing.below)) ≡ length s.levels = as_many_levels ns standing.names (newest_first standing) s.levels live.levels in
    let turned : length (reverse standing.below) ≡ length standing.below = length-reverse standing.below in
    omega (arith, many, turned)

-- there are as many layers below the newest as the code keeps levels there
pub as_many_below : (items : List Level) (standing : Standing) → map layer_of items ≡ standing.below → length items ≡ length standing.below
as_many_below items standing e = sym (length-map items layer_of) ∙ ap length e

-- ---- Lists over all levels

-- what the levels have, the oldest first
abbrev gathered : {A : Type 0} → (Layer → List A) → List Layer → List A
gathered f [] = []
gathered f (l ∷ ls) = gathered f ls ++ f l

gathered_oldest : {A : Type 0} (f : Layer → List A) (ls : List Layer) (l : Layer) → gathered f (ls ++ l ∷ []) ≡ f l ++ gathered f ls
gathered_oldest f [] l = sym (append-nil (f l))
gathered_oldest f (k ∷ ls) l = ap (λ xs. xs ++ f k) (gathered_oldest f ls l) ∙ append_assoc (f l) (gathered f ls) (f k)

gathered_reverse : {A : Type 0} (f : Layer → List A) (ls : List Layer) → gathered f (reverse ls) ≡ flat_map f ls
gathered_reverse f [] = refl
gathered_reverse f (l ∷ ls) =
    ap (gathered f) (reverse-append (l ∷ []) ls) ∙ gathered_oldest f (reverse ls) l ∙ ap (λ xs. f l ++ xs) (gathered_reverse f ls)

gathered_all : {A : Type 0} (f : Layer → List A) (standing : Standing) → gathered f (newest_first standing) ≡ flat_map f (layers_of standing)
gathered_all f standing =
    ap (λ xs. xs ++ f standing.top) (gathered_reverse f standing.below)
    ∙ ap (λ xs. flat_map f standing.below ++ xs) (sym (append-nil (f standing.top)))
    ∙ sym (flat_map-append f standing.below (standing.top ∷ []))

stand_append : (ns : List Node) (is js : List ℕ) (ts us : List Term) → StandForAll ns is ts → StandForAll ns js us → StandForAll ns (is ++ js) (ts ++ us)
stand_append ns is js ts us h k =
    record {
      within = All-append (λ i. i < length ns) is js h.within k.within;
      terms = map-append (term_in ns) is js ∙ ap (λ l. l ++ map (term_in ns) js) h.terms ∙ ap (λ l. ts ++ l) k.terms;
    }

-- What each level's numbers are those of, all are those of.
gathered_stand : (ns : List Node) (f : Layer → List ℕ) (F : List Item → List Term) → F [] ≡ [] → ((xs ys : List Item) → F (xs ++ ys) ≡ F xs ++ F ys)
    → ((l : Layer) (items : List LiveItem) → HasItems ns l items → StandForAll ns (f l) (F (items_in items)))
    → (names : List (List ℕ × naming.Named)) (ls : List Layer) (levels : List (List LiveItem)) → AreLevels ns names ls levels → StandForAll ns (gathered f ls) (F (items_of levels))
gathered_stand ns f F none append each names [] [] h = record { within = All-nil (λ i. i < length ns); terms = sym none }
gathered_stand ns f F none append each names [] (items ∷ older) h = absurd h
gathered_stand ns f F none append each names (l ∷ ls) [] h = absurd h
gathered_stand ns f F none append each names (l ∷ ls) (items ∷ older) h =
    subst (StandForAll ns (gathered f (l ∷ ls)))
    (sym (ap F (map-append (λ (k : LiveItem). k.item) (numbered_items older) items) ∙ append (items_of older) (items_in items)))
    (stand_append ns (gathered f ls) (f l) (F (items_of older)) (F (items_in items)) (gathered_stand ns f F none append each (take l.names_before names) ls older h.1) (each l items h.0.has))

stand_by : (ns : List Node) (f : Layer → List ℕ) (F : List Item → List Term) → F [] ≡ [] → ((xs ys : List Item) → F (xs ++ ys) ≡ F xs ++ F ys)
    → ((l : Layer) (items : List LiveItem) → HasItems ns l items → StandForAll ns (f l) (F (items_in items)))
    → (standing : Standing) (levels : List (List LiveItem)) → AreLevels ns standing.names (newest_first standing) levels → StandForAll ns (flat_map f (layers_of standing)) (F (items_of levels))
stand_by ns f F none append each standing levels h =
    subst (λ is. StandForAll ns is (F (items_of levels))) (gathered_all f standing) (gathered_stand ns f F none append each standing.names (newest_first standing) levels h)

-- the numbers of all levels, level by level
flat_asserted : {A : Type 0} (f : A → List ℕ) (xs : List A) → asserted_numbers (map f xs) ≡ flat_map f xs
flat_asserted f [] = refl
flat_asserted f (x ∷ xs) = ap (λ l. f x ++ l) (flat_asserted f xs)

map_each : (f : Constant → Term) (xs ys : List Item) → map f (constants_in (xs ++ ys)) ≡ map f (constants_in xs) ++ map f (constants_in ys)
map_each f xs ys = ap (map f) (constants_in-append xs ys) ∙ map-append f (constants_in xs) (constants_in ys)

-- Where the levels stand, all that is told of them besides does.
pub is_live : (ns : List Node) (standing : Standing) (s : State) → AreLevels ns standing.names (newest_first standing) s.levels → HasCompanions ns → standing.next ≡ s.next → IsLive ns standing s
is_live ns standing s levels companions next =
    let asserted =
    stand_by ns (λ l. table_numbers l.assertions) (λ items. map normal_of (assertions_in items)) refl
    (λ xs ys. ap (map normal_of) (assertions_in-append xs ys) ∙ map-append normal_of (assertions_in xs) (assertions_in ys)) (λ l items h. h.assertions.terms) standing s.levels levels in
    let same : asserted_numbers (asserted_by standing) ≡ flat_map (λ (l : Layer). table_numbers l.assertions) (layers_of standing) = flat_asserted (λ (l : Layer). table_numbers l.assertions) (layers_of standing) in
    record {
      levels = levels;
      companions = companions;
      within = subst (All (λ i. i < length ns)) (sym same) asserted.within;
      terms = ap (map (term_in ns)) same ∙ asserted.terms;
      constants =
          stand_by ns (λ l. table_numbers l.constants) (λ items. map (λ (c : Constant). apply (constant c) no_terms) (constants_in items)) refl
          (map_each (λ (c : Constant). apply (constant c) no_terms)) (λ l items h. h.constants.terms) standing s.levels levels;
      accepted = stand_by ns (λ l. l.accepted) (flat_map item_terms) refl (flat_map-append item_terms) (λ l items h. h.all) standing s.levels levels;
      next = next;
    }

-- ---- Where the table grows

pub levels_stay : TermStays → (old new more : List Node) → new ≡ old ++ more → (names : List (List ℕ × naming.Named)) (ls : List Layer) (levels : List (List LiveItem)) → AreLevels old names ls levels
    → AreLevels new names ls levels
levels_stay stays old new more e names [] [] h = scope_stays stays old new more names nothing_declared e h
levels_stay stays old new more e names [] (items ∷ older) h = absurd h
levels_stay stays old new more e names (l ∷ ls) [] h = absurd h
levels_stay stays old new more e names (l ∷ ls) (items ∷ older) h = (
  record {
    named = scope_stays stays old new more names (scope_in (items ∷ older)) e h.0.named;
    before = h.0.before;
    has = items_kept stays old new more l items e h.0.has;
    count = h.0.count;
    integers = h.0.integers;
  },
  levels_stay stays old new more e (take l.names_before names) ls older h.1,
)

pub live_longer : TermStays → (old new more : List Node) (standing : Standing) (s : State) → new ≡ old ++ more → HasCompanions new → IsLive old standing s → IsLive new standing s
live_longer stays old new more standing s e companions live =
    is_live new standing s (levels_stay stays old new more e standing.names (newest_first standing) s.levels live.levels) companions live.next

-- ---- An item more

-- The newest level has one item more, and a name more or none.
pub level_with : TermStays → (old new more : List Node) (names others : List (List ℕ × naming.Named)) (extra : List (List ℕ × naming.Named)) (top after : Layer) (ls : List Layer) (l : LiveItem)
    → new ≡ old ++ more → others ≡ names ++ extra → after.names_before ≡ top.names_before
    → ((items : List LiveItem) (older : List (List LiveItem)) → IsLevel old names top items older → IsLevel new others after (items ++ l ∷ []) older)
    → (levels : List (List LiveItem)) → AreLevels old names (top ∷ ls) levels → AreLevels new others (after ∷ ls) (with_item levels l)
level_with stays old new more names others extra top after ls l e f same step [] h = absurd h
level_with stays old new more names others extra top after ls l e f same step (items ∷ older) h =
    let below = levels_stay stays old new more e (take top.names_before names) ls older h.1 in
    let cut : take after.names_before others ≡ take top.names_before names =
    ap (λ n. take n others) same ∙ ap (take top.names_before) f ∙ take-append-le top.names_before names extra h.0.before in
    (step items older h.0, subst (λ ms. AreLevels new ms ls older) (sym cut) below)

-- ---- Levels more

nothing_stands : (ns : List Node) → StandForAll ns [] []
nothing_stands ns = record { within = All-nil (λ i. i < length ns); terms = refl }

nothing_in : (ns : List Node) (names_before count : ℕ) (holds : Bool) → HasItems ns (empty_layer names_before count holds) []
nothing_in ns names_before count holds =
    record {
      constants = record { numbers = refl; terms = nothing_stands ns };
      assertions = record { numbers = refl; terms = nothing_stands ns };
      goals = record { items = record { numbers = refl; terms = nothing_stands ns }; directions = refl; shown = refl };
      wishes = record { items = record { numbers = refl; terms = nothing_stands ns }; weights = refl; numerals = refl; groups = refl };
      all = nothing_stands ns;
    }

-- a level without items has the items that are below it
no_items_more : (levels : List (List LiveItem)) → items_of ([] ∷ levels) ≡ items_of levels
no_items_more levels = ap items_in (append-nil (numbered_items levels))

fresh_level : (ns : List Node) (names : List (List ℕ × naming.Named)) (top : Layer) (ls : List Layer) (levels : List (List LiveItem)) → AreLevels ns names (top ∷ ls) levels
    → AreLevels ns names (empty_layer (length names) top.constant_count top.holds_integers ∷ top ∷ ls) ([] ∷ levels)
fresh_level ns names top ls levels h =
    let same = no_items_more levels in
    let none : length names ≤ length names = omega arith in (
      record {
        named = subst (λ items. IsScope ns names [] (record { constants = constants_in items; definitions = definitions_in items; bound = [] })) (sym same) (top_scope ns names top ls levels h);
        before = none;
        has = nothing_in ns (length names) top.constant_count top.holds_integers;
        count = top_count ns names top ls levels h ∙ ap (λ items. length (constants_in items)) (sym same);
        integers = ap items_hold_integers same ∙ top_integers ns names top ls levels h;
      },
      subst (λ ms. AreLevels ns ms (top ∷ ls) levels) (sym (take_whole names)) h,
    )

reverse_last : (ls : List Layer) (l : Layer) → reverse (ls ++ l ∷ []) ≡ l ∷ reverse ls
reverse_last ls l = reverse-append ls (l ∷ [])

pub level_more : (ns : List Node) (standing : Standing) (levels : List (List LiveItem)) → AreLevels ns standing.names (newest_first standing) levels
    → AreLevels ns (with_level standing).names (newest_first (with_level standing)) ([] ∷ levels)
level_more ns standing levels h =
    subst (λ ls. AreLevels ns standing.names (fresh_layer standing ∷ ls) ([] ∷ levels)) (sym (reverse_last standing.below standing.top))
    (fresh_level ns standing.names standing.top (reverse standing.below) levels h)

pub levels_more : (ns : List Node) (standing : Standing) (n : ℕ) (levels : List (List LiveItem)) → AreLevels ns standing.names (newest_first standing) levels
    → AreLevels ns (with_levels n standing).names (newest_first (with_levels n standing)) (repeat n ([] ∷ []) ++ levels)
levels_more ns standing zero levels h = h
levels_more ns standing (suc n) levels h = level_more ns (with_levels n standing) (repeat n ([] ∷ []) ++ levels) (levels_more ns standing n levels h)

-- one level more, as it is begun
pub level_begun : (names : List (List ℕ × naming.Named)) (next n before : ℕ) (start : Standing) (top fresh : Level) (below after : List Level) → length names ≡ before
    → layer_of fresh ≡ empty_layer before top.constant_count top.holds_integers → after ≡ below ++ top ∷ [] → standing_of names top below next ≡ with_levels n start
    → standing_of names fresh after next ≡ with_levels (n + 1) start
level_begun names next n before start top fresh below after e f g h =
    let first : layer_of fresh ≡ empty_layer (length names) top.constant_count top.holds_integers = f ∙ ap (λ k. empty_layer k top.constant_count top.holds_integers) (sym e) in
    let others : map layer_of after ≡ map layer_of below ++ layer_of top ∷ [] = ap (map layer_of) g ∙ map-append layer_of below (top ∷ []) in
    ap (λ l. let st : Standing = record { names = names; top = l; below = map layer_of after; next = next } in st) first
    ∙ ap (λ ls. let st : Standing = record { names = names; top = empty_layer (length names) top.constant_count top.holds_integers; below = ls; next = next } in st) others
    ∙ ap with_level h
    ∙ ap (λ k. with_levels k start) (sym (add-one n))

pub next_with_levels : (n : ℕ) (standing : Standing) → (with_levels n standing).next ≡ standing.next
next_with_levels zero standing = refl
next_with_levels (suc n) standing = next_with_levels n standing

-- ---- Levels less

pub level_less : (ns : List Node) (before after : Standing) (levels : List (List LiveItem)) → Drops before after → AreLevels ns before.names (newest_first before) levels
    → AreLevels ns after.names (newest_first after) (drop 1 levels)
level_less ns before after [] d h = absurd h
level_less ns before after (items ∷ older) d h =
    subst (λ ls. AreLevels ns after.names ls older) (ap reverse d.0 ∙ reverse_last after.below after.top)
    (subst (λ ms. AreLevels ns ms (reverse before.below) older) (sym d.1) h.1)

drop_more : {A : Type 0} (n : ℕ) (xs : List A) → drop n (drop 1 xs) ≡ drop (suc n) xs
drop_more zero [] = refl
drop_more (suc n) [] = refl
drop_more n (x ∷ xs) = refl

pub levels_less : (ns : List Node) (n : ℕ) (before after : Standing) (levels : List (List LiveItem)) → DropsMany n before after → AreLevels ns before.names (newest_first before) levels
    → AreLevels ns after.names (newest_first after) (drop n levels)
levels_less ns zero before after levels e h = subst (λ (st : Standing). AreLevels ns st.names (newest_first st) levels) (sym e) h
levels_less ns (suc n) before after levels d h =
    subst (AreLevels ns after.names (newest_first after)) (drop_more n levels)
    (levels_less ns n d.0 after (drop 1 levels) d.2 (level_less ns before d.0 levels d.1 h))

pub drops_last : (n : ℕ) (before mid after : Standing) → DropsMany n before mid → Drops mid after → DropsMany (suc n) before after
drops_last zero before mid after e d = (after, subst (λ st. Drops st after) e d, refl)
drops_last (suc n) before mid after h d = (h.0, h.1, drops_last n h.0 mid after h.2 d)

pub next_dropped : (n : ℕ) (before after : Standing) → DropsMany n before after → after.next ≡ before.next
next_dropped zero before after e = ap (λ (st : Standing). st.next) e
next_dropped (suc n) before after d = next_dropped n d.0 after d.2 ∙ d.1.2

-- how many levels are left
pub left_below : (n : ℕ) (before after : Standing) → DropsMany n before after → length before.below ≡ length after.below + n
left_below zero before after e = let same : length after.below ≡ length before.below = ap (λ (st : Standing). length st.below) e in omega (arith, same)
left_below (suc n) before after d =
    let one : length before.below ≡ length d.0.below + 1 = ap length d.1.0 ∙ length-append d.0.below (d.0.top ∷ []) in
    let others : length d.0.below ≡ length after.below + n = left_below n d.0 after d.2 in
    omega (arith, one, others)

-- ---- The first level anew

pub nothing_below : (ls : List Layer) → length ls ≡ 0 → ls ≡ []
nothing_below [] e = refl
nothing_below (l ∷ ls) e = absurd (omega (arith, e))

-- one level, in which nothing is accepted, above the names of the operators
pub first_level : (ns : List Node) (names : List (List ℕ × naming.Named)) → IsScope ns names [] nothing_declared → AreLevels ns names (empty_layer (length names) 0 false ∷ []) ([] ∷ [])
first_level ns names h =
    let within : length names ≤ length names = omega arith in (
      record { named = h; before = within; has = nothing_in ns (length names) 0 false; count = refl; integers = refl },
      subst (λ ms. IsScope ns ms [] nothing_declared) (sym (take_whole names)) h,
    )

-- the names below the one level
names_below : (ns : List Node) (names : List (List ℕ × naming.Named)) (l : Layer) (levels : List (List LiveItem)) → AreLevels ns names (l ∷ []) levels
    → IsScope ns (take l.names_before names) [] nothing_declared
names_below ns names l [] h = absurd h
names_below ns names l (items ∷ []) h = h.1
names_below ns names l (items ∷ kept ∷ older) h = absurd h.1

pub levels_cleared : (ns : List Node) (before after : Standing) (levels : List (List LiveItem)) → IsCleared before after → AreLevels ns before.names (newest_first before) levels
    → AreLevels ns after.names (newest_first after) ([] ∷ [])
levels_cleared ns before after levels h k =
    let last = h.last in
    let none : last.below ≡ [] = nothing_below last.below (let left = left_below (length before.below) before last h.dropped in omega (arith, left)) in
    let alone = levels_less ns (length before.below) before last levels h.dropped k in
    let one : AreLevels ns last.names (last.top ∷ []) (drop (length before.below) levels) = subst (λ ls. AreLevels ns last.names (last.top ∷ reverse ls) (drop (length before.below) levels)) none alone in
    let scope : IsScope ns after.names [] nothing_declared = subst (λ ms. IsScope ns ms [] nothing_declared) (sym h.names) (names_below ns last.names last.top (drop (length before.below) levels) one) in
    subst (λ ls. AreLevels ns after.names (after.top ∷ reverse ls) ([] ∷ [])) (sym h.below)
    (subst (λ l. AreLevels ns after.names (l ∷ []) ([] ∷ [])) (sym h.top) (first_level ns after.names scope))

-- ---- What comes of the assertions' terms

goes_on_cons : (x : List ℕ) (ls ms : List (List ℕ)) → GoesOn ls ms → GoesOn (x ∷ ls) (x ∷ ms)
goes_on_cons x [] ms h = take_whole x
goes_on_cons x (l ∷ ls) ms h = (refl, h)

pub goes_on_same : (ls : List (List ℕ)) → GoesOn ls ls
goes_on_same [] = tt
goes_on_same (l ∷ ls) = goes_on_cons l ls ls (goes_on_same ls)

goes_on_more : (ls ms : List (List ℕ)) → GoesOn ls (ls ++ ms)
goes_on_more [] ms = tt
goes_on_more (l ∷ ls) ms = goes_on_cons l ls (ls ++ ms) (goes_on_more ls ms)

goes_on_last : (ls : List (List ℕ)) (l m : List ℕ) → take (length l) m ≡ l → GoesOn (ls ++ l ∷ []) (ls ++ m ∷ [])
goes_on_last [] l m e = e
goes_on_last (k ∷ ls) l m e = goes_on_cons k (ls ++ l ∷ []) (ls ++ m ∷ []) (goes_on_last ls l m e)

asserted_append : (ls ks : List Layer) → map (λ (l : Layer). table_numbers l.assertions) (ls ++ ks) ≡ map (λ (l : Layer). table_numbers l.assertions) ls ++ map (λ (l : Layer). table_numbers l.assertions) ks
asserted_append ls ks = map-append (λ (l : Layer). table_numbers l.assertions) ls ks

-- more in the newest level
pub goes_on_top : (before after : Standing) → after.below ≡ before.below → take (length (table_numbers before.top.assertions)) (table_numbers after.top.assertions) ≡ table_numbers before.top.assertions
    → GoesOn (asserted_by before) (asserted_by after)
goes_on_top before after e f =
    let asserted : Layer → List ℕ = λ l. table_numbers l.assertions in
    subst (λ ls. GoesOn ls (asserted_by after)) (sym (asserted_append before.below (before.top ∷ [])))
    (subst (GoesOn (map asserted before.below ++ asserted before.top ∷ [])) (sym (asserted_append after.below (after.top ∷ []) ∙ ap (λ ls. map asserted ls ++ asserted after.top ∷ []) e))
    (goes_on_last (map asserted before.below) (asserted before.top) (asserted after.top) f))

-- levels more
more_asserted : (n : ℕ) (standing : Standing) → (more : List (List ℕ)) × (asserted_by (with_levels n standing) ≡ asserted_by standing ++ more)
more_asserted zero standing = ([], sym (append-nil (asserted_by standing)))
more_asserted (suc n) standing =
    let h = more_asserted n standing in
    let mid = with_levels n standing in
    (h.0 ++ [] ∷ [], asserted_append (mid.below ++ mid.top ∷ []) (fresh_layer mid ∷ []) ∙ ap (λ ls. ls ++ [] ∷ []) h.1 ∙ append_assoc (asserted_by standing) h.0 ([] ∷ []))

pub goes_on_levels : (n : ℕ) (standing : Standing) → GoesOn (asserted_by standing) (asserted_by (with_levels n standing))
goes_on_levels n standing =
    let h = more_asserted n standing in
    subst (GoesOn (asserted_by standing)) (sym h.1) (goes_on_more (asserted_by standing) h.0)

-- levels less
less_asserted : (n : ℕ) (before after : Standing) → DropsMany n before after → (more : List (List ℕ)) × (asserted_by before ≡ asserted_by after ++ more)
less_asserted zero before after e = ([], ap asserted_by (sym e) ∙ sym (append-nil (asserted_by after)))
less_asserted (suc n) before after d =
    let h = less_asserted n d.0 after d.2 in
    let top = table_numbers before.top.assertions in (
      h.0 ++ top ∷ [],
      asserted_append before.below (before.top ∷ [])
          ∙ ap (λ ls. map (λ (l : Layer). table_numbers l.assertions) ls ++ top ∷ []) d.1.0
          ∙ ap (λ ls. ls ++ top ∷ []) h.1
          ∙ append_assoc (asserted_by after) h.0 (top ∷ []),
    )

pub cut_back_by : (n : ℕ) (before after : Standing) → DropsMany n before after → IsCutBack (asserted_by before) (asserted_by after)
cut_back_by n before after d =
    let h = less_asserted n before after d in
    let asserted : Layer → List ℕ = λ l. table_numbers l.assertions in
    let one : length (asserted_by after) ≡ length (map asserted after.below) + 1 = ap length (asserted_append after.below (after.top ∷ [])) ∙ length-append (map asserted after.below) (asserted after.top ∷ []) in
    record { some = omega (arith, one); front = ap (take (length (asserted_by after))) h.1 ∙ take_front (asserted_by after) h.0 }
