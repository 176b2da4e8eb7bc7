-- The live items, one of them more.
use Rattle.std.proofs.Common.{◌||◌, flat_map, ◌≡◌, ℕ, ◌<◌, List, [], ◌∷◌, ◌++◌, length, map, Bool, true, false, cond, All, refl, sym, ap, ◌∙◌, append-nil, length-append, subst, arith}
use Rattle.std.proofs.lemmas.Grind.{flat_map-append}
use Rattle.std.specs.List.{list_any}
use Rattle.std.proofs.lemmas.List.Folds.{list_any-append}
use Rattle.std.proofs.lemmas.List.Elements.{All-head, All-tail, All-append, All-cons, All-nil, All-weaker}
use Rattle.std.proofs.lemmas.List.{map-append}
use Rattle.nz_spec.specs.terms.Term.{is_int_sort, Constant, constant, Term, apply, no_terms, holds_integer}
use Rattle.nz_spec.specs.terms.Normal.{normal_of}
use Rattle.nz_spec.specs.terms.Table.{Node, term_in, TermStays}
use Rattle.nz_spec.specs.terms.Definitions.{Definition as SpecDefinition}
use Rattle.nz_script.specs.live.Live.{LiveItem, Item, cost_of, declared, defined, asserted, sought, wished, constants_in, definitions_in, assertions_in, goals_in, wishes_in, is_constant, is_assertion, is_goal, is_wish, numbers_of, item_terms, items_hold_integers}
use Rattle.nz_script.specs.live.Live as live_state
use Rattle.nz_term.specs.Constants.{sort_of}
use Rattle.nz_elaborate.specs.declared.typed.Typed.{Typed}
use Rattle.nz_sort.specs.declared.items.Accepted.{Accepted}
use Rattle.nz_sort.specs.declared.items.Goal.{Goal}
use Rattle.nz_sort.specs.declared.items.Wish.{Wish}
use Rattle.nz_sort.specs.Items.{table_numbers, items_in, StandForAll, AreItems, AreConstants, AreAssertions, AreGoals, AreWishes}
use Rattle.nz_sort.specs.Layers.{Layer}
use Rattle.nz_sort.specs.Live.{HasItems}
use Rattle.nz_sort.specs.Changes.{layer_with_constant, layer_with_assertion}

-- ---- Kinds of items, with one at the end

pub constants_in-append : (xs ys : List Item) → constants_in (xs ++ ys) ≡ constants_in xs ++ constants_in ys
constants_in-append [] ys = refl
constants_in-append (declared c ∷ xs) ys = ap (λ l. c ∷ l) (constants_in-append xs ys)
constants_in-append (defined d ∷ xs) ys = constants_in-append xs ys
constants_in-append (asserted t ∷ xs) ys = constants_in-append xs ys
constants_in-append (sought g ∷ xs) ys = constants_in-append xs ys
constants_in-append (wished w ∷ xs) ys = constants_in-append xs ys

pub assertions_in-append : (xs ys : List Item) → assertions_in (xs ++ ys) ≡ assertions_in xs ++ assertions_in ys
assertions_in-append [] ys = refl
assertions_in-append (declared c ∷ xs) ys = assertions_in-append xs ys
assertions_in-append (defined d ∷ xs) ys = assertions_in-append xs ys
assertions_in-append (asserted t ∷ xs) ys = ap (λ l. t ∷ l) (assertions_in-append xs ys)
assertions_in-append (sought g ∷ xs) ys = assertions_in-append xs ys
assertions_in-append (wished w ∷ xs) ys = assertions_in-append xs ys

pub definitions_in-append : (xs ys : List Item) → definitions_in (xs ++ ys) ≡ definitions_in xs ++ definitions_in ys
definitions_in-append [] ys = refl
definitions_in-append (declared c ∷ xs) ys = definitions_in-append xs ys
definitions_in-append (defined d ∷ xs) ys = ap (λ l. d ∷ l) (definitions_in-append xs ys)
definitions_in-append (asserted t ∷ xs) ys = definitions_in-append xs ys
definitions_in-append (sought g ∷ xs) ys = definitions_in-append xs ys
definitions_in-append (wished w ∷ xs) ys = definitions_in-append xs ys

goals_in-append : (xs ys : List Item) → goals_in (xs ++ ys) ≡ goals_in xs ++ goals_in ys
goals_in-append [] ys = refl
goals_in-append (declared c ∷ xs) ys = goals_in-append xs ys
goals_in-append (defined d ∷ xs) ys = goals_in-append xs ys
goals_in-append (asserted t ∷ xs) ys = goals_in-append xs ys
goals_in-append (sought g ∷ xs) ys = ap (λ l. g ∷ l) (goals_in-append xs ys)
goals_in-append (wished w ∷ xs) ys = goals_in-append xs ys

wishes_in-append : (xs ys : List Item) → wishes_in (xs ++ ys) ≡ wishes_in xs ++ wishes_in ys
wishes_in-append [] ys = refl
wishes_in-append (declared c ∷ xs) ys = wishes_in-append xs ys
wishes_in-append (defined d ∷ xs) ys = wishes_in-append xs ys
wishes_in-append (asserted t ∷ xs) ys = wishes_in-append xs ys
wishes_in-append (sought g ∷ xs) ys = wishes_in-append xs ys
wishes_in-append (wished w ∷ xs) ys = ap (λ l. w ∷ l) (wishes_in-append xs ys)

or_false : (b : Bool) → (b || false) ≡ b
or_false true = refl
or_false false = refl

hold_integers-append : (xs ys : List Item) → items_hold_integers (xs ++ ys) ≡ (items_hold_integers xs || items_hold_integers ys)
hold_integers-append xs ys =
    ap (list_any holds_integer) (flat_map-append item_terms xs ys) ∙ list_any-append holds_integer (flat_map item_terms xs) (flat_map item_terms ys)

-- one item more, which holds a number or doesn't
integers_last : (live : List Item) (i : Item) (before mine : Bool) → items_hold_integers live ≡ before → items_hold_integers (i ∷ []) ≡ mine
    → items_hold_integers (live ++ i ∷ []) ≡ (before || mine)
integers_last live i before mine e f = hold_integers-append live (i ∷ []) ∙ ap (λ b. b || items_hold_integers (i ∷ [])) e ∙ ap (λ b. before || b) f

-- ---- Numbered items, with one at the end

pub items_in-last : (live : List LiveItem) (l : LiveItem) → items_in (live ++ l ∷ []) ≡ items_in live ++ l.item ∷ []
items_in-last live l = map-append (λ (m : LiveItem). m.item) live (l ∷ [])

numbers_of-last : (f : Item → Bool) (live : List LiveItem) (l : LiveItem) → numbers_of f (live ++ l ∷ []) ≡ numbers_of f live ++ numbers_of f (l ∷ [])
numbers_of-last f [] l = refl
numbers_of-last f (m ∷ live) l =
    elim (f m.item) as (λ b. cond b (m.number ∷ numbers_of f (live ++ l ∷ [])) (numbers_of f (live ++ l ∷ [])) ≡ cond b (m.number ∷ numbers_of f live) (numbers_of f live) ++ numbers_of f (l ∷ [])) [
      | true ↦ ap (λ ns. m.number ∷ ns) (numbers_of-last f live l)
      | false ↦ numbers_of-last f live l
    ]

-- one of another kind
numbers_of-other : (f : Item → Bool) (live : List LiveItem) (l : LiveItem) → f l.item ≡ false → numbers_of f live ≡ numbers_of f (live ++ l ∷ [])
numbers_of-other f live l other =
    sym (numbers_of-last f live l ∙ ap (λ b. numbers_of f live ++ cond b (l.number ∷ []) []) other ∙ append-nil (numbers_of f live))

-- what is made of the items, in order
last_of : {A : Type 0} (f : List Item → List A) → ((xs ys : List Item) → f (xs ++ ys) ≡ f xs ++ f ys) → (live : List LiveItem) (l : LiveItem)
    → f (items_in (live ++ l ∷ [])) ≡ f (items_in live) ++ f (l.item ∷ [])
last_of f append live l = ap f (items_in-last live l) ∙ append (items_in live) (l.item ∷ [])

last_other : {A : Type 0} (f : List Item → List A) → ((xs ys : List Item) → f (xs ++ ys) ≡ f xs ++ f ys) → (live : List LiveItem) (l : LiveItem)
    → f (l.item ∷ []) ≡ [] → f (items_in live) ≡ f (items_in (live ++ l ∷ []))
last_other f append live l none = sym (last_of f append live l ∙ ap (λ xs. f (items_in live) ++ xs) none ∙ append-nil (f (items_in live)))

-- ---- Terms that are there already

pub terms_stay_there : TermStays → (ns more : List Node) (is : List ℕ) → All (λ i. i < length ns) is → map (term_in (ns ++ more)) is ≡ map (term_in ns) is
terms_stay_there stays ns more [] h = refl
terms_stay_there stays ns more (i ∷ is) h =
    ap (λ t. t ∷ map (term_in (ns ++ more)) is) (stays ns more i (All-head (λ i. i < length ns) i is h))
    ∙ ap (λ l. term_in ns i ∷ l) (terms_stay_there stays ns more is (All-tail (λ i. i < length ns) i is h))

within_more : (ns more : List Node) (is : List ℕ) → All (λ i. i < length ns) is → All (λ i. i < length (ns ++ more)) is
within_more ns more is h = All-weaker (λ i. i < length ns) (λ i. i < length (ns ++ more)) (λ i below. omega (arith, length-append ns more)) is h

pub stand_longer : TermStays → (old new more : List Node) (ids : List ℕ) (ts : List Term) → new ≡ old ++ more → StandForAll old ids ts → StandForAll new ids ts
stand_longer stays old new more ids ts e h =
    record {
      within = subst (λ ns. All (λ i. i < length ns) ids) (sym e) (within_more old more ids h.within);
      terms = ap (λ ns. map (term_in ns) ids) e ∙ terms_stay_there stays old more ids h.within ∙ h.terms;
    }

pub stand_last : (ns : List Node) (ids : List ℕ) (ts : List Term) (id : ℕ) (t : Term) → StandForAll ns ids ts → id < length ns → term_in ns id ≡ t
    → StandForAll ns (ids ++ id ∷ []) (ts ++ t ∷ [])
stand_last ns ids ts id t h within e =
    record {
      within = All-append (λ i. i < length ns) ids (id ∷ []) h.within (All-cons (λ i. i < length ns) id [] within (All-nil (λ i. i < length ns)));
      terms = map-append (term_in ns) ids (id ∷ []) ∙ ap (λ l. l ++ term_in ns id ∷ []) h.terms ∙ ap (λ u. ts ++ u ∷ []) e;
    }

-- ---- Items

-- the same items, where the table grows and the numbers and terms are told in another way
items_longer : TermStays → (old new more : List Node) (items : List Accepted) (numbers others : List ℕ) (ts us : List Term) → new ≡ old ++ more
    → AreItems old items numbers ts → numbers ≡ others → ts ≡ us → AreItems new items others us
items_longer stays old new more items numbers others ts us e h f g =
    record {
      numbers = h.numbers ∙ f;
      terms = subst (StandForAll new (table_numbers items)) g (stand_longer stays old new more (table_numbers items) ts e h.terms);
    }

-- one item more
items_last : TermStays → (old new more : List Node) (items : List Accepted) (numbers others : List ℕ) (ts us : List Term) (number id : ℕ) (t : Term) → new ≡ old ++ more
    → AreItems old items numbers ts → id < length new → term_in new id ≡ t → numbers ++ number ∷ [] ≡ others → ts ++ t ∷ [] ≡ us
    → AreItems new (items ++ record { number = number; term = id } ∷ []) others us
items_last stays old new more items numbers others ts us number id t e h within term f g =
    let last : Accepted = record { number = number; term = id } in
    let stand = stand_last new (table_numbers items) ts id t (stand_longer stays old new more (table_numbers items) ts e h.terms) within term in
    record {
      numbers = map-append (λ (a : Accepted). a.number) items (last ∷ []) ∙ ap (λ l. l ++ number ∷ []) h.numbers ∙ f;
      terms = subst (StandForAll new (table_numbers (items ++ last ∷ []))) g
          (subst (λ ids. StandForAll new ids (ts ++ t ∷ [])) (sym (map-append (λ (a : Accepted). a.term) items (last ∷ []))) stand);
    }

-- an item of another kind
goals_stay : TermStays → (old new more : List Node) (goals : List Goal) (live : List LiveItem) (l : LiveItem) → new ≡ old ++ more → is_goal l.item ≡ false → goals_in (l.item ∷ []) ≡ []
    → AreGoals old goals live → AreGoals new goals (live ++ l ∷ [])
goals_stay stays old new more goals live l e other none h =
    let same : goals_in (items_in live) ≡ goals_in (items_in (live ++ l ∷ [])) = last_other goals_in goals_in-append live l none in
    record {
      items = items_longer stays old new more (map (λ (g : Goal). g.accepted) goals) _ _ _ _ e h.items (numbers_of-other is_goal live l other) (ap (map (λ (g : live_state.Goal). normal_of g.term)) same);
      directions = h.directions ∙ ap (map (λ (g : live_state.Goal). g.direction)) same;
      shown = h.shown ∙ ap (map (λ (g : live_state.Goal). g.shown)) same;
    }

wishes_stay : TermStays → (old new more : List Node) (wishes : List Wish) (live : List LiveItem) (l : LiveItem) → new ≡ old ++ more → is_wish l.item ≡ false → wishes_in (l.item ∷ []) ≡ []
    → AreWishes old wishes live → AreWishes new wishes (live ++ l ∷ [])
wishes_stay stays old new more wishes live l e other none h =
    let same : wishes_in (items_in live) ≡ wishes_in (items_in (live ++ l ∷ [])) = last_other wishes_in wishes_in-append live l none in
    record {
      items = items_longer stays old new more (map (λ (w : Wish). w.accepted) wishes) _ _ _ _ e h.items (numbers_of-other is_wish live l other) (ap (map (λ (w : live_state.Wish). normal_of (cost_of w))) same);
      weights = h.weights ∙ ap (map (λ (w : live_state.Wish). w.weight)) same;
      numerals = h.numerals ∙ ap (map (λ (w : live_state.Wish). w.is_numeral)) same;
      groups = h.groups ∙ ap (map (λ (w : live_state.Wish). w.group)) same;
    }

-- all items, one with a term more, and one without
all_last : TermStays → (old new more : List Node) (ids : List ℕ) (live : List LiveItem) (l : LiveItem) (id : ℕ) (t : Term) → new ≡ old ++ more
    → StandForAll old ids (flat_map item_terms (items_in live)) → id < length new → term_in new id ≡ t → item_terms l.item ≡ t ∷ []
    → StandForAll new (ids ++ id ∷ []) (flat_map item_terms (items_in (live ++ l ∷ [])))
all_last stays old new more ids live l id t e h within term one =
    subst (StandForAll new (ids ++ id ∷ []))
    (sym (last_of (flat_map item_terms) (flat_map-append item_terms) live l ∙ ap (λ ts. flat_map item_terms (items_in live) ++ ts) (append-nil (item_terms l.item) ∙ one)))
    (stand_last new ids (flat_map item_terms (items_in live)) id t (stand_longer stays old new more ids (flat_map item_terms (items_in live)) e h) within term)

all_without : TermStays → (old new more : List Node) (ids : List ℕ) (live : List LiveItem) (l : LiveItem) → new ≡ old ++ more
    → StandForAll old ids (flat_map item_terms (items_in live)) → item_terms l.item ≡ [] → StandForAll new ids (flat_map item_terms (items_in (live ++ l ∷ [])))
all_without stays old new more ids live l e h none =
    subst (StandForAll new ids) (last_other (flat_map item_terms) (flat_map-append item_terms) live l (append-nil (item_terms l.item) ∙ none))
    (stand_longer stays old new more ids (flat_map item_terms (items_in live)) e h)

-- constants, one of another kind more
constants_stay : TermStays → (old new more : List Node) (items : List Accepted) (live : List LiveItem) (l : LiveItem) → new ≡ old ++ more → is_constant l.item ≡ false → constants_in (l.item ∷ []) ≡ []
    → AreConstants old items live → AreConstants new items (live ++ l ∷ [])
constants_stay stays old new more items live l e other none h =
    items_longer stays old new more items _ _ _ _ e h (numbers_of-other is_constant live l other)
    (ap (map (λ (d : Constant). apply (constant d) no_terms)) (last_other constants_in constants_in-append live l none))

assertions_stay : TermStays → (old new more : List Node) (items : List Accepted) (live : List LiveItem) (l : LiveItem) → new ≡ old ++ more → is_assertion l.item ≡ false → assertions_in (l.item ∷ []) ≡ []
    → AreAssertions old items live → AreAssertions new items (live ++ l ∷ [])
assertions_stay stays old new more items live l e other none h =
    items_longer stays old new more items _ _ _ _ e h (numbers_of-other is_assertion live l other)
    (ap (map normal_of) (last_other assertions_in assertions_in-append live l none))

pub has_constant : TermStays → (old new more : List Node) (layer : Layer) (live : List LiveItem) (number : ℕ) (c : Constant) (x : Typed) → new ≡ old ++ more → HasItems old layer live
    → x.id < length new → term_in new x.id ≡ apply (constant c) no_terms → HasItems new (layer_with_constant layer number x) (live ++ record { number = number; item = declared c } ∷ [])
has_constant stays old new more layer live number c x e h within term =
    let l : LiveItem = record { number = number; item = declared c } in
    record {
      constants =
          items_last stays old new more layer.constants _ _ _ _ number x.id (apply (constant c) no_terms) e h.constants within term
          (sym (numbers_of-last is_constant live l))
          (sym (ap (map (λ (d : Constant). apply (constant d) no_terms)) (last_of constants_in constants_in-append live l)
          ∙ map-append (λ (d : Constant). apply (constant d) no_terms) (constants_in (items_in live)) (c ∷ [])));
      assertions = assertions_stay stays old new more layer.assertions live l e refl refl h.assertions;
      goals = goals_stay stays old new more layer.goals live l e refl refl h.goals;
      wishes = wishes_stay stays old new more layer.wishes live l e refl refl h.wishes;
      all = all_last stays old new more layer.accepted live l x.id (apply (constant c) no_terms) e h.all within term refl;
    }

pub has_definition : TermStays → (old new more : List Node) (layer : Layer) (live : List LiveItem) (number : ℕ) (e : SpecDefinition) → new ≡ old ++ more
    → HasItems old layer live → HasItems new layer (live ++ record { number = number; item = defined e } ∷ [])
has_definition stays old new more layer live number e grown h =
    let l : LiveItem = record { number = number; item = defined e } in
    record {
      constants = constants_stay stays old new more layer.constants live l grown refl refl h.constants;
      assertions = assertions_stay stays old new more layer.assertions live l grown refl refl h.assertions;
      goals = goals_stay stays old new more layer.goals live l grown refl refl h.goals;
      wishes = wishes_stay stays old new more layer.wishes live l grown refl refl h.wishes;
      all = all_without stays old new more layer.accepted live l grown h.all refl;
    }

pub has_assertion : TermStays → (old new more : List Node) (layer : Layer) (live : List LiveItem) (number : ℕ) (t : Term) (id : ℕ) (holds : Bool) → new ≡ old ++ more → HasItems old layer live
    → id < length new → term_in new id ≡ normal_of t → HasItems new (layer_with_assertion layer number id holds) (live ++ record { number = number; item = asserted t } ∷ [])
has_assertion stays old new more layer live number t id holds e h within term =
    let l : LiveItem = record { number = number; item = asserted t } in
    record {
      constants = constants_stay stays old new more layer.constants live l e refl refl h.constants;
      assertions =
          items_last stays old new more layer.assertions _ _ _ _ number id (normal_of t) e h.assertions within term
          (sym (numbers_of-last is_assertion live l))
          (sym (ap (map normal_of) (last_of assertions_in assertions_in-append live l) ∙ map-append normal_of (assertions_in (items_in live)) (t ∷ [])));
      goals = goals_stay stays old new more layer.goals live l e refl refl h.goals;
      wishes = wishes_stay stays old new more layer.wishes live l e refl refl h.wishes;
      all = all_last stays old new more layer.accepted live l id (normal_of t) e h.all within term refl;
    }

-- whether an item more brings a unit of sort Int
pub constant_integer : (items : List Item) (c : Constant) (x : Typed) (holds : Bool) → items_hold_integers items ≡ holds → sort_of x.sort ≡ c.sort
    → items_hold_integers (items ++ declared c ∷ []) ≡ (holds || is_int_sort (sort_of x.sort))
constant_integer items c x holds h sort =
    integers_last items (declared c) holds (is_int_sort (sort_of x.sort)) h
    (or_false (is_int_sort c.sort || false) ∙ or_false (is_int_sort c.sort) ∙ ap is_int_sort (sym sort))

pub definition_integer : (items : List Item) (e : SpecDefinition) (holds : Bool) → items_hold_integers items ≡ holds → items_hold_integers (items ++ defined e ∷ []) ≡ holds
definition_integer items e holds h = integers_last items (defined e) holds false h refl ∙ or_false holds

pub assertion_integer : (items : List Item) (t : Term) (holds number : Bool) → items_hold_integers items ≡ holds → number ≡ holds_integer (normal_of t)
    → items_hold_integers (items ++ asserted t ∷ []) ≡ (holds || number)
assertion_integer items t holds number h e = integers_last items (asserted t) holds number h (or_false (holds_integer (normal_of t)) ∙ sym e)

-- where the table grows
pub items_kept : TermStays → (old new more : List Node) (layer : Layer) (live : List LiveItem) → new ≡ old ++ more → HasItems old layer live → HasItems new layer live
items_kept stays old new more layer live e h =
    record {
      constants = items_longer stays old new more layer.constants _ _ _ _ e h.constants refl refl;
      assertions = items_longer stays old new more layer.assertions _ _ _ _ e h.assertions refl refl;
      goals =
          record {
            items = items_longer stays old new more (map (λ (g : Goal). g.accepted) layer.goals) _ _ _ _ e h.goals.items refl refl;
            directions = h.goals.directions;
            shown = h.goals.shown;
          };
      wishes =
          record {
            items = items_longer stays old new more (map (λ (w : Wish). w.accepted) layer.wishes) _ _ _ _ e h.wishes.items refl refl;
            weights = h.wishes.weights;
            numerals = h.wishes.numerals;
            groups = h.wishes.groups;
          };
      all = stand_longer stays old new more layer.accepted (flat_map item_terms (items_in live)) e h.all;
    }
