-- The live state after commands.
use Rattle.std.proofs.Common.{◌+◌, ◌-◌, ◌≤◌, ◌≡◌, ◌⊎◌, inl, inr, ℕ, suc, ◌<◌, List, [], ◌∷◌, ◌++◌, length, map, take, All, Option, None, Some, IfSome, IfNone, is_some, true, false, slice_get, refl, sym, ap, ◌∙◌, append_assoc, append-nil, length-append, subst, arith}
use Rattle.std.specs.Prelude.{flat_map, reverse}
use Rattle.std.proofs.lemmas.List.Elements.{All-cons, All-nil}
use Rattle.std.specs.List.{AllByRecursion}
use Rattle.std.proofs.lemmas.Bool.{cases_lt}
use Rattle.nz_spec.specs.terms.Term.{Constant, constant, Term, apply, Terms, no_terms, terms}
use Rattle.nz_spec.specs.terms.Table.{Node, term_in, TermStays, IsTable}
use Rattle.nz_spec.specs.terms.Order.{listing_order, companions_of, AreFirst, IsInTable, HasCompanions}
use Rattle.nz_script.specs.live.TermList.{IsTermList}
use Rattle.std.proofs.lemmas.List.{map-append}
use Rattle.nz_script.specs.live.Live.{State, LiveItem, numbered_items, items_of, items_hold_integers, constants_in, definitions_in, constants_of, with_item, start}
use Rattle.std.specs.Borrow.{Bor}
use Rattle.nz_script.specs.commands.Script.{scope_of, is_live_name}
use Rattle.nz_script.specs.commands.Request.{Request}
use Rattle.nz_script.specs.commands.Command.{Command, Outcome, accepted}
use Rattle.nz_script.specs.replies.Reply.{Reply}
use Rattle.nz_script.specs.replies.Right.{effect}
use Rattle.nz_elaborate.specs.declared.names.Named as naming
use Rattle.nz_elaborate.specs.Names.{IsScope, named_by, nothing_declared}
use Rattle.nz_elaborate.specs.declared.typed.Typed.{Typed}
use Rattle.nz_elaborate.specs.Typed.{Grows, StandsFor, IsTyped, AreTyped}
use Rattle.nz_sort.specs.Items.{items_in}
use Rattle.nz_sort.specs.Layers.{Layer, empty_layer}
use Rattle.nz_sort.specs.Live.{Standing, accepted_by, AreLevels, IsLive, IsAccepted, Leaves, IfSkipped, Ask, Asks, changed, popped, cleared, reset, check, show_model, show_values, show_reason, show_info, show_levels, print_success, nothing, echo, leave, unsupported}
use Rattle.nz_sort.specs.Acts.{is_plain}
use Rattle.nz_sort.proofs.Lists.{take_front}
use Rattle.nz_sort.proofs.LiveNames.{are_live}
use Rattle.nz_sort.proofs.LiveItems.{items_in-last, constants_in-append, definitions_in-append}
use Rattle.nz_sort.proofs.LevelChanges.{newest_first, is_live, live_longer, top_scope, top_count, top_integers, first_level}

-- ---- Items

numbered_items-with_item : (levels : List (List LiveItem)) (l : LiveItem) → numbered_items (with_item levels l) ≡ numbered_items levels ++ l ∷ []
numbered_items-with_item [] l = refl
numbered_items-with_item (items ∷ older) l = sym (append_assoc (numbered_items older) items (l ∷ []))

pub items_of-with_item : (levels : List (List LiveItem)) (l : LiveItem) → items_of (with_item levels l) ≡ items_of levels ++ l.item ∷ []
items_of-with_item levels l = ap items_in (numbered_items-with_item levels l) ∙ items_in-last (numbered_items levels) l

pub constants_with : (levels : List (List LiveItem)) (l : LiveItem) → constants_in (items_of (with_item levels l)) ≡ constants_in (items_of levels) ++ constants_in (l.item ∷ [])
constants_with levels l = ap constants_in (items_of-with_item levels l) ∙ constants_in-append (items_of levels) (l.item ∷ [])

pub definitions_with : (levels : List (List LiveItem)) (l : LiveItem) → definitions_in (items_of (with_item levels l)) ≡ definitions_in (items_of levels) ++ definitions_in (l.item ∷ [])
definitions_with levels l = ap definitions_in (items_of-with_item levels l) ∙ definitions_in-append (items_of levels) (l.item ∷ [])

pub next_after : (n m : ℕ) → n ≡ m → n + 1 ≡ suc m
next_after n m e = omega (arith, e)

-- there are as many constants as live ones
pub as_many : (ns : List Node) (standing : Standing) (s : State) → IsLive ns standing s → standing.top.constant_count ≡ length (constants_of s)
as_many ns standing s live = top_count ns standing.names standing.top (reverse standing.below) s.levels live.levels

pub live_integers : (ns : List Node) (standing : Standing) (s : State) → IsLive ns standing s → items_hold_integers (items_of s.levels) ≡ standing.top.holds_integers
live_integers ns standing s live = top_integers ns standing.names standing.top (reverse standing.below) s.levels live.levels

-- ---- Tables that are kept

pub kept_where_grown : (old new : List Node) → Grows old new → take (length old) new ≡ old
kept_where_grown old new g = ap (take (length old)) g.all ∙ take_front old g.more

pub kept_where_same : (ns : List Node) → take (length ns) ns ≡ ns
kept_where_same ns = kept_where_grown ns ns (record { more = []; all = sym (append-nil ns); operators = tt; stays = λ i below. refl })

pub kept_with_one : (old new : List Node) (n : Node) → (new ≡ old) ⊎ (new ≡ old ++ n ∷ []) → take (length old) new ≡ old
kept_with_one old new n (inl e) = ap (take (length old)) e ∙ kept_where_same old
kept_with_one old new n (inr e) = ap (take (length old)) e ∙ take_front old (n ∷ [])

-- a table that is cut back to what was kept
pub cut_back : (old new cut : List Node) (mark : ℕ) → mark ≡ length old → cut ≡ take mark new → take (length old) new ≡ old → cut ≡ old
cut_back old new cut mark m c kept = c ∙ ap (λ n. take n new) m ∙ kept

-- ---- Tables that grow

longer : (old new : List Node) → Grows old new → length old ≤ length new
longer old new g = omega (arith, simp length-append at (ap length g.all))

pub typed_kept : (old new : List Node) → Grows old new → (x : Typed) (t : Term) → IsTyped old x t → IsTyped new x t
typed_kept old new g x t h = record { within = omega (arith, h.within, longer old new g); normal = g.stays x.id h.within ∙ h.normal; sort = h.sort }

pub all_typed_kept : (old new : List Node) → Grows old new → (xs : List Typed) (ts : Terms) → AreTyped old xs ts → AreTyped new xs ts
all_typed_kept old new g [] no_terms h = tt
all_typed_kept old new g [] (terms t ts) h = absurd h
all_typed_kept old new g (x ∷ xs) no_terms h = absurd h
all_typed_kept old new g (x ∷ xs) (terms t ts) h = (typed_kept old new g x t h.0, all_typed_kept old new g xs ts h.1)

pub stands_kept : (old new : List Node) → Grows old new → (id : ℕ) → id < length old → StandsFor new id (term_in old id)
stands_kept old new g id within = record { within = omega (arith, within, longer old new g); term = g.stays id within }

-- ---- Companions

in_longer : TermStays → (ns more : List Node) (t : Term) → IsInTable ns t → IsInTable (ns ++ more) t
in_longer stays ns more t h = (h.0, omega (arith, h.1, length-append ns more), stays ns more h.0 h.1 ∙ h.2)

all_in_longer : TermStays → (ns more : List Node) (ts : List Term) → AllByRecursion (IsInTable ns) ts → AllByRecursion (IsInTable (ns ++ more)) ts
all_in_longer stays ns more [] h = tt
all_in_longer stays ns more (t ∷ ts) h = (in_longer stays ns more t h.0, all_in_longer stays ns more ts h.1)

at_end : (ns : List Node) (n : Node) → slice_get (ns ++ n ∷ []) (length ns) ≡ Some n
at_end [] n = refl
at_end (m ∷ ns) n = at_end ns n

-- a constant has none, so a table with one more has them still
companions_one_more : TermStays → (old new : List Node) (id : ℕ) (c : Constant) → HasCompanions old → new ≡ old ++ record { head = constant c; kids = [] } ∷ [] → id ≡ length old
    → term_in new id ≡ apply (constant c) no_terms → HasCompanions new
companions_one_more stays old new id c has longer place term i below =
    let one : Node = record { head = constant c; kids = [] } in
    elim (cases_lt i (length old)) [
      | inl before ↦
          subst (λ ns. AllByRecursion (IsInTable ns) (companions_of (term_in ns i))) (sym longer)
          (subst (λ t. AllByRecursion (IsInTable (old ++ one ∷ [])) (companions_of t))
          (sym (stays old (one ∷ []) i before))
          (all_in_longer stays old (one ∷ []) (companions_of (term_in old i)) (has i before)))
      | inr behind ↦
          let count : length new ≡ length old + 1 = ap length longer ∙ length-append old (one ∷ []) in
          let last : i ≡ id = omega (arith, count, behind, below, place) in
          subst (λ j. AllByRecursion (IsInTable new) (companions_of (term_in new j))) (sym last)
          (subst (λ t. AllByRecursion (IsInTable new) (companions_of t)) (sym term) tt)
    ]

pub companions_with_constant : TermStays → (old new : List Node) (id : ℕ) (c : Constant) → HasCompanions old → (new ≡ old) ⊎ (new ≡ old ++ record { head = constant c; kids = [] } ∷ [])
    → IsTable new → slice_get new id ≡ Some (record { head = constant c; kids = [] }) → term_in new id ≡ apply (constant c) no_terms → HasCompanions new
companions_with_constant stays old new id c has (inl e) table at term = subst HasCompanions (sym e) has
companions_with_constant stays old new id c has (inr e) table at term =
    let one : Node = record { head = constant c; kids = [] } in
    companions_one_more stays old new id c has e (table.once id (length old) one at (ap (λ ns. slice_get ns (length old)) e ∙ at_end old one)) term

-- what was there, and then more or nothing
pub goes_on_by : (old new : List Node) (n : Node) → (new ≡ old) ⊎ (new ≡ old ++ n ∷ []) → (more : List Node) × (new ≡ old ++ more)
goes_on_by old new n (inl e) = ([], e ∙ sym (append-nil old))
goes_on_by old new n (inr e) = (n ∷ [], e)

-- those of what was made were made too
pub companions_made : (old mid new : List Node) (mark : ℕ) → mark ≡ length old → Grows old mid → HasCompanions old → (HasCompanions (take mark mid) → HasCompanions new) → HasCompanions new
companions_made old mid new mark e g has made = made (subst HasCompanions (sym (ap (λ n. take n mid) e ∙ kept_where_grown old mid g)) has)

-- ---- What commands leave that bring no item

-- what is live rests on the levels and the next number alone
pub live_by_levels : (ns : List Node) (standing : Standing) (s t : State) → t.levels ≡ s.levels → t.next ≡ s.next → IsLive ns standing s → IsLive ns standing t
live_by_levels ns standing s t e f live =
    is_live ns standing t (subst (AreLevels ns standing.names (newest_first standing)) (sym e) live.levels) live.companions (live.next ∙ sym f)

pub leaves_asked : (ns : List Node) (standing : Standing) (s : State) (r : Request) (outcome : Outcome) (ask : Ask) (c : Command) → outcome ≡ accepted c
    → Asks ns ask r c → ((reply : Reply) → (effect s c reply).levels ≡ s.levels) → ((reply : Reply) → (effect s c reply).next ≡ s.next) → IsLive ns standing s
    → IsAccepted s r outcome ask ns standing
leaves_asked ns standing s r outcome ask c is asks keeps counts live =
    record { command = c; is = is; asks = asks; live = λ reply. live_by_levels ns standing s (effect s c reply) (keeps reply) (counts reply) live }

-- what is live stays so where the table grows by operators and numbers
pub live_grown : TermStays → (old new : List Node) (standing : Standing) (s : State) → Grows old new → HasCompanions new → IsLive old standing s → IsLive new standing s
live_grown stays old new standing s g companions live = live_longer stays old new g.more standing s g.all companions live

-- an accepted command leaves what its ask says, where that is plain
pub leaves_by : (s : State) (r : Request) (outcome : Outcome) (ask : Ask) (ns : List Node) (standing : Standing) (c : Command) → is_plain ask ≡ true → Asks ns ask r c
    → IsAccepted s r outcome ask ns standing → Leaves s r outcome ask ns standing
leaves_by s r outcome changed ns standing c other asks h = h
leaves_by s r outcome popped ns standing c other asks h = cc
leaves_by s r outcome cleared ns standing c other asks h = h
leaves_by s r outcome reset ns standing c other asks h = h
leaves_by s r outcome (check xs) ns standing c other asks h = cc
leaves_by s r outcome show_model ns standing c other asks h = h
leaves_by s r outcome (show_values xs) ns standing c other asks h = h
leaves_by s r outcome show_reason ns standing c other asks h = h
leaves_by s r outcome (show_info i) ns standing c other asks h = h
leaves_by s r outcome show_levels ns standing c other asks h = h
leaves_by s r outcome (print_success b) ns standing c other asks h = h
leaves_by s r outcome nothing ns standing c other asks h = h
leaves_by s r outcome echo ns standing c other asks h = h
leaves_by s r outcome leave ns standing c other asks h = h
leaves_by s r outcome unsupported ns standing c other asks h = absurd asks

-- what holds, holds where the command isn't taken
pub if_skipped : {P : Type 0} (ask : Ask) → P → IfSkipped ask P
if_skipped changed p = tt
if_skipped popped p = tt
if_skipped cleared p = tt
if_skipped reset p = tt
if_skipped (check xs) p = tt
if_skipped show_model p = tt
if_skipped (show_values xs) p = tt
if_skipped show_reason p = tt
if_skipped (show_info i) p = tt
if_skipped show_levels p = tt
if_skipped (print_success b) p = tt
if_skipped nothing p = tt
if_skipped echo p = tt
if_skipped leave p = tt
if_skipped unsupported p = p

-- ---- The term list

-- the order of these roots is that of the terms of the live items and the assumed ones
pub listed_terms : (ns : List Node) (standing : Standing) (s : State) (assumed roots list : List ℕ) → roots ≡ accepted_by standing ++ assumed → IsLive ns standing s
    → AreFirst [] (flat_map listing_order (map (term_in ns) roots)) (map (term_in ns) list) → IsTermList s (map (term_in ns) assumed) (map (term_in ns) list)
listed_terms ns standing s assumed roots list e live first =
    subst (λ ts. AreFirst [] (flat_map listing_order ts) (map (term_in ns) list))
    (ap (map (term_in ns)) e ∙ map-append (term_in ns) (accepted_by standing) assumed ∙ ap (λ ts. ts ++ map (term_in ns) assumed) live.accepted.terms) first

-- ---- The scope of the live names

pub live_scope : (ns : List Node) (standing : Standing) (s : State) (names : List (List ℕ × naming.Named)) → names ≡ standing.names → IsLive ns standing s → IsScope ns names [] (scope_of s)
live_scope ns standing s names e live =
    subst (λ l. IsScope ns l [] (scope_of s)) (sym e) (top_scope ns standing.names standing.top (reverse standing.below) s.levels live.levels)

is_listed : {A B : Type 0} (o : Option A) (p : Option B) (f : A → B) → IfSome o (λ a. p ≡ Some (f a)) → IfNone o (p ≡ None) → is_some o ≡ is_some p
is_listed (Some a) p f some none = sym (ap is_some some)
is_listed None p f some none = sym (ap is_some none)

-- whether a name that is looked up is live
pub looked_up : (ns : List Node) (standing : Standing) (s : State) (names : List (List ℕ × naming.Named)) (name : List ℕ) (o : Option (Bor naming.Named)) → names ≡ standing.names
    → IsLive ns standing s → IfSome o (λ n. named_by names name ≡ Some n.now) → IfNone o (named_by names name ≡ None) → is_live_name s name ≡ is_some o
looked_up ns standing s names name o e live some none =
    sym (are_live ns names (scope_of s) name (live_scope ns standing s names e live)) ∙ sym (is_listed o (named_by names name) (λ n. n.now) some none)

-- ---- The start

pub live_at_start : (names : List (List ℕ × naming.Named)) (top : Layer) (below : List Layer) → top ≡ empty_layer (length names) 0 false → below ≡ []
    → IsScope [] names [] nothing_declared → IsLive [] (record { names = names; top = top; below = below; next = 0 }) start
live_at_start names top below e f h =
    subst (λ l. IsLive [] (record { names = names; top = l; below = below; next = 0 }) start) (sym e)
    (subst (λ ls. IsLive [] (record { names = names; top = empty_layer (length names) 0 false; below = ls; next = 0 }) start) (sym f)
    (is_live [] (record { names = names; top = empty_layer (length names) 0 false; below = []; next = 0 }) start (first_level [] names h) (λ i below. absurd (omega (arith, below))) refl))

-- the numbers of typed terms are in the table
pub all_within : (ns : List Node) (xs : List Typed) (ts : Terms) → AreTyped ns xs ts → All (λ (x : Typed). x.id < length ns) xs
all_within ns [] no_terms h = All-nil (λ (x : Typed). x.id < length ns)
all_within ns [] (terms t ts) h = absurd h
all_within ns (x ∷ xs) no_terms h = absurd h
all_within ns (x ∷ xs) (terms t ts) h = All-cons (λ (y : Typed). y.id < length ns) x xs h.0.within (all_within ns xs ts h.1)
