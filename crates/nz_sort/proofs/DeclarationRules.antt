-- Declarations: the rules on one, and what it leaves.
use Rattle.std.proofs.Common.{◌||◌, ◌+◌, ◌≡◌, ℕ, ◌<◌, List, [], ◌∷◌, ◌++◌, length, length-append, map, take, None, Some, Ok, true, false, nat_eq, refl, sym, ap, ◌∙◌, append-nil, subst, arith}
use Rattle.std.specs.Prelude.{reverse}
use Rattle.std.specs.List.{list_any}
use Rattle.std.proofs.lemmas.Option.{slice_get_within}
use Rattle.nz_spec.specs.terms.Term.{Sort, Constant, constant, apply, no_terms}
use Rattle.nz_spec.specs.terms.Table.{Node, term_in, TermStays}
use Rattle.nz_script.specs.commands.Request.{WrittenSort, declares}
use Rattle.nz_script.specs.live.Live.{State, declared, LiveItem, items_of, items_hold_integers, constants_in, definitions_in, with_item, grown}
use Rattle.nz_script.specs.commands.Script.{is_live_name, is_unknown_sort, constant_sort, declaration_of}
use Rattle.nz_script.specs.commands.Command.{declare_const, accepted, refused}
use Rattle.nz_spec.specs.outside.Error.{unknown_symbol, wrong_sort, already_declared}
use Rattle.nz_command.specs.Requests.{sort_view}
use Rattle.nz_command.specs.declared.command.WrittenSort as code
use Rattle.nz_term.specs.Constants.{sort_of}
use Rattle.nz_elaborate.specs.declared.typed.Typed.{Typed}
use Rattle.nz_elaborate.specs.declared.names.Named.TheVariants as kinds
use Rattle.nz_elaborate.specs.Names.{named_by}
use Rattle.nz_sort.specs.declared.acts.Act.TheVariants as acts
use Rattle.nz_sort.specs.Items.{table_numbers}
use Rattle.nz_sort.specs.Live.{Standing, asserted_by, IsLevel, IsLive, GoesOn}
use Rattle.nz_sort.specs.Changes.{Comes, constant_of, layer_with_constant, HasAdded, with_constant}
use Rattle.nz_sort.proofs.LiveItems.{has_constant, constant_integer}
use Rattle.nz_sort.proofs.LevelChanges.{is_live, level_with, goes_on_top}
use Rattle.nz_sort.proofs.Lists.{take_whole}
use Rattle.nz_sort.proofs.LiveNames.{scope_by, scope_as, scope_stays, scope_with_constant}
use Rattle.nz_sort.proofs.LiveStates.{companions_with_constant, constants_with, definitions_with, items_of-with_item, goes_on_by, next_after}

-- ---- What a declaration leaves

level_declared : TermStays → (old new : List Node) (more : List Node) (before : Standing) (c : Constant) (x : Typed) → new ≡ old ++ more → named_by before.names c.name ≡ None → x.id < length new
    → term_in new x.id ≡ apply (constant c) no_terms → sort_of x.sort ≡ c.sort → (number : ℕ) (items : List LiveItem) (older : List (List LiveItem))
    → IsLevel old before.names before.top items older
    → IsLevel new (with_constant before c.name x).names (layer_with_constant before.top number x) (items ++ record { number = number; item = declared c } ∷ []) older
level_declared stays old new more before c x e fresh within term sort number items older h =
    let l : LiveItem = record { number = number; item = declared c } in
    let levels = items ∷ older in
    let cs = constants_in (items_of levels) in
    let ds = definitions_in (items_of levels) in
    let later : constants_in (items_of (with_item levels l)) ≡ cs ++ c ∷ [] = constants_with levels l in
    let same : definitions_in (items_of (with_item levels l)) ≡ ds = definitions_with levels l ∙ append-nil ds in
    record {
      named = scope_as new (with_constant before c.name x).names later same
          (scope_with_constant new before.names cs ds c x (scope_stays stays old new more before.names (scope_by cs ds) e h.named) fresh
          (record { within = within; normal = term; sort = sort }));
      before = (let far = length-append before.names ((c.name, kinds.Constant x) ∷ []) in let near = h.before in omega (arith, far, near));
      has = has_constant stays old new more before.top items number c x e h.has within term;
      count = (let longer : length (cs ++ c ∷ []) ≡ length cs + 1 = length-append cs (c ∷ []) in ap (λ n. n + 1) h.count ∙ sym longer ∙ ap length (sym later));
      integers = ap items_hold_integers (items_of-with_item levels l) ∙ constant_integer (items_of levels) c x before.top.holds_integers h.integers sort;
    }

live_declared : TermStays → (old new : List Node) (before after : Standing) (s : State) (name : List ℕ) (sort : Sort) → IsLive old before s
    → named_by before.names name ≡ None → HasAdded name sort old new before after → IsLive new after (grown s (declared (constant_of name sort)))
live_declared stays old new before after s name sort live fresh h =
    let c = constant_of name sort in
    let x = h.added in
    let one : Node = record { head = constant c; kids = [] } in
    let longer = goes_on_by old new one h.grown in
    let within : x.id < length new = slice_get_within new x.id one h.node in
    let l : LiveItem = record { number = s.next; item = declared c } in
    subst (λ standing. IsLive new standing (grown s (declared c))) (sym h.stands)
    (is_live new (with_constant before name x) (grown s (declared c))
    (level_with stays old new longer.0 before.names (with_constant before name x).names ((name, kinds.Constant x) ∷ []) before.top (layer_with_constant before.top before.next x) (reverse before.below) l longer.1 refl refl
    (λ items older k. subst (λ n. IsLevel new (with_constant before name x).names (layer_with_constant before.top before.next x) (items ++ record { number = n; item = declared c } ∷ []) older) live.next
    (level_declared stays old new longer.0 before c x longer.1 fresh within h.term h.sorted before.next items older k)) s.levels live.levels)
    (companions_with_constant stays old new x.id c live.companions h.grown h.table h.node h.term) (next_after before.next s.next live.next))

pub comes_declared : TermStays → (old new : List Node) (before after : Standing) (name : List ℕ) (sorts : List WrittenSort) (sort : WrittenSort) (found : Sort)
    → ((s : State) → IsLive old before s → declaration_of s name sorts sort ≡ accepted (declare_const (constant_of name found))) → named_by before.names name ≡ None
    → HasAdded name found old new before after → take (length old) new ≡ old
    → Comes old new before after (declares name sorts sort) (λ s. declaration_of s name sorts sort) (Ok acts.Changed)
comes_declared stays old new before after name sorts sort found may fresh h kept =
    record {
      accepted = λ s live.
          record { command = declare_const (constant_of name found); is = may s live; asks = tt; live = λ reply. live_declared stays old new before after s name found live fresh h };
      refused = tt;
      kept = kept;
      unchanged = tt;
      skipped_terms = tt;
      skipped = tt;
      moves = subst (λ st. GoesOn (asserted_by before) (asserted_by st)) (sym h.stands) (goes_on_top before (with_constant before name h.added) refl (take_whole (table_numbers before.top.assertions)));
    }

-- ---- The rules on a declaration

pub sort_unknown : (s : State) (name : List ℕ) (sorts : List WrittenSort) (sort : WrittenSort) → (list_any is_unknown_sort sorts || is_unknown_sort sort) ≡ true
    → declaration_of s name sorts sort ≡ refused unknown_symbol
sort_unknown s name sorts sort e = rw e refl

pub name_declared : (s : State) (name : List ℕ) (sorts : List WrittenSort) (sort : WrittenSort) → (list_any is_unknown_sort sorts || is_unknown_sort sort) ≡ false
    → is_live_name s name ≡ true → declaration_of s name sorts sort ≡ refused already_declared
name_declared s name sorts sort e f = rw (e, f) refl

pub no_sort : (s : State) (name : List ℕ) (sorts : List WrittenSort) (sort : WrittenSort) → (list_any is_unknown_sort sorts || is_unknown_sort sort) ≡ false
    → is_live_name s name ≡ false → constant_sort sorts sort ≡ None → declaration_of s name sorts sort ≡ refused wrong_sort
no_sort s name sorts sort e f g = rw (e, f, g) refl

pub has_sort : (s : State) (name : List ℕ) (sorts : List WrittenSort) (sort : WrittenSort) (found : Sort) → (list_any is_unknown_sort sorts || is_unknown_sort sort) ≡ false
    → is_live_name s name ≡ false → constant_sort sorts sort ≡ Some found → declaration_of s name sorts sort ≡ accepted (declare_const (constant_of name found))
has_sort s name sorts sort found e f g = rw (e, f, g) refl

pub unknown_each : (ws : List code.WrittenSort) → list_any (λ w. is_unknown_sort (sort_view w)) ws ≡ list_any is_unknown_sort (map sort_view ws)
unknown_each [] = refl
unknown_each (w ∷ ws) = ap (λ b. is_unknown_sort (sort_view w) || b) (unknown_each ws)

-- a sort behind arguments is that of no constant
pub has_arguments : (ws : List code.WrittenSort) (sort : WrittenSort) → nat_eq (length ws) 0 ≡ false → constant_sort (map sort_view ws) sort ≡ None
has_arguments [] sort e = cc
has_arguments (w ∷ ws) sort e = refl
