-- Assertions: the rules on one, and what it leaves.
use Rattle.std.proofs.Common.{◌≡◌, ℕ, List, [], ◌∷◌, ◌++◌, take, length, Option, None, Some, Ok, Bool, true, cond, refl, sym, ap, ◌∙◌, append-nil, subst}
use Rattle.std.specs.Prelude.{reverse}
use Rattle.std.proofs.lemmas.List.{map-append}
use Rattle.nz_spec.specs.terms.Term.{bool_sort, Term, holds_integer, are_same_sort}
use Rattle.nz_spec.specs.terms.Normal.{normal_of}
use Rattle.nz_spec.specs.terms.Table.{Node, term_in, TermStays}
use Rattle.nz_spec.specs.terms.Order.{HasCompanions}
use Rattle.nz_spec.specs.terms.Linear.{is_linear}
use Rattle.nz_script.specs.commands.Expression.{Expression}
use Rattle.nz_script.specs.commands.Request.{asserts}
use Rattle.nz_spec.specs.terms.Operators.{has_sort}
use Rattle.nz_script.specs.commands.Elaboration.{term_of}
use Rattle.nz_script.specs.live.Live.{State, asserted, LiveItem, items_of, items_hold_integers, constants_in, definitions_in, with_item, grown}
use Rattle.nz_script.specs.commands.Script.{scope_of, linear_outcome, asserted_outcome, assertion_of}
use Rattle.nz_script.specs.commands.Command.{assert_term, Outcome, refused}
use Rattle.nz_spec.specs.outside.Error.{wrong_sort}
use Rattle.nz_script.specs.commands.Scoping.{has_clash}
use Rattle.nz_term.specs.Constants.{sort_of}
use Rattle.nz_elaborate.specs.declared.typed.Typed.{Typed}
use Rattle.nz_elaborate.specs.Elaborate.{StandsAs, is_unknown_in, IsWellNamed}
use Rattle.nz_elaborate.specs.Typed.{Grows, StandsFor}
use Rattle.nz_sort.specs.declared.acts.Act.TheVariants as acts
use Rattle.nz_sort.specs.declared.items.Accepted.{Accepted}
use Rattle.nz_sort.specs.Items.{table_numbers}
use Rattle.nz_sort.specs.Live.{Standing, asserted_by, IsLevel, IsLive, GoesOn}
use Rattle.nz_sort.specs.Changes.{Comes, Asserts, layer_with_assertion, with_assertion}
use Rattle.nz_sort.proofs.LiveItems.{has_assertion, assertion_integer}
use Rattle.nz_sort.proofs.LevelChanges.{is_live, level_with, goes_on_top}
use Rattle.nz_sort.proofs.Lists.{take_front}
use Rattle.nz_sort.proofs.LiveNames.{scope_by, scope_as, scope_stays}
use Rattle.nz_sort.proofs.LiveStates.{constants_with, definitions_with, items_of-with_item, kept_where_grown, next_after}
use Rattle.nz_sort.proofs.CommandRules.{past_names}

-- ---- What an assertion leaves

level_asserted : TermStays → (old new : List Node) (more : List Node) (before : Standing) (t : Term) (id : ℕ) (holds : Bool) → new ≡ old ++ more → StandsFor new id (normal_of t)
    → holds ≡ holds_integer (normal_of t) → (number : ℕ) (items : List LiveItem) (older : List (List LiveItem)) → IsLevel old before.names before.top items older
    → IsLevel new before.names (layer_with_assertion before.top number id holds) (items ++ record { number = number; item = asserted t } ∷ []) older
level_asserted stays old new more before t id holds e stands integer_held number items older h =
    let l : LiveItem = record { number = number; item = asserted t } in
    let levels = items ∷ older in
    let cs = constants_in (items_of levels) in
    let ds = definitions_in (items_of levels) in
    let same : constants_in (items_of (with_item levels l)) ≡ cs = constants_with levels l ∙ append-nil cs in
    let alike : definitions_in (items_of (with_item levels l)) ≡ ds = definitions_with levels l ∙ append-nil ds in
    record {
      named = scope_as new before.names same alike (scope_stays stays old new more before.names (scope_by cs ds) e h.named);
      before = h.before;
      has = has_assertion stays old new more before.top items number t id holds e h.has stands.within stands.term;
      count = h.count ∙ ap length (sym same);
      integers = ap items_hold_integers (items_of-with_item levels l) ∙ assertion_integer (items_of levels) t before.top.holds_integers holds h.integers integer_held;
    }

live_asserted : TermStays → (old new : List Node) (before : Standing) (s : State) (t : Term) (id : ℕ) (holds : Bool) → IsLive old before s → Grows old new
    → HasCompanions new → StandsFor new id (normal_of t) → holds ≡ holds_integer (normal_of t) → IsLive new (with_assertion before id holds) (grown s (asserted t))
live_asserted stays old new before s t id holds live g companions stands number =
    let l : LiveItem = record { number = s.next; item = asserted t } in
    is_live new (with_assertion before id holds) (grown s (asserted t))
    (level_with stays old new g.more before.names before.names [] before.top (layer_with_assertion before.top before.next id holds) (reverse before.below) l g.all (sym (append-nil before.names)) refl
    (λ items older k. subst (λ n. IsLevel new before.names (layer_with_assertion before.top before.next id holds) (items ++ record { number = n; item = asserted t } ∷ []) older) live.next
    (level_asserted stays old new g.more before t id holds g.all stands number before.next items older k)) s.levels live.levels)
    companions (next_after before.next s.next live.next)

-- the terms of the assertions, with one more
asserted_more : (items : List Accepted) (number id : ℕ) → take (length (table_numbers items)) (table_numbers (items ++ record { number = number; term = id } ∷ [])) ≡ table_numbers items
asserted_more items number id =
    ap (take (length (table_numbers items))) (map-append (λ (a : Accepted). a.term) items (record { number = number; term = id } ∷ [])) ∙ take_front (table_numbers items) (id ∷ [])

pub comes_asserted : TermStays → (old new : List Node) (before after : Standing) (e : Expression) (id : ℕ) (holds : Bool) → Grows old new → HasCompanions new
    → ((s : State) → IsLive old before s → Asserts (assertion_of s e) new id) → holds ≡ holds_integer (term_in new id) → after ≡ with_assertion before id holds
    → Comes old new before after (asserts e) (λ s. assertion_of s e) (Ok acts.Changed)
comes_asserted stays old new before after e id holds g companions may number more =
    record {
      accepted = λ s live.
          let h = may s live in
          record {
            command = assert_term h.term;
            is = h.is;
            asks = tt;
            live = λ reply. subst (λ st. IsLive new st (grown s (asserted h.term))) (sym more)
                (live_asserted stays old new before s h.term id holds live g companions h.stands (number ∙ ap holds_integer h.stands.term));
          };
      refused = tt;
      kept = kept_where_grown old new g;
      unchanged = tt;
      skipped_terms = tt;
      skipped = tt;
      moves = subst (λ st. GoesOn (asserted_by before) (asserted_by st)) (sym more)
          (goes_on_top before (with_assertion before id holds) refl (asserted_more before.top.assertions before.next id));
    }

-- ---- The rules on an assertion

-- what becomes of the assertion of a term, behind the rules on names
abbrev pub term_outcome : Option Term → Outcome
term_outcome o = elim o [ Some t ↦ asserted_outcome t | None ↦ refused wrong_sort ]

past : (s : State) (e : Expression) (ns : List Node) (x : Typed) (h : IsWellNamed (is_unknown_in (scope_of s) e) (has_clash e) (StandsAs (term_of (scope_of s) e) ns x))
    → assertion_of s e ≡ asserted_outcome h.holds.term
past s e ns x h = past_names (is_unknown_in (scope_of s) e) (has_clash e) (term_outcome (term_of (scope_of s) e)) h.known h.distinct ∙ ap term_outcome h.holds.is

by_sort : (t : Term) (b : Bool) → has_sort bool_sort t ≡ b → asserted_outcome t ≡ cond b (linear_outcome (is_linear (normal_of t)) (assert_term t)) (refused wrong_sort)
by_sort t b e = ap (λ c. cond c (linear_outcome (is_linear (normal_of t)) (assert_term t)) (refused wrong_sort)) e

of_bool : (s : State) (e : Expression) (ns : List Node) (x : Typed) (linear : Bool) (h : IsWellNamed (is_unknown_in (scope_of s) e) (has_clash e) (StandsAs (term_of (scope_of s) e) ns x))
    → are_same_sort bool_sort (sort_of x.sort) ≡ true → is_linear (term_in ns x.id) ≡ linear → assertion_of s e ≡ linear_outcome linear (assert_term h.holds.term)
of_bool s e ns x linear h bool is =
    past s e ns x h
    ∙ by_sort h.holds.term true (ap (are_same_sort bool_sort) (sym h.holds.typed.sort) ∙ bool)
    ∙ ap (λ b. linear_outcome b (assert_term h.holds.term)) (ap is_linear (sym h.holds.typed.normal) ∙ is)

-- the table may have grown by companions since
pub linear_assertion : (s : State) (e : Expression) (mid new : List Node) (x : Typed) → IsWellNamed (is_unknown_in (scope_of s) e) (has_clash e) (StandsAs (term_of (scope_of s) e) mid x)
    → are_same_sort bool_sort (sort_of x.sort) ≡ true → is_linear (term_in mid x.id) ≡ true → StandsFor new x.id (term_in mid x.id) → Asserts (assertion_of s e) new x.id
linear_assertion s e mid new x h bool straight stands =
    record {
      term = h.holds.term;
      is = of_bool s e mid x true h bool straight;
      stands = record { within = stands.within; term = stands.term ∙ h.holds.typed.normal };
    }
