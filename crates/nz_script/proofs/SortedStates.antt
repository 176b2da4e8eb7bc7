-- Definitions and assertions stay well sorted, over the live constants and linear, whatever is told.
use Rattle.std.proofs.Common.{◌≡◌, ℕ, suc, ◌+◌, Bool, true, false, ◌||◌, List, [], ◌∷◌, ◌++◌, Option, Some, None, zero, append-nil, drop, refl, sym, ap, ◌∙◌, subst, if◌then◌else◌, arith}
use Rattle.std.proofs.lemmas.List.{append_assoc, map-append}
use Rattle.std.specs.Bool.{⊤}
use Rattle.std.proofs.lemmas.Bool.{or_parts}
use Rattle.std.specs.Prelude.{Contains, nat_lt, map, slice_get, option_and_then}
use Rattle.std.proofs.lemmas.List.Elements.{Contains-append_left}
use Rattle.std.specs.List.{AllByRecursion, list_any, repeat}
use Rattle.nz_script.specs.text.Tree.{Tree}
use Rattle.nz_script.specs.commands.Expression.{Expression, written_name}
use Rattle.nz_script.specs.commands.Request.{WrittenSort, Parameter, Assumption, Question, lex_priority, box_priority, pareto_priority, Setting, success_setting, models_setting, priority_setting, other_setting, InfoKey, name_key, version_key, authors_key, behavior_key, levels_key, reason_key, other_key, Request, declares, defines, asserts, checks, checks_assuming, pushes, pops, resets, resets_assertions, shows_model, shows_values, shows_info, sets_option, sets_nothing, echoes, exits}
use Rattle.nz_script.specs.commands.Parse.{cons_onto, request_of}
use Rattle.nz_script.specs.text.Bounds.{has_token, is_wide_token, is_long_decimal}
use Rattle.nz_lists.proofs.Options.{IfFound, and_then_found, found_weaker}
use Rattle.nz_spec.specs.clauses.Literal.{Literal, term_literal}
use Rattle.nz_spec.specs.terms.OverConstants.{IsOver}
use Rattle.nz_spec.specs.terms.Term.{Constant, Sort, bool_sort, is_bool, Term, Terms, sort_of, holds_number, holds_integer, Assignment, IsOfSort, value_of}
use Rattle.nz_spec.specs.terms.Normal.{normal_of}
use Rattle.nz_spec.specs.terms.Linear.{is_linear}
use Rattle.nz_spec.specs.terms.Definitions.{Definition}
use Rattle.nz_spec.specs.terms.Operators.{has_sort, placed}
use Rattle.nz_script.specs.commands.Elaboration.{term_of, terms_of}
use Rattle.nz_script.specs.live.Live.{State, start, constants_in, constants_of, definitions_of, pushed_levels, LiveItem, numbered_items, Item, declared, defined, asserted, sought, wished, items_of, items_hold_integers, definitions_in, assertions_in, assertions_of, with_item, grown}
use Rattle.nz_script.specs.commands.Command.{Command, declare_const, define, assert_term, push_levels, pop_levels, reset, reset_assertions, check_sat, get_value, set_print_success, Outcome, accepted, refused, not_taken}
use Rattle.nz_spec.specs.outside.Error.{bad_syntax, unknown_symbol, wrong_sort, too_wide, past_limit, below_zero, already_declared}
use Rattle.nz_script.specs.commands.Limits.{passes_limit}
use Rattle.nz_script.specs.commands.Script.{is_live_name, scope_of, constant_sort, sort_written, is_unknown_sort, declaration_of, parameter_names, parameter_sorts, sorts_written, parameters_from, body_scope, linear_outcome, definition_by, definition_of, asserted_outcome, assertion_of, asked_expressions, all_linear, asked_of, values_asked, push_of, pop_of, assumed_term, assumes_unknown, assumes_integer, assumed_literal, assumed_literals, check_under, info_asked, option_set, outcome_by, outcome_requested, outcome_of}
use Rattle.nz_script.specs.commands.Scoping.{clash, has_clash, have_clash, has_unknown, have_unknown}
use Rattle.nz_script.specs.text.Text.{What, intact}
use Rattle.nz_script.specs.replies.Reply.{Reply, error}
use Rattle.nz_script.specs.replies.Right.{Context, beginning, effect, effect_of, after, context_after}
use Rattle.nz_script.specs.run.Transcript.{Kept, context_of}
use Rattle.nz_spec.specs.terms.Model.{IsAssignment}
use Rattle.nz_script.specs.laws.Sorts.{TermsHaveTheirSorts, AreSortedItems, AreSortedLevels, IsSortedState, StatesStaySorted, AssertionsAreGated, AssertionsAreOver, IsAssumable, AssumptionsAreTaken}
use Rattle.nz_spec.specs.clauses.Gates.{IsGated}
use Rattle.nz_spec.specs.terms.Taken.{NormalTermsAreTaken}
use Rattle.nz_spec.specs.terms.WellSorted.{IsWellSorted, IsSortedDefinition, IsSortedAssertion, HasLinearNormal, HasLinearBody, SortsTell, NormalStaysSorted, NormalTermsAreGated}
use Rattle.nz_script.proofs.LinearNames.{linear_name}
use Rattle.nz_script.proofs.OverConstants.{AreAmong, over_weaker, written_over, placed_is_over}
use Rattle.nz_script.proofs.Placed.{IsPlaced, is_placed}
use Rattle.nz_script.proofs.WrittenTerms.{AreBound, are_constants}
use Rattle.nz_script.proofs.SortedTerms.{sorted_real, IsSortedScope, term_sorted}

-- What the laws of terms say, as the lemmas take it.
pub record TermLaws : Type 0 where
  pub told : SortsTell
  pub stays : NormalStaysSorted
  pub taken : NormalTermsAreTaken

-- ---- One more item

module _ (P : Definition → Type 0) where
  definitions_with : (items : List Item) (i : Item) → AllByRecursion P (definitions_in items) → AllByRecursion P (definitions_in (i ∷ [])) → AllByRecursion P (definitions_in (items ++ i ∷ []))
  definitions_with [] i h k = k
  definitions_with (declared c ∷ items) i h k = definitions_with items i h k
  definitions_with (defined d ∷ items) i h k = (h.0, definitions_with items i h.1 k)
  definitions_with (asserted t ∷ items) i h k = definitions_with items i h k
  definitions_with (sought g ∷ items) i h k = definitions_with items i h k
  definitions_with (wished w ∷ items) i h k = definitions_with items i h k

module _ (P : Term → Type 0) where
  assertions_with : (items : List Item) (i : Item) → AllByRecursion P (assertions_in items) → AllByRecursion P (assertions_in (i ∷ [])) → AllByRecursion P (assertions_in (items ++ i ∷ []))
  assertions_with [] i h k = k
  assertions_with (declared c ∷ items) i h k = assertions_with items i h k
  assertions_with (defined d ∷ items) i h k = assertions_with items i h k
  assertions_with (asserted t ∷ items) i h k = (h.0, assertions_with items i h.1 k)
  assertions_with (sought g ∷ items) i h k = assertions_with items i h k
  assertions_with (wished w ∷ items) i h k = assertions_with items i h k

constants_with : (items : List Item) (i : Item) → constants_in (items ++ i ∷ []) ≡ constants_in items ++ constants_in (i ∷ [])
constants_with [] i = refl
constants_with (declared c ∷ items) i = ap (λ cs. c ∷ cs) (constants_with items i)
constants_with (defined d ∷ items) i = constants_with items i
constants_with (asserted t ∷ items) i = constants_with items i
constants_with (sought g ∷ items) i = constants_with items i
constants_with (wished w ∷ items) i = constants_with items i

among_more : (items : List Item) (i : Item) → AreAmong (constants_in items) (constants_in (items ++ i ∷ []))
among_more items i c h = subst (λ cs. Contains cs c) (sym (constants_with items i)) (Contains-append_left (constants_in items) (constants_in (i ∷ [])) c h)

module _ (cs ds : List Constant) (among : AreAmong cs ds) where
  bodies_weaker : (es : List Definition) → AllByRecursion (λ (d : Definition). IsOver cs d.body) es → AllByRecursion (λ (d : Definition). IsOver ds d.body) es
  bodies_weaker [] h = tt
  bodies_weaker (e ∷ es) h = (over_weaker cs ds among e.body h.0, bodies_weaker es h.1)

  terms_weaker : (ts : List Term) → AllByRecursion (IsOver cs) ts → AllByRecursion (IsOver ds) ts
  terms_weaker [] h = tt
  terms_weaker (t ∷ ts) h = (over_weaker cs ds among t h.0, terms_weaker ts h.1)

-- what is to be known of an item more
record IsSortedItem (items : List Item) (i : Item) : Type 0 where
  definitions : AllByRecursion IsSortedDefinition (definitions_in (i ∷ []))
  assertions : AllByRecursion IsSortedAssertion (assertions_in (i ∷ []))
  bodies_over : AllByRecursion (λ (d : Definition). IsOver (constants_in items) d.body) (definitions_in (i ∷ []))
  assertions_over : AllByRecursion (IsOver (constants_in items)) (assertions_in (i ∷ []))
  bodies_linear : AllByRecursion HasLinearBody (definitions_in (i ∷ []))
  assertions_linear : AllByRecursion HasLinearNormal (assertions_in (i ∷ []))

one_more : (items : List Item) (i : Item) → AreSortedItems items → IsSortedItem items i → AreSortedItems (items ++ i ∷ [])
one_more items i h new =
    let more = constants_in (items ++ i ∷ []) in
    let weaker_bodies = bodies_weaker (constants_in items) more (among_more items i) in
    let weaker_terms = terms_weaker (constants_in items) more (among_more items i) in
    record {
      definitions = definitions_with IsSortedDefinition items i h.definitions new.definitions;
      assertions = assertions_with IsSortedAssertion items i h.assertions new.assertions;
      bodies_over = definitions_with (λ (d : Definition). IsOver more d.body) items i (weaker_bodies (definitions_in items) h.bodies_over) (weaker_bodies (definitions_in (i ∷ [])) new.bodies_over);
      assertions_over = assertions_with (IsOver more) items i (weaker_terms (assertions_in items) h.assertions_over) (weaker_terms (assertions_in (i ∷ [])) new.assertions_over);
      bodies_linear = definitions_with HasLinearBody items i h.bodies_linear new.bodies_linear;
      assertions_linear = assertions_with HasLinearNormal items i h.assertions_linear new.assertions_linear;
    }

nothing_sorted : AreSortedItems []
nothing_sorted = record { definitions = tt; assertions = tt; bodies_over = tt; assertions_over = tt; bodies_linear = tt; assertions_linear = tt }

-- all items that are live
pub sorted_items : (levels : List (List LiveItem)) → AreSortedLevels levels → AreSortedItems (items_of levels)
sorted_items [] h = nothing_sorted
sorted_items (items ∷ older) h = h.0

items_with : (older : List (List LiveItem)) (items : List LiveItem) (l : LiveItem) → items_of ((items ++ l ∷ []) ∷ older) ≡ items_of (items ∷ older) ++ l.item ∷ []
items_with older items l =
    ap (map (λ (k : LiveItem). k.item)) (sym (append_assoc (numbered_items older) items (l ∷ [])))
    ∙ map-append (λ (k : LiveItem). k.item) (numbered_items older ++ items) (l ∷ [])

levels_with : (levels : List (List LiveItem)) (l : LiveItem) → AreSortedLevels levels → IsSortedItem (items_of levels) l.item → AreSortedLevels (with_item levels l)
levels_with [] l h new = (one_more [] l.item nothing_sorted new, tt)
levels_with (items ∷ older) l h new = (subst AreSortedItems (sym (items_with older items l)) (one_more (items_of (items ∷ older)) l.item h.0 new), h.1)

grown_sorted : (s : State) (i : Item) → IsSortedState s → IsSortedItem (items_of s.levels) i → IsSortedState (grown s i)
grown_sorted s i sorted new = levels_with s.levels (record { number = s.next; item = i }) sorted new

-- ---- Levels

pushed_sorted : (n : ℕ) (levels : List (List LiveItem)) → AreSortedLevels levels → AreSortedLevels (repeat n ([] ∷ []) ++ levels)
pushed_sorted zero levels h = h
pushed_sorted (suc n) levels h =
    let older = repeat n ([] ∷ []) ++ levels in
    let k = pushed_sorted n levels h in
    (subst AreSortedItems (sym (ap (map (λ (l : LiveItem). l.item)) (append-nil (numbered_items older)))) (sorted_items older k), k)

popped_sorted : (n : ℕ) (levels : List (List LiveItem)) → AreSortedLevels levels → AreSortedLevels (drop n levels)
popped_sorted zero levels h = h
popped_sorted (suc n) [] h = tt
popped_sorted (suc n) (items ∷ older) h = popped_sorted n older h.1

-- ---- Commands

abbrev IsGoodCommand : State → Command → Type 0
IsGoodCommand s (define d) = IsSortedDefinition d × (IsOver (constants_of s) d.body × HasLinearBody d)
IsGoodCommand s (assert_term t) = IsSortedAssertion t × (IsOver (constants_of s) t × HasLinearNormal t)
IsGoodCommand s (check_sat ls) = AllByRecursion (IsAssumable s) ls
IsGoodCommand s c = ⊤

abbrev IsGood : State → Outcome → Type 0
IsGood s (accepted c) = IsGoodCommand s c
IsGood s (refused n) = ⊤
IsGood s not_taken = ⊤

good_if : (s : State) (b : Bool) (o p : Outcome) → IsGood s o → IsGood s p → IsGood s (if b then o else p)
good_if s true o p h i = h
good_if s false o p h i = i

linear_good : (s : State) (b : Bool) (c : Command) → (b ≡ true → IsGoodCommand s c) → IsGood s (linear_outcome b c)
linear_good s true c h = h refl
linear_good s false c h = tt

declared_good : (s : State) (name : List ℕ) (m : Option Sort) → IsGood s (elim m [ Some is ↦ accepted (declare_const (record { name = name; sort = is })) | None ↦ refused wrong_sort ])
declared_good s name (Some is) = tt
declared_good s name None = tt

declaration_good : (s : State) (name : List ℕ) (arguments : List WrittenSort) (sort : WrittenSort) → IsGood s (declaration_of s name arguments sort)
declaration_good s name arguments sort =
    let by_sort : Outcome = elim (constant_sort arguments sort) [ Some is ↦ accepted (declare_const (record { name = name; sort = is })) | None ↦ refused wrong_sort ] in
    good_if s (list_any is_unknown_sort arguments || is_unknown_sort sort) (refused unknown_symbol) (if is_live_name s name then refused already_declared else by_sort) tt
    (good_if s (is_live_name s name) (refused already_declared) by_sort tt (declared_good s name (constant_sort arguments sort)))

-- the parameters stand at their places
parameters_bound : (rs ss : List Sort) (k : ℕ) (names : List (List ℕ)) → ((j i : ℕ) → i ≡ k + j → slice_get rs i ≡ slice_get ss j) → AreBound (IsWellSorted rs) (parameters_from k names ss)
parameters_bound rs ss k [] e = tt
parameters_bound rs [] k (name ∷ names) e = tt
parameters_bound rs (s ∷ ss) k (name ∷ names) e = (((e 0 k (omega arith), refl), tt), parameters_bound rs ss (suc k) names (λ j i f. e (suc j) i (omega (arith, f))))

-- the parameters are no constants
parameters_over : (cs : List Constant) (ss : List Sort) (k : ℕ) (names : List (List ℕ)) → AreBound (IsOver cs) (parameters_from k names ss)
parameters_over cs ss k [] = tt
parameters_over cs [] k (name ∷ names) = tt
parameters_over cs (s ∷ ss) k (name ∷ names) = ((tt, tt), parameters_over cs ss (suc k) names)

-- what holds of the term, in two ways
both_found : (P Q : Term → Type 0) (m : Option Term) → IfFound P m → IfFound Q m → IfFound (λ t. P t × Q t) m
both_found P Q None h k = tt
both_found P Q (Some t) h k = (h, k)

body_good : (s : State) (name : List ℕ) (sorts : List Sort) (m : Option Term) → IfFound (λ t. IsWellSorted sorts t × IsOver (constants_of s) t) m
    → IsGood s (elim m [ Some t ↦ linear_outcome (is_linear (normal_of t)) (define (record { name = name; parameters = sorts; body = t })) | None ↦ refused wrong_sort ])
body_good s name sorts (Some t) h = linear_good s (is_linear (normal_of t)) (define (record { name = name; parameters = sorts; body = t })) (λ l. (h.0, (h.1, l)))
body_good s name sorts None h = tt

-- a term that holds no unit of sort Int, as it is assumed
taken_if : TermLaws → (s : State) (sign b : Bool) (t : Term) → has_sort bool_sort t ≡ b → IsWellSorted [] t → IsOver (constants_of s) t → HasLinearNormal t → holds_integer (normal_of t) ≡ false
    → IfFound (IsAssumable s) (if b then Some (term_literal t sign) else None)
taken_if laws s sign true t e w over linear whole =
    let boolean : sort_of (normal_of t) ≡ bool_sort = (laws.stays [] t w).1 ∙ sym (laws.told.one bool_sort (sort_of t) e) in
    (over, record { taken = laws.taken t w linear whole; boolean = ap is_bool boolean })
taken_if laws s sign false t e w over linear whole = tt

one_taken : TermLaws → (s : State) (sign : Bool) (m : Option Term) → IfFound (IsWellSorted []) m → IfFound (IsOver (constants_of s)) m → IfFound HasLinearNormal m
    → elim m [ Some t ↦ holds_integer (normal_of t) | None ↦ false ] ≡ false
    → IfFound (IsAssumable s) (option_and_then (λ t. if has_sort bool_sort t then Some (term_literal t sign) else None) m)
one_taken laws s sign None w over linear whole = tt
one_taken laws s sign (Some t) w over linear whole = taken_if laws s sign (has_sort bool_sort t) t refl w over linear whole

literals_onto : (s : State) (o : Option Literal) (r : Option (List Literal)) → IfFound (IsAssumable s) o → IfFound (AllByRecursion (IsAssumable s)) r → IfFound (AllByRecursion (IsAssumable s)) (cons_onto o r)
literals_onto s (Some l) (Some ls) h k = (h, k)
literals_onto s (Some l) None h k = tt
literals_onto s None r h k = tt

module _ (laws : TermLaws) (s : State) (sorted : IsSortedState s) where
  scope_is : IsSortedScope laws.told [] (scope_of s)
  scope_is = record { constants = are_constants (constants_of s); definitions = (sorted_items s.levels sorted).definitions; bound = tt }

  body_scope_is : (names : List (List ℕ)) (sorts : List Sort) → IsSortedScope laws.told sorts (body_scope s names sorts)
  body_scope_is names sorts = record { constants = are_constants (constants_of s); definitions = (sorted_items s.levels sorted).definitions; bound = parameters_bound sorts sorts 0 names (λ j i e. let f : i ≡ j = omega (arith, e) in ap (slice_get sorts) f) }

  -- a term that is written is over the live constants
  over_live : (bound : List (List ℕ × Term)) → AreBound (IsOver (constants_of s)) bound → (e : Expression)
      → IfFound (IsOver (constants_of s)) (term_of (record { constants = constants_of s; definitions = definitions_of s; bound = bound }) e)
  over_live bound h e = written_over laws.told (constants_of s) (definitions_of s) bound (sorted_items s.levels sorted).bodies_over h e

  definition_by_good : (name : List ℕ) (names : List (List ℕ)) (m : Option (List Sort)) (n : Option Sort) (body : Expression) → IsGood s (definition_by s name names m n body)
  definition_by_good name names (Some sorts) (Some sort) body =
      let cs = constants_of s in
      let found = term_of (body_scope s names sorts) body in
      body_good s name sorts (option_and_then (placed sort) found)
      (and_then_found (λ t. IsWellSorted sorts t × IsOver cs t) (λ t. IsWellSorted sorts t × IsOver cs t) (placed sort) found
      (λ t h. both_found (IsWellSorted sorts) (IsOver cs) (placed sort t)
      (found_weaker (IsPlaced (IsWellSorted sorts) sort) (IsWellSorted sorts) (placed sort t) (λ u k. k.0) (is_placed (IsWellSorted sorts) laws.told (sorted_real laws.told sorts) sort t h.0))
      (found_weaker (IsPlaced (IsOver cs) sort) (IsOver cs) (placed sort t) (λ u k. k.0) (is_placed (IsOver cs) laws.told (placed_is_over laws.told cs) sort t h.1)))
      (both_found (IsWellSorted sorts) (IsOver cs) found (term_sorted laws.told sorts (body_scope s names sorts) body (body_scope_is names sorts))
      (over_live (parameters_from 0 names sorts) (parameters_over cs sorts 0 names) body)))
  definition_by_good name names (Some sorts) None body = tt
  definition_by_good name names None n body = tt

  definition_good : (name : List ℕ) (parameters : List Parameter) (sort : WrittenSort) (body : Expression) → IsGood s (definition_of s name parameters sort body)
  definition_good name parameters sort body =
      let names = parameter_names parameters in
      let made : Outcome = definition_by s name names (sorts_written (parameter_sorts parameters)) (sort_written sort) body in
      good_if s (list_any is_unknown_sort (parameter_sorts parameters) || is_unknown_sort sort || has_unknown (is_live_name s) names body) (refused unknown_symbol)
      (if is_live_name s name || clash names || has_clash body then refused already_declared else made) tt
      (good_if s (is_live_name s name || clash names || has_clash body) (refused already_declared) made tt
      (definition_by_good name names (sorts_written (parameter_sorts parameters)) (sort_written sort) body))

  asserted_by : (b : Bool) (t : Term) → has_sort bool_sort t ≡ b → IsWellSorted [] t × IsOver (constants_of s) t
      → IsGood s (if b then linear_outcome (is_linear (normal_of t)) (assert_term t) else refused wrong_sort)
  asserted_by true t e h = linear_good s (is_linear (normal_of t)) (assert_term t) (λ l. ((h.0, sym (laws.told.one bool_sort (sort_of t) e)), (h.1, l)))
  asserted_by false t e h = tt

  stated_good : (m : Option Term) → IfFound (λ t. IsWellSorted [] t × IsOver (constants_of s) t) m → IsGood s (elim m [ Some u ↦ asserted_outcome u | None ↦ refused wrong_sort ])
  stated_good (Some t) h = asserted_by (has_sort bool_sort t) t refl h
  stated_good None h = tt

  written_good : (e : Expression) → IfFound (λ t. IsWellSorted [] t × IsOver (constants_of s) t) (term_of (scope_of s) e)
  written_good e = both_found (IsWellSorted []) (IsOver (constants_of s)) (term_of (scope_of s) e) (term_sorted laws.told [] (scope_of s) e scope_is) (over_live [] tt e)

  assertion_good : (e : Expression) → IsGood s (assertion_of s e)
  assertion_good e =
      let stated : Outcome = elim (term_of (scope_of s) e) [ Some u ↦ asserted_outcome u | None ↦ refused wrong_sort ] in
      good_if s (has_unknown (is_live_name s) [] e) (refused unknown_symbol) (if has_clash e then refused already_declared else stated) tt
      (good_if s (has_clash e) (refused already_declared) stated tt (stated_good (term_of (scope_of s) e) (written_good e)))

  asked_good : (qs : List Question) (m : Option Terms) → IsGood s (elim m [ Some us ↦ linear_outcome (all_linear us) (get_value (asked_of qs us)) | None ↦ refused wrong_sort ])
  asked_good qs (Some us) = linear_good s (all_linear us) (get_value (asked_of qs us)) (λ l. tt)
  asked_good qs None = tt

  values_good : (qs : List Question) → IsGood s (values_asked s qs)
  values_good qs =
      let es = asked_expressions qs in
      let asked : Outcome = elim (terms_of (scope_of s) es) [ Some us ↦ linear_outcome (all_linear us) (get_value (asked_of qs us)) | None ↦ refused wrong_sort ] in
      good_if s (have_unknown (is_live_name s) [] es) (refused unknown_symbol) (if have_clash es then refused already_declared else asked) tt
      (good_if s (have_clash es) (refused already_declared) asked tt (asked_good qs (terms_of (scope_of s) es)))

  literals_good : (xs : List Assumption) → list_any (assumes_integer s) xs ≡ false → IfFound (AllByRecursion (IsAssumable s)) (assumed_literals s xs)
  literals_good [] e = tt
  literals_good (x ∷ xs) e =
      let f = or_parts (assumes_integer s x) (list_any (assumes_integer s) xs) e in
      let written = written_name x.name in
      literals_onto s (assumed_literal s x) (assumed_literals s xs)
      (one_taken laws s x.is_true (assumed_term s x) (term_sorted laws.told [] (scope_of s) written scope_is) (over_live [] tt written) (linear_name (constants_of s) (definitions_of s) (sorted_items s.levels sorted).bodies_linear x.name) f.0)
      (literals_good xs f.1)

  found_good : (m : Option (List Literal)) → IfFound (AllByRecursion (IsAssumable s)) m → IsGood s (elim m [ Some ls ↦ accepted (check_sat ls) | None ↦ refused wrong_sort ])
  found_good (Some ls) h = h
  found_good None h = tt

  check_good_by : (b : Bool) (xs : List Assumption) → (items_hold_integers (items_of s.levels) || list_any (assumes_integer s) xs) ≡ b
      → IsGood s (if b then not_taken else (if list_any (assumes_unknown s) xs then refused unknown_symbol else elim (assumed_literals s xs) [ Some ls ↦ accepted (check_sat ls) | None ↦ refused wrong_sort ]))
  check_good_by true xs e = tt
  check_good_by false xs e =
      let checked : Outcome = elim (assumed_literals s xs) [ Some ls ↦ accepted (check_sat ls) | None ↦ refused wrong_sort ] in
      good_if s (list_any (assumes_unknown s) xs) (refused unknown_symbol) checked tt
      (found_good (assumed_literals s xs) (literals_good xs (or_parts (items_hold_integers (items_of s.levels)) (list_any (assumes_integer s) xs) e).1))

  check_good : (xs : List Assumption) → IsGood s (check_under s xs)
  check_good xs = check_good_by (items_hold_integers (items_of s.levels) || list_any (assumes_integer s) xs) xs refl

  push_good : (n : Option ℕ) → IsGood s (push_of n)
  push_good (Some n) = tt
  push_good None = tt

  pop_good : (n : Option ℕ) → IsGood s (pop_of s n)
  pop_good (Some n) = good_if s (nat_lt (pushed_levels s) n) (refused below_zero) (accepted (pop_levels n)) tt tt
  pop_good None = tt

  info_good : (k : InfoKey) → IsGood s (info_asked k)
  info_good name_key = tt
  info_good version_key = tt
  info_good authors_key = tt
  info_good behavior_key = tt
  info_good levels_key = tt
  info_good reason_key = tt
  info_good other_key = tt

  option_good : (o : Setting) → IsGood s (option_set o)
  option_good (success_setting b) = tt
  option_good (models_setting b) = tt
  option_good (priority_setting lex_priority) = tt
  option_good (priority_setting box_priority) = tt
  option_good (priority_setting pareto_priority) = tt
  option_good other_setting = tt

  request_good : (r : Request) → IsGood s (outcome_by s r)
  request_good (declares name arguments sort) = declaration_good s name arguments sort
  request_good (defines name parameters sort body) = definition_good name parameters sort body
  request_good (asserts e) = assertion_good e
  request_good checks = good_if s (items_hold_integers (items_of s.levels)) not_taken (accepted (check_sat [])) tt tt
  request_good (checks_assuming xs) = check_good xs
  request_good (pushes n) = push_good n
  request_good (pops n) = pop_good n
  request_good resets = tt
  request_good resets_assertions = tt
  request_good shows_model = tt
  request_good (shows_values qs) = values_good qs
  request_good (shows_info k) = info_good k
  request_good (sets_option o) = option_good o
  request_good sets_nothing = tt
  request_good (echoes text) = tt
  request_good exits = tt
  request_good r = tt

  requested_good : (t : Tree) (r : Request) → IsGood s (outcome_requested s t r)
  requested_good t r =
      let narrow : Outcome = if has_token is_wide_token t then refused too_wide else outcome_by s r in
      good_if s (passes_limit s r || has_token is_long_decimal t) (refused past_limit) narrow tt (good_if s (has_token is_wide_token t) (refused too_wide) (outcome_by s r) tt (request_good r))

  parsed_good : (t : Tree) (m : Option Request) → IsGood s (elim m [ Some r ↦ outcome_requested s t r | None ↦ refused bad_syntax ])
  parsed_good t (Some r) = requested_good t r
  parsed_good t None = tt

  outcome_good : (t : Tree) → IsGood s (outcome_of s t)
  outcome_good t = parsed_good t (request_of t)

-- ---- States

first_sorted : IsSortedState start
first_sorted = (nothing_sorted, tt)

command_sorted : (s : State) (c : Command) (reply : Reply) → IsSortedState s → IsGoodCommand s c → IsSortedState (effect s c reply)
command_sorted s (declare_const c) reply sorted good = grown_sorted s (declared c) sorted (record { definitions = tt; assertions = tt; bodies_over = tt; assertions_over = tt; bodies_linear = tt; assertions_linear = tt })
command_sorted s (define d) reply sorted good = grown_sorted s (defined d) sorted (record { definitions = (good.0, tt); assertions = tt; bodies_over = (good.1.0, tt); assertions_over = tt; bodies_linear = (good.1.1, tt); assertions_linear = tt })
command_sorted s (assert_term t) reply sorted good = grown_sorted s (asserted t) sorted (record { definitions = tt; assertions = (good.0, tt); bodies_over = tt; assertions_over = (good.1.0, tt); bodies_linear = tt; assertions_linear = (good.1.1, tt) })
command_sorted s (push_levels n) reply sorted good = pushed_sorted n s.levels sorted
command_sorted s (pop_levels n) reply sorted good = popped_sorted n s.levels sorted
command_sorted s reset reply sorted good = first_sorted
command_sorted s reset_assertions reply sorted good = first_sorted
command_sorted s (check_sat assumed) reply sorted good = sorted
command_sorted s (set_print_success b) reply sorted good = sorted
command_sorted s c reply sorted good = sorted

effect_sorted : (s : State) (o : Outcome) (reply : Reply) → IsSortedState s → IsGood s o → IsSortedState (effect_of s o reply)
effect_sorted s (accepted c) reply sorted good = command_sorted s c reply sorted good
effect_sorted s (refused n) reply sorted good = sorted
effect_sorted s not_taken reply sorted good = sorted

tree_sorted : TermLaws → (s : State) (t : Tree) (reply : Reply) → IsSortedState s → IsSortedState (effect_of s (outcome_of s t) reply)
tree_sorted laws s t reply sorted = effect_sorted s (outcome_of s t) reply sorted (outcome_good laws s sorted t)

after_sorted : TermLaws → (s : State) (what : What) (reply : Reply) → IsSortedState s → IsSortedState (after s what reply)
after_sorted laws s (intact t) (error n) sorted = sorted
after_sorted laws s (intact t) reply sorted = tree_sorted laws s t reply sorted
after_sorted laws s what reply sorted = sorted

kept_sorted : TermLaws → (c : Context) (kept : List Kept) → IsSortedState c.state → IsSortedState (context_of c kept).state
kept_sorted laws c [] sorted = sorted
kept_sorted laws c (k ∷ ks) sorted = kept_sorted laws (context_after c k.heard.what k.reply) ks (after_sorted laws c.state k.heard.what k.reply sorted)

-- ---- Values

found_is : (m : Option Term) (t : Term) → IfFound (IsWellSorted []) m → m ≡ Some t → IsWellSorted [] t
found_is m t h e = subst (IfFound (IsWellSorted [])) e h

statements_are : SortsTell → (a : Assignment) → IsAssignment a → (ts : List Term) → AllByRecursion IsSortedAssertion ts → AllByRecursion (λ (t : Term). IsOfSort bool_sort (value_of a t)) ts
statements_are told a given [] h = tt
statements_are told a given (t ∷ ts) h = (subst (λ s. IsOfSort s (value_of a t)) h.0.1 (told.values a given [] t h.0.0), statements_are told a given ts h.1)

pub terms_have_their_sorts : TermLaws → TermsHaveTheirSorts
terms_have_their_sorts laws limit kept a given =
    let s = (context_of (beginning limit) kept).state in
    let sorted = kept_sorted laws (beginning limit) kept first_sorted in
    record {
      terms = λ written t e. laws.told.values a given [] t (found_is (term_of (scope_of s) written) t (term_sorted laws.told [] (scope_of s) written (scope_is laws s sorted)) e);
      assertions = statements_are laws.told a given (assertions_of s) (sorted_items s.levels sorted).assertions;
    }

-- ---- States that stay so

pub states_stay_sorted : TermLaws → StatesStaySorted
states_stay_sorted laws =
    record {
      start = first_sorted;
      by_command = λ s t c reply e sorted. command_sorted s c reply sorted (subst (IsGood s) e (outcome_good laws s sorted t));
      by_reply = after_sorted laws;
      in_context = λ limit kept. kept_sorted laws (beginning limit) kept first_sorted;
    }

each_gated : NormalTermsAreGated → (ts : List Term) → AllByRecursion IsSortedAssertion ts → AllByRecursion (λ (t : Term). holds_number t ≡ false → IsGated t) (map normal_of ts)
each_gated gated [] h = tt
each_gated gated (t ∷ ts) h = (gated t h.0.0, each_gated gated ts h.1)

pub assertions_are_gated : NormalTermsAreGated → AssertionsAreGated
assertions_are_gated gated s sorted = each_gated gated (assertions_of s) (sorted_items s.levels sorted).assertions

-- ---- Terms over live constants

pub assertions_are_over : AssertionsAreOver
assertions_are_over s sorted = (sorted_items s.levels sorted).assertions_over

pub assumptions_are_taken : TermLaws → AssumptionsAreTaken
assumptions_are_taken laws s sorted t ls e = subst (IsGood s) e (outcome_good laws s sorted t)
