-- What a check over Booleans alone is asked is a task over Booleans, so that it has few units.
use Rattle.std.proofs.Common.{◌≡◌, ◌⊎◌, ℕ, ◌≤◌, true, false, List, [], ◌∷◌, ◌++◌, All, Contains, map, flat_map, inl, inr, refl, sym, ap, ◌∙◌, subst, true≢false}
use Rattle.std.specs.List.{AllByRecursion}
use Rattle.std.proofs.lemmas.List.Elements.{All-contains, All-from_recursion, Contains-append_cases, Contains-append_left, Contains-append_right, Contains-push}
use Rattle.nz_lists.proofs.Members.{by_each, each_of, has_cases, has_first, has_more, has_none, map_from, map_has}
use Rattle.nz_script.specs.text.Tree.{Tree}
use Rattle.nz_spec.specs.terms.Term.{Sort, bool_sort, int_sort, real_sort, is_bool, constant, Term, apply, no_terms, terms}
use Rattle.nz_spec.specs.terms.Normal.{normal_of, negated}
use Rattle.nz_spec.specs.terms.Order.{companions, listing_order, listing_orders, AreFirst}
use Rattle.nz_spec.specs.terms.WellSorted.{IsSortedAssertion}
use Rattle.nz_spec.specs.clauses.Literal.{Literal, term_literal, is_at_most, is_below}
use Rattle.nz_spec.specs.clauses.Gates.{is_boolean_term, holds, IsGated}
use Rattle.nz_spec.specs.search.Work.{WorkList}
use Rattle.nz_spec.specs.search.Notes.{Note}
use Rattle.nz_spec.specs.search.Search.{Task, literals_asked}
use Rattle.nz_spec.specs.laws.BooleanWork as of_work
use Rattle.nz_spec.specs.laws.BooleanWork.{IsConstantTerm, IsOfListed, IsBooleanTask, work_over, BooleanWorkIsBounded, BooleanWorkIsNeverStopped, BooleanListingsAreGated}
use Rattle.nz_script.specs.live.Live.{State, Reason, Item, declared, defined, asserted, sought, wished, item_terms, items_of, assertions_in, assertions_of}
use Rattle.nz_script.specs.live.TermList.{terms_added}
use Rattle.nz_script.specs.commands.Command.{check_sat, accepted}
use Rattle.nz_script.specs.commands.Script.{outcome_of}
use Rattle.nz_script.specs.replies.Reply.{unknown, Cause, plain, spent, stopped}
use Rattle.nz_script.specs.replies.Right.{Context, beginning, normals_in, normal_literal, task_of, IsRightCheck, context_after}
use Rattle.nz_script.specs.run.Transcript.{Kept, context_of}
use Rattle.nz_script.specs.laws.Sorts.{IsSortedState, StatesStaySorted, IsAssumable, AssumptionsAreTaken}
use Rattle.nz_script.specs.laws.BooleanChecks.{IsStated, ListsBooleans, BooleanChecksAreAnswered}
use Rattle.nz_script.proofs.SortedStates.{sorted_items}

-- ---- Lists

module _ {A B : Type 0} (f : A → List B) where
  flat_from : (xs : List A) (y : B) → Contains (flat_map f xs) y → (x : A) × Contains xs x × Contains (f x) y
  flat_from [] y has = absurd (has_none y has)
  flat_from (x ∷ xs) y has =
      elim (Contains-append_cases (f x) (flat_map f xs) y has) [
        | inl here ↦ (x, has_first x xs, here)
        | inr there ↦ let found = flat_from xs y there in (found.0, has_more x found.0 xs found.1, found.2)
      ]

  flat_has : (xs : List A) (x : A) (y : B) → Contains xs x → Contains (f x) y → Contains (flat_map f xs) y
  flat_has [] x y has own = absurd (has_none x has)
  flat_has (z ∷ xs) x y has own =
      elim (has_cases z x xs has) [
        | inl is ↦ Contains-append_left (f z) (flat_map f xs) y (subst (λ w. Contains (f w) y) (sym is) own)
        | inr later ↦ Contains-append_right (f z) (flat_map f xs) y (flat_has xs x y later own)
      ]

-- each term stands in the list of first ones, or was seen before
first_has : (seen all list : List Term) → AreFirst seen all list → (t : Term) → Contains all t → Contains seen t ⊎ Contains list t
first_has seen [] list first t has = absurd (has_none t has)
first_has seen (x ∷ xs) list (inl (known, rest)) t has =
    elim (has_cases x t xs has) [
      | inl is ↦ inl (subst (Contains seen) is known)
      | inr more ↦ first_has seen xs list rest t more
    ]
first_has seen (x ∷ xs) list (inr (new, later, is_list, rest)) t has =
    elim (has_cases x t xs has) [
      | inl is ↦ inr (subst (λ (ts : List Term). Contains ts t) (sym is_list) (subst (Contains (x ∷ later)) is (has_first x later)))
      | inr more ↦ elim (first_has (x ∷ seen) xs later rest t more) [
        | inl before ↦ elim (has_cases x t seen before) [
          | inl is ↦ inr (subst (λ (ts : List Term). Contains ts t) (sym is_list) (subst (Contains (x ∷ later)) is (has_first x later)))
          | inr old ↦ inl old
        ]
        | inr there ↦ inr (subst (λ (ts : List Term). Contains ts t) (sym is_list) (has_more x t later there))
      ]
    ]

boolean_sort : (s : Sort) → is_bool s ≡ true → s ≡ bool_sort
boolean_sort bool_sort e = refl
boolean_sort int_sort e = absurd (true≢false (sym e))
boolean_sort real_sort e = absurd (true≢false (sym e))

-- ---- Listings

lists_itself : (t : Term) → Contains (listing_order t) t
lists_itself (apply h ts) = Contains-push (listing_orders ts ++ companions h ts) (apply h ts)

-- a negation lists what its argument does
negation_lists : (t u : Term) → Contains (listing_order t) u → Contains (listing_order (negated t)) u
negation_lists t u has =
    let ts = terms t no_terms in
    Contains-append_left (listing_orders ts ++ []) (negated t ∷ []) u
    (Contains-append_left (listing_orders ts) [] u (Contains-append_left (listing_order t) [] u has))

asserted_item : (items : List Item) (t : Term) → Contains (assertions_in items) t → Contains items (asserted t)
asserted_item [] t has = absurd (has_none t has)
asserted_item (asserted u ∷ items) t has =
    elim (has_cases u t (assertions_in items) has) [
      | inl is ↦ subst (λ (v : Term). Contains (asserted u ∷ items) (asserted v)) is (has_first (asserted u) items)
      | inr more ↦ has_more (asserted u) (asserted t) items (asserted_item items t more)
    ]
asserted_item (declared c ∷ items) t has = has_more (declared c) (asserted t) items (asserted_item items t has)
asserted_item (defined d ∷ items) t has = has_more (defined d) (asserted t) items (asserted_item items t has)
asserted_item (sought g ∷ items) t has = has_more (sought g) (asserted t) items (asserted_item items t has)
asserted_item (wished w ∷ items) t has = has_more (wished w) (asserted t) items (asserted_item items t has)

asserted_among : (items : List Item) (t : Term) → Contains items (asserted t) → Contains (assertions_in items) t
asserted_among [] t has = absurd (has_none (asserted t) has)
asserted_among (asserted u ∷ items) t has =
    elim (has_cases (asserted u) (asserted t) items has) [
      | inl is ↦ subst (Contains (u ∷ assertions_in items)) (same_asserted u t is) (has_first u (assertions_in items))
      | inr more ↦ has_more u t (assertions_in items) (asserted_among items t more)
    ]
  where
    same_asserted : (u t : Term) → asserted u ≡ asserted t → u ≡ t
    same_asserted u t e = cc
asserted_among (declared c ∷ items) t has = elim (has_cases (declared c) (asserted t) items has) [ inl is ↦ cc | inr more ↦ asserted_among items t more ]
asserted_among (defined d ∷ items) t has = elim (has_cases (defined d) (asserted t) items has) [ inl is ↦ cc | inr more ↦ asserted_among items t more ]
asserted_among (sought g ∷ items) t has = elim (has_cases (sought g) (asserted t) items has) [ inl is ↦ cc | inr more ↦ asserted_among items t more ]
asserted_among (wished w ∷ items) t has = elim (has_cases (wished w) (asserted t) items has) [ inl is ↦ cc | inr more ↦ asserted_among items t more ]

-- ---- The task of a check

abbrev roots_of : State → List Literal → List Term
roots_of s assumed = flat_map item_terms (items_of s.levels) ++ flat_map normals_in assumed

module _ (listings : BooleanListingsAreGated) (c : Context) (assumed : List Literal) (ts : List Term) (sorted : IsSortedState c.state)
    (assumable : AllByRecursion (IsAssumable c.state) assumed) (check : ListsBooleans c.state assumed ts) where
  abbrev s : State
  s = c.state

  abbrev q : Task
  q = task_of c assumed

  all_listed : (t : Term) → Contains q.listed t → Contains ts t
  all_listed t has = elim (first_has [] (terms_added s (flat_map normals_in assumed)) ts check.listed t has) [ inl none ↦ absurd (has_none t none) | inr there ↦ there ]

  listed_boolean : (t : Term) → Contains q.listed t → is_boolean_term t ≡ true
  listed_boolean t has = All-contains (λ (u : Term). is_boolean_term u ≡ true) ts t check.boolean (all_listed t has)

  root_listed : (r t : Term) → Contains (roots_of s assumed) r → Contains (listing_order r) t → Contains q.listed t
  root_listed r t root has = flat_has listing_order (roots_of s assumed) r t root has

  -- all that is listed with a root, or with what is listed with it, is Boolean
  lists_booleans : (r t : Term) → Contains (roots_of s assumed) r → ((u : Term) → Contains (listing_order t) u → Contains (listing_order r) u) → of_work.ListsBooleans t
  lists_booleans r t root within =
      All-from_recursion (λ (u : Term). is_boolean_term u ≡ true) (listing_order t)
      (by_each (λ (u : Term). is_boolean_term u ≡ true) (listing_order t) (λ u has. listed_boolean u (root_listed r u root (within u has))))

  item_root : (i : Item) (r : Term) → Contains (items_of s.levels) i → Contains (item_terms i) r → Contains (roots_of s assumed) r
  item_root i r has own = Contains-append_left (flat_map item_terms (items_of s.levels)) (flat_map normals_in assumed) r (flat_has item_terms (items_of s.levels) i r has own)

  assumed_root : (l : Literal) (r : Term) → Contains assumed l → Contains (normals_in l) r → Contains (roots_of s assumed) r
  assumed_root l r has own = Contains-append_right (flat_map item_terms (items_of s.levels)) (flat_map normals_in assumed) r (flat_has normals_in assumed l r has own)

  sole : (t r : Term) → Contains (t ∷ []) r → t ≡ r
  sole t r has = elim (has_cases t r [] has) [ inl is ↦ is | inr none ↦ absurd (has_none r none) ]

  item_gated : (i : Item) → IsStated i → Contains (items_of s.levels) i → (r : Term) → Contains (item_terms i) r → IsGated r
  item_gated (declared k) stated has r own =
      let is = sole (apply (constant k) no_terms) r own in
      let root = item_root (declared k) r has own in
      let boolean = listed_boolean r (root_listed r r root (lists_itself r)) in
      subst IsGated is (boolean_sort k.sort (subst (λ (u : Term). is_boolean_term u ≡ true) (sym is) boolean), tt)
  item_gated (defined d) stated has r own = absurd (has_none r own)
  item_gated (asserted u) stated has r own =
      let is = sole (normal_of u) r own in
      let root = item_root (asserted u) (normal_of u) has (has_first (normal_of u) []) in
      let well = each_of IsSortedAssertion (assertions_of s) (sorted_items s.levels sorted).assertions u (asserted_among (items_of s.levels) u has) in
      subst IsGated is (listings.normal u well.0 (lists_booleans (normal_of u) (normal_of u) root (λ v there. there)))
  item_gated (sought g) stated has r own = absurd stated
  item_gated (wished w) stated has r own = absurd stated

  literal_gated : (l : Literal) → IsAssumable s l → Contains assumed l → (r : Term) → Contains (normals_in l) r → IsGated r
  literal_gated (term_literal t true) may has r own =
      let is = sole (normal_of t) r own in
      let root = assumed_root (term_literal t true) (normal_of t) has (has_first (normal_of t) []) in
      subst IsGated is (listings.taken (normal_of t) may.1.taken (lists_booleans (normal_of t) (normal_of t) root (λ v there. there)))
  literal_gated (term_literal t false) may has r own =
      let is = sole (negated (normal_of t)) r own in
      let root = assumed_root (term_literal t false) (negated (normal_of t)) has (has_first (negated (normal_of t)) []) in
      let gated = listings.taken (normal_of t) may.1.taken (lists_booleans (negated (normal_of t)) (normal_of t) root (negation_lists (normal_of t))) in
      subst IsGated is (tt, (gated, tt))
  literal_gated (is_at_most ps b) may has r own = absurd may
  literal_gated (is_below ps b) may has r own = absurd may

  root_gated : (r : Term) → Contains (roots_of s assumed) r → IsGated r
  root_gated r root =
      elim (Contains-append_cases (flat_map item_terms (items_of s.levels)) (flat_map normals_in assumed) r root) [
        | inl of_item ↦
            let (i, has, own) = flat_from item_terms (items_of s.levels) r of_item in
            item_gated i (each_of IsStated (items_of s.levels) check.stated i has) has r own
        | inr of_literal ↦
            let (l, has, own) = flat_from normals_in assumed r of_literal in
            literal_gated l (each_of (IsAssumable s) assumed assumable l has) has r own
      ]

  listed_gated : (t : Term) → Contains q.listed t → IsGated t
  listed_gated t has =
      let (r, root, own) = flat_from listing_order (roots_of s assumed) t has in
      listings.parts r t (root_gated r root) own

  assumed_listed : (l : Literal) → IsAssumable s l → Contains assumed l → IsOfListed q (normal_literal l)
  assumed_listed (term_literal t true) may has =
      (normal_of t, true, root_listed (normal_of t) (normal_of t) (assumed_root (term_literal t true) (normal_of t) has (has_first (normal_of t) [])) (lists_itself (normal_of t)), refl)
  assumed_listed (term_literal t false) may has =
      let root = assumed_root (term_literal t false) (negated (normal_of t)) has (has_first (negated (normal_of t)) []) in
      (normal_of t, false, root_listed (negated (normal_of t)) (normal_of t) root (negation_lists (normal_of t) (normal_of t) (lists_itself (normal_of t))), refl)
  assumed_listed (is_at_most ps b) may has = absurd may
  assumed_listed (is_below ps b) may has = absurd may

  asked_listed : (l : Literal) → Contains (literals_asked q) l → IsOfListed q l
  asked_listed l has =
      elim (Contains-append_cases (map holds q.asserted) q.assumed l has) [
        | inl of_assertion ↦
            let (n, normal, is) = map_from holds q.asserted l of_assertion in
            let (u, live, of) = map_from normal_of (assertions_of s) n normal in
            let root = item_root (asserted u) (normal_of u) (asserted_item (items_of s.levels) u live) (has_first (normal_of u) []) in
            (normal_of u, true, root_listed (normal_of u) (normal_of u) root (lists_itself (normal_of u)), sym is ∙ ap holds (sym of))
        | inr of_assumption ↦
            let (m, there, is) = map_from normal_literal assumed l of_assumption in
            subst (IsOfListed q) is (assumed_listed m (each_of (IsAssumable s) assumed assumable m there) there)
      ]

  -- Where nothing is asked for, nothing is asserted or assumed.
  none_asked : literals_asked q ≡ [] → (l : Literal) → Contains (literals_asked q) l → ⊥
  none_asked none l has = has_none l (subst (λ (ls : List Literal). Contains ls l) none has)

  item_constant : literals_asked q ≡ [] → (i : Item) → IsStated i → Contains (items_of s.levels) i → (r : Term) → Contains (item_terms i) r → IsConstantTerm r
  item_constant none (declared k) stated has r own = (k, sym (sole (apply (constant k) no_terms) r own))
  item_constant none (defined d) stated has r own = absurd (has_none r own)
  item_constant none (asserted u) stated has r own =
      absurd (none_asked none (holds (normal_of u))
      (Contains-append_left (map holds q.asserted) q.assumed (holds (normal_of u))
      (map_has holds q.asserted (normal_of u) (map_has normal_of (assertions_of s) u (asserted_among (items_of s.levels) u has)))))
  item_constant none (sought g) stated has r own = absurd stated
  item_constant none (wished w) stated has r own = absurd stated

  root_constant : literals_asked q ≡ [] → (r : Term) → Contains (roots_of s assumed) r → IsConstantTerm r
  root_constant none r root =
      elim (Contains-append_cases (flat_map item_terms (items_of s.levels)) (flat_map normals_in assumed) r root) [
        | inl of_item ↦
            let (i, has, own) = flat_from item_terms (items_of s.levels) r of_item in
            item_constant none i (each_of IsStated (items_of s.levels) check.stated i has) has r own
        | inr of_literal ↦
            let (l, has, own) = flat_from normals_in assumed r of_literal in
            absurd (none_asked none (normal_literal l) (Contains-append_right (map holds q.asserted) q.assumed (normal_literal l) (map_has normal_literal assumed l has)))
      ]

  listed_constant : literals_asked q ≡ [] → (t : Term) → Contains q.listed t → IsConstantTerm t
  listed_constant none t has =
      let (r, root, own) = flat_from listing_order (roots_of s assumed) t has in
      let (k, is) = root_constant none r root in
      (k, sym (sole (apply (constant k) no_terms) t (subst (λ (u : Term). Contains (listing_order u) t) is own)))

  boolean_task : IsBooleanTask q
  boolean_task = record {
    goals = refl;
    gated = All-from_recursion IsGated q.listed (by_each IsGated q.listed listed_gated);
    asked = All-from_recursion (IsOfListed q) (literals_asked q) (by_each (IsOfListed q) (literals_asked q) asked_listed);
    constants = λ none. All-from_recursion IsConstantTerm q.listed (by_each IsConstantTerm q.listed (listed_constant none));
  }

-- the limit stays
same_limit : (c : Context) (kept : List Kept) → (context_of c kept).limit ≡ c.limit
same_limit c [] = refl
same_limit c (k ∷ ks) = same_limit (context_after c k.heard.what k.reply) ks

-- What the laws say, as the lemmas take it.
pub record CheckLaws : Type 0 where
  pub bounded : BooleanWorkIsBounded
  pub never : BooleanWorkIsNeverStopped
  pub listings : BooleanListingsAreGated
  pub stay : StatesStaySorted
  pub taken : AssumptionsAreTaken

module _ (laws : CheckLaws) (limit : ℕ) (kept : List Kept) (t : Tree) (assumed : List Literal) (ts : List Term) (r : Reason) where
  abbrev here : Context
  here = context_of (beginning limit) kept

  abbrev IsAccepted : Type 0
  IsAccepted = outcome_of here.state t ≡ accepted (check_sat assumed)

  sorted : IsSortedState here.state
  sorted = laws.stay.in_context limit kept

  task_boolean : IsAccepted → ListsBooleans here.state assumed ts → IsBooleanTask (task_of here assumed)
  task_boolean accepts check = boolean_task laws.listings here assumed ts sorted (laws.taken here.state sorted t assumed accepts) check

  spent_below : (work : WorkList Note) → IsAccepted → ListsBooleans here.state assumed ts → IsRightCheck here assumed (unknown r) (spent work) → limit ≤ work_over ts
  spent_below work accepts check right =
      let assumable = laws.taken here.state sorted t assumed accepts in
      let limited : work.limit ≡ limit = right.1 ∙ same_limit (beginning limit) kept in
      subst (λ (n : ℕ). n ≤ work_over ts) limited
      (laws.bounded.spent (task_of here assumed) ts work (task_boolean accepts check) (all_listed laws.listings here assumed ts sorted assumable check) right.2)

  any_below : (cause : Cause) → IsAccepted → ListsBooleans here.state assumed ts → All IsGated here.earlier → IsRightCheck here assumed (unknown r) cause → limit ≤ work_over ts
  any_below plain accepts check earlier right = absurd right
  any_below (spent work) accepts check earlier right = spent_below work accepts check right
  any_below (stopped place work) accepts check earlier right =
      absurd (laws.never (task_of here assumed) work place (task_boolean accepts check) earlier refl right.2)

pub boolean_checks_are_answered : CheckLaws → BooleanChecksAreAnswered
boolean_checks_are_answered laws = record {
  units = λ limit kept t assumed ts r work accepts check right. spent_below laws limit kept t assumed ts r work accepts check right;
  any = λ limit kept t assumed ts r cause accepts check earlier right. any_below laws limit kept t assumed ts r cause accepts check earlier right;
}
