-- The four clauses over two constants, and how many units a check of them has.
use Rattle.std.proofs.Common.{◌≡◌, [], ◌++◌, Contains, length, map, inl, inr, refl, ap, subst, arith, sym}
use Rattle.std.specs.Prelude.{true}
use Rattle.std.specs.List.{AllByRecursion}
use Rattle.std.proofs.lemmas.List.Elements.{All-from_recursion, All-nil, Contains-append_cases, Contains-append_left, Contains-push, Contains-push_cases}
use Rattle.nz_lists.proofs.Members.{by_each, each_of, has_none, map_from}
use Rattle.nz_spec.specs.terms.Term.{Term, apply, no_terms, terms}
use Rattle.nz_spec.specs.terms.Normal.{negated}
use Rattle.nz_spec.specs.terms.Order.{companions, listing_order, listing_orders}
use Rattle.nz_spec.specs.clauses.Literal.{Literal}
use Rattle.nz_spec.specs.clauses.Gates.{holds, IsGated}
use Rattle.nz_spec.specs.search.Search.{literals_asked, literals_held}
use Rattle.nz_spec.specs.laws.BooleanWork.{IsOfListed, IsBooleanTask, AreAllListed}
use Rattle.nz_spec.specs.worked.WorkedBooleans.{either, four_clauses, eight_terms, clauses_task, HasFourClauses}
use Rattle.nz_spec.specs.worked.TermSamples.{a_term}
use Rattle.nz_spec.specs.worked.TruthTables.{b_term}
use Rattle.nz_spec.proofs.BooleanListings.{boolean_listings_are_gated}
use Rattle.nz_spec.proofs.BooleanWork.{boolean_work_is_bounded}
use Rattle.nz_spec.proofs.FlatLists.{flat_from, flat_has}

gated_either : (t u : Term) → IsGated t → IsGated u → IsGated (either t u)
gated_either t u g h = (tt, (g, (h, tt)))

gated_negated : (t : Term) → IsGated t → IsGated (negated t)
gated_negated t g = (tt, (g, tt))

clauses_gated : AllByRecursion IsGated four_clauses
clauses_gated =
    let a : IsGated a_term = (refl, tt) in
    let b : IsGated b_term = (refl, tt) in
    let not_a = gated_negated a_term a in
    let not_b = gated_negated b_term b in (
      gated_either a_term b_term a b,
      (
        gated_either (negated a_term) b_term not_a b,
        (gated_either a_term (negated b_term) a not_b, (gated_either (negated a_term) (negated b_term) not_a not_b, tt)),
      ),
    )

listed_gated : (t : Term) → Contains clauses_task.listed t → IsGated t
listed_gated t has =
    let clause = flat_from listing_order four_clauses t has in
    boolean_listings_are_gated.parts clause.0 t (each_of IsGated four_clauses clauses_gated clause.0 clause.1) clause.2

-- a term is listed with itself
lists_itself : (t : Term) → Contains (listing_order t) t
lists_itself (apply h ts) = Contains-push (listing_orders ts ++ companions h ts) (apply h ts)

clause_asked : (l : Literal) → Contains (literals_asked clauses_task) l → IsOfListed clauses_task l
clause_asked l has =
    elim (Contains-append_cases (map holds four_clauses) [] l has) [
      | inl asserted ↦
          let (t, there, is) = map_from holds four_clauses l asserted in
          (t, true, flat_has listing_order four_clauses t t there (lists_itself t), sym is)
      | inr none ↦ absurd (has_none l none)
    ]

clauses_boolean : IsBooleanTask clauses_task
clauses_boolean = record {
  goals = refl;
  gated = All-from_recursion IsGated clauses_task.listed (by_each IsGated clauses_task.listed listed_gated);
  asked = All-from_recursion (IsOfListed clauses_task) (literals_asked clauses_task) (by_each (IsOfListed clauses_task) (literals_asked clauses_task) clause_asked);
  constants = λ none. let four : 4 ≡ 0 = ap length none in absurd (omega (arith, four));
}

-- the terms of each clause
each_listed : (t u : Term) → AllByRecursion (Contains eight_terms) (listing_order t) → AllByRecursion (Contains eight_terms) (listing_order u)
    → Contains eight_terms (either t u) → AllByRecursion (Contains eight_terms) (listing_order (either t u))
each_listed t u h k own = by_each (Contains eight_terms) (listing_order (either t u)) listed
  where
    part : (v : Term) → Contains (listing_orders (terms t (terms u no_terms))) v → Contains eight_terms v
    part v has =
        elim (Contains-append_cases (listing_order t) (listing_order u ++ []) v has) [
          | inl first ↦ each_of (Contains eight_terms) (listing_order t) h v first
          | inr second ↦ elim (Contains-append_cases (listing_order u) [] v second) [
            | inl there ↦ each_of (Contains eight_terms) (listing_order u) k v there
            | inr none ↦ absurd (has_none v none)
          ]
        ]

    listed : (v : Term) → Contains (listing_order (either t u)) v → Contains eight_terms v
    listed v has =
        elim (Contains-push_cases (listing_orders (terms t (terms u no_terms)) ++ []) (either t u) v has) [
          | inl before ↦ elim (Contains-append_cases (listing_orders (terms t (terms u no_terms))) [] v before) [ inl argument ↦ part v argument | inr none ↦ absurd (has_none v none) ]
          | inr is ↦ subst (Contains eight_terms) is own
        ]

all_eight : AreAllListed clauses_task eight_terms
all_eight t has =
    let a : AllByRecursion (Contains eight_terms) (listing_order a_term) = ((0, omega arith, refl), tt) in
    let b : AllByRecursion (Contains eight_terms) (listing_order b_term) = ((1, omega arith, refl), tt) in
    let not_a : AllByRecursion (Contains eight_terms) (listing_order (negated a_term)) = ((0, omega arith, refl), ((3, omega arith, refl), tt)) in
    let not_b : AllByRecursion (Contains eight_terms) (listing_order (negated b_term)) = ((1, omega arith, refl), ((5, omega arith, refl), tt)) in
    let each : AllByRecursion (λ (c : Term). AllByRecursion (Contains eight_terms) (listing_order c)) four_clauses = (
      each_listed a_term b_term a b (2, omega arith, refl),
      (
        each_listed (negated a_term) b_term not_a b (4, omega arith, refl),
        (
          each_listed a_term (negated b_term) a not_b (6, omega arith, refl),
          (each_listed (negated a_term) (negated b_term) not_a not_b (7, omega arith, refl), tt),
        ),
      ),
    ) in
    let clause = flat_from listing_order four_clauses t has in
    each_of (Contains eight_terms) (listing_order clause.0)
    (each_of (λ (c : Term). AllByRecursion (Contains eight_terms) (listing_order c)) four_clauses each clause.0 clause.1) t clause.2

first_asked : Contains (map holds four_clauses) (holds (either a_term b_term))
first_asked = (0, omega arith, refl)

pub four_clauses_bounded : HasFourClauses
four_clauses_bounded = record {
  boolean = clauses_boolean;
  eight = all_eight;
  units = λ lines legal. boolean_work_is_bounded.units clauses_task eight_terms lines clauses_boolean all_eight legal (All-nil _);
  asserted = λ s x y atom sign side is may.
      may.0.free side (subst (Contains (literals_held clauses_task s)) (sym is) (Contains-append_left (map holds four_clauses) s.under _ first_asked));
  spent = λ work h. boolean_work_is_bounded.spent clauses_task eight_terms work clauses_boolean all_eight h;
}
