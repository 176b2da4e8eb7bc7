-- A fraction for the infinitesimal: the least of 1 and what the values of all forms and their bounds allow.
use Rattle.std.proofs.Common.{◌≡◌, ℕ, zero, suc, ◌+◌, ◌<◌, ◌≤◌, ◌⊎◌, inl, inr, Bool, true, false, List, [], ◌∷◌, ◌++◌, length, Option, Some, None, pos, refl, sym, ap, ◌∙◌, subst, true≢false, arith, append-nil}
use Rattle.std.specs.Prelude.{Contains, IsSome, option_map, unwrap_or, if◌then◌else◌}
use Rattle.std.proofs.lemmas.Option.{slice_get-get_or, slice_get-map}
use Rattle.std.proofs.lemmas.Int.{ints}
use Rattle.std.proofs.lemmas.List.{length-map}
use Rattle.std.proofs.lemmas.List.Elements.{All-contains, All-from_recursion, Contains-append_cases, Contains-append_left, Contains-append_right}
use Rattle.nz_lists.proofs.Members.{by_each, has_cases, has_first, has_more, has_none}
use Rattle.nz_lists.proofs.Numbers.{same_or_below}
use Rattle.nz_fractions.specs.Fraction.{Fraction, IsNumber, Operation, Product, Sum, first_wide, fraction_lt, outcome, whole, ◌=ℚ◌, ◌≤ℚ◌, ◌<ℚ◌, ◌+ℚ◌, ◌*ℚ◌}
use Rattle.nz_fractions.proofs.Arithmetic.{+ℚ-same, outcome-product, outcome-sum}
use Rattle.nz_fractions.proofs.Laws.{lowest-same, ≤ℚ-from_lt, ≤ℚ_refl, ≤ℚ_trans, =ℚ_refl, =ℚ_trans}
use Rattle.nz_spec.specs.simplex.Bland as bland
use Rattle.nz_spec.specs.simplex.Bland.{HasValue, IsOutside, IsWithinBounds, Point, Position, PositionsHaveValues, bound_on, lower_side, upper_side, zero_infinitesimal}
use Rattle.nz_spec.specs.terms.Form as spec
use Rattle.nz_spec.specs.terms.Form.{unit_form}
use Rattle.nz_spec.specs.numbers.Infinitesimal.{Infinitesimal, InfinitesimalsAreOrdered, IsLeastLimit, Pair, at, delta_operations, is_limiting, limit, limit_operations, limits, ◌≤δ◌}
use Rattle.nz_spec.specs.clauses.Literal.{Literal}
use Rattle.nz_spec.specs.simplex.LiteralBounds.{position_under}
use Rattle.nz_spec.specs.search.Places.{IsChosen, IsOfLimit, IsOfModel, IsOperationIn, IsPairOf, in_order}
use Rattle.nz_spec.specs.simplex.Climb.{unit_of}
use Rattle.nz_spec.specs.terms.Table.{HasItsArguments, Node, TermOfNode, term_in, terms_at}
use Rattle.nz_spec.specs.terms.Term.{Head, Term, apply, constant}
use Rattle.nz_spec.specs.laws.ToldBounds.{AreNumbers}
use Rattle.nz_frac.specs.Operations.{operation_of}
use Rattle.nz_delta.specs.declared.delta.Delta.{Delta}
use Rattle.nz_delta.specs.DeltaSpace.{infinitesimal_of}
use Rattle.nz_delta.specs.Pairs.{pair_of}
use Rattle.nz_lin.specs.Forms.{parts_over}
use Rattle.nz_trail.specs.declared.limits.Side.{Side}
use Rattle.nz_trail.specs.declared.limits.Side.TheVariants.{Lower, Upper}
use Rattle.nz_place.specs.declared.place.Place.{Place}
use Rattle.nz_place.specs.declared.place.Site.{Site}
use Rattle.nz_place.specs.Places as places
use Rattle.nz_search.specs.declared.stop.Stop.{Stop}
use Rattle.nz_search.specs.declared.stop.Stop.TheVariants.{Wide, Spent, Memory}
use Rattle.nz_place.specs.Places.{IsPlaceIn, IsSiteWithin, site_of}
use Rattle.nz_search.specs.Places.{OnWide}
use Rattle.nz_simplex.specs.Checks as checks
use Rattle.nz_simplex.specs.Standing.{bound_in, half}
use Rattle.nz_simplex.specs.State.{IsOver, IsSound, State, position_over, value_in}
use Rattle.nz_tab.specs.Laws.{UnitsAreForms}
use Rattle.nz_reals.specs.Constants.{AreMarkedAmong, IsRealConstant}
use Rattle.nz_reals.specs.Limits.{HasValues, IsLimitPlace, IsModelPlace, IsModelPlaceIn, IsPlaceOfValues, listed, pair_on, pairs_below, pairs_of, value_of}
use Rattle.nz_reals.specs.Stands.{IsAt}
use Rattle.nz_reals.specs.State.{Theory, sum_at}
use Rattle.nz_reals.proofs.TheoryPositions.{position_is}

-- ---- Tests

lt_so : (p q : Fraction) → fraction_lt p q ≡ true → p <ℚ q
unfolding fraction_lt
lt_so p q e = record { cross = omega (arith, ints, e) }

lt_not : (p q : Fraction) → fraction_lt p q ≡ false → q ≤ℚ p
unfolding fraction_lt
lt_not p q e = record { cross = omega (arith, ints, e) }

-- ---- The lesser of two least limits

limits_joined : (ps qs : List Pair) → limits (ps ++ qs) ≡ limits ps ++ limits qs
unfolding limits
limits_joined [] qs = refl
limits_joined (p ∷ ps) qs = by_test (is_limiting p) (limits_joined ps qs)
  where
    by_test : (b : Bool) → limits (ps ++ qs) ≡ limits ps ++ limits qs → (if b then limit p ∷ limits (ps ++ qs) else limits (ps ++ qs)) ≡ (if b then limit p ∷ limits ps else limits ps) ++ limits qs
    by_test true h = ap (λ l. limit p ∷ l) h
    by_test false h = h

module _ (ps qs : List Pair) where
  abbrev one : Fraction
  one = whole (pos 1)

  in_first : (e : Fraction) → Contains (one ∷ limits ps) e → Contains (one ∷ limits (ps ++ qs)) e
  in_first e has = subst (λ l. Contains (one ∷ l) e) (sym (limits_joined ps qs)) (Contains-append_left (one ∷ limits ps) (limits qs) e has)

  in_second : (e : Fraction) → Contains (one ∷ limits qs) e → Contains (one ∷ limits (ps ++ qs)) e
  in_second e has =
      elim (has_cases one e (limits qs) has) [
        | inl same ↦ subst (Contains (one ∷ limits (ps ++ qs))) same (has_first one (limits (ps ++ qs)))
        | inr more ↦ subst (λ l. Contains (one ∷ l) e) (sym (limits_joined ps qs)) (Contains-append_right (one ∷ limits ps) (limits qs) e more)
      ]

  in_either : (e : Fraction) → Contains (one ∷ limits (ps ++ qs)) e → Contains (one ∷ limits ps) e ⊎ Contains (one ∷ limits qs) e
  in_either e has =
      elim (Contains-append_cases (one ∷ limits ps) (limits qs) e (subst (λ l. Contains (one ∷ l) e) (limits_joined ps qs) has)) [
        | inl left ↦ inl left
        | inr right ↦ inr (has_more one e (limits qs) right)
      ]

  module _ (a b : Fraction) (h : IsLeastLimit ps a) (k : IsLeastLimit qs b) where
    least : (e : Fraction) → e ≤ℚ a → e ≤ℚ b → Contains (one ∷ limits (ps ++ qs)) e → IsLeastLimit (ps ++ qs) e
    least e first second has = record {
      at_most =
          All-from_recursion (λ (q : Fraction). e ≤ℚ q) (one ∷ limits (ps ++ qs))
          (by_each (λ (q : Fraction). e ≤ℚ q) (one ∷ limits (ps ++ qs)) (λ q there.
          elim (in_either q there) [
            | inl left ↦ ≤ℚ_trans first (All-contains (λ (x : Fraction). a ≤ℚ x) (one ∷ limits ps) q h.at_most left)
            | inr right ↦ ≤ℚ_trans second (All-contains (λ (x : Fraction). b ≤ℚ x) (one ∷ limits qs) q k.at_most right)
          ]));
      reached = has;
    }

    pub lesser_least : IsLeastLimit (ps ++ qs) (if fraction_lt b a then b else a)
    lesser_least = by_test (fraction_lt b a) refl
      where
        by_test : (t : Bool) → fraction_lt b a ≡ t → IsLeastLimit (ps ++ qs) (if t then b else a)
        by_test true e = least b (≤ℚ-from_lt (lt_so b a e)) (≤ℚ_refl b) (in_second b k.reached)
        by_test false e = least a (≤ℚ_refl a) (lt_not b a e) (in_first a h.reached)

-- with no pair it is 1
pub one_least : (e : Fraction) → e ≡ whole (pos 1) → IsLeastLimit [] e
unfolding limits
one_least e is =
    subst (IsLeastLimit []) (sym is) (record {
      at_most = All-from_recursion (λ (q : Fraction). whole (pos 1) ≤ℚ q) (whole (pos 1) ∷ []) (≤ℚ_refl (whole (pos 1)), tt);
      reached = has_first (whole (pos 1)) [];
    })

-- the first operation that leaves the numbers is that of the limit, which the pair sets
pub limit_stop : (pair : Pair) (op : Operation) → Some op ≡ first_wide (delta_operations (pair ∷ [])) → (is_limiting pair ≡ true) × (first_wide (limit_operations pair) ≡ Some op)
unfolding delta_operations first_wide
limit_stop pair op e = by_test (is_limiting pair) refl (sym e)
  where
    by_test : (b : Bool) → is_limiting pair ≡ b → first_wide (if b then limit_operations pair ++ [] else []) ≡ Some op → (is_limiting pair ≡ true) × (first_wide (limit_operations pair) ≡ Some op)
    by_test true limits f = (limits, ap first_wide (sym (append-nil (limit_operations pair))) ∙ f)
    by_test false limits f = absurd cc

-- ---- Bounds and values

-- a bound that stands, as a pair
pub pair_is : (t : Theory) (k : ℕ) (side : Side) (o : Option Infinitesimal) → bound_in t.simplex.asserted side k ≡ o → pair_on t k side ≡ option_map (λ (b : Infinitesimal). in_order (half side) b (value_of t k)) o
pair_is t k side o e = ap (option_map (λ (b : Infinitesimal). in_order (half side) b (value_of t k))) e

-- the pair that the code makes of a bound and a value
pub one_pair : (t : Theory) (k : ℕ) (side : Side) (bound value : Delta) (pair : Delta × Delta) → Some (infinitesimal_of bound) ≡ bound_in t.simplex.asserted side k → infinitesimal_of value ≡ value_of t k
    → pair_of pair ≡ in_order (half side) (infinitesimal_of bound) (infinitesimal_of value) → pair_on t k side ≡ Some (pair_of pair)
one_pair t k side bound value pair stands is order =
    pair_is t k side (Some (infinitesimal_of bound)) (sym stands)
    ∙ ap (λ (x : Infinitesimal). Some (in_order (half side) (infinitesimal_of bound) x)) (sym is)
    ∙ ap Some (sym order)

pub below_or_last : (n k : ℕ) → k < n + 1 → (k < n) ⊎ (k ≡ n)
below_or_last n k less = grind (arith, less)

-- the values of the first forms are numbers, with one more
pub numbers_more : (t : Theory) (n : ℕ) → AreNumbers n (value_of t) → IsNumber (value_of t n).standard × IsNumber (value_of t n).coefficient → AreNumbers (n + 1) (value_of t)
numbers_more t n before last k less =
    elim (below_or_last n k less) [
      | inl below ↦ before k below
      | inr same ↦ subst (λ (m : ℕ). IsNumber (value_of t m).standard × IsNumber (value_of t m).coefficient) (sym same) last
    ]

-- the bound of a pair
pub bound_of_pair : (t : Theory) (k : ℕ) (side : Side) (pair : Pair) → pair_on t k side ≡ Some pair → (b : Infinitesimal) × (bound_in t.simplex.asserted side k ≡ Some b) × (pair ≡ in_order (half side) b (value_of t k))
bound_of_pair t k side pair e = by_case (bound_in t.simplex.asserted side k) refl e
  where
    by_case : (o : Option Infinitesimal) → bound_in t.simplex.asserted side k ≡ o → option_map (λ (b : Infinitesimal). in_order (half side) b (value_of t k)) o ≡ Some pair
        → (b : Infinitesimal) × (bound_in t.simplex.asserted side k ≡ Some b) × (pair ≡ in_order (half side) b (value_of t k))
    by_case None is f = absurd cc
    by_case (Some b) is f = (b, is, cc)

some_is : (o : Option Infinitesimal) → IsSome o → o ≡ Some (unwrap_or o zero_infinitesimal)
some_is None h = absurd (true≢false (sym h))
some_is (Some x) h = refl

-- the bounds of a position are those that stand
bound_is : (ns : List Node) (s : State) (side : Side) (k : ℕ) → bound_on (half side) (position_over ns s) k ≡ bound_in s.asserted side k
bound_is ns s Lower k = refl
bound_is ns s Upper k = refl

module _ (t : Theory) (ns : List Node) (over : IsOver ns t.simplex) (sound : IsSound t.simplex) where
  abbrev p : Position
  p = position_over ns t.simplex

  abbrev n : ℕ
  n = length t.simplex.forms

  count : length p.forms ≡ n
  count = length-map t.simplex.forms (parts_over ns)

  pub known_values : ((k : ℕ) → k < n → IsSome (value_in t.simplex k)) → (k : ℕ) → k < n → HasValue p k (value_of t k)
  known_values known k less = sound.right ns k (value_of t k) over (some_is (value_in t.simplex k) (known k less))

  -- where it is feasible, no bound is past a value
  pub has_values : InfinitesimalsAreOrdered → checks.IsFeasible ns t.simplex → HasValues t
  has_values order feasible = record {
    known = feasible.known;
    ordered = λ k side pair less is.
        let b = bound_of_pair t k side pair is in
        subst (λ (x : Pair). x.0 ≤δ x.1) (sym b.2) (ordered side b.0 (value_of t k)
        (feasible.meets (value_of t) (known_values feasible.known) (half side) k b.0 (omega (arith, less, count)) (bound_is ns t.simplex side k ∙ b.1)));
  }
    where
      ordered : (side : Side) (bound x : Infinitesimal) → (IsOutside (half side) bound x → ⊥) → let y : Pair = in_order (half side) bound x in y.0 ≤δ y.1
      ordered Lower bound x inside = order.by_parts bound x (order.at_most bound x inside)
      ordered Upper bound x inside = order.by_parts x bound (order.at_most x bound inside)

  module _ (values : PositionsHaveValues) (has : HasValues t) (numbers : AreNumbers n (value_of t)) where
    has_value : (k : ℕ) → k < n → HasValue p k (value_of t k)
    has_value = known_values has.known

    -- ---- The pairs of all forms

    of_pair : (k : ℕ) (side : Side) (pair : Pair) → k < n → pair_on t k side ≡ Some pair → IsPairOf p k (half side) pair
    of_pair k side pair less is =
        let b = bound_of_pair t k side pair is in
        record {
          listed = omega (arith, less, count);
          bound = b.0;
          bounded = bound_is ns t.simplex side k ∙ b.1;
          value = value_of t k;
          has = has_value k less;
          numbers = numbers k less;
          is = b.2;
        }

    from_listed : (o : Option Pair) (pair : Pair) → Contains (listed o) pair → o ≡ Some pair
    from_listed None pair h = absurd (has_none pair h)
    from_listed (Some x) pair h = elim (has_cases x pair [] h) [ inl same ↦ ap Some same | inr more ↦ absurd (has_none pair more) ]

    in_listed : (o : Option Pair) (pair : Pair) → o ≡ Some pair → Contains (listed o) pair
    in_listed o pair is = subst (λ (x : Option Pair). Contains (listed x) pair) (sym is) (has_first pair [])

    each_below : (m : ℕ) → m ≤ n → (pair : Pair) → Contains (pairs_below t m) pair → (form : ℕ) × (side : bland.Side) × IsPairOf p form side pair
    each_below zero h pair there = absurd (has_none pair there)
    each_below (suc m) h pair there =
        elim (Contains-append_cases (pairs_below t m) (pairs_of t m) pair there) [
          | inl before ↦ each_below m (omega (arith, h)) pair before
          | inr last ↦ elim (Contains-append_cases (listed (pair_on t m Lower)) (listed (pair_on t m Upper)) pair last) [
            | inl low ↦ (m, lower_side, of_pair m Lower pair (omega (arith, h)) (from_listed (pair_on t m Lower) pair low))
            | inr high ↦ (m, upper_side, of_pair m Upper pair (omega (arith, h)) (from_listed (pair_on t m Upper) pair high))
          ]
        ]

    in_pairs : (k : ℕ) (side : Side) (pair : Pair) → pair_on t k side ≡ Some pair → Contains (pairs_of t k) pair
    in_pairs k Lower pair is = Contains-append_left (listed (pair_on t k Lower)) (listed (pair_on t k Upper)) pair (in_listed (pair_on t k Lower) pair is)
    in_pairs k Upper pair is = Contains-append_right (listed (pair_on t k Lower)) (listed (pair_on t k Upper)) pair (in_listed (pair_on t k Upper) pair is)

    below_has : (m k : ℕ) (side : Side) (pair : Pair) → k < m → pair_on t k side ≡ Some pair → Contains (pairs_below t m) pair
    below_has zero k side pair less is = absurd (omega (arith, less))
    below_has (suc m) k side pair less is =
        elim (same_or_below k m less) [
          | inl same ↦ Contains-append_right (pairs_below t m) (pairs_of t m) pair (subst (λ (i : ℕ). Contains (pairs_of t i) pair) same (in_pairs k side pair is))
          | inr below ↦ Contains-append_left (pairs_below t m) (pairs_of t m) pair (below_has m k side pair below is)
        ]

    -- a form has one value in numbers
    one_value : (k : ℕ) (x : Infinitesimal) → k < n → HasValue p k x → IsNumber x.standard × IsNumber x.coefficient → x ≡ value_of t k
    one_value k x less value are =
        let equal = values.one p k x (value_of t k) (sound.ready ns over).basis (omega (arith, less, count)) value (has_value k less) in
        let mine = numbers k less in
        let standard = lowest-same equal.standard (record { lowest = are.0.lowest }) (record { lowest = mine.0.lowest }) in
        let coefficient = lowest-same equal.coefficient (record { lowest = are.1.lowest }) (record { lowest = mine.1.lowest }) in
        λ i. record { standard = standard i; coefficient = coefficient i }

    all_pairs : (form : ℕ) (side : bland.Side) (pair : Pair) → IsPairOf p form side pair → Contains (pairs_below t n) pair
    all_pairs form lower_side pair h =
        let less : form < n = let inside = h.listed in omega (arith, inside, count) in
        below_has n form Lower pair less (pair_is t form Lower (Some h.bound) h.bounded ∙ ap (λ (x : Infinitesimal). Some (in_order lower_side h.bound x)) (sym (one_value form h.value less h.has h.numbers)) ∙ ap Some (sym h.is))
    all_pairs form upper_side pair h =
        let less : form < n = let inside = h.listed in omega (arith, inside, count) in
        below_has n form Upper pair less (pair_is t form Upper (Some h.bound) h.bounded ∙ ap (λ (x : Infinitesimal). Some (in_order upper_side h.bound x)) (sym (one_value form h.value less h.has h.numbers)) ∙ ap Some (sym h.is))

    pub chosen : (e : Fraction) → IsLeastLimit (pairs_below t n) e → IsChosen p e
    chosen e least = record {
      pairs = pairs_below t n;
      each =
          All-from_recursion (λ (pair : Pair). (form : ℕ) × (side : bland.Side) × IsPairOf p form side pair) (pairs_below t n)
          (by_each (λ (pair : Pair). (form : ℕ) × (side : bland.Side) × IsPairOf p form side pair) (pairs_below t n) (each_below n (omega arith)));
      all = all_pairs;
      least = least;
    }

    -- ---- Where the value of a form leaves the numbers

    module _ (node : TermOfNode) (units : UnitsAreForms) (marks : List Bool) (ts : List Term) (among : AreMarkedAmong ns marks ts) where
      -- the term of a constant
      constant_term : (u : ℕ) (c : IsRealConstant ns u) → term_in ns u ≡ unit_of c.name
      constant_term u c =
          let kids : c.node.kids ≡ [] = subst (λ (h : Head). HasItsArguments h c.node.kids) c.head (over.table.leaves u c.node c.at) in
          node ns over.table u c.node c.at ∙ ap (λ (h : Head). apply h (terms_at (term_in ns) c.node.kids)) c.head ∙ ap (λ (is : List ℕ). apply (constant c.name) (terms_at (term_in ns) is)) kids

      pub model_place : (e : Fraction) (place : Place) → IsWithinBounds p → IsLeastLimit (pairs_below t n) e → IsModelPlace t ns marks e place
          → (fs : List (List spec.Part)) (ls : List Literal) (x : Point) → position_under fs x ls ≡ p → IsModelPlaceIn ts fs ls x place
      model_place e place within least h fs ls x same =
          let c : IsRealConstant ns h.unit = h.alone.1 in
          let is : term_in ns h.unit ≡ unit_of c.name = constant_term h.unit c in
          let own : IsOfModel ts p h.form (operation_of place.wide) = record {
            within = within;
            constant = c.name;
            is_listed = subst (Contains ts) is (among h.unit h.alone.2);
            is =
                slice_get-map (parts_over ns) t.simplex.forms h.form
                ∙ ap (option_map (parts_over ns)) (slice_get-get_or t.simplex.forms h.form [] h.inside)
                ∙ ap Some (units.form ns h.unit (sum_at t h.form) h.alone.0 ∙ ap (λ (u : Term). (unit_form u).parts) is);
            value = value_of t h.form;
            has = has_value h.form h.inside;
            delta = e;
            chosen = chosen e least;
            first = h.first;
          } in
          record {
            form = h.form;
            site = h.site;
            at = subst (λ (q : Position). IsOfModel ts q h.form (operation_of place.wide)) (sym same) own;
            leaves = h.leaves;
          }

  -- ---- Where the limit of a form leaves the numbers

  pub limit_place : (place : Place) → IsWithinBounds p → HasValues t → IsLimitPlace t place → (fs : List (List spec.Part)) (ls : List Literal) (x : Point) → position_under fs x ls ≡ p → IsPlaceIn ns fs ls x place
  limit_place place within has h fs ls x same = record {
    at =
        subst (λ (q : Position). IsOperationIn ls q (site_of ns place.site) (operation_of place.wide)) (sym same)
        (subst (λ (s : Site). IsOperationIn ls p (site_of ns s) (operation_of place.wide)) (sym h.site) (by_side h.side (bound_of_pair t h.form h.side h.pair h.is)));
    leaves = h.leaves;
    within = subst (λ (s : Site). IsSiteWithin ns s) (sym h.site) tt;
  }
    where
      of_limit : (side : Side) → (b : Infinitesimal) × (bound_in t.simplex.asserted side h.form ≡ Some b) × (h.pair ≡ in_order (half side) b (value_of t h.form)) → IsOfLimit p h.form (half side) (operation_of place.wide)
      of_limit side b = record {
        within = within;
        pair = h.pair;
        is_pair = record {
          listed = let inside = h.inside in omega (arith, inside, count);
          bound = b.0;
          bounded = bound_is ns t.simplex side h.form ∙ b.1;
          value = value_of t h.form;
          has = known_values has.known h.form h.inside;
          numbers = h.numbers;
          is = b.2;
        };
        limits = h.limits;
        first = h.first;
      }

      by_side : (side : Side) → (b : Infinitesimal) × (bound_in t.simplex.asserted side h.form ≡ Some b) × (h.pair ≡ in_order (half side) b (value_of t h.form)) → IsOfLimit p h.form (places.half side) (operation_of place.wide)
      by_side Lower b = of_limit Lower b
      by_side Upper b = of_limit Upper b

-- ---- Wherever the theory stands

-- a place of the values, wherever the theory stands
abbrev pub StandsOfValues : Theory → List Node → List Term → Place → Type 0
StandsOfValues t ns ts place = (fs : List (List spec.Part)) (ls : List Literal) (x : Point) → IsAt t ns fs ls x → IsPlaceOfValues ns ts fs ls x place

module _ (order : InfinitesimalsAreOrdered) (t : Theory) (ns : List Node) (over : IsOver ns t.simplex) (sound : IsSound t.simplex) (feasible : checks.IsFeasible ns t.simplex) (ts : List Term) where
  pub limit_stands : (place : Place) → IsLimitPlace t place → StandsOfValues t ns ts place
  limit_stands place h fs ls x at =
      inl
      (record {
        form = h.form;
        side = h.side;
        site = h.site;
        leaves = limit_place t ns over sound place feasible.within (has_values t ns over sound order feasible) h fs ls x (position_is t ns fs ls x at);
      })

  pub model_stands : PositionsHaveValues → TermOfNode → UnitsAreForms → (marks : List Bool) → AreMarkedAmong ns marks ts → AreNumbers (length t.simplex.forms) (value_of t) → (d : Fraction)
      → IsLeastLimit (pairs_below t (length t.simplex.forms)) d → (e : Stop) → OnWide e (IsModelPlace t ns marks d) → OnWide e (StandsOfValues t ns ts)
  model_stands values node units marks among numbers d least (Wide place) h = λ fs ls x at.
      inr (model_place t ns over sound values (has_values t ns over sound order feasible) numbers node units marks ts among d place feasible.within least h fs ls x (position_is t ns fs ls x at))
  model_stands values node units marks among numbers d least Spent h = tt
  model_stands values node units marks among numbers d least Memory h = tt

-- ---- The value where a fraction stands for the infinitesimal

pub value_is : (x : Infinitesimal) (e product q : Fraction) → product ≡ outcome Product x.coefficient e → q ≡ outcome Sum x.standard product → q =ℚ at x e
unfolding at
value_is x e product q times sum =
    subst (λ (r : Fraction). r =ℚ (x.standard +ℚ x.coefficient *ℚ e)) (sym (sum ∙ ap (outcome Sum x.standard) times))
    (=ℚ_trans (outcome-sum x.standard (outcome Product x.coefficient e)) (+ℚ-same (=ℚ_refl x.standard) (outcome-product x.coefficient e)))
