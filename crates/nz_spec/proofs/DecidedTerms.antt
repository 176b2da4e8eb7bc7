-- Truths and numbers that meet the clauses of the tables are the values of the terms.
use Rattle.std.proofs.Common.{◌≡◌, Bool, true, false, not, ◌&&◌, ◌⊎◌, inl, inr, List, [], ◌∷◌, map, Option, Some, None, pos, refl, sym, ap, subst, ◌∙◌, true≢false}
use Rattle.std.specs.Prelude.{Contains, ⊤, if◌then◌else◌}
use Rattle.std.specs.List.{list_any, AllByRecursion}
use Rattle.std.proofs.lemmas.Bool.{and_parts}
use Rattle.std.proofs.lemmas.Option.{none-some, same_Some}
use Rattle.std.proofs.lemmas.List.Elements.{Contains-append_left, Contains-append_right, Contains-push}
use Rattle.std.proofs.lemmas.List.Folds.{Any-from_list_any}
use Rattle.nz_lists.proofs.Elements.{AllByRecursion-weaker}
use Rattle.nz_fractions.specs.Fraction.{Fraction, whole, ◌=ℚ◌, ◌≤ℚ◌, ◌<ℚ◌, fraction_eq}
use Rattle.nz_spec.specs.numbers.Computation.{Computation, in_turn}
use Rattle.nz_spec.specs.terms.Term.{NumberSort, over_int, over_real, sort_over, bool_sort, int_sort, real_sort, are_same_sort, is_bool, Constant, Head, constant, integer, decimal_number, verum, falsum, negation, conjunction, disjunction, exclusion, equality, choice, less, at_most, sum, difference, product, quotient, to_real, Term, apply, Terms, no_terms, terms, Value, truth, Assignment, is_true, number_of, are_equal, decimal_value, value_of, values_of, sort_of, IsOfSort}
use Rattle.nz_spec.specs.terms.Linear.{constant_values, is_linear_node, is_linear, are_linear}
use Rattle.nz_spec.specs.terms.Model.{IsAssignment}
use Rattle.nz_spec.specs.terms.Order.{post_order, post_orders, listing_order}
use Rattle.nz_spec.specs.terms.Form.{Numbering, unit_value}
use Rattle.nz_spec.specs.terms.FormOf.{forms_of, is_taken_whole}
use Rattle.nz_spec.specs.clauses.Literal.{Literal, are_same_term, Clause}
use Rattle.nz_spec.specs.clauses.Gates.{holds, fails, is_boolean_term, gate_clauses, IsRow}
use Rattle.nz_spec.specs.clauses.Links.{at_most_literal, below_literal, link_clauses}
use Rattle.nz_spec.specs.clauses.Forced.{worth_of}
use Rattle.nz_spec.specs.clauses.Units.{unit_clauses}
use Rattle.nz_spec.specs.simplex.Basis.{Valuation}
use Rattle.nz_spec.specs.terms.WellSorted.{AllAre, HaveOperands, IsWellSorted, AreWellSorted}
use Rattle.nz_spec.specs.terms.Taken.{IsTakenHead, HasTakenHeads, HaveTakenHeads, IsTaken}
use Rattle.nz_spec.specs.search.Branches.{is_integer_of}
use Rattle.nz_spec.specs.clauses.Met.{IsMet, HasMetLiteral}
use Rattle.nz_spec.specs.laws.Deciding.{MeetsTables, TablesDecide}
use Rattle.nz_fractions.proofs.Laws.{=ℚ_refl, =ℚ_sym, =ℚ_trans, =ℚ-from_same, ≤ℚ-from_eq, ≤ℚ_antisymm, <ℚ_irrefl}
use Rattle.nz_fractions.proofs.Order.{fraction_eq-same, lt_is, lt_is_not, le_is, le_is_not}
use Rattle.nz_spec.proofs.ArgumentTruths.{alone}
use Rattle.nz_spec.proofs.FormTerms.{Own, term-worth}
use Rattle.nz_spec.proofs.FormValues.{Match, constant-worth, unit-worth}
use Rattle.nz_spec.proofs.GateDecisions.{SaysOne, says_one, others, IsSettled, AreSettled, node_settled}
use Rattle.nz_spec.proofs.LinkTruths.{and-true, equal_numbers}
use Rattle.nz_spec.proofs.MetBounds.{apart, at_most_said, below_said}
use Rattle.nz_spec.proofs.OperandSorts.{operands_are}
use Rattle.nz_spec.proofs.Same.{same_term}
use Rattle.nz_spec.proofs.Sorted.{value_is, same_sorts}
use Rattle.nz_spec.proofs.TakenTerms.{taken_terms_are_in_order}

own_term : (t : Term) → Contains (post_order t) t
own_term (apply h ts) = Contains-push (post_orders ts) (apply h ts)

module _ (number : Numbering) (a : Assignment) (truths : Term → Option Bool) (v : Valuation) where
  abbrev Says : Literal → Type 0
  Says l = IsMet truths v l

  one_truth : (t : Term) → Says (holds t) → Says (fails t) → ⊥
  one_truth t h k = true≢false (same_Some true false (sym h ∙ k))

  abbrev Settled : Term → Type 0
  Settled t = IsSettled a Says one_truth t

  abbrev OneSaid : Clause → Type 0
  OneSaid c = SaysOne a Says one_truth c

  abbrev AllSaid : List (Computation Clause) → Type 0
  AllSaid cs = AllByRecursion (λ (c : Computation Clause). OneSaid c.result) cs

  met_said : (c : Clause) → HasMetLiteral truths v c → OneSaid c
  met_said c h = says_one a Says one_truth c h.0 h.1 h.2

  abbrev HasMetResult : Computation Clause → Type 0
  HasMetResult c = HasMetLiteral truths v c.result

  all_said : (cs : List (Computation Clause)) → AllByRecursion HasMetResult cs → AllSaid cs
  all_said cs h = AllByRecursion-weaker HasMetResult (λ (c : Computation Clause). OneSaid c.result) (λ c k. met_said c.result k) cs h

  -- what the others say where the first literal denies the term's truth
  rest_said : (t : Term) (sign : Bool) (R : Type 0) → truths t ≡ Some sign → (truths t ≡ Some (not sign)) ⊎ R → R
  rest_said t sign R has h = others a Says one_truth t sign R has h

  -- what the second one says where it is the last
  last_said : (t : Term) (sign : Bool) (R : Type 0) → truths t ≡ Some sign → (truths t ≡ Some (not sign)) ⊎ (R ⊎ ⊥) → R
  last_said t sign R has h = alone R (rest_said t sign (R ⊎ ⊥) has h)

  -- the rows that stand where a test fails
  other_rows : (b : Bool) (rows : List (List (Computation Literal))) → b ≡ false → AllSaid (map in_turn (if b then [] else rows)) → AllSaid (map in_turn rows)
  other_rows true rows e h = absurd (true≢false e)
  other_rows false rows e h = h

  -- ---- Comparisons

  -- what the term's form is worth is its value
  abbrev HasWorth : Term → Type 0
  HasWorth t = worth_of number v t =ℚ unit_value a t

  module _ (x y : Term) (h : HasWorth x) (k : HasWorth y) where
    abbrev both : Terms
    both = terms x (terms y no_terms)

    abbrev left_value : Fraction
    left_value = unit_value a x

    abbrev right_value : Fraction
    right_value = unit_value a y

    abbrev Low : Type 0
    Low = Says (below_literal number x y).result

    abbrev High : Type 0
    High = Says (below_literal number y x).result

    abbrev NotHigh : Type 0
    NotHigh = Says (at_most_literal number x y).result

    abbrev NotLow : Type 0
    NotLow = Says (at_most_literal number y x).result

    low : Low → left_value <ℚ right_value
    low m = below_said number truths v x y left_value right_value h k m

    high : High → right_value <ℚ left_value
    high m = below_said number truths v y x right_value left_value k h m

    not_high : NotHigh → left_value ≤ℚ right_value
    not_high m = at_most_said number truths v x y left_value right_value h k m

    not_low : NotLow → right_value ≤ℚ left_value
    not_low m = at_most_said number truths v y x right_value left_value k h m

    less_settled : AllSaid (link_clauses number (apply less both)) → Settled (apply less both)
    less_settled m true has =
        ap (λ (b : Bool). truth (b && true)) (lt_is left_value right_value (low (last_said (apply less both) true Low has m.0)))
    less_settled m false has =
        ap (λ (b : Bool). truth (b && true)) (lt_is_not left_value right_value (not_low (last_said (apply less both) false NotLow has m.1.0)))

    at_most_settled : AllSaid (link_clauses number (apply at_most both)) → Settled (apply at_most both)
    at_most_settled m true has =
        ap (λ (b : Bool). truth (b && true)) (le_is left_value right_value (not_high (last_said (apply at_most both) true NotHigh has m.0)))
    at_most_settled m false has =
        ap (λ (b : Bool). truth (b && true)) (le_is_not left_value right_value (high (last_said (apply at_most both) false High has m.1.0)))

    either_apart : Low ⊎ (High ⊎ ⊥) → fraction_eq left_value right_value ≡ false
    either_apart (inl m) = apart left_value right_value (λ e. <ℚ_irrefl (low m) (≤ℚ-from_eq (=ℚ_sym e)))
    either_apart (inr m) = apart left_value right_value (λ e. <ℚ_irrefl (high (alone High m)) (≤ℚ-from_eq e))

    equality_settled : IsOfSort (sort_of x) (value_of a x) → is_boolean_term x ≡ false → AllSaid (link_clauses number (apply equality both))
        → Settled (apply equality both)
    equality_settled s e m = let rows = other_rows (is_boolean_term x) _ e m in by_rows rows.0 rows.1.0 rows.1.1.0
      where
        t : Term
        t = apply equality both

        is : value_of a (apply equality both) ≡ truth (fraction_eq left_value right_value)
        is = ap truth (and-true (are_equal (value_of a x) (value_of a y)) ∙ equal_numbers number a (sort_of x) (value_of a x) (value_of a y) s e)

        by_rows : (truths t ≡ Some false) ⊎ (NotHigh ⊎ ⊥) → (truths t ≡ Some false) ⊎ (NotLow ⊎ ⊥) → (truths t ≡ Some true) ⊎ (Low ⊎ (High ⊎ ⊥)) → Settled t
        by_rows h k l true has =
            let same = ≤ℚ_antisymm (not_high (last_said t true NotHigh has h)) (not_low (last_said t true NotLow has k)) in
            is ∙ ap truth (fraction_eq-same left_value right_value same)
        by_rows h k l false has = is ∙ ap truth (either_apart (rest_said t false (Low ⊎ (High ⊎ ⊥)) has l))

  -- ---- ite over Real

  chosen : (u x : Term) → HasWorth x → Says (at_most_literal number u x).result → Says (at_most_literal number x u).result → worth_of number v u =ℚ unit_value a x
  chosen u x h m k =
      ≤ℚ_antisymm
      (at_most_said number truths v u x (worth_of number v u) (unit_value a x) (=ℚ_refl (worth_of number v u)) h m)
      (at_most_said number truths v x u (unit_value a x) (worth_of number v u) h (=ℚ_refl (worth_of number v u)) k)

  abbrev chosen_of : (c x y : Term) → Term
  chosen_of c x y = apply (choice real_sort) (terms c (terms x (terms y no_terms)))

  -- what the last literal says where the condition has neither truth
  open_said : (c : Term) (sign : Bool) (R : Type 0) → truths c ≡ None → (truths c ≡ Some sign) ⊎ (R ⊎ ⊥) → R
  open_said c sign R none (inl has) = absurd (none-some sign (sym none ∙ has))
  open_said c sign R none (inr h) = alone R h

  choice_has_worth : (c x y : Term) → Settled c → HasWorth x → HasWorth y → (o : Option Bool) → truths c ≡ o
      → AllSaid (unit_clauses number (chosen_of c x y)) → HasWorth (chosen_of c x y)
  choice_has_worth c x y s h k (Some true) has m =
      let u = chosen_of c x y in
      =ℚ_trans
      (chosen u x h
      (last_said c true (Says (at_most_literal number u x).result) has m.0)
      (last_said c true (Says (at_most_literal number x u).result) has m.1.0))
      (=ℚ-from_same (sym (ap (λ (w : Value). number_of (if is_true w then value_of a x else value_of a y)) (s true has))))
  choice_has_worth c x y s h k (Some false) has m =
      let u = chosen_of c x y in
      =ℚ_trans
      (chosen u y k
      (last_said c false (Says (at_most_literal number u y).result) has m.1.1.0)
      (last_said c false (Says (at_most_literal number y u).result) has m.1.1.1.0))
      (=ℚ-from_same (sym (ap (λ (w : Value). number_of (if is_true w then value_of a x else value_of a y)) (s false has))))
  choice_has_worth c x y s h k None none m =
      let u = chosen_of c x y in
      let first = chosen u x h
      (open_said c false (Says (at_most_literal number u x).result) none m.0)
      (open_said c false (Says (at_most_literal number x u).result) none m.1.0) in
      let second = chosen u y k
      (open_said c true (Says (at_most_literal number u y).result) none m.1.1.0)
      (open_said c true (Says (at_most_literal number y u).result) none m.1.1.1.0) in
      by_value u (is_true (value_of a c)) refl first second
    where
      by_value : (u : Term) (b : Bool) → is_true (value_of a c) ≡ b → worth_of number v u =ℚ unit_value a x → worth_of number v u =ℚ unit_value a y
          → worth_of number v u =ℚ number_of (if is_true (value_of a c) then value_of a x else value_of a y)
      by_value u true e first second = =ℚ_trans first (=ℚ-from_same (sym (ap (λ (b : Bool). number_of (if b then value_of a x else value_of a y)) e)))
      by_value u false e first second = =ℚ_trans second (=ℚ-from_same (sym (ap (λ (b : Bool). number_of (if b then value_of a x else value_of a y)) e)))

  -- ---- Terms

  abbrev DecidedAs : Bool → Term → Type 0
  DecidedAs true t = Settled t
  DecidedAs false t = HasWorth t

  -- its truth is its value, or what its form is worth is
  abbrev IsDecided : Term → Type 0
  IsDecided t = DecidedAs (is_boolean_term t) t

  abbrev AreDecided : Terms → Type 0
  AreDecided no_terms = ⊤
  AreDecided (terms t ts) = IsDecided t × AreDecided ts

  decided_as : (t : Term) (b : Bool) → is_boolean_term t ≡ b → IsDecided t → DecidedAs b t
  decided_as t b e d = subst (λ (c : Bool). DecidedAs c t) e d

  all_settled : (ts : Terms) → AllAre true ts → AreDecided ts → AreSettled a Says one_truth ts
  all_settled no_terms b d = tt
  all_settled (terms t ts) b d = (decided_as t true b.0 d.0, all_settled ts b.1 d.1)

  all_match : (ts : Terms) → AllAre false ts → AreDecided ts → Match number v (forms_of number ts).result (values_of a ts)
  all_match no_terms b d = tt
  all_match (terms t ts) b d = (decided_as t false b.0 d.0, all_match ts b.1 d.1)

  over_number : (s : NumberSort) (t : Term) → HasWorth t → DecidedAs (is_bool (sort_over s)) t
  over_number over_int t h = h
  over_number over_real t h = h

  arithmetic_has_worth : (h : Head) (ts : Terms) → AllAre false ts → AreDecided ts → is_linear_node h (constant_values ts) ≡ true
      → Own h (forms_of number ts).result (v (apply h ts) =ℚ unit_value a (apply h ts)) → HasWorth (apply h ts)
  arithmetic_has_worth h ts b d l own = term-worth a number v h ts (all_match ts b d) l own

  module _ (good : IsAssignment a) (parts : List Term) (m : MeetsTables truths v number a parts) where
    abbrev AreParts : List Term → Type 0
    AreParts us = (u : Term) → Contains us u → Contains parts u

    links_said : (t : Term) (sign : Bool) → Contains parts t → truths t ≡ Some sign → AllSaid (link_clauses number t)
    links_said t sign at has = all_said (link_clauses number t) (m.clauses.links t sign at has)

    units_said : (t : Term) → Contains parts t → AllSaid (unit_clauses number t)
    units_said t at = all_said (unit_clauses number t) (m.clauses.units t at)

    gate_settled : (h : Head) (ts : Terms) → IsRow h ts → AllAre true ts → AreDecided ts → Contains parts (apply h ts) → Settled (apply h ts)
    gate_settled h ts r b d at sign has =
        node_settled a Says one_truth h ts r b
        (AllByRecursion-weaker (HasMetLiteral truths v) OneSaid met_said (gate_clauses (apply h ts)) (m.clauses.gates (apply h ts) sign at has))
        (all_settled ts b d)
        (λ c sign e has. m.constants c sign (subst (Contains parts) e at) has) sign has

    constant_decided : (c : Constant) → Contains parts (apply (constant c) no_terms) → IsDecided (apply (constant c) no_terms)
    constant_decided c at = by_sort (is_bool c.sort) refl
      where
        by_sort : (b : Bool) → is_bool c.sort ≡ b → DecidedAs b (apply (constant c) no_terms)
        by_sort true e = λ sign has. m.constants c sign at has
        by_sort false e = =ℚ_trans (unit-worth number v (apply (constant c) no_terms)) (=ℚ_sym (m.numbers c at e))

    equality_decided : (x y : Term) → IsWellSorted [] x → (b : Bool) → AllAre b (terms x (terms y no_terms)) → AreDecided (terms x (terms y no_terms))
        → Contains parts (apply equality (terms x (terms y no_terms))) → Settled (apply equality (terms x (terms y no_terms)))
    equality_decided x y s true b d at = gate_settled equality (terms x (terms y no_terms)) tt b d at
    equality_decided x y s false b d at = λ sign has.
        equality_settled x y (decided_as x false b.0 d.0) (decided_as y false b.1.0 d.1.0) (value_is a good [] x s) b.0
        (links_said (apply equality (terms x (terms y no_terms))) sign at has) sign has

    node_decided : (h : Head) (ts : Terms) → IsTakenHead h ts → HaveOperands h ts → AreWellSorted [] ts → is_linear_node h (constant_values ts) ≡ true
        → AreDecided ts → Contains parts (apply h ts) → IsDecided (apply h ts)
    node_decided (constant c) no_terms k o s l d at = constant_decided c at
    node_decided (integer n) no_terms k o s l d at = constant-worth number v (whole (pos n))
    node_decided (decimal_number n places) no_terms k o s l d at = constant-worth number v (decimal_value n places)
    node_decided verum no_terms k o s l d at = gate_settled verum no_terms tt tt tt at
    node_decided falsum no_terms k o s l d at = gate_settled falsum no_terms tt tt tt at
    node_decided negation (terms t no_terms) k o s l d at = gate_settled negation (terms t no_terms) tt o d at
    node_decided conjunction ts k o s l d at = gate_settled conjunction ts tt o d at
    node_decided disjunction ts k o s l d at = gate_settled disjunction ts tt o d at
    node_decided exclusion (terms t (terms u no_terms)) k o s l d at = gate_settled exclusion (terms t (terms u no_terms)) tt o d at
    node_decided equality (terms t (terms u no_terms)) k o s l d at = equality_decided t u s.0 o.0 o.1 d at
    node_decided less (terms t (terms u no_terms)) k o s l d at = λ sign has.
        less_settled t u (decided_as t false o.0 d.0) (decided_as u false o.1.0 d.1.0) (links_said (apply less (terms t (terms u no_terms))) sign at has) sign has
    node_decided at_most (terms t (terms u no_terms)) k o s l d at = λ sign has.
        at_most_settled t u (decided_as t false o.0 d.0) (decided_as u false o.1.0 d.1.0) (links_said (apply at_most (terms t (terms u no_terms))) sign at has) sign has
    node_decided (choice bool_sort) (terms c (terms t (terms u no_terms))) k o s l d at =
        gate_settled (choice bool_sort) (terms c (terms t (terms u no_terms))) tt o d at
    node_decided (choice real_sort) (terms c (terms t (terms u no_terms))) k o s l d at =
        choice_has_worth c t u (decided_as c true o.0 d.0) (decided_as t false o.1.0 d.1.0) (decided_as u false o.1.1.0 d.1.1.0) (truths c) refl
        (units_said (apply (choice real_sort) (terms c (terms t (terms u no_terms)))) at)
    node_decided (sum n) ts k o s l d at = over_number n (apply (sum n) ts) (arithmetic_has_worth (sum n) ts o d l tt)
    node_decided (difference n) ts k o s l d at = over_number n (apply (difference n) ts) (arithmetic_has_worth (difference n) ts o d l tt)
    node_decided (product n) ts k o s l d at = over_number n (apply (product n) ts) (arithmetic_has_worth (product n) ts o d l tt)
    node_decided quotient ts k o s l d at = arithmetic_has_worth quotient ts o d l tt
    node_decided to_real (terms t no_terms) k o s l d at = arithmetic_has_worth to_real (terms t no_terms) o d l tt
    node_decided h ts k o s l d at = absurd k

    mutual
      decided : (t : Term) → IsWellSorted [] t → is_linear t ≡ true → HasTakenHeads t → AreParts (post_order t) → IsDecided t
      decided (apply h ts) s l k within =
          let linear = and_parts (is_linear_node h (constant_values ts)) (are_linear ts) l in
          let arguments : AreParts (post_orders ts) = λ u at. within u (Contains-append_left (post_orders ts) (apply h ts ∷ []) u at) in
          node_decided h ts k.0 (operands_are h ts s.0) s.1 linear.0 (all_decided ts s.1 linear.1 k.1 arguments)
          (within (apply h ts) (own_term (apply h ts)))

      all_decided : (ts : Terms) → AreWellSorted [] ts → are_linear ts ≡ true → HaveTakenHeads ts → AreParts (post_orders ts) → AreDecided ts
      all_decided no_terms s l k within = tt
      all_decided (terms t ts) s l k within =
          let linear = and_parts (is_linear t) (are_linear ts) l in (
            decided t s.0 linear.0 k.0 (λ u at. within u (Contains-append_left (post_order t) (post_orders ts) u at)),
            all_decided ts s.1 linear.1 k.1 (λ u at. within u (Contains-append_right (post_order t) (post_orders ts) u at)),
          )

-- no more is listed than what a taken term is made of
all_there : (t : Term) → IsTaken t → (u : Term) → Contains (post_order t) u → Contains (listing_order t) u
all_there t k u at = subst (λ (us : List Term). Contains us u) (sym (taken_terms_are_in_order.listing t k)) at

no_integers : (t u : Term) → IsTaken t → is_integer_of (listing_order t) u ≡ true → ⊥
no_integers t u k e =
    let unit = and_parts (is_taken_whole u) (are_same_sort (sort_of u) int_sort && list_any (are_same_term u) (listing_order t)) e in
    let both = and_parts (are_same_sort (sort_of u) int_sort) (list_any (are_same_term u) (listing_order t)) unit.1 in
    let place = Any-from_list_any (are_same_term u) (listing_order t) both.1 in
    let at : Contains (listing_order t) place.1 = (place.0, place.2, place.3) in
    let part : Contains (post_order t) u =
    subst (Contains (post_order t)) (sym (same_term u place.1 place.4)) (subst (λ (us : List Term). Contains us place.1) (taken_terms_are_in_order.listing t k) at)
    in
    taken_terms_are_in_order.units u (taken_terms_are_in_order.parts t u k part) unit.0 (same_sorts (sort_of u) int_sort both.0)

pub tables_decide : TablesDecide
tables_decide = record {
  truths = λ number a truths v t sign k good m e has.
      decided_as number a truths v t true e (decided number a truths v good (listing_order t) m t k.sorted k.linear k.heads (all_there t k)) sign has;
  numbers = λ number a truths v t k good m e.
      =ℚ_sym (decided_as number a truths v t false e (decided number a truths v good (listing_order t) m t k.sorted k.linear k.heads (all_there t k)));
  integers = no_integers;
}
