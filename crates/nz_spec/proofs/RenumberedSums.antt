-- Sums whose units are numbered anew: what joins, multiplies and negates them is told by the coefficients of their units alone.
use Rattle.std.proofs.Common.{◌≡◌, ◌⊎◌, inl, inr, ◌<◌, Bool, true, false, List, [], ◌∷◌, ◌++◌, map, Option, Some, None, option_map, refl, sym, ap, ap₂, subst, ◌∙◌, arith, true≢false}
use Rattle.std.specs.Prelude.{Contains, nat_lt, if◌then◌else◌}
use Rattle.std.specs.List.{AllByRecursion}
use Rattle.std.proofs.lemmas.Bool.Decides.{nat_tests}
use Rattle.std.proofs.lemmas.Option.{same_Some}
use Rattle.std.proofs.lemmas.List.Elements.{Contains-append_cases, Contains-append_left, Contains-append_right}
use Rattle.nz_lists.proofs.Members.{has_cases, has_first, has_none}
use Rattle.nz_fractions.specs.Fraction.{Fraction, neg_ℚ, Arithmetic, Sum, Difference, Product, Quotient, outcome, is_wide, Operation, first_wide}
use Rattle.nz_fractions.proofs.FirstOperations.{first_wide-none, first_wide-some, first_wide-is}
use Rattle.nz_spec.specs.numbers.Computation.{Computation, operated, at_once, turned_into}
use Rattle.nz_spec.specs.terms.Term.{Term, is_zero}
use Rattle.nz_spec.specs.terms.Same.{are_same_term}
use Rattle.nz_spec.specs.terms.Form.{Numbering, TellsApart, Part, found, AreAlike, negated_part, with_part, part_alone, part_joined, parts_joined, parts_scaled}
use Rattle.nz_spec.specs.laws.Renumbering.{IsOrdered, SumsRenumber}
use Rattle.nz_spec.proofs.Same.{same_term, one_term}

-- ---- Lists of operations

-- of two lists without one that leaves the numbers, each has none
pub front_fits : (xs ys : List Operation) → first_wide (xs ++ ys) ≡ None → first_wide xs ≡ None
front_fits xs ys e = by_case (first_wide xs) refl
  where
    by_case : (o : Option Operation) → first_wide xs ≡ o → first_wide xs ≡ None
    by_case None f = f
    by_case (Some w) f = let some : None ≡ Some w = sym e ∙ first_wide-some xs ys w f in absurd (cc)

pub rest_fits : (xs ys : List Operation) → first_wide (xs ++ ys) ≡ None → first_wide ys ≡ None
rest_fits xs ys e = sym (first_wide-none xs ys (front_fits xs ys e)) ∙ e

pub both_fit : (xs ys : List Operation) → first_wide xs ≡ None → first_wide ys ≡ None → first_wide (xs ++ ys) ≡ None
both_fit xs ys e f = first_wide-none xs ys e ∙ f

-- where none of these leaves the numbers, none of those among them does
none_wide : (xs : List Operation) → first_wide xs ≡ None → (op : Operation) → Contains xs op → is_wide op.operator op.left op.right ≡ false
unfolding first_wide
none_wide [] e op has = absurd (has_none op has)
none_wide (x ∷ xs) e op has = by_test (is_wide x.operator x.left x.right) refl (none_wide xs) e (has_cases x op xs has)
  where
    by_test : (b : Bool) → is_wide x.operator x.left x.right ≡ b → (first_wide xs ≡ None → (o : Operation) → Contains xs o → is_wide o.operator o.left o.right ≡ false)
        → (if b then Some x else first_wide xs) ≡ None → (x ≡ op) ⊎ Contains xs op → is_wide op.operator op.left op.right ≡ false
    by_test true w rest none h = absurd (cc)
    by_test false w rest none (inl is) = subst (λ (o : Operation). is_wide o.operator o.left o.right ≡ false) is w
    by_test false w rest none (inr more) = rest none op more

pub fits_among : (xs ys : List Operation) → ((op : Operation) → Contains ys op → Contains xs op) → first_wide xs ≡ None → first_wide ys ≡ None
fits_among xs ys among e = by_case (first_wide ys) refl
  where
    by_case : (o : Option Operation) → first_wide ys ≡ o → first_wide ys ≡ None
    by_case None f = f
    by_case (Some w) f = let there = first_wide-is ys w f in absurd (true≢false (sym there.1 ∙ none_wide xs e w (among w there.0)))

-- ---- Units of sums

pub seen : (p : Part) (ps : List Part) (x : Term) → are_same_term p.unit x ≡ true → found x (p ∷ ps) ≡ Some p.coefficient
seen p ps x e = ap (λ (b : Bool). if b then Some p.coefficient else found x ps) e

pub unseen : (p : Part) (ps : List Part) (x : Term) → are_same_term p.unit x ≡ false → found x (p ∷ ps) ≡ found x ps
unseen p ps x e = ap (λ (b : Bool). if b then Some p.coefficient else found x ps) e

pub itself : (p : Part) (ps : List Part) → found p.unit (p ∷ ps) ≡ Some p.coefficient
itself p ps = seen p ps p.unit (one_term p.unit)

-- where one term is another's, a third is both or neither
pub other_term : (t u x : Term) → are_same_term t u ≡ false → are_same_term t x ≡ true → are_same_term u x ≡ false
other_term t u x apart is = by_test (are_same_term u x) refl
  where
    by_test : (b : Bool) → are_same_term u x ≡ b → are_same_term u x ≡ false
    by_test false e = e
    by_test true e =
        let same : t ≡ u = same_term t x is ∙ sym (same_term u x e) in
        absurd (true≢false (sym (one_term t) ∙ ap (are_same_term t) same ∙ apart))

-- ---- What is found

-- a coefficient that isn't 0
abbrev kept : Fraction → Option Fraction
kept c = if is_zero c then None else Some c

with_same : (x u : Term) (c : Fraction) (ps : List Part) → are_same_term u x ≡ true → found x ps ≡ None → found x (with_part u c ps) ≡ kept c
with_same x u c ps e none = by_test (is_zero c)
  where
    by_test : (b : Bool) → found x (if b then ps else record { coefficient = c; unit = u } ∷ ps) ≡ (if b then None else Some c)
    by_test true = none
    by_test false = seen (record { coefficient = c; unit = u }) ps x e

with_other : (x u : Term) (c : Fraction) (ps : List Part) → are_same_term u x ≡ false → found x (with_part u c ps) ≡ found x ps
with_other x u c ps e = by_test (is_zero c)
  where
    by_test : (b : Bool) → found x (if b then ps else record { coefficient = c; unit = u } ∷ ps) ≡ found x ps
    by_test true = refl
    by_test false = unseen (record { coefficient = c; unit = u }) ps x e

-- a coefficient that is added or subtracted where there was none
abbrev alone_at : Arithmetic → Fraction → Fraction
alone_at Difference c = neg_ℚ c
alone_at op c = c

-- two coefficients of one unit, joined
abbrev join_at : Arithmetic → Option Fraction → Option Fraction → Option Fraction
join_at op None None = None
join_at op None (Some c) = Some (alone_at op c)
join_at op (Some b) None = Some b
join_at op (Some b) (Some c) = kept (outcome op b c)

join_none : (op : Arithmetic) (o : Option Fraction) → join_at op o None ≡ o
join_none op None = refl
join_none op (Some b) = refl

abbrev scaled_at : (Fraction → Computation Fraction) → Option Fraction → Option Fraction
scaled_at times None = None
scaled_at times (Some c) = kept (times c).result

found_alone : (op : Arithmetic) (q : Part) (ps : List Part) (x : Term) → found x (part_alone op q ∷ ps) ≡ (if are_same_term q.unit x then Some (alone_at op q.coefficient) else found x ps)
found_alone Sum q ps x = refl
found_alone Difference q ps x = refl
found_alone Product q ps x = refl
found_alone Quotient q ps x = refl

module _ (number : Numbering) where
  -- a term has a number below those of all units
  abbrev Behind : Term → List Part → Type 0
  Behind x ps = AllByRecursion (λ (q : Part). number x < number q.unit) ps

  lies_in : (y x : Term) (c : Fraction) (ps : List Part) → Behind y ps → found x ps ≡ Some c → number y < number x
  lies_in y x c [] h e = absurd (cc)
  lies_in y x c (p ∷ ps) h e = by_test (are_same_term p.unit x) refl (lies_in y x c ps h.1)
    where
      by_test : (b : Bool) → are_same_term p.unit x ≡ b → (found x ps ≡ Some c → number y < number x) → number y < number x
      by_test true is rest = subst (λ (u : Term). number y < number u) (same_term p.unit x is) h.0
      by_test false is rest = rest (sym (unseen p ps x is) ∙ e)

  none_behind : (x : Term) (ps : List Part) → Behind x ps → found x ps ≡ None
  none_behind x ps h = by_case (found x ps) refl
    where
      by_case : (o : Option Fraction) → found x ps ≡ o → found x ps ≡ None
      by_case None e = e
      by_case (Some c) e = let less = lies_in x x c ps h e in absurd (omega (arith, less))

  pub none_of : (t x : Term) (ps : List Part) → are_same_term t x ≡ true → Behind t ps → found x ps ≡ None
  none_of t x ps e h = subst (λ (u : Term). found u ps ≡ None) (same_term t x e) (none_behind t ps h)

  further : (x y : Term) (ps : List Part) → number x < number y → Behind y ps → Behind x ps
  further x y [] less h = tt
  further x y (p ∷ ps) less h = (omega (arith, less, h.0), further x y ps less h.1)

  -- ---- One order

  heads_same : (p q : Part) (ps qs : List Part) → Behind p.unit ps → Behind q.unit qs → AreAlike (p ∷ ps) (q ∷ qs) → p.unit ≡ q.unit
  heads_same p q ps qs h k alike = by_test (are_same_term q.unit p.unit) (are_same_term p.unit q.unit) refl refl
    where
      by_test : (b c : Bool) → are_same_term q.unit p.unit ≡ b → are_same_term p.unit q.unit ≡ c → p.unit ≡ q.unit
      by_test true c e f = sym (same_term q.unit p.unit e)
      by_test false true e f = same_term p.unit q.unit f
      by_test false false e f =
          let low = lies_in q.unit p.unit p.coefficient qs k (sym (unseen q qs p.unit e) ∙ sym (alike p.unit) ∙ itself p ps) in
          let high = lies_in p.unit q.unit q.coefficient ps h (sym (unseen p ps q.unit f) ∙ alike q.unit ∙ itself q qs) in
          absurd (omega (arith, low, high))

  rests_alike : (p q : Part) (ps qs : List Part) → Behind p.unit ps → Behind q.unit qs → p.unit ≡ q.unit → AreAlike (p ∷ ps) (q ∷ qs) → AreAlike ps qs
  rests_alike p q ps qs h k same alike x = by_test (are_same_term p.unit x) refl
    where
      by_test : (b : Bool) → are_same_term p.unit x ≡ b → found x ps ≡ found x qs
      by_test true e = none_of p.unit x ps e h ∙ sym (none_of q.unit x qs (subst (λ (u : Term). are_same_term u x ≡ true) same e) k)
      by_test false e = sym (unseen p ps x e) ∙ alike x ∙ unseen q qs x (subst (λ (u : Term). are_same_term u x ≡ false) same e)

  part_same : (p q : Part) → p.unit ≡ q.unit → p.coefficient ≡ q.coefficient → p ≡ q
  part_same p q e f = ap₂ (λ (c : Fraction) (u : Term). let r : Part = record { coefficient = c; unit = u } in r) f e

  pub one_order : (us : List Term) (ps qs : List Part) → IsOrdered number us ps → IsOrdered number us qs → AreAlike ps qs → ps ≡ qs
  one_order us [] [] h k alike = refl
  one_order us [] (q ∷ qs) h k alike = let e : None ≡ Some q.coefficient = alike q.unit ∙ itself q qs in absurd (cc)
  one_order us (p ∷ ps) [] h k alike = let e : Some p.coefficient ≡ None = sym (itself p ps) ∙ alike p.unit in absurd (cc)
  one_order us (p ∷ ps) (q ∷ qs) h k alike =
      let unit = heads_same p q ps qs h.1 k.1 alike in
      let coefficient = same_Some p.coefficient q.coefficient (sym (itself p ps) ∙ alike p.unit ∙ ap (λ (u : Term). found u (q ∷ qs)) unit ∙ itself q qs) in
      ap₂ (λ (r : Part) (rs : List Part). r ∷ rs) (part_same p q unit coefficient) (one_order us ps qs h.2 k.2 (rests_alike p q ps qs h.1 k.1 unit alike))

  -- ---- A part that joins

  -- where the next unit is the same, and where it comes behind
  abbrev joined_by : Arithmetic → Part → List Part → Part → Bool → Bool → Computation (List Part)
  joined_by op p ps q same before =
      if same then turned_into (λ c. with_part p.unit c ps) (operated op p.coefficient q.coefficient)
      else if before then at_once (part_alone op q ∷ p ∷ ps)
      else turned_into (λ rs. p ∷ rs) (part_joined number op ps q)

  less_from : (a b : Term) → nat_lt (number a) (number b) ≡ true → number a < number b
  less_from a b e = grind (arith, nat_tests)

  -- what is found behind a part that joins, by what was found before
  abbrev JoinsAt : Arithmetic → List Part → Part → List Part → Term → Type 0
  JoinsAt op ps q rs x = found x rs ≡ join_at op (found x ps) (found x (q ∷ []))

  meets : (op : Arithmetic) (p : Part) (ps : List Part) (q : Part) (x : Term) → are_same_term p.unit q.unit ≡ true → Behind p.unit ps
      → JoinsAt op (p ∷ ps) q (with_part p.unit (outcome op p.coefficient q.coefficient) ps) x
  meets op p ps q x same h = by_test (are_same_term p.unit x) refl
    where
      unit : p.unit ≡ q.unit
      unit = same_term p.unit q.unit same

      by_test : (b : Bool) → are_same_term p.unit x ≡ b → JoinsAt op (p ∷ ps) q (with_part p.unit (outcome op p.coefficient q.coefficient) ps) x
      by_test true e =
          with_same x p.unit (outcome op p.coefficient q.coefficient) ps e (none_of p.unit x ps e h)
          ∙ sym (ap₂ (join_at op) (seen p ps x e) (seen q [] x (subst (λ (u : Term). are_same_term u x ≡ true) unit e)))
      by_test false e =
          with_other x p.unit (outcome op p.coefficient q.coefficient) ps e
          ∙ sym (ap₂ (join_at op) (unseen p ps x e) (unseen q [] x (subst (λ (u : Term). are_same_term u x ≡ false) unit e)) ∙ join_none op (found x ps))

  stays : (op : Arithmetic) (ps : List Part) (q : Part) (x : Term) → Behind q.unit ps → JoinsAt op ps q (part_alone op q ∷ ps) x
  stays op ps q x h = found_alone op q ps x ∙ by_test (are_same_term q.unit x) refl
    where
      by_test : (b : Bool) → are_same_term q.unit x ≡ b → (if b then Some (alone_at op q.coefficient) else found x ps) ≡ join_at op (found x ps) (found x (q ∷ []))
      by_test true e = sym (ap₂ (join_at op) (none_of q.unit x ps e h) (seen q [] x e))
      by_test false e = sym (ap (join_at op (found x ps)) (unseen q [] x e) ∙ join_none op (found x ps))

  passes : (op : Arithmetic) (p : Part) (ps : List Part) (q : Part) (rs : List Part) (x : Term) → are_same_term p.unit q.unit ≡ false → JoinsAt op ps q rs x → JoinsAt op (p ∷ ps) q (p ∷ rs) x
  passes op p ps q rs x apart rest = by_test (are_same_term p.unit x) refl
    where
      by_test : (b : Bool) → are_same_term p.unit x ≡ b → JoinsAt op (p ∷ ps) q (p ∷ rs) x
      by_test true e = seen p rs x e ∙ sym (ap₂ (join_at op) (seen p ps x e) (unseen q [] x (other_term p.unit q.unit x apart e)))
      by_test false e = unseen p rs x e ∙ rest ∙ sym (ap (λ (o : Option Fraction). join_at op o (found x (q ∷ []))) (unseen p ps x e))

  -- the operations of a part that joins, by the coefficient that its unit had
  abbrev operations_at : Arithmetic → Option Fraction → Fraction → List Operation
  operations_at op None c = []
  operations_at op (Some b) c = record { operator = op; left = b; right = c } ∷ []

  -- what comes of a part that joins, at each term, and its operations
  record Joins (op : Arithmetic) (ps : List Part) (q : Part) (c : Computation (List Part)) : Type 0 where
    at : (x : Term) → JoinsAt op ps q c.result x
    operations : c.operations ≡ operations_at op (found q.unit ps) q.coefficient

  joins_by : (op : Arithmetic) (p : Part) (ps : List Part) (q : Part) (b c : Bool) → are_same_term p.unit q.unit ≡ b → nat_lt (number q.unit) (number p.unit) ≡ c
      → Behind p.unit ps → Joins op ps q (part_joined number op ps q) → Joins op (p ∷ ps) q (joined_by op p ps q b c)
  joins_by op p ps q true c same before h rest = record {
    at = λ x. meets op p ps q x same h;
    operations = sym (ap (λ (o : Option Fraction). operations_at op o q.coefficient) (seen p ps q.unit same));
  }
  joins_by op p ps q false true same before h rest =
      let less = less_from q.unit p.unit before in
      let behind : Behind q.unit (p ∷ ps) = (less, further q.unit p.unit ps less h) in
      record {
        at = λ x. stays op (p ∷ ps) q x behind;
        operations = sym (ap (λ (o : Option Fraction). operations_at op o q.coefficient) (none_behind q.unit (p ∷ ps) behind));
      }
  joins_by op p ps q false false same before h rest = record {
    at = λ x. passes op p ps q (part_joined number op ps q).result x same (rest.at x);
    operations = rest.operations ∙ sym (ap (λ (o : Option Fraction). operations_at op o q.coefficient) (unseen p ps q.unit same));
  }

  part_joins : (us : List Term) (op : Arithmetic) (ps : List Part) (q : Part) → IsOrdered number us ps → Joins op ps q (part_joined number op ps q)
  part_joins us op [] q h = record { at = λ x. stays op [] q x tt; operations = refl }
  part_joins us op (p ∷ ps) q h =
      joins_by op p ps q (are_same_term p.unit q.unit) (nat_lt (number q.unit) (number p.unit)) refl refl h.1 (part_joins us op ps q h.2)

  -- ---- It keeps the order

  alone_unit : (op : Arithmetic) (q : Part) → (part_alone op q).unit ≡ q.unit
  alone_unit Sum q = refl
  alone_unit Difference q = refl
  alone_unit Product q = refl
  alone_unit Quotient q = refl

  behind_with : (x u : Term) (c : Fraction) (ps : List Part) → number x < number u → Behind x ps → Behind x (with_part u c ps)
  behind_with x u c ps less h = by_test (is_zero c)
    where
      by_test : (b : Bool) → Behind x (if b then ps else record { coefficient = c; unit = u } ∷ ps)
      by_test true = h
      by_test false = (less, h)

  behind_by : (x : Term) (op : Arithmetic) (p : Part) (ps : List Part) (q : Part) (b c : Bool) → number x < number p.unit → Behind x ps → number x < number q.unit
      → Behind x (part_joined number op ps q).result → Behind x (joined_by op p ps q b c).result
  behind_by x op p ps q true c less h k rest = behind_with x p.unit (outcome op p.coefficient q.coefficient) ps less h
  behind_by x op p ps q false true less h k rest = (subst (λ (u : Term). number x < number u) (sym (alone_unit op q)) k, (less, h))
  behind_by x op p ps q false false less h k rest = (less, rest)

  behind_joined : (x : Term) (op : Arithmetic) (ps : List Part) (q : Part) → Behind x ps → number x < number q.unit → Behind x (part_joined number op ps q).result
  behind_joined x op [] q h k = (subst (λ (u : Term). number x < number u) (sym (alone_unit op q)) k, tt)
  behind_joined x op (p ∷ ps) q h k =
      behind_by x op p ps q (are_same_term p.unit q.unit) (nat_lt (number q.unit) (number p.unit)) h.0 h.1 k (behind_joined x op ps q h.1 k)

  module _ (us : List Term) (apart : TellsApart number us) where
    not_less : (p q : Part) → Contains us p.unit → Contains us q.unit → are_same_term p.unit q.unit ≡ false → nat_lt (number q.unit) (number p.unit) ≡ false → number p.unit < number q.unit
    not_less p q h k same before =
        let differ : number p.unit ≡ number q.unit → ⊥ = λ e. absurd (true≢false (sym (one_term p.unit) ∙ ap (are_same_term p.unit) (apart p.unit q.unit h k e) ∙ same)) in
        grind (arith, nat_tests, differ)

    ordered_with : (u : Term) (c : Fraction) (ps : List Part) → Contains us u → Behind u ps → IsOrdered number us ps → IsOrdered number us (with_part u c ps)
    ordered_with u c ps has h k = by_test (is_zero c)
      where
        by_test : (b : Bool) → IsOrdered number us (if b then ps else record { coefficient = c; unit = u } ∷ ps)
        by_test true = k
        by_test false = (has, h, k)

    ordered_alone : (op : Arithmetic) (q : Part) (ps : List Part) → Contains us q.unit → Behind q.unit ps → IsOrdered number us ps → IsOrdered number us (part_alone op q ∷ ps)
    ordered_alone Sum q ps has h k = (has, h, k)
    ordered_alone Difference q ps has h k = (has, h, k)
    ordered_alone Product q ps has h k = (has, h, k)
    ordered_alone Quotient q ps has h k = (has, h, k)

    ordered_by : (op : Arithmetic) (p : Part) (ps : List Part) (q : Part) (b c : Bool) → are_same_term p.unit q.unit ≡ b → nat_lt (number q.unit) (number p.unit) ≡ c
        → IsOrdered number us (p ∷ ps) → Contains us q.unit → IsOrdered number us (part_joined number op ps q).result → IsOrdered number us (joined_by op p ps q b c).result
    ordered_by op p ps q true c same before h has rest = ordered_with p.unit (outcome op p.coefficient q.coefficient) ps h.0 h.1 h.2
    ordered_by op p ps q false true same before h has rest =
        let less = less_from q.unit p.unit before in
        ordered_alone op q (p ∷ ps) has (less, further q.unit p.unit ps less h.1) h
    ordered_by op p ps q false false same before h has rest = (h.0, behind_joined p.unit op ps q h.1 (not_less p q h.0 has same before), rest)

    part_ordered : (op : Arithmetic) (ps : List Part) (q : Part) → IsOrdered number us ps → Contains us q.unit → IsOrdered number us (part_joined number op ps q).result
    part_ordered op [] q h has = ordered_alone op q [] has tt tt
    part_ordered op (p ∷ ps) q h has =
        ordered_by op p ps q (are_same_term p.unit q.unit) (nat_lt (number q.unit) (number p.unit)) refl refl h has (part_ordered op ps q h.2 has)

    -- ---- Sums that join

    pub ordered_joined : (op : Arithmetic) (ps qs : List Part) → IsOrdered number us ps → IsOrdered number us qs → IsOrdered number us (parts_joined number op ps qs).result
    ordered_joined op ps [] h k = h
    ordered_joined op ps (q ∷ qs) h k = ordered_joined op (part_joined number op ps q).result qs (part_ordered op ps q h k.0) k.2

    pub found_joined : (op : Arithmetic) (ps qs : List Part) (x : Term) → IsOrdered number us ps → IsOrdered number us qs
        → found x (parts_joined number op ps qs).result ≡ join_at op (found x ps) (found x qs)
    found_joined op ps [] x h k = sym (join_none op (found x ps))
    found_joined op ps (q ∷ qs) x h k =
        found_joined op (part_joined number op ps q).result qs x (part_ordered op ps q h k.0) k.2
        ∙ ap (λ (o : Option Fraction). join_at op o (found x qs)) ((part_joins us op ps q h).at x)
        ∙ by_test (are_same_term q.unit x) refl
      where
        by_test : (b : Bool) → are_same_term q.unit x ≡ b → join_at op (join_at op (found x ps) (found x (q ∷ []))) (found x qs) ≡ join_at op (found x ps) (found x (q ∷ qs))
        by_test true e =
            ap (join_at op (join_at op (found x ps) (found x (q ∷ [])))) (none_of q.unit x qs e k.1)
            ∙ join_none op (join_at op (found x ps) (found x (q ∷ [])))
            ∙ ap (join_at op (found x ps)) (seen q [] x e ∙ sym (seen q qs x e))
        by_test false e =
            ap (λ (o : Option Fraction). join_at op o (found x qs)) (ap (join_at op (found x ps)) (unseen q [] x e) ∙ join_none op (found x ps))
            ∙ ap (join_at op (found x ps)) (sym (unseen q qs x e))

    -- an operation on the two coefficients of one unit
    abbrev JoinsBy : Arithmetic → List Part → List Part → Operation → Type 0
    JoinsBy op ps qs o = (x : Term) × (b c : Fraction) × (found x ps ≡ Some b) × (found x qs ≡ Some c) × (record { operator = op; left = b; right = c } ≡ o)

    operation_from : (op : Arithmetic) (ps qs : List Part) → IsOrdered number us ps → IsOrdered number us qs → (o : Operation) → Contains (parts_joined number op ps qs).operations o → JoinsBy op ps qs o
    operation_from op ps [] h k o has = absurd (has_none o has)
    operation_from op ps (q ∷ qs) h k o has =
        elim (Contains-append_cases first more o has) [
          | inl here ↦ by_case (found q.unit ps) refl (subst (λ (os : List Operation). Contains os o) (part_joins us op ps q h).operations here)
          | inr later ↦ behind (operation_from op (part_joined number op ps q).result qs (part_ordered op ps q h k.0) k.2 o later)
        ]
      where
        first : List Operation
        first = (part_joined number op ps q).operations

        more : List Operation
        more = (parts_joined number op (part_joined number op ps q).result qs).operations

        by_case : (b : Option Fraction) → found q.unit ps ≡ b → Contains (operations_at op b q.coefficient) o → JoinsBy op ps (q ∷ qs) o
        by_case None e there = absurd (has_none o there)
        by_case (Some b) e there =
            elim (has_cases (record { operator = op; left = b; right = q.coefficient }) o [] there) [
              | inl is ↦ (q.unit, b, q.coefficient, e, itself q qs, is)
              | inr none ↦ absurd (has_none o none)
            ]

        by_test : (x : Term) (b c : Fraction) (same : Bool) → are_same_term q.unit x ≡ same → found x (part_joined number op ps q).result ≡ Some b → found x qs ≡ Some c
            → record { operator = op; left = b; right = c } ≡ o → JoinsBy op ps (q ∷ qs) o
        by_test x b c true t e f is = let none : None ≡ Some c = sym (none_of q.unit x qs t k.1) ∙ f in absurd (cc)
        by_test x b c false t e f is =
            (x, b, c, sym ((part_joins us op ps q h).at x ∙ ap (join_at op (found x ps)) (unseen q [] x t) ∙ join_none op (found x ps)) ∙ e, unseen q qs x t ∙ f, is)

        behind : JoinsBy op (part_joined number op ps q).result qs o → JoinsBy op ps (q ∷ qs) o
        behind (x, b, c, e, f, is) = by_test x b c (are_same_term q.unit x) refl e f is

    operation_has : (op : Arithmetic) (ps qs : List Part) → IsOrdered number us ps → IsOrdered number us qs → (o : Operation) → JoinsBy op ps qs o → Contains (parts_joined number op ps qs).operations o
    operation_has op ps [] h k o (x, b, c, e, f, is) = absurd (cc)
    operation_has op ps (q ∷ qs) h k o (x, b, c, e, f, is) = by_test (are_same_term q.unit x) refl (operation_has op (part_joined number op ps q).result qs (part_ordered op ps q h k.0) k.2 o)
      where
        first : List Operation
        first = (part_joined number op ps q).operations

        more : List Operation
        more = (parts_joined number op (part_joined number op ps q).result qs).operations

        by_test : (same : Bool) → are_same_term q.unit x ≡ same → (JoinsBy op (part_joined number op ps q).result qs o → Contains more o) → Contains (first ++ more) o
        by_test true t rest =
            let at : found q.unit ps ≡ Some b = ap (λ (u : Term). found u ps) (same_term q.unit x t) ∙ e in
            let coefficient : q.coefficient ≡ c = same_Some q.coefficient c (sym (seen q qs x t) ∙ f) in
            let own : Operation = record { operator = op; left = b; right = q.coefficient } in
            let operations : first ≡ own ∷ [] = (part_joins us op ps q h).operations ∙ ap (λ (d : Option Fraction). operations_at op d q.coefficient) at in
            let same : own ≡ o = ap (λ (d : Fraction). let r : Operation = record { operator = op; left = b; right = d } in r) coefficient ∙ is in
            Contains-append_left first more o (subst (λ (os : List Operation). Contains os o) (sym operations) (subst (Contains (own ∷ [])) same (has_first own [])))
        by_test false t rest =
            Contains-append_right first more o
            (rest (x, b, c, (part_joins us op ps q h).at x ∙ ap (join_at op (found x ps)) (unseen q [] x t) ∙ join_none op (found x ps) ∙ e, sym (unseen q qs x t) ∙ f, is))

  -- ---- Sums that are multiplied

  module _ (us : List Term) (times : Fraction → Computation Fraction) where
    found_scaled : (ps : List Part) (x : Term) → IsOrdered number us ps → found x (parts_scaled times ps).result ≡ scaled_at times (found x ps)
    found_scaled [] x h = refl
    found_scaled (p ∷ ps) x h = by_test (are_same_term p.unit x) refl (found_scaled ps x h.2)
      where
        by_test : (b : Bool) → are_same_term p.unit x ≡ b → found x (parts_scaled times ps).result ≡ scaled_at times (found x ps)
            → found x (with_part p.unit (times p.coefficient).result (parts_scaled times ps).result) ≡ scaled_at times (found x (p ∷ ps))
        by_test true e rest =
            with_same x p.unit (times p.coefficient).result (parts_scaled times ps).result e (rest ∙ ap (scaled_at times) (none_of p.unit x ps e h.1))
            ∙ sym (ap (scaled_at times) (seen p ps x e))
        by_test false e rest =
            with_other x p.unit (times p.coefficient).result (parts_scaled times ps).result e ∙ rest ∙ sym (ap (scaled_at times) (unseen p ps x e))

    behind_scaled : (x : Term) (ps : List Part) → Behind x ps → Behind x (parts_scaled times ps).result
    behind_scaled x [] h = tt
    behind_scaled x (p ∷ ps) h = behind_with x p.unit (times p.coefficient).result (parts_scaled times ps).result h.0 (behind_scaled x ps h.1)

    ordered_scaled : (ps : List Part) → IsOrdered number us ps → IsOrdered number us (parts_scaled times ps).result
    ordered_scaled [] h = tt
    ordered_scaled (p ∷ ps) h = by_test (is_zero (times p.coefficient).result) (behind_scaled p.unit ps h.1) (ordered_scaled ps h.2)
      where
        by_test : (b : Bool) → Behind p.unit (parts_scaled times ps).result → IsOrdered number us (parts_scaled times ps).result
            → IsOrdered number us (if b then (parts_scaled times ps).result else record { coefficient = (times p.coefficient).result; unit = p.unit } ∷ (parts_scaled times ps).result)
        by_test true behind rest = rest
        by_test false behind rest = (h.0, behind, rest)

    -- an operation of the multiplication of a unit's coefficient
    abbrev ScalesBy : List Part → Operation → Type 0
    ScalesBy ps o = (x : Term) × (c : Fraction) × (found x ps ≡ Some c) × Contains (times c).operations o

    scale_from : (ps : List Part) → IsOrdered number us ps → (o : Operation) → Contains (parts_scaled times ps).operations o → ScalesBy ps o
    scale_from [] h o has = absurd (has_none o has)
    scale_from (p ∷ ps) h o has =
        elim (Contains-append_cases (times p.coefficient).operations (parts_scaled times ps).operations o has) [
          | inl here ↦ (p.unit, p.coefficient, itself p ps, here)
          | inr later ↦ behind (scale_from ps h.2 o later)
        ]
      where
        by_test : (x : Term) (c : Fraction) (b : Bool) → are_same_term p.unit x ≡ b → found x ps ≡ Some c → Contains (times c).operations o → ScalesBy (p ∷ ps) o
        by_test x c true t e there = let none : None ≡ Some c = sym (none_of p.unit x ps t h.1) ∙ e in absurd (cc)
        by_test x c false t e there = (x, c, unseen p ps x t ∙ e, there)

        behind : ScalesBy ps o → ScalesBy (p ∷ ps) o
        behind (x, c, e, there) = by_test x c (are_same_term p.unit x) refl e there

    scale_has : (ps : List Part) (o : Operation) → ScalesBy ps o → Contains (parts_scaled times ps).operations o
    scale_has [] o (x, c, e, there) = absurd (cc)
    scale_has (p ∷ ps) o (x, c, e, there) = by_test (are_same_term p.unit x) refl (scale_has ps o)
      where
        by_test : (b : Bool) → are_same_term p.unit x ≡ b → (ScalesBy ps o → Contains (parts_scaled times ps).operations o) → Contains ((times p.coefficient).operations ++ (parts_scaled times ps).operations) o
        by_test true t rest =
            Contains-append_left (times p.coefficient).operations (parts_scaled times ps).operations o
            (subst (λ (d : Fraction). Contains (times d).operations o) (sym (same_Some p.coefficient c (sym (seen p ps x t) ∙ e))) there)
        by_test false t rest = Contains-append_right (times p.coefficient).operations (parts_scaled times ps).operations o (rest (x, c, sym (unseen p ps x t) ∙ e, there))

  -- ---- Sums that are negated

  behind_negated : (x : Term) (ps : List Part) → Behind x ps → Behind x (map negated_part ps)
  behind_negated x [] h = tt
  behind_negated x (p ∷ ps) h = (h.0, behind_negated x ps h.1)

  pub ordered_negated : (us : List Term) (ps : List Part) → IsOrdered number us ps → IsOrdered number us (map negated_part ps)
  ordered_negated us [] h = tt
  ordered_negated us (p ∷ ps) h = (h.0, behind_negated p.unit ps h.1, ordered_negated us ps h.2)

pub found_negated : (ps : List Part) (x : Term) → found x (map negated_part ps) ≡ option_map neg_ℚ (found x ps)
found_negated [] x = refl
found_negated (p ∷ ps) x = by_test (are_same_term p.unit x) (found_negated ps x)
  where
    by_test : (b : Bool) → found x (map negated_part ps) ≡ option_map neg_ℚ (found x ps)
        → (if b then Some (neg_ℚ p.coefficient) else found x (map negated_part ps)) ≡ option_map neg_ℚ (if b then Some p.coefficient else found x ps)
    by_test true rest = refl
    by_test false rest = rest

-- ---- The laws

pub sums_renumber : SumsRenumber
sums_renumber = record {
  one = one_order;
  joined = λ m n us op ps qs rs ss m_apart n_apart h k. record {
    result = record {
      before = ordered_joined m us m_apart op ps qs h.before k.before;
      after = ordered_joined n us n_apart op rs ss h.after k.after;
      alike = λ x.
          found_joined m us m_apart op ps qs x h.before k.before
          ∙ ap₂ (join_at op) (h.alike x) (k.alike x)
          ∙ sym (found_joined n us n_apart op rs ss x h.after k.after);
    };
    operations = λ o has.
        let (x, b, c, e, f, is) = operation_from n us n_apart op rs ss h.after k.after o has in
        operation_has m us m_apart op ps qs h.before k.before o (x, b, c, h.alike x ∙ e, k.alike x ∙ f, is);
  };
  scaled = λ m n us times ps qs h. record {
    result = record {
      before = ordered_scaled m us times ps h.before;
      after = ordered_scaled n us times qs h.after;
      alike = λ x. found_scaled m us times ps x h.before ∙ ap (scaled_at times) (h.alike x) ∙ sym (found_scaled n us times qs x h.after);
    };
    operations = λ o has. let (x, c, e, there) = scale_from n us times qs h.after o has in scale_has m us times ps o (x, c, h.alike x ∙ e, there);
  };
  negated = λ m n us ps qs h. record {
    before = ordered_negated m us ps h.before;
    after = ordered_negated n us qs h.after;
    alike = λ x. found_negated ps x ∙ ap (option_map neg_ℚ) (h.alike x) ∙ sym (found_negated qs x);
  };
}
