-- What the rows of the tables name: their term, and what it is made of.
use Rattle.std.proofs.Common.{◌≡◌, ◌≢◌, ◌<◌, ◌≤◌, ◌⊎◌, inl, inr, Bool, true, false, List, [], ◌∷◌, length, map, Option, Some, None, pos, refl, sym, ap, subst, ◌∙◌, arith}
use Rattle.std.specs.Prelude.{Contains, ⊤, nat_lt, if◌then◌else◌}
use Rattle.std.specs.List.{AllByRecursion}
use Rattle.std.proofs.lemmas.List.Elements.{Contains-append_left, Contains-append_right, Contains-append_cases, Contains-push_cases}
use Rattle.nz_lists.proofs.Elements.{AllByRecursion-weaker}
use Rattle.nz_lists.proofs.Members.{has_first, has_more}
use Rattle.nz_fractions.specs.Fraction.{Fraction, whole, outcome, Arithmetic, Sum, Difference, Product, Quotient}
use Rattle.nz_spec.specs.numbers.Computation.{Computation, operated, at_once, turned_into, in_turn}
use Rattle.nz_spec.specs.terms.Term.{int_sort, real_sort, Head, equality, choice, less, at_most, integer_quotient, modulus, magnitude, to_int, is_int, Term, apply, Terms, no_terms, terms, is_zero}
use Rattle.nz_spec.specs.terms.Same.{are_same_term, TellsTerms}
use Rattle.nz_spec.specs.terms.Form.{Numbering, Part, Form, unit_form, with_part, negated_part, part_alone, part_joined, parts_joined}
use Rattle.nz_spec.specs.terms.FormOf.{form_of, UnitsAreParts}
use Rattle.nz_spec.specs.clauses.Literal.{Literal, term_literal, is_at_most, is_below, negation_of, Clause}
use Rattle.nz_spec.specs.clauses.Gates.{holds, fails, is_boolean_term}
use Rattle.nz_spec.specs.clauses.Links.{minus, at_most_literal, below_literal, link_clauses}
use Rattle.nz_spec.specs.terms.Linear.{constant_value}
use Rattle.nz_spec.specs.clauses.Units.{quotient_rows, remainder_rows, unit_clauses}
use Rattle.nz_spec.specs.terms.Order.{post_order, post_orders, listing_order}
use Rattle.nz_spec.specs.terms.Taken.{IsTakenHead, IsTaken}
use Rattle.nz_cform.specs.declared.rows.RowTable.{RowTable}
use Rattle.nz_cform.specs.declared.rows.RowTable.TheVariants.{Links, Units}
use Rattle.nz_cform.specs.Covering.{table_clauses}
use Rattle.nz_cform.proofs.Parts.{itself, own_part, part_listed}
use Rattle.nz_cform.proofs.Sizes.{size, sizes}

-- ---- What a literal names

abbrev pub units_of : List Part → List Term
units_of ps = map (λ (p : Part). p.unit) ps

abbrev pub names_of : Literal → List Term
names_of (term_literal t sign) = t ∷ []
names_of (is_at_most ps b) = units_of ps
names_of (is_below ps b) = units_of ps

negated_units : (ps : List Part) → units_of (map negated_part ps) ≡ units_of ps
negated_units [] = refl
negated_units (p ∷ ps) = ap (λ us. p.unit ∷ us) (negated_units ps)

-- its negation names the same
pub negation_names : (l : Literal) → names_of (negation_of l) ≡ names_of l
negation_names (term_literal t sign) = refl
negation_names (is_at_most ps b) = negated_units ps
negation_names (is_below ps b) = negated_units ps

-- one of the literals names the term
abbrev pub Names : Term → Clause → Type 0
Names t c = (l : Literal) × Contains c l × Contains (names_of l) t

-- ---- A fact on each term that is named

abbrev OverUnits : (Term → Type 0) → List Part → Type 0
OverUnits P ps = AllByRecursion (λ (p : Part). P p.unit) ps

-- it is so of all that the term is made of
abbrev OverTerm : (Term → Type 0) → Term → Type 0
OverTerm P t = (u : Term) → Contains (post_order t) u → P u

abbrev OverTerms : (Term → Type 0) → Terms → Type 0
OverTerms P no_terms = ⊤
OverTerms P (terms t ts) = OverTerm P t × OverTerms P ts

over_all : (P : Term → Type 0) (ts : Terms) → ((u : Term) → Contains (post_orders ts) u → P u) → OverTerms P ts
over_all P no_terms f = tt
over_all P (terms t ts) f = (
  λ u has. f u (Contains-append_left (post_order t) (post_orders ts) u has),
  over_all P ts (λ u has. f u (Contains-append_right (post_order t) (post_orders ts) u has)),
)

-- so of the units of its form
form_over : UnitsAreParts → (P : Term → Type 0) (number : Numbering) (t : Term) → OverTerm P t → OverUnits P (form_of number t).result.parts
form_over parts P number t f =
    AllByRecursion-weaker (λ (p : Part). Contains (post_order t) p.unit) (λ (p : Part). P p.unit) (λ p has. f p.unit has) (form_of number t).result.parts (parts number t)

module _ (P : Term → Type 0) where
  abbrev pub Named : Literal → Type 0
  Named l = AllByRecursion P (names_of l)

  abbrev pub AreNamed : Clause → Type 0
  AreNamed c = AllByRecursion Named c

  abbrev ResultsNamed : List (Computation Clause) → Type 0
  ResultsNamed cs = AllByRecursion (λ (c : Computation Clause). AreNamed c.result) cs

  with_part_over : (u : Term) (c : Fraction) (ps : List Part) → P u → OverUnits P ps → OverUnits P (with_part u c ps)
  with_part_over u c ps h k = by_test (is_zero c)
    where
      by_test : (b : Bool) → OverUnits P (if b then ps else record { coefficient = c; unit = u } ∷ ps)
      by_test true = k
      by_test false = (h, k)

  alone_over : (op : Arithmetic) (q : Part) (ps : List Part) → P q.unit → OverUnits P ps → OverUnits P (part_alone op q ∷ ps)
  alone_over Sum q ps h k = (h, k)
  alone_over Difference q ps h k = (h, k)
  alone_over Product q ps h k = (h, k)
  alone_over Quotient q ps h k = (h, k)

  units_named : (ps : List Part) → OverUnits P ps → AllByRecursion P (units_of ps)
  units_named [] h = tt
  units_named (p ∷ ps) h = (h.0, units_named ps h.1)

  module _ (parts : UnitsAreParts) (number : Numbering) where
    over_by : (op : Arithmetic) (p : Part) (ps : List Part) (q : Part) (b c : Bool) → OverUnits P (p ∷ ps) → P q.unit → OverUnits P (part_joined number op ps q).result
        → OverUnits P (if b then turned_into (λ d. with_part p.unit d ps) (operated op p.coefficient q.coefficient) else if c then at_once (part_alone op q ∷ p ∷ ps) else turned_into (λ rs. p ∷ rs) (part_joined number op ps q)).result
    over_by op p ps q true c hs k more = with_part_over p.unit (outcome op p.coefficient q.coefficient) ps hs.0 hs.1
    over_by op p ps q false true hs k more = alone_over op q (p ∷ ps) k hs
    over_by op p ps q false false hs k more = (hs.0, more)

    part_over : (op : Arithmetic) (ps : List Part) (q : Part) → OverUnits P ps → P q.unit → OverUnits P (part_joined number op ps q).result
    part_over op [] q h k = alone_over op q [] k tt
    part_over op (p ∷ ps) q h k = over_by op p ps q (are_same_term p.unit q.unit) (nat_lt (number q.unit) (number p.unit)) h k (part_over op ps q h.1 k)

    parts_over : (op : Arithmetic) (ps qs : List Part) → OverUnits P ps → OverUnits P qs → OverUnits P (parts_joined number op ps qs).result
    parts_over op ps [] h k = h
    parts_over op ps (q ∷ qs) h k = parts_over op (part_joined number op ps q).result qs (part_over op ps q h k.0) k.1

    difference_named : (a b : Term) → OverTerm P a → OverTerm P b → AllByRecursion P (units_of (minus number (form_of number a) (form_of number b)).result.parts)
    difference_named a b h k =
        units_named (minus number (form_of number a) (form_of number b)).result.parts
        (parts_over Difference (form_of number a).result.parts (form_of number b).result.parts (form_over parts P number a h) (form_over parts P number b k))

    other_rows : (b : Bool) (rows : List (List (Computation Literal))) → ResultsNamed (map in_turn rows) → ResultsNamed (map in_turn (if b then [] else rows))
    other_rows true rows h = tt
    other_rows false rows h = h

    -- links of taken terms
    pub links_named : (h : Head) (ts : Terms) → IsTakenHead h ts → P (apply h ts) → OverTerms P ts → ResultsNamed (link_clauses number (apply h ts))
    links_named less (terms a (terms b no_terms)) k p q =
        (((p, tt), (difference_named a b q.0 q.1.0, tt)), (((p, tt), (difference_named b a q.1.0 q.0, tt)), tt))
    links_named at_most (terms a (terms b no_terms)) k p q =
        (((p, tt), (difference_named a b q.0 q.1.0, tt)), (((p, tt), (difference_named b a q.1.0 q.0, tt)), tt))
    links_named equality (terms a (terms b no_terms)) k p q =
        let ab = difference_named a b q.0 q.1.0 in
        let ba = difference_named b a q.1.0 q.0 in
        other_rows (is_boolean_term a) _ (((p, tt), (ab, tt)), (((p, tt), (ba, tt)), (((p, tt), (ab, (ba, tt))), tt)))
    links_named is_int (terms a no_terms) k p q = absurd k
    links_named h ts k p q = tt

    -- and their units
    pub unit_rows_named : (h : Head) (ts : Terms) → IsTakenHead h ts → OverTerm P (apply h ts) → OverTerms P ts → ResultsNamed (unit_clauses number (apply h ts))
    unit_rows_named (choice real_sort) (terms c (terms a (terms b no_terms))) k p q =
        let u = apply (choice real_sort) (terms c (terms a (terms b no_terms))) in
        let head : P c = q.0 c (own_part c) in
        let first = difference_named u a p q.1.0 in
        let second = difference_named a u q.1.0 p in
        let third = difference_named u b p q.1.1.0 in
        let fourth = difference_named b u q.1.1.0 p in
        (((head, tt), (first, tt)), (((head, tt), (second, tt)), (((head, tt), (third, tt)), (((head, tt), (fourth, tt)), tt))))
    unit_rows_named (choice int_sort) (terms c (terms a (terms b no_terms))) k p q = absurd k
    unit_rows_named integer_quotient (terms a (terms b no_terms)) k p q = absurd k
    unit_rows_named modulus (terms a (terms b no_terms)) k p q = absurd k
    unit_rows_named magnitude (terms a no_terms) k p q = absurd k
    unit_rows_named to_int (terms a no_terms) k p q = absurd k
    unit_rows_named h ts k p q = tt

-- ---- A unit in a sum

-- it is among the units
abbrev Has : Term → List Part → Type 0
Has u [] = ⊥
Has u (p ∷ ps) = (p.unit ≡ u) ⊎ Has u ps

-- none of the units is it
abbrev HasNo : Term → List Part → Type 0
HasNo u ps = OverUnits (λ v. v ≢ u) ps

has_unit : (u : Term) (ps : List Part) → Has u ps → Contains (units_of ps) u
has_unit u [] h = absurd h
has_unit u (p ∷ ps) (inl here) = subst (Contains (p.unit ∷ units_of ps)) here (has_first p.unit (units_of ps))
has_unit u (p ∷ ps) (inr more) = has_more p.unit u (units_of ps) (has_unit u ps more)

module _ (told : TellsTerms) (number : Numbering) (u : Term) where
  with_part_has : (v : Term) (c : Fraction) (ps : List Part) → Has u ps → Has u (with_part v c ps)
  with_part_has v c ps h = by_test (is_zero c)
    where
      by_test : (b : Bool) → Has u (if b then ps else record { coefficient = c; unit = v } ∷ ps)
      by_test true = h
      by_test false = inr h

  alone_has : (op : Arithmetic) (q : Part) (ps : List Part) → q.unit ≡ u → Has u (part_alone op q ∷ ps)
  alone_has Sum q ps e = inl e
  alone_has Difference q ps e = inl e
  alone_has Product q ps e = inl e
  alone_has Quotient q ps e = inl e

  -- a part of another unit is joined
  stays_by : (op : Arithmetic) (p : Part) (ps : List Part) (q : Part) (b c : Bool) → are_same_term p.unit q.unit ≡ b → q.unit ≢ u → Has u (p ∷ ps)
      → (Has u ps → Has u (part_joined number op ps q).result)
      → Has u (if b then turned_into (λ d. with_part p.unit d ps) (operated op p.coefficient q.coefficient) else if c then at_once (part_alone op q ∷ p ∷ ps) else turned_into (λ rs. p ∷ rs) (part_joined number op ps q)).result
  stays_by op p ps q true c e other (inl here) f = absurd (other (sym (told.same p.unit q.unit e) ∙ here))
  stays_by op p ps q true c e other (inr more) f = with_part_has p.unit (outcome op p.coefficient q.coefficient) ps more
  stays_by op p ps q false true e other h f = inr h
  stays_by op p ps q false false e other (inl here) f = inl here
  stays_by op p ps q false false e other (inr more) f = inr (f more)

  stays : (op : Arithmetic) (ps : List Part) (q : Part) → q.unit ≢ u → Has u ps → Has u (part_joined number op ps q).result
  stays op [] q other h = absurd h
  stays op (p ∷ ps) q other h =
      stays_by op p ps q (are_same_term p.unit q.unit) (nat_lt (number q.unit) (number p.unit)) refl other h (stays op ps q other)

  all_stay : (op : Arithmetic) (ps qs : List Part) → HasNo u qs → Has u ps → Has u (parts_joined number op ps qs).result
  all_stay op ps [] none h = h
  all_stay op ps (q ∷ qs) none h = all_stay op (part_joined number op ps q).result qs none.1 (stays op ps q none.0 h)

  -- or a part of the unit, where there was none
  joins_by : (op : Arithmetic) (p : Part) (ps : List Part) (q : Part) (b c : Bool) → are_same_term p.unit q.unit ≡ b → q.unit ≡ u → p.unit ≢ u
      → Has u (part_joined number op ps q).result
      → Has u (if b then turned_into (λ d. with_part p.unit d ps) (operated op p.coefficient q.coefficient) else if c then at_once (part_alone op q ∷ p ∷ ps) else turned_into (λ rs. p ∷ rs) (part_joined number op ps q)).result
  joins_by op p ps q true c e own other more = absurd (other (told.same p.unit q.unit e ∙ own))
  joins_by op p ps q false true e own other more = alone_has op q (p ∷ ps) own
  joins_by op p ps q false false e own other more = inr more

  joins : (op : Arithmetic) (ps : List Part) (q : Part) → q.unit ≡ u → HasNo u ps → Has u (part_joined number op ps q).result
  joins op [] q own none = alone_has op q [] own
  joins op (p ∷ ps) q own none =
      joins_by op p ps q (are_same_term p.unit q.unit) (nat_lt (number q.unit) (number p.unit)) refl own none.0 (joins op ps q own none.1)

-- ---- A term is greater than what its arguments are made of

mutual
  part_size : (t u : Term) → Contains (post_order t) u → size u ≤ size t
  part_size (apply h ts) u has =
      elim (Contains-push_cases (post_orders ts) (apply h ts) u has) [
        | inl inside ↦ let below : size u ≤ sizes ts = parts_size ts u inside in omega arith
        | inr same ↦ let is : size (apply h ts) ≡ size u = ap size same in omega arith
      ]

  parts_size : (ts : Terms) (u : Term) → Contains (post_orders ts) u → size u ≤ sizes ts
  parts_size no_terms u has = absurd (let below : has.0 < 0 = has.1 in omega arith)
  parts_size (terms t ts) u has =
      elim (Contains-append_cases (post_order t) (post_orders ts) u has) [
        | inl first ↦ let below : size u ≤ size t = part_size t u first in omega arith
        | inr other ↦ let below : size u ≤ sizes ts = parts_size ts u other in omega arith
      ]

-- so no unit of a smaller term's form is it
none_of_smaller : UnitsAreParts → (number : Numbering) (a u : Term) → size a < size u → HasNo u (form_of number a).result.parts
none_of_smaller parts number a u small =
    form_over parts (λ v. v ≢ u) number a
    (λ v has same. let below : size v ≤ size a = part_size a v has in let is : size v ≡ size u = ap size same in omega arith)

-- ---- The rows name their term

module _ (number : Numbering) where
  abbrev AllName : Term → List (Computation Clause) → Type 0
  AllName t cs = AllByRecursion (λ (c : Computation Clause). Names t c.result) cs

  -- a unit alone, less a smaller term, and the other way round
  module _ (told : TellsTerms) (parts : UnitsAreParts) (u a : Term) (alone : form_of number u ≡ at_once (unit_form u)) (small : size a < size u) where
    abbrev own : Part
    own = record { coefficient = whole (pos 1); unit = u }

    left_has : Contains (units_of (minus number (form_of number u) (form_of number a)).result.parts) u
    left_has =
        subst (λ (c : Computation Form). Contains (units_of (minus number c (form_of number a)).result.parts) u) (sym alone)
        (has_unit u (parts_joined number Difference (own ∷ []) (form_of number a).result.parts).result
        (all_stay told number u Difference (own ∷ []) (form_of number a).result.parts (none_of_smaller parts number a u small) (inl refl)))

    right_has : Contains (units_of (minus number (form_of number a) (form_of number u)).result.parts) u
    right_has =
        subst (λ (c : Computation Form). Contains (units_of (minus number (form_of number a) c).result.parts) u) (sym alone)
        (has_unit u (parts_joined number Difference (form_of number a).result.parts (own ∷ [])).result
        (joins told number u Difference (form_of number a).result.parts own refl (none_of_smaller parts number a u small)))

  second_names : (t : Term) (l m : Literal) → Contains (names_of m) t → Names t (l ∷ m ∷ [])
  second_names t l m has = (m, has_more l m (m ∷ []) (has_first m []), has)

  first_names : (t : Term) (sign : Bool) (rest : List (Computation Literal)) → Names t (in_turn (at_once (term_literal t sign) ∷ rest)).result
  first_names t sign rest = (term_literal t sign, has_first (term_literal t sign) (in_turn rest).result, has_first t [])

  pub units_name : TellsTerms → UnitsAreParts → (h : Head) (ts : Terms) → IsTakenHead h ts → AllName (apply h ts) (unit_clauses number (apply h ts))
  units_name told parts (choice real_sort) (terms c (terms a (terms b no_terms))) k =
      let u = apply (choice real_sort) (terms c (terms a (terms b no_terms))) in
      let small : size a < size u = omega arith in
      let smaller : size b < size u = omega arith in (
        second_names u (fails c) (at_most_literal number u a).result (left_has told parts u a refl small),
        (
          second_names u (fails c) (at_most_literal number a u).result (right_has told parts u a refl small),
          (
            second_names u (holds c) (at_most_literal number u b).result (left_has told parts u b refl smaller),
            (second_names u (holds c) (at_most_literal number b u).result (right_has told parts u b refl smaller), tt),
          ),
        ),
      )
  units_name told parts (choice int_sort) (terms c (terms a (terms b no_terms))) k = absurd k
  units_name told parts integer_quotient (terms a (terms b no_terms)) k = absurd k
  units_name told parts modulus (terms a (terms b no_terms)) k = absurd k
  units_name told parts magnitude (terms a no_terms) k = absurd k
  units_name told parts to_int (terms a no_terms) k = absurd k
  units_name told parts h ts k = tt

  name_others : (t : Term) (b : Bool) (rows : List (List (Computation Literal))) → AllName t (map in_turn rows) → AllName t (map in_turn (if b then [] else rows))
  name_others t true rows h = tt
  name_others t false rows h = h

  pub links_name : (h : Head) (ts : Terms) → AllName (apply h ts) (link_clauses number (apply h ts))
  links_name less (terms a (terms b no_terms)) =
      let t = apply less (terms a (terms b no_terms)) in
      (first_names t false (below_literal number a b ∷ []), (first_names t true (at_most_literal number b a ∷ []), tt))
  links_name at_most (terms a (terms b no_terms)) =
      let t = apply at_most (terms a (terms b no_terms)) in
      (first_names t false (at_most_literal number a b ∷ []), (first_names t true (below_literal number b a ∷ []), tt))
  links_name equality (terms a (terms b no_terms)) =
      let t = apply equality (terms a (terms b no_terms)) in
      name_others t (is_boolean_term a) _ (
        first_names t false (at_most_literal number a b ∷ []),
        (first_names t false (at_most_literal number b a ∷ []), (first_names t true (below_literal number a b ∷ below_literal number b a ∷ []), tt)),
      )
  links_name is_int (terms a no_terms) =
      let t = apply is_int (terms a no_terms) in
      let u = apply to_int (terms a no_terms) in
      (first_names t false (at_most_literal number a u ∷ []), (first_names t true (below_literal number u a ∷ []), tt))
  links_name h ts = tt

-- ---- Of any term

module _ (number : Numbering) where
  pub each_row_names : TellsTerms → UnitsAreParts → (table : RowTable) (t : Term) → IsTaken t → AllByRecursion (λ (c : Computation Clause). Names t c.result) (table_clauses table number t)
  each_row_names told parts Links (apply h ts) taken = links_name number h ts
  each_row_names told parts Units (apply h ts) taken = units_name number told parts h ts taken.heads.0

  arguments_over : (h : Head) (ts : Terms) → OverTerms (Contains (listing_order (apply h ts))) ts
  arguments_over h ts =
      over_all (Contains (listing_order (apply h ts))) ts (λ u has. part_listed (apply h ts) u (Contains-append_left (post_orders ts) (apply h ts ∷ []) u has))

  pub each_row_within : UnitsAreParts → (table : RowTable) (t : Term) → IsTaken t
      → AllByRecursion (λ (c : Computation Clause). AreNamed (Contains (listing_order t)) c.result) (table_clauses table number t)
  each_row_within parts Links (apply h ts) taken =
      links_named (Contains (listing_order (apply h ts))) parts number h ts taken.heads.0 (itself (apply h ts)) (arguments_over h ts)
  each_row_within parts Units (apply h ts) taken =
      unit_rows_named (Contains (listing_order (apply h ts))) parts number h ts taken.heads.0 (part_listed (apply h ts)) (arguments_over h ts)

-- ---- Lengths of the tables

-- how many rows a term has doesn't rest on the order of the units
module _ (f g : Numbering) where
  test_long : (b : Bool) (rows others : List (List (Computation Literal))) → length (map in_turn rows) ≡ length (map in_turn others)
      → length (map in_turn (if b then [] else rows)) ≡ length (map in_turn (if b then [] else others))
  test_long true rows others e = refl
  test_long false rows others e = e

  links_long : (t : Term) → length (link_clauses f t) ≡ length (link_clauses g t)
  links_long (apply less (terms a (terms b no_terms))) = refl
  links_long (apply at_most (terms a (terms b no_terms))) = refl
  links_long (apply equality (terms a (terms b no_terms))) = test_long (is_boolean_term a) _ _ refl
  links_long (apply is_int (terms a no_terms)) = refl
  links_long (apply h ts) = refl

  quotients_long : (u a : Term) (c : Option Fraction) → length (map in_turn (quotient_rows f u a c)) ≡ length (map in_turn (quotient_rows g u a c))
  quotients_long u a None = refl
  quotients_long u a (Some k) = refl

  remainders_long : (u q a : Term) (c : Option Fraction) → length (map in_turn (remainder_rows f u q a c)) ≡ length (map in_turn (remainder_rows g u q a c))
  remainders_long u q a None = refl
  remainders_long u q a (Some k) = refl

  units_long : (t : Term) → length (unit_clauses f t) ≡ length (unit_clauses g t)
  units_long (apply (choice int_sort) (terms c (terms a (terms b no_terms)))) = refl
  units_long (apply (choice real_sort) (terms c (terms a (terms b no_terms)))) = refl
  units_long (apply integer_quotient (terms a (terms k no_terms))) =
      quotients_long (apply integer_quotient (terms a (terms k no_terms))) a (constant_value k)
  units_long (apply modulus (terms a (terms k no_terms))) =
      remainders_long (apply modulus (terms a (terms k no_terms))) (apply integer_quotient (terms a (terms k no_terms))) a (constant_value k)
  units_long (apply magnitude (terms a no_terms)) = refl
  units_long (apply to_int (terms a no_terms)) = refl
  units_long (apply h ts) = refl

  pub rows_long : (table : RowTable) (t : Term) → length (table_clauses table f t) ≡ length (table_clauses table g t)
  rows_long Links t = links_long t
  rows_long Units t = units_long t
