-- The clauses of the link table are true: a comparison of numbers says what its literals say.
use Rattle.std.proofs.Common.{◌≡◌, Bool, true, false, not, ◌&&◌, ◌||◌, inl, inr, List, [], ◌∷◌, map, refl, sym, ap, ap₂, ◌∙◌, true≢false, Ordering, Less, Equal, Greater}
use Rattle.std.specs.Prelude.{if◌then◌else◌}
use Rattle.std.specs.List.{AllByRecursion}
use Rattle.std.proofs.Math.Bool.{or-false}
use Rattle.std.proofs.lemmas.Bool.{and_parts}
use Rattle.nz_fractions.specs.Fraction.{Fraction, whole, ◌=ℚ◌, ◌≤ℚ◌, ◌<ℚ◌, ◌+ℚ◌, neg_ℚ, fraction_cmp, fraction_eq, fraction_le, fraction_lt, floor, Difference}
use Rattle.nz_spec.specs.numbers.Computation.{Computation, at_once, in_turn}
use Rattle.nz_spec.specs.terms.Term.{Sort, bool_sort, int_sort, real_sort, is_bool, Head, equality, less, at_most, is_int, to_int, Term, apply, Terms, no_terms, terms, Value, truth, number, Assignment, is_true, number_of, are_equal, value_of, sort_of, IsOfSort}
use Rattle.nz_spec.specs.terms.Linear.{is_linear}
use Rattle.nz_spec.specs.terms.Model.{IsAssignment}
use Rattle.nz_spec.specs.terms.Form.{Numbering, unit_value, parts_value, form_value}
use Rattle.nz_spec.specs.terms.FormOf.{form_of}
use Rattle.nz_spec.specs.clauses.Literal.{is_literal_true, Clause, IsClauseTrue}
use Rattle.nz_spec.specs.clauses.Gates.{holds, fails, is_boolean_term}
use Rattle.nz_spec.specs.clauses.Links.{minus, at_most_literal, below_literal, link_clauses, IsArithmetic, LinksAreTrue}
use Rattle.nz_fractions.proofs.Laws.{=ℚ_sym, =ℚ_trans, ≤ℚ-from_eq, ≤ℚ-from_lt, ≤ℚ_antisymm, ≤ℚ_total, <ℚ_irrefl}
use Rattle.nz_fractions.proofs.Order.{fraction_ranked, fraction_cmp_is, same-fraction_eq, fraction_eq-same, lt_is, lt_is_not, le_is, le_is_not}
use Rattle.nz_fractions.proofs.Arithmetic.{+ℚ_comm, +ℚ-neg, +ℚ-same, neg_ℚ-same, cmp-same, cmp-+ℚ}
use Rattle.nz_spec.proofs.FormTerms.{form_has_value}
use Rattle.nz_spec.proofs.FormValues.{by_difference, form-joined}
use Rattle.nz_spec.proofs.GateTruths.{implies}
use Rattle.nz_fractions.proofs.FloorsAndCeilings.{rounds}
use Rattle.nz_fractions.proofs.Bounds.{lt-carried, le-carried}

-- ---- Tests

-- what one comparison says of another, the other way round
gt-carried : (p q x y : Fraction) → fraction_cmp p q ≡ fraction_cmp x y → q <ℚ p → y <ℚ x
gt-carried p q x y e h = fraction_ranked x y Greater (fraction_cmp_is p q Greater h ∙ e)

ge-carried : (p q x y : Fraction) → fraction_cmp p q ≡ fraction_cmp x y → q ≤ℚ p → y ≤ℚ x
ge-carried p q x y e h = by_order (fraction_cmp x y) refl
  where
    by_order : (o : Ordering) → o ≡ fraction_cmp x y → y ≤ℚ x
    by_order Less f = absurd (<ℚ_irrefl (fraction_ranked p q Less (f ∙ sym e)) h)
    by_order Equal f = ≤ℚ-from_eq (=ℚ_sym (fraction_ranked x y Equal f))
    by_order Greater f = ≤ℚ-from_lt (fraction_ranked x y Greater f)

-- where two pairs compare alike, so do the tests
pub le_alike : (p q x y : Fraction) → fraction_cmp p q ≡ fraction_cmp x y → fraction_le p q ≡ fraction_le x y
le_alike p q x y e =
    elim (≤ℚ_total x y) [
      | inl h ↦ le_is p q (le-carried x y p q (sym e) h) ∙ sym (le_is x y h)
      | inr h ↦ le_is_not p q (gt-carried x y p q (sym e) h) ∙ sym (le_is_not x y h)
    ]

pub lt_alike : (p q x y : Fraction) → fraction_cmp p q ≡ fraction_cmp x y → fraction_lt p q ≡ fraction_lt x y
lt_alike p q x y e =
    elim (≤ℚ_total y x) [
      | inl h ↦ lt_is_not p q (ge-carried x y p q (sym e) h) ∙ sym (lt_is_not x y h)
      | inr h ↦ lt_is p q (lt-carried x y p q (sym e) h) ∙ sym (lt_is x y h)
    ]

-- of two orders just one is so
pub le_or_lt : (p q : Fraction) → fraction_le q p ≡ not (fraction_lt p q)
le_or_lt p q =
    elim (≤ℚ_total q p) [ inl h ↦ le_is q p h ∙ sym (ap not (lt_is_not p q h)) | inr h ↦ le_is_not q p h ∙ sym (ap not (lt_is p q h)) ]

pub lt_or_le : (p q : Fraction) → fraction_lt q p ≡ not (fraction_le p q)
lt_or_le p q =
    elim (≤ℚ_total p q) [ inl h ↦ lt_is_not q p h ∙ sym (ap not (le_is p q h)) | inr h ↦ lt_is q p h ∙ sym (ap not (le_is_not p q h)) ]

-- ---- Rows

-- it is so, or the other is
pub otherwise : (b c : Bool) → (b ≡ false → c ≡ true) → (b || (c || false)) ≡ true
otherwise true c h = refl
otherwise false c h = or-false c ∙ h refl

otherwise_either : (b c d : Bool) → (b ≡ false → (c || (d || false)) ≡ true) → (b || (c || (d || false))) ≡ true
otherwise_either true c d h = refl
otherwise_either false c d h = h refl

pub and-true : (b : Bool) → (b && true) ≡ b
and-true true = refl
and-true false = refl

-- ---- Literals on a difference

-- one side moves over
pub moved_over : (p o x y : Fraction) → (p +ℚ o) =ℚ (x +ℚ neg_ℚ y) → fraction_cmp p (neg_ℚ o) ≡ fraction_cmp x y
moved_over p o x y e =
    sym (cmp-+ℚ p (neg_ℚ o) o)
    ∙ cmp-same e (=ℚ_trans (+ℚ_comm (neg_ℚ o) o) (=ℚ_trans (+ℚ-neg o) (=ℚ_sym (+ℚ-neg y))))
    ∙ cmp-+ℚ x y (neg_ℚ y)

module _ (numbering : Numbering) (a : Assignment) where
  difference_value : (t u : Term) → is_linear t ≡ true → is_linear u ≡ true → form_value a (minus numbering (form_of numbering t) (form_of numbering u)).result =ℚ (unit_value a t +ℚ neg_ℚ (unit_value a u))
  difference_value t u h k =
      =ℚ_trans (form-joined numbering a Difference by_difference (form_of numbering t).result (form_of numbering u).result)
      (+ℚ-same (form_has_value numbering a t h) (neg_ℚ-same (form_has_value numbering a u k)))

  pub at_most_is : (t u : Term) → is_linear t ≡ true → is_linear u ≡ true
      → is_literal_true a (at_most_literal numbering t u).result ≡ fraction_le (unit_value a t) (unit_value a u)
  at_most_is t u h k =
      let f = (minus numbering (form_of numbering t) (form_of numbering u)).result in
      le_alike (parts_value a f.parts) (neg_ℚ f.offset) (unit_value a t) (unit_value a u)
      (moved_over (parts_value a f.parts) f.offset (unit_value a t) (unit_value a u) (difference_value t u h k))

  pub below_is : (t u : Term) → is_linear t ≡ true → is_linear u ≡ true
      → is_literal_true a (below_literal numbering t u).result ≡ fraction_lt (unit_value a t) (unit_value a u)
  below_is t u h k =
      let f = (minus numbering (form_of numbering t) (form_of numbering u)).result in
      lt_alike (parts_value a f.parts) (neg_ℚ f.offset) (unit_value a t) (unit_value a u)
      (moved_over (parts_value a f.parts) f.offset (unit_value a t) (unit_value a u) (difference_value t u h k))

  -- ---- The table

  abbrev AreTrue : List (Computation Clause) → Type 0
  AreTrue cs = AllByRecursion (λ (c : Computation Clause). IsClauseTrue a c.result) cs

  comparison_rows : (t x y : Term) → is_linear x ≡ true → is_linear y ≡ true → value_of a t ≡ truth (fraction_lt (unit_value a x) (unit_value a y))
      → AreTrue (in_turn (at_once (fails t) ∷ below_literal numbering x y ∷ []) ∷ in_turn (at_once (holds t) ∷ at_most_literal numbering y x ∷ []) ∷ [])
  comparison_rows t x y h k e =
      let l = fraction_lt (unit_value a x) (unit_value a y) in (
        ap (λ (v : Value). not (is_true v) || (is_literal_true a (below_literal numbering x y).result || false)) e ∙ implies l (is_literal_true a (below_literal numbering x y).result) (λ f. below_is x y h k ∙ f),
        (
          ap (λ (v : Value). is_true v || (is_literal_true a (at_most_literal numbering y x).result || false)) e
              ∙ otherwise l (is_literal_true a (at_most_literal numbering y x).result) (λ f. at_most_is y x k h ∙ le_or_lt (unit_value a x) (unit_value a y) ∙ ap not f),
          tt,
        ),
      )

  bound_rows : (t x y : Term) → is_linear x ≡ true → is_linear y ≡ true → value_of a t ≡ truth (fraction_le (unit_value a x) (unit_value a y))
      → AreTrue (in_turn (at_once (fails t) ∷ at_most_literal numbering x y ∷ []) ∷ in_turn (at_once (holds t) ∷ below_literal numbering y x ∷ []) ∷ [])
  bound_rows t x y h k e =
      let l = fraction_le (unit_value a x) (unit_value a y) in (
        ap (λ (v : Value). not (is_true v) || (is_literal_true a (at_most_literal numbering x y).result || false)) e ∙ implies l (is_literal_true a (at_most_literal numbering x y).result) (λ f. at_most_is x y h k ∙ f),
        (
          ap (λ (v : Value). is_true v || (is_literal_true a (below_literal numbering y x).result || false)) e
              ∙ otherwise l (is_literal_true a (below_literal numbering y x).result) (λ f. below_is y x k h ∙ lt_or_le (unit_value a x) (unit_value a y) ∙ ap not f),
          tt,
        ),
      )

  -- equal numbers are at most each other, and one of two others is below the other
  apart : (p q : Fraction) → fraction_eq p q ≡ false → (fraction_lt p q || (fraction_lt q p || false)) ≡ true
  apart p q e =
      elim (≤ℚ_total q p) [
        | inr h ↦ ap (λ (b : Bool). b || (fraction_lt q p || false)) (lt_is p q h)
        | inl h ↦
            elim (≤ℚ_total p q) [
              | inl k ↦ absurd (true≢false (sym (fraction_eq-same p q (≤ℚ_antisymm k h)) ∙ e))
              | inr k ↦ ap₂ (λ (b c : Bool). b || (c || false)) (lt_is_not p q h) (lt_is q p k)
            ]
      ]

  equal_le : (p q : Fraction) → fraction_eq p q ≡ true → fraction_le p q ≡ true
  equal_le p q e = le_is p q (≤ℚ-from_eq (same-fraction_eq p q e))

  equal_ge : (p q : Fraction) → fraction_eq p q ≡ true → fraction_le q p ≡ true
  equal_ge p q e = le_is q p (≤ℚ-from_eq (=ℚ_sym (same-fraction_eq p q e)))

  equation_rows : (t x y : Term) → is_linear x ≡ true → is_linear y ≡ true → value_of a t ≡ truth (fraction_eq (unit_value a x) (unit_value a y))
      → AreTrue (in_turn (at_once (fails t) ∷ at_most_literal numbering x y ∷ []) ∷ in_turn (at_once (fails t) ∷ at_most_literal numbering y x ∷ [])
      ∷ in_turn (at_once (holds t) ∷ below_literal numbering x y ∷ below_literal numbering y x ∷ []) ∷ [])
  equation_rows t x y h k e =
      let p = unit_value a x in
      let q = unit_value a y in
      let l = fraction_eq p q in
      let low = is_literal_true a (below_literal numbering x y).result in
      let high = is_literal_true a (below_literal numbering y x).result in (
        ap (λ (v : Value). not (is_true v) || (is_literal_true a (at_most_literal numbering x y).result || false)) e
            ∙ implies l (is_literal_true a (at_most_literal numbering x y).result) (λ f. at_most_is x y h k ∙ equal_le p q f),
        (
          ap (λ (v : Value). not (is_true v) || (is_literal_true a (at_most_literal numbering y x).result || false)) e
              ∙ implies l (is_literal_true a (at_most_literal numbering y x).result) (λ f. at_most_is y x k h ∙ equal_ge p q f),
          (
            ap (λ (v : Value). is_true v || (low || (high || false))) e
                ∙ otherwise_either l low high (λ f. ap₂ (λ (b c : Bool). b || (c || false)) (below_is x y h k) (below_is y x k h) ∙ apart p q f),
            tt,
          ),
        ),
      )

  -- a value that is no truth is a number
  pub equal_numbers : (s : Sort) (v w : Value) → IsOfSort s v → is_bool s ≡ false → are_equal v w ≡ fraction_eq (number_of v) (number_of w)
  equal_numbers bool_sort v w h e = absurd (true≢false e)
  equal_numbers int_sort (truth b) w h e = absurd h
  equal_numbers int_sort (number q) w h e = refl
  equal_numbers real_sort (truth b) w h e = absurd h
  equal_numbers real_sort (number q) w h e = refl

  equation_by : (t x y : Term) (b : Bool) → is_boolean_term x ≡ b → is_linear x ≡ true → is_linear y ≡ true → IsOfSort (sort_of x) (value_of a x)
      → value_of a t ≡ truth (are_equal (value_of a x) (value_of a y) && true)
      → AreTrue (map in_turn (if b then [] else (at_once (fails t) ∷ at_most_literal numbering x y ∷ []) ∷ (at_once (fails t) ∷ at_most_literal numbering y x ∷ [])
      ∷ (at_once (holds t) ∷ below_literal numbering x y ∷ below_literal numbering y x ∷ []) ∷ []))
  equation_by t x y true f h k s e = tt
  equation_by t x y false f h k s e =
      equation_rows t x y h k (e ∙ ap truth (and-true (are_equal (value_of a x) (value_of a y)) ∙ equal_numbers (sort_of x) (value_of a x) (value_of a y) s f))

  -- ---- Integers

  above_floor : (q : Fraction) → fraction_eq q (whole (floor q)) ≡ false → fraction_lt (whole (floor q)) q ≡ true
  above_floor q e =
      elim (≤ℚ_total q (whole (floor q))) [
        | inl h ↦ absurd (true≢false (sym (fraction_eq-same q (whole (floor q)) (≤ℚ_antisymm h (rounds q).0.at_most)) ∙ e))
        | inr h ↦ lt_is (whole (floor q)) q h
      ]

  integer_rows : (t x u : Term) → is_linear x ≡ true → is_linear u ≡ true → unit_value a u ≡ whole (floor (unit_value a x))
      → value_of a t ≡ truth (fraction_eq (unit_value a x) (whole (floor (unit_value a x))))
      → AreTrue (in_turn (at_once (fails t) ∷ at_most_literal numbering x u ∷ []) ∷ in_turn (at_once (holds t) ∷ below_literal numbering u x ∷ []) ∷ [])
  integer_rows t x u h k e f =
      let q = unit_value a x in
      let l = fraction_eq q (whole (floor q)) in (
        ap (λ (v : Value). not (is_true v) || (is_literal_true a (at_most_literal numbering x u).result || false)) f
            ∙ implies l (is_literal_true a (at_most_literal numbering x u).result) (λ i. at_most_is x u h k ∙ ap (fraction_le q) e ∙ equal_le q (whole (floor q)) i),
        (
          ap (λ (v : Value). is_true v || (is_literal_true a (below_literal numbering u x).result || false)) f
              ∙ otherwise l (is_literal_true a (below_literal numbering u x).result) (λ i. below_is u x k h ∙ ap (λ (p : Fraction). fraction_lt p q) e ∙ above_floor q i),
          tt,
        ),
      )

  both_linear : (x y : Term) → (is_linear x && (is_linear y && true)) ≡ true → (is_linear x ≡ true) × (is_linear y ≡ true)
  both_linear x y e =
      let first = and_parts (is_linear x) (is_linear y && true) e in
      (first.0, (and_parts (is_linear y) true first.1).0)

  module _ (good : IsAssignment a) where
    link_rows : (h : Head) (ts : Terms) → IsArithmetic (apply h ts) → AreTrue (link_clauses numbering (apply h ts))
    link_rows less (terms x (terms y no_terms)) r =
        let both = both_linear x y r.linear in
        comparison_rows (apply less (terms x (terms y no_terms))) x y both.0 both.1 (ap truth (and-true (fraction_lt (unit_value a x) (unit_value a y))))
    link_rows at_most (terms x (terms y no_terms)) r =
        let both = both_linear x y r.linear in
        bound_rows (apply at_most (terms x (terms y no_terms))) x y both.0 both.1 (ap truth (and-true (fraction_le (unit_value a x) (unit_value a y))))
    link_rows equality (terms x (terms y no_terms)) r =
        let both = both_linear x y r.linear in
        equation_by (apply equality (terms x (terms y no_terms))) x y (is_boolean_term x) refl both.0 both.1 (r.arguments.0 a good) refl
    link_rows is_int (terms x no_terms) r =
        integer_rows (apply is_int (terms x no_terms)) x (apply to_int (terms x no_terms)) (and_parts (is_linear x) true r.linear).0 r.linear refl refl
    link_rows h ts r = tt

pub links_are_true : LinksAreTrue
links_are_true numbering a good (apply h ts) r = link_rows numbering a good h ts r
