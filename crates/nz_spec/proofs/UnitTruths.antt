-- The clauses of the unit table are true: a unit has the value that they say.
use Rattle.std.proofs.Common.{◌≡◌, suc, Bool, true, false, not, ◌&&◌, ◌||◌, List, [], ◌∷◌, map, ℤ, pos, negsuc, ◌+ℤ◌, ◌*ℤ◌, neg_ℤ, ◌≤ℤ◌, ◌<ℤ◌, unsigned_abs, Option, Some, None, refl, sym, ap, ap₂, subst, ◌∙◌, true≢false, arith}
use Rattle.std.specs.Prelude.{if◌then◌else◌}
use Rattle.std.specs.List.{AllByRecursion}
use Rattle.std.proofs.Math.Bool.{or-false}
use Rattle.std.proofs.lemmas.Bool.{and_parts}
use Rattle.std.proofs.lemmas.Int.{ints}
use Rattle.nz_fractions.specs.Fraction.{Fraction, whole, ◌=ℚ◌, ◌≤ℚ◌, ◌<ℚ◌, ◌+ℚ◌, neg_ℚ, ◌*ℚ◌, fraction_cmp, fraction_le, fraction_lt, floor, outcome, Sum, Difference}
use Rattle.nz_spec.specs.numbers.Computation.{Computation, at_once, in_turn}
use Rattle.nz_spec.specs.terms.Term.{int_sort, real_sort, Head, choice, integer_quotient, modulus, magnitude, to_int, Term, apply, Terms, no_terms, terms, Value, Assignment, is_true, number_of, value_of, is_zero, div_of, mod_of, IsDivision, integer_of, IsOfSort}
use Rattle.nz_spec.specs.terms.Linear.{constant_value, are_divisors, is_linear}
use Rattle.nz_spec.specs.terms.Model.{IsAssignment}
use Rattle.nz_spec.specs.terms.Form.{Numbering, Form, unit_form, negated_form, joined, unit_value, parts_value, form_value}
use Rattle.nz_spec.specs.terms.FormOf.{form_of}
use Rattle.nz_spec.specs.clauses.Literal.{is_literal_true, Clause, IsClauseTrue}
use Rattle.nz_spec.specs.clauses.LinearLiteral.{is_at_most_zero}
use Rattle.nz_spec.specs.clauses.Gates.{holds, fails}
use Rattle.nz_spec.specs.clauses.Links.{minus, at_most_literal, IsArithmetic}
use Rattle.nz_spec.specs.clauses.Units.{at_most_number, below_number, times_unit, greatest_remainder, quotient_rows, remainder_rows, magnitude_rows, unit_clauses, UnitsAreTrue}
use Rattle.nz_spec.proofs.Divisions.{divides}
use Rattle.nz_fractions.proofs.Laws.{=ℚ_refl, =ℚ_sym, =ℚ_trans, =ℚ-from_same, ≤ℚ-from_eq, ≤ℚ_refl, ≤ℚ_trans, <ℚ-≤ℚ_trans, ≤ℚ-<ℚ_trans}
use Rattle.nz_fractions.proofs.Order.{fraction_eq-same, lt_is, le_is}
use Rattle.nz_fractions.proofs.Arithmetic.{+ℚ_comm, +ℚ_assoc, +ℚ-zero, +ℚ-neg, +ℚ-same, *ℚ-same, neg_ℚ-same, cmp-same, cmp-+ℚ, outcome-difference}
use Rattle.nz_spec.proofs.FormTerms.{form_has_value, constant_known}
use Rattle.nz_spec.proofs.FormValues.{by_sum, by_difference, form-joined, form-negated, unit-value}
use Rattle.nz_spec.proofs.GateTruths.{implies}
use Rattle.nz_spec.proofs.IntegerSums.{whole_sum, whole_product, whole_negated, whole_le, whole_lt, from_whole_lt, whole_value}
use Rattle.nz_spec.proofs.LinkTruths.{le_alike, lt_alike, otherwise, moved_over, at_most_is}
use Rattle.nz_spec.proofs.Literals.{or_first, or_second}
use Rattle.nz_fractions.proofs.FloorsAndCeilings.{rounds}
use Rattle.nz_fractions.proofs.Identities.{neg-neg, zero_left}
use Rattle.nz_fractions.proofs.Bounds.{lt-carried}

-- ---- Integers

-- an integer is its floor
floor_is_whole : (q : Fraction) (n : ℤ) → q =ℚ whole n → q =ℚ whole (floor q)
floor_is_whole q n e =
    let above = from_whole_lt n (floor q +ℤ pos 1) (≤ℚ-<ℚ_trans (≤ℚ-from_eq (=ℚ_sym e)) (rounds q).0.greatest) in
    let low = at_most_from (floor q) n (≤ℚ_trans (rounds q).0.at_most (≤ℚ-from_eq e)) in
    =ℚ_trans e (=ℚ-from_same (ap whole (one_of n (floor q) above low)))
  where
    one_of : (n f : ℤ) → n <ℤ (f +ℤ pos 1) → f ≤ℤ n → n ≡ f
    one_of n f h k = omega (arith, ints, h, k)

    at_most_from : (f n : ℤ) → whole f ≤ℚ whole n → f ≤ℤ n
    at_most_from f n h =
        let above = from_whole_lt f (n +ℤ pos 1) (≤ℚ-<ℚ_trans h (whole_lt n (n +ℤ pos 1) (omega (arith, ints)))) in
        omega (arith, ints, above)

-- a value of sort Int is the integer that it is taken for
integer_is : (v : Value) → IsOfSort int_sort v → number_of v =ℚ whole (integer_of v)
integer_is v h = floor_is_whole (number_of v) (number_of v).numerator (whole_value v h)

-- ---- Literals of forms

-- what a form adds moves to the other side
moved_offset : (p o v b c : Fraction) → (p +ℚ o) =ℚ v → c =ℚ (b +ℚ neg_ℚ o) → fraction_cmp p c ≡ fraction_cmp v b
moved_offset p o v b c e f =
    sym (cmp-+ℚ p c o)
    ∙ cmp-same e
    (=ℚ_trans (+ℚ-same f (=ℚ_refl o))
    (=ℚ_trans (+ℚ_assoc b (neg_ℚ o) o)
    (=ℚ_trans (+ℚ-same (=ℚ_refl b) (=ℚ_trans (+ℚ_comm (neg_ℚ o) o) (+ℚ-neg o))) (+ℚ-zero b))))

module _ (a : Assignment) where
  zero_is : (f : Form) (x y : Fraction) → form_value a f =ℚ (x +ℚ neg_ℚ y) → is_literal_true a (is_at_most_zero f) ≡ fraction_le x y
  zero_is f x y e = le_alike (parts_value a f.parts) (neg_ℚ f.offset) x y (moved_over (parts_value a f.parts) f.offset x y e)

  at_most_number_is : (c : Computation Form) (v b : Fraction) → form_value a c.result =ℚ v → is_literal_true a (at_most_number b c).result ≡ fraction_le v b
  at_most_number_is c v b e =
      let f = c.result in
      le_alike (parts_value a f.parts) (outcome Difference b f.offset) v b
      (moved_offset (parts_value a f.parts) f.offset v b (outcome Difference b f.offset) e (outcome-difference b f.offset))

  below_number_is : (c : Computation Form) (v b : Fraction) → form_value a c.result =ℚ v → is_literal_true a (below_number b c).result ≡ fraction_lt v b
  below_number_is c v b e =
      let f = c.result in
      lt_alike (parts_value a f.parts) (outcome Difference b f.offset) v b
      (moved_offset (parts_value a f.parts) f.offset v b (outcome Difference b f.offset) e (outcome-difference b f.offset))

  times-value : (k : Fraction) (u : Term) → form_value a (times_unit k u) =ℚ (k *ℚ unit_value a u)
  times-value k u = =ℚ_trans (+ℚ-zero _) (+ℚ-zero _)

  module _ (numbering : Numbering) where
    less-value : (f g : Form) (x y : Fraction) → form_value a f =ℚ x → form_value a g =ℚ y → form_value a (joined numbering Difference f g).result =ℚ (x +ℚ neg_ℚ y)
    less-value f g x y h k = =ℚ_trans (form-joined numbering a Difference by_difference f g) (+ℚ-same h (neg_ℚ-same k))

    plus-value : (f g : Form) (x y : Fraction) → form_value a f =ℚ x → form_value a g =ℚ y → form_value a (joined numbering Sum f g).result =ℚ (x +ℚ y)
    plus-value f g x y h k = =ℚ_trans (form-joined numbering a Sum by_sum f g) (+ℚ-same h k)

    abbrev AreTrue : List (Computation Clause) → Type 0
    AreTrue cs = AllByRecursion (λ (c : Computation Clause). IsClauseTrue a c.result) cs

    -- a clause of one literal
    alone : (b : Bool) → b ≡ true → (b || false) ≡ true
    alone b e = or-false b ∙ e

    -- ---- ite

    chosen : (b : Bool) (v w : Value) → b ≡ true → number_of (if b then v else w) ≡ number_of v
    chosen true v w e = refl
    chosen false v w e = absurd (true≢false (sym e))

    left_out : (b : Bool) (v w : Value) → b ≡ false → number_of (if b then v else w) ≡ number_of w
    left_out true v w e = absurd (true≢false e)
    left_out false v w e = refl

    same_le : (p q : Fraction) → p ≡ q → fraction_le p q ≡ true
    same_le p q e = le_is p q (≤ℚ-from_eq (=ℚ-from_same e))

    choice_rows : (u c x y : Term) → is_linear u ≡ true → is_linear x ≡ true → is_linear y ≡ true
        → value_of a u ≡ (if is_true (value_of a c) then value_of a x else value_of a y)
        → AreTrue (in_turn (at_once (fails c) ∷ at_most_literal numbering u x ∷ []) ∷ in_turn (at_once (fails c) ∷ at_most_literal numbering x u ∷ [])
        ∷ in_turn (at_once (holds c) ∷ at_most_literal numbering u y ∷ []) ∷ in_turn (at_once (holds c) ∷ at_most_literal numbering y u ∷ []) ∷ [])
    choice_rows u c x y h i j e =
        let b = is_true (value_of a c) in
        let is : unit_value a u ≡ number_of (if b then value_of a x else value_of a y) = ap number_of e in
        let left = λ (f : b ≡ true). is ∙ chosen b (value_of a x) (value_of a y) f in
        let right = λ (f : b ≡ false). is ∙ left_out b (value_of a x) (value_of a y) f in (
          implies b (is_literal_true a (at_most_literal numbering u x).result) (λ f. at_most_is numbering a u x h i ∙ same_le (unit_value a u) (unit_value a x) (left f)),
          (
            implies b (is_literal_true a (at_most_literal numbering x u).result) (λ f. at_most_is numbering a x u i h ∙ same_le (unit_value a x) (unit_value a u) (sym (left f))),
            (
              otherwise b (is_literal_true a (at_most_literal numbering u y).result) (λ f. at_most_is numbering a u y h j ∙ same_le (unit_value a u) (unit_value a y) (right f)),
              (
                otherwise b (is_literal_true a (at_most_literal numbering y u).result) (λ f. at_most_is numbering a y u j h ∙ same_le (unit_value a y) (unit_value a u) (sym (right f))),
                tt,
              ),
            ),
          ),
        )

    -- ---- div and mod

    -- of an integer n and a divisor k, which is the integer j: the quotient d and the remainder r
    record Divided (x : Term) (k : Fraction) (n j d r : ℤ) : Type 0 where
      linear : is_linear x ≡ true
      dividend : unit_value a x =ℚ whole n
      divisor : k =ℚ whole j
      is : floor k ≡ j
      division : IsDivision n j d r

    remainder_bound : (k : Fraction) (j r : ℤ) → floor k ≡ j → r <ℤ pos (unsigned_abs j) → whole r ≤ℚ greatest_remainder k
    remainder_bound k j r e h =
        subst (λ (i : ℤ). whole r ≤ℚ whole (pos (unsigned_abs i) +ℤ negsuc 0)) (sym e)
        (whole_le r (pos (unsigned_abs j) +ℤ negsuc 0) (omega (arith, ints, h)))

    module _ (x : Term) (k : Fraction) (n j d r : ℤ) (q : Term) (v : Divided x k n j d r) (quotient : unit_value a q ≡ whole d) where
      multiple_is : form_value a (times_unit k q) =ℚ whole (j *ℤ d)
      multiple_is =
          =ℚ_trans (times-value k q) (=ℚ_trans (*ℚ-same v.divisor (=ℚ-from_same quotient)) (whole_product j d))

      dividend_is : form_value a (form_of numbering x).result =ℚ whole n
      dividend_is = =ℚ_trans (form_has_value numbering a x v.linear) v.dividend

      rest_is : (whole n +ℚ neg_ℚ (whole (j *ℤ d))) =ℚ whole r
      rest_is =
          =ℚ_trans (+ℚ-same (=ℚ_refl (whole n)) (whole_negated (j *ℤ d)))
          (=ℚ_trans (whole_sum n (neg_ℤ (j *ℤ d))) (=ℚ-from_same (ap whole (left_over n (j *ℤ d) r v.division.whole_of))))
        where
          left_over : (n m r : ℤ) → n ≡ m +ℤ r → n +ℤ neg_ℤ m ≡ r
          left_over n m r e = omega (arith, ints, e)

      within : (n m r : ℤ) → n ≡ m +ℤ r → pos 0 ≤ℤ r → m ≤ℤ n
      within n m r e h = omega (arith, ints, e, h)

      quotient_true : AreTrue (map in_turn (quotient_rows numbering q x (Some k)))
      quotient_true =
          let f = (form_of numbering x).result in (
            alone _
                (zero_is (joined numbering Difference (times_unit k q) f).result (whole (j *ℤ d)) (whole n) (less-value (times_unit k q) f (whole (j *ℤ d)) (whole n) multiple_is dividend_is)
                ∙ le_is (whole (j *ℤ d)) (whole n) (whole_le (j *ℤ d) n (within n (j *ℤ d) r v.division.whole_of v.division.at_least_zero))),
            (
              alone _
                  (at_most_number_is (joined numbering Difference f (times_unit k q)) (whole r) (greatest_remainder k)
                  (=ℚ_trans (less-value f (times_unit k q) (whole n) (whole (j *ℤ d)) dividend_is multiple_is) rest_is)
                  ∙ le_is (whole r) (greatest_remainder k) (remainder_bound k j r v.is v.division.below)),
              tt,
            ),
          )

      remainder_true : (u : Term) → unit_value a u ≡ whole r → AreTrue (map in_turn (remainder_rows numbering u q x (Some k)))
      remainder_true u is =
          let f = (form_of numbering x).result in
          let own : form_value a (unit_form u) =ℚ whole r = =ℚ_trans (unit-value numbering a u) (=ℚ-from_same is) in
          let first = (joined numbering Difference f (times_unit k q)).result in
          let less : form_value a first =ℚ whole r = =ℚ_trans (less-value f (times_unit k q) (whole n) (whole (j *ℤ d)) dividend_is multiple_is) rest_is in
          let second = (joined numbering Sum (unit_form u) (times_unit k q)).result in
          let whole_again : (whole r +ℚ whole (j *ℤ d)) =ℚ whole n =
          =ℚ_trans (whole_sum r (j *ℤ d)) (=ℚ-from_same (ap whole (put_together n (j *ℤ d) r v.division.whole_of)))
          in
          let more : form_value a second =ℚ whole n = =ℚ_trans (plus-value (unit_form u) (times_unit k q) (whole r) (whole (j *ℤ d)) own multiple_is) whole_again in (
            alone _
                (zero_is (joined numbering Difference first (unit_form u)).result (whole r) (whole r) (less-value first (unit_form u) (whole r) (whole r) less own)
                ∙ same_le (whole r) (whole r) refl),
            (
              alone _
                  (zero_is (joined numbering Difference second f).result (whole n) (whole n) (less-value second f (whole n) (whole n) more dividend_is)
                  ∙ same_le (whole n) (whole n) refl),
              (
                alone _
                    (zero_is (negated_form (unit_form u)) (whole (pos 0)) (whole r)
                    (=ℚ_trans (form-negated numbering a (unit_form u)) (=ℚ_trans (neg_ℚ-same own) (=ℚ_sym (zero_left (neg_ℚ (whole r))))))
                    ∙ le_is (whole (pos 0)) (whole r) (whole_le (pos 0) r v.division.at_least_zero)),
                (
                  alone _
                      (le_is (parts_value a (unit_form u).parts) (greatest_remainder k)
                      (≤ℚ_trans (≤ℚ-from_eq (=ℚ_trans (=ℚ_sym (+ℚ-zero (parts_value a (unit_form u).parts))) own)) (remainder_bound k j r v.is v.division.below))),
                  tt,
                ),
              ),
            ),
          )
        where
          put_together : (n m r : ℤ) → n ≡ m +ℤ r → r +ℤ m ≡ n
          put_together n m r e = omega (arith, ints, e)

    -- the parts of a division by a constant
    divided_by : (x w : Term) (k : Fraction) → constant_value w ≡ Some k → is_zero k ≡ false → is_linear x ≡ true → IsOfSort int_sort (value_of a x) → IsOfSort int_sort (value_of a w)
        → Divided x k (integer_of (value_of a x)) (integer_of (value_of a w)) (div_of (integer_of (value_of a x)) (integer_of (value_of a w))) (mod_of (integer_of (value_of a x)) (integer_of (value_of a w)))
    divided_by x w k e z h s t =
        let known = constant_known a w k e in
        let divisor = =ℚ_trans (=ℚ-from_same (sym known)) (integer_is (value_of a w) t) in
        record {
          linear = h;
          dividend = integer_is (value_of a x) s;
          divisor = divisor;
          is = ap floor (sym known);
          division = divides (integer_of (value_of a x)) (integer_of (value_of a w))
              (λ f. true≢false (sym (fraction_eq-same k (whole (pos 0)) (=ℚ_trans divisor (=ℚ-from_same (ap whole f)))) ∙ z));
        }

    not_zero : (b : Bool) → (not b && true) ≡ true → b ≡ false
    not_zero false e = refl
    not_zero true e = absurd (true≢false (sym e))

    divided_linear : (x w : Term) → (not_none : Bool) → (not_none && (is_linear x && (is_linear w && true))) ≡ true → (not_none ≡ true) × (is_linear x ≡ true)
    divided_linear x w b e =
        let first = and_parts b (is_linear x && (is_linear w && true)) e in
        (first.0, (and_parts (is_linear x) (is_linear w && true) first.1).0)

    quotient_by : (x w q : Term) (m : Option Fraction) → constant_value w ≡ m → are_divisors (m ∷ []) ≡ true → is_linear x ≡ true
        → IsOfSort int_sort (value_of a x) → IsOfSort int_sort (value_of a w)
        → unit_value a q ≡ whole (div_of (integer_of (value_of a x)) (integer_of (value_of a w)))
        → AreTrue (map in_turn (quotient_rows numbering q x m))
    quotient_by x w q None e z h s t is = tt
    quotient_by x w q (Some k) e z h s t is =
        let n = integer_of (value_of a x) in
        let j = integer_of (value_of a w) in
        quotient_true x k n j (div_of n j) (mod_of n j) q (divided_by x w k e (not_zero (is_zero k) z) h s t) is

    remainder_by : (x w q u : Term) (m : Option Fraction) → constant_value w ≡ m → are_divisors (m ∷ []) ≡ true → is_linear x ≡ true
        → IsOfSort int_sort (value_of a x) → IsOfSort int_sort (value_of a w)
        → unit_value a q ≡ whole (div_of (integer_of (value_of a x)) (integer_of (value_of a w)))
        → unit_value a u ≡ whole (mod_of (integer_of (value_of a x)) (integer_of (value_of a w)))
        → AreTrue (map in_turn (remainder_rows numbering u q x m))
    remainder_by x w q u None e z h s t is are = tt
    remainder_by x w q u (Some k) e z h s t is are =
        let n = integer_of (value_of a x) in
        let j = integer_of (value_of a w) in
        remainder_true x k n j (div_of n j) (mod_of n j) q (divided_by x w k e (not_zero (is_zero k) z) h s t) is u are

    -- ---- abs

    at_most_size : (n : ℤ) → n ≤ℤ pos (unsigned_abs n)
    at_most_size (pos n) = omega (arith, ints)
    at_most_size (negsuc n) = omega (arith, ints)

    turned_at_most_size : (n : ℤ) → neg_ℤ n ≤ℤ pos (unsigned_abs n)
    turned_at_most_size (pos n) = omega (arith, ints)
    turned_at_most_size (negsuc n) = omega (arith, ints)

    -- the size of an integer is at most the integer, or at most its negation
    size_either : (n : ℤ) → (fraction_le (whole (pos (unsigned_abs n))) (whole n) || (fraction_le (whole (pos (unsigned_abs n))) (whole (neg_ℤ n)) || false)) ≡ true
    size_either (pos n) = or_first _ _ (le_is (whole (pos n)) (whole (pos n)) (≤ℚ_refl (whole (pos n))))
    size_either (negsuc n) = or_second _ _ (or_first _ false (le_is (whole (pos (suc n))) (whole (pos (suc n))) (≤ℚ_refl (whole (pos (suc n))))))

    magnitude_true : (u x : Term) (n : ℤ) → is_linear u ≡ true → is_linear x ≡ true → unit_value a x =ℚ whole n → unit_value a u ≡ whole (pos (unsigned_abs n))
        → AreTrue (map in_turn (magnitude_rows numbering u x))
    magnitude_true u x n h i e is =
        let f = (form_of numbering x).result in
        let size = pos (unsigned_abs n) in
        let own : form_value a (unit_form u) =ℚ whole size = =ℚ_trans (unit-value numbering a u) (=ℚ-from_same is) in
        let value : form_value a f =ℚ whole n = =ℚ_trans (form_has_value numbering a x i) e in
        let turned : form_value a (negated_form f) =ℚ whole (neg_ℤ n) = =ℚ_trans (form-negated numbering a f) (=ℚ_trans (neg_ℚ-same value) (whole_negated n)) in
        let low = (joined numbering Difference (negated_form f) (unit_form u)).result in
        let high = (joined numbering Sum (unit_form u) f).result in
        let back : whole n =ℚ neg_ℚ (whole (neg_ℤ n)) = =ℚ_sym (=ℚ_trans (neg_ℚ-same (=ℚ_sym (whole_negated n))) (neg-neg (whole n))) in (
          alone _
              (at_most_is numbering a x u i h
              ∙ le_is (unit_value a x) (unit_value a u) (≤ℚ_trans (≤ℚ-from_eq e) (≤ℚ_trans (whole_le n size (at_most_size n)) (≤ℚ-from_eq (=ℚ-from_same (sym is)))))),
          (
            alone _
                (zero_is low (whole (neg_ℤ n)) (whole size) (less-value (negated_form f) (unit_form u) (whole (neg_ℤ n)) (whole size) turned own)
                ∙ le_is (whole (neg_ℤ n)) (whole size) (whole_le (neg_ℤ n) size (turned_at_most_size n))),
            (
              ap₂ (λ (b c : Bool). b || (c || false))
                  (at_most_is numbering a u x h i ∙ le_alike (unit_value a u) (unit_value a x) (whole size) (whole n) (cmp-same (=ℚ-from_same is) e))
                  (zero_is high (whole size) (whole (neg_ℤ n))
                  (=ℚ_trans (plus-value (unit_form u) f (whole size) (whole n) own value) (+ℚ-same (=ℚ_refl (whole size)) back)))
                  ∙ size_either n,
              tt,
            ),
          ),
        )

    -- ---- to_int

    floor_rows : (u x : Term) → is_linear u ≡ true → is_linear x ≡ true → unit_value a u ≡ whole (floor (unit_value a x))
        → AreTrue (in_turn (at_most_literal numbering u x ∷ [])
        ∷ in_turn (below_number (whole (pos 1)) (minus numbering (form_of numbering x) (at_once (unit_form u))) ∷ []) ∷ [])
    floor_rows u x h i is =
        let p = unit_value a x in
        let n = floor p in
        let f = (form_of numbering x).result in
        let own : form_value a (unit_form u) =ℚ whole n = =ℚ_trans (unit-value numbering a u) (=ℚ-from_same is) in
        let one : (whole (n +ℤ pos 1) +ℚ neg_ℚ (whole n)) =ℚ whole (pos 1) =
        =ℚ_trans (+ℚ-same (=ℚ_refl (whole (n +ℤ pos 1))) (whole_negated n))
        (=ℚ_trans (whole_sum (n +ℤ pos 1) (neg_ℤ n)) (=ℚ-from_same (ap whole (one_more n))))
        in
        let below : (p +ℚ neg_ℚ (whole n)) <ℚ (whole (n +ℤ pos 1) +ℚ neg_ℚ (whole n)) =
        lt-carried p (whole (n +ℤ pos 1)) (p +ℚ neg_ℚ (whole n)) (whole (n +ℤ pos 1) +ℚ neg_ℚ (whole n)) (sym (cmp-+ℚ p (whole (n +ℤ pos 1)) (neg_ℚ (whole n)))) (rounds p).0.greatest
        in (
          alone _ (at_most_is numbering a u x h i ∙ ap (λ (q : Fraction). fraction_le q p) is ∙ le_is (whole n) p (rounds p).0.at_most),
          (
            alone _
                (below_number_is (joined numbering Difference f (unit_form u)) (p +ℚ neg_ℚ (whole n)) (whole (pos 1)) (less-value f (unit_form u) p (whole n) (form_has_value numbering a x i) own)
                ∙ lt_is (p +ℚ neg_ℚ (whole n)) (whole (pos 1)) (<ℚ-≤ℚ_trans below (≤ℚ-from_eq one))),
            tt,
          ),
        )
      where
        one_more : (n : ℤ) → (n +ℤ pos 1) +ℤ neg_ℤ n ≡ pos 1
        one_more n = omega (arith, ints)

    -- ---- The table

    chosen_linear : (c x y : Term) → (is_linear c && (is_linear x && (is_linear y && true))) ≡ true → (is_linear x ≡ true) × (is_linear y ≡ true)
    chosen_linear c x y e =
        let first = and_parts (is_linear c) (is_linear x && (is_linear y && true)) e in
        let second = and_parts (is_linear x) (is_linear y && true) first.1 in
        (second.0, (and_parts (is_linear y) true second.1).0)

    module _ (good : IsAssignment a) where
      unit_rows : (h : Head) (ts : Terms) → IsArithmetic (apply h ts) → AreTrue (unit_clauses numbering (apply h ts))
      unit_rows (choice int_sort) (terms c (terms x (terms y no_terms))) r =
          let both = chosen_linear c x y r.linear in
          choice_rows (apply (choice int_sort) (terms c (terms x (terms y no_terms)))) c x y r.linear both.0 both.1 refl
      unit_rows (choice real_sort) (terms c (terms x (terms y no_terms))) r =
          let both = chosen_linear c x y r.linear in
          choice_rows (apply (choice real_sort) (terms c (terms x (terms y no_terms)))) c x y r.linear both.0 both.1 refl
      unit_rows integer_quotient (terms x (terms w no_terms)) r =
          let both = divided_linear x w (are_divisors (constant_value w ∷ [])) r.linear in
          quotient_by x w (apply integer_quotient (terms x (terms w no_terms))) (constant_value w) refl both.0 both.1 (r.arguments.0 a good) (r.arguments.1.0 a good) refl
      unit_rows modulus (terms x (terms w no_terms)) r =
          let both = divided_linear x w (are_divisors (constant_value w ∷ [])) r.linear in
          remainder_by x w (apply integer_quotient (terms x (terms w no_terms))) (apply modulus (terms x (terms w no_terms))) (constant_value w) refl both.0 both.1
          (r.arguments.0 a good) (r.arguments.1.0 a good) refl refl
      unit_rows magnitude (terms x no_terms) r =
          magnitude_true (apply magnitude (terms x no_terms)) x (integer_of (value_of a x)) r.linear (and_parts (is_linear x) true r.linear).0 (integer_is (value_of a x) (r.arguments.0 a good)) refl
      unit_rows to_int (terms x no_terms) r =
          floor_rows (apply to_int (terms x no_terms)) x r.linear (and_parts (is_linear x) true r.linear).0 refl
      unit_rows h ts r = tt

pub units_are_true : UnitsAreTrue
units_are_true numbering a good (apply h ts) r = unit_rows a numbering good h ts r
