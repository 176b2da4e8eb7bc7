-- What is forced of terms is their value, under each assignment that agrees.
use Rattle.std.proofs.Common.{◌≡◌, Bool, true, false, not, ◌&&◌, inl, inr, List, [], ◌∷◌, pos, refl, sym, ap, subst, ◌∙◌, true≢false}
use Rattle.std.specs.Prelude.{Contains, ⊤, if◌then◌else◌}
use Rattle.std.proofs.lemmas.Bool.{and_parts}
use Rattle.std.proofs.lemmas.List.Elements.{Contains-append_left, Contains-append_right, Contains-push}
use Rattle.nz_fractions.specs.Fraction.{Fraction, whole, ◌=ℚ◌, fraction_eq, fraction_le, fraction_lt}
use Rattle.nz_fractions.proofs.Laws.{=ℚ_sym, =ℚ_trans, =ℚ-from_same}
use Rattle.nz_fractions.proofs.Order.{same-fraction_eq, fraction_eq-same}
use Rattle.nz_fractions.proofs.Arithmetic.{cmp-same}
use Rattle.nz_spec.specs.terms.Term.{NumberSort, over_int, over_real, sort_over, bool_sort, real_sort, is_bool, Constant, Head, constant, integer, decimal_number, verum, falsum, negation, conjunction, disjunction, exclusion, equality, choice, less, at_most, sum, difference, product, quotient, to_real, Term, apply, Terms, no_terms, terms, Value, truth, Assignment, is_true, number_of, are_equal, excluded, decimal_value, value_of, values_of, sort_of, IsOfSort}
use Rattle.nz_spec.specs.terms.Linear.{constant_values, is_linear_node, is_linear, are_linear}
use Rattle.nz_spec.specs.terms.Model.{IsAssignment}
use Rattle.nz_spec.specs.terms.Order.{post_order, post_orders}
use Rattle.nz_spec.specs.terms.Form.{Numbering, unit_value}
use Rattle.nz_spec.specs.terms.FormOf.{forms_of}
use Rattle.nz_spec.specs.terms.WellSorted.{AllAre, HaveOperands, IsWellSorted, AreWellSorted}
use Rattle.nz_spec.specs.terms.Taken.{IsTakenHead, HasTakenHeads, HaveTakenHeads}
use Rattle.nz_spec.specs.clauses.Literal.{are_same_sign}
use Rattle.nz_spec.specs.clauses.Gates.{is_boolean_term}
use Rattle.nz_spec.specs.clauses.Forced.{Truths, worth_of, IsForced, AreForced, IsOneForced, IsKnown, AreKnown, Agrees}
use Rattle.nz_spec.specs.simplex.Basis.{Valuation}
use Rattle.nz_spec.specs.laws.Forcing.{ForcedTermsHaveValues}
use Rattle.nz_spec.proofs.ArgumentTruths.{EachIs, OneIs, all_is, all_fails, some_fails, some_is}
use Rattle.nz_spec.proofs.ForcedOnce.{forced_once}
use Rattle.nz_spec.proofs.FormTerms.{Own, term-worth}
use Rattle.nz_spec.proofs.FormValues.{Match, constant-worth, unit-worth}
use Rattle.nz_spec.proofs.LinkTruths.{le_alike, lt_alike, and-true, equal_numbers}
use Rattle.nz_spec.proofs.OperandSorts.{operands_are}
use Rattle.nz_spec.proofs.Sorted.{value_is}

-- ---- Tests of equal numbers, and operators of truths

eq_alike : (p q x y : Fraction) → p =ℚ x → q =ℚ y → fraction_eq p q ≡ fraction_eq x y
eq_alike p q x y h k = by_tests (fraction_eq p q) (fraction_eq x y) refl refl
  where
    by_tests : (b c : Bool) → fraction_eq p q ≡ b → fraction_eq x y ≡ c → b ≡ c
    by_tests true true e f = refl
    by_tests false false e f = refl
    by_tests true false e f = absurd (true≢false (sym (fraction_eq-same x y (=ℚ_trans (=ℚ_sym h) (=ℚ_trans (same-fraction_eq p q e) k))) ∙ f))
    by_tests false true e f = absurd (true≢false (sym (fraction_eq-same p q (=ℚ_trans h (=ℚ_trans (same-fraction_eq x y f) (=ℚ_sym k)))) ∙ e))

negated : (sign : Bool) → truth (not (not sign)) ≡ truth sign
negated true = refl
negated false = refl

apart : (sign b : Bool) → excluded (truth b) (truth (are_same_sign (not sign) b)) ≡ truth sign
apart true true = refl
apart true false = refl
apart false true = refl
apart false false = refl

together : (sign b : Bool) → truth (are_equal (truth b) (truth (are_same_sign sign b)) && true) ≡ truth sign
together true true = refl
together true false = refl
together false true = refl
together false false = refl

same_either_way : (b : Bool) (x y z : Value) → x ≡ z → y ≡ z → (if b then x else y) ≡ z
same_either_way true x y z e f = e
same_either_way false x y z e f = f

branch_numbers : (b : Bool) (x y : Value) (q : Fraction) → q =ℚ number_of x → q =ℚ number_of y → q =ℚ number_of (if b then x else y)
branch_numbers true x y q h k = h
branch_numbers false x y q h k = k

module _ (number : Numbering) (a : Assignment) (truths : Truths) (v : Valuation) where
  -- ---- What is right of a term

  abbrev Forced : Term → Bool → Type 0
  Forced t sign = IsForced number truths v t sign

  abbrev HasWorth : Term → Type 0
  HasWorth t = worth_of number v t =ℚ unit_value a t

  -- what is forced of it is its value, or where it is known its form is worth its value
  abbrev IsRightAs : Bool → Term → Type 0
  IsRightAs true t = (sign : Bool) → Forced t sign → value_of a t ≡ truth sign
  IsRightAs false t = IsKnown number truths v t → HasWorth t

  abbrev IsRight : Term → Type 0
  IsRight t = IsRightAs (is_boolean_term t) t

  abbrev AreRight : Terms → Type 0
  AreRight no_terms = ⊤
  AreRight (terms t ts) = IsRight t × AreRight ts

  right_as : (t : Term) (b : Bool) → is_boolean_term t ≡ b → IsRight t → IsRightAs b t
  right_as t b e r = subst (λ (c : Bool). IsRightAs c t) e r

  -- ---- Lists of arguments

  each_is : (sign : Bool) (ts : Terms) → AllAre true ts → AreRight ts → AreForced number truths v ts sign → EachIs a sign ts
  each_is sign no_terms b r f = tt
  each_is sign (terms t ts) b r f = (right_as t true b.0 r.0 sign f.0, each_is sign ts b.1 r.1 f.1)

  one_is : (sign : Bool) (ts : Terms) → AllAre true ts → AreRight ts → IsOneForced number truths v ts sign → OneIs a sign ts
  one_is sign no_terms b r f = absurd f
  one_is sign (terms t ts) b r (inl f) = inl (right_as t true b.0 r.0 sign f)
  one_is sign (terms t ts) b r (inr f) = inr (one_is sign ts b.1 r.1 f)

  all_match : (ts : Terms) → AllAre false ts → AreRight ts → AreKnown number truths v ts → Match number v (forms_of number ts).result (values_of a ts)
  all_match no_terms b r k = tt
  all_match (terms t ts) b r k = (right_as t false b.0 r.0 k.0, all_match ts b.1 r.1 k.1)

  -- ---- Gates

  conjunction_right : (ts : Terms) → AllAre true ts → AreRight ts → IsRightAs true (apply conjunction ts)
  conjunction_right ts b r true f = all_is a ts (each_is true ts b r f)
  conjunction_right ts b r false f = all_fails a ts (one_is false ts b r f)

  disjunction_right : (ts : Terms) → AllAre true ts → AreRight ts → IsRightAs true (apply disjunction ts)
  disjunction_right ts b r true f = some_is a ts (one_is true ts b r f)
  disjunction_right ts b r false f = some_fails a ts (each_is false ts b r f)

  -- what is made of both
  made_of : (f : Value → Value → Value) (t u : Term) (p q : Bool) → value_of a t ≡ truth p → value_of a u ≡ truth q → f (value_of a t) (value_of a u) ≡ f (truth p) (truth q)
  made_of f t u p q h k = ap (λ (x : Value). f x (value_of a u)) h ∙ ap (λ (y : Value). f (truth p) y) k

  exclusion_right : (t u : Term) → IsRightAs true t → IsRightAs true u → IsRightAs true (apply exclusion (terms t (terms u no_terms)))
  exclusion_right t u r s sign f =
      made_of excluded t u f.0 (are_same_sign (not sign) f.0) (r f.0 f.1) (s (are_same_sign (not sign) f.0) f.2) ∙ apart sign f.0

  abbrev equated : Value → Value → Value
  equated x y = truth (are_equal x y && true)

  module _ (c t u : Term) (r : IsRightAs true c) where
    abbrev chosen : Value → Value
    chosen w = if is_true w then value_of a t else value_of a u

    choice_right : IsRightAs true t → IsRightAs true u → IsRightAs true (apply (choice bool_sort) (terms c (terms t (terms u no_terms))))
    choice_right p q sign (inl f) = ap chosen (r true f.0) ∙ p sign f.1
    choice_right p q sign (inr (inl f)) = ap chosen (r false f.0) ∙ q sign f.1
    choice_right p q sign (inr (inr f)) = same_either_way (is_true (value_of a c)) (value_of a t) (value_of a u) (truth sign) (p sign f.0) (q sign f.1)

    abbrev unit : Term
    unit = apply (choice real_sort) (terms c (terms t (terms u no_terms)))

    -- the unit is worth what the branch is
    branch_worth : (x : Term) → v unit =ℚ worth_of number v x → HasWorth x → v unit =ℚ unit_value a x
    branch_worth x e h = =ℚ_trans e h

    unit_worth : IsRightAs false t → IsRightAs false u → IsKnown number truths v unit → v unit =ℚ unit_value a unit
    unit_worth p q (inl f) = =ℚ_trans (branch_worth t f.1.1 (p f.1.0)) (=ℚ-from_same (sym (ap (λ (w : Value). number_of (chosen w)) (r true f.0))))
    unit_worth p q (inr (inl f)) = =ℚ_trans (branch_worth u f.1.1 (q f.1.0)) (=ℚ-from_same (sym (ap (λ (w : Value). number_of (chosen w)) (r false f.0))))
    unit_worth p q (inr (inr f)) =
        branch_numbers (is_true (value_of a c)) (value_of a t) (value_of a u) (v unit) (branch_worth t f.0.1 (p f.0.0)) (branch_worth u f.1.1 (q f.1.0))

    unit_right : IsRightAs false t → IsRightAs false u → IsRightAs false unit
    unit_right p q k = =ℚ_trans (unit-worth number v unit) (unit_worth p q k)

  -- ---- Comparisons

  module _ (t u : Term) (r : IsRightAs false t) (s : IsRightAs false u) where
    abbrev both : Terms
    both = terms t (terms u no_terms)

    compared : (h : HasWorth t) (k : HasWorth u) → (test : Fraction → Fraction → Bool) → test (worth_of number v t) (worth_of number v u) ≡ test (unit_value a t) (unit_value a u)
        → (sign : Bool) → test (worth_of number v t) (worth_of number v u) ≡ sign → truth (test (unit_value a t) (unit_value a u) && true) ≡ truth sign
    compared h k test e sign f = ap truth (and-true (test (unit_value a t) (unit_value a u)) ∙ sym e ∙ f)

    less_right : IsRightAs true (apply less both)
    less_right sign f =
        compared (r f.0) (s f.1) fraction_lt (lt_alike (worth_of number v t) (worth_of number v u) (unit_value a t) (unit_value a u) (cmp-same (r f.0) (s f.1))) sign f.2

    at_most_right : IsRightAs true (apply at_most both)
    at_most_right sign f =
        compared (r f.0) (s f.1) fraction_le (le_alike (worth_of number v t) (worth_of number v u) (unit_value a t) (unit_value a u) (cmp-same (r f.0) (s f.1))) sign f.2

    numbers_right : IsOfSort (sort_of t) (value_of a t) → is_boolean_term t ≡ false → (sign : Bool) → IsKnown number truths v t → IsKnown number truths v u
        → fraction_eq (worth_of number v t) (worth_of number v u) ≡ sign → value_of a (apply equality both) ≡ truth sign
    numbers_right is e sign k l f =
        ap truth (and-true (are_equal (value_of a t) (value_of a u)) ∙ equal_numbers number a (sort_of t) (value_of a t) (value_of a u) is e
        ∙ sym (eq_alike (worth_of number v t) (worth_of number v u) (unit_value a t) (unit_value a u) (r k) (s l)) ∙ f)

  equality_right : (t u : Term) (b : Bool) → AllAre b (terms t (terms u no_terms)) → AreRight (terms t (terms u no_terms)) → IsOfSort (sort_of t) (value_of a t)
      → IsRightAs true (apply equality (terms t (terms u no_terms)))
  equality_right t u true b r is sign (inl f) =
      made_of equated t u f.1 (are_same_sign sign f.1) (right_as t true b.0 r.0 f.1 f.2) (right_as u true b.1.0 r.1.0 (are_same_sign sign f.1) f.3) ∙ together sign f.1
  equality_right t u true b r is sign (inr f) = absurd (true≢false (sym b.0 ∙ f.0))
  equality_right t u false b r is sign (inl f) = absurd (true≢false (sym f.0 ∙ b.0))
  equality_right t u false b r is sign (inr f) = numbers_right t u (right_as t false b.0 r.0) (right_as u false b.1.0 r.1.0) is b.0 sign f.1 f.2 f.3

  -- ---- Terms

  over_number : (s : NumberSort) (t : Term) → IsRightAs false t → IsRightAs (is_bool (sort_over s)) t
  over_number over_int t h = h
  over_number over_real t h = h

  arithmetic_right : (h : Head) (ts : Terms) → AllAre false ts → AreRight ts → is_linear_node h (constant_values ts) ≡ true
      → Own h (forms_of number ts).result (v (apply h ts) =ℚ unit_value a (apply h ts)) → AreKnown number truths v ts → HasWorth (apply h ts)
  arithmetic_right h ts b r l own k = term-worth a number v h ts (all_match ts b r k) l own

  module _ (good : IsAssignment a) (parts : List Term) (m : Agrees truths v a parts) where
    abbrev AreParts : List Term → Type 0
    AreParts us = (u : Term) → Contains us u → Contains parts u

    constant_right : (c : Constant) → Contains parts (apply (constant c) no_terms) → IsRight (apply (constant c) no_terms)
    constant_right c at = by_sort (is_bool c.sort) refl
      where
        by_sort : (b : Bool) → is_bool c.sort ≡ b → IsRightAs b (apply (constant c) no_terms)
        by_sort true e = λ sign has. m.constants c sign at has
        by_sort false e = λ k. =ℚ_trans (unit-worth number v (apply (constant c) no_terms)) (=ℚ_sym (m.numbers c at e))

    verum_right : (sign : Bool) → Forced (apply verum no_terms) sign → truth true ≡ truth sign
    verum_right true f = refl
    verum_right false f = absurd f

    falsum_right : (sign : Bool) → Forced (apply falsum no_terms) sign → truth false ≡ truth sign
    falsum_right true f = absurd f
    falsum_right false f = refl

    negation_right : (t : Term) → IsRightAs true t → IsRightAs true (apply negation (terms t no_terms))
    negation_right t r sign f = ap (λ (x : Value). truth (not (is_true x))) (r (not sign) f) ∙ negated sign

    node_right : (h : Head) (ts : Terms) → IsTakenHead h ts → HaveOperands h ts → AreWellSorted [] ts → is_linear_node h (constant_values ts) ≡ true
        → AreRight ts → Contains parts (apply h ts) → IsRight (apply h ts)
    node_right (constant c) no_terms k o s l r at = constant_right c at
    node_right (integer n) no_terms k o s l r at = λ f. constant-worth number v (whole (pos n))
    node_right (decimal_number n places) no_terms k o s l r at = λ f. constant-worth number v (decimal_value n places)
    node_right verum no_terms k o s l r at = verum_right
    node_right falsum no_terms k o s l r at = falsum_right
    node_right negation (terms t no_terms) k o s l r at = negation_right t (right_as t true o.0 r.0)
    node_right conjunction ts k o s l r at = conjunction_right ts o r
    node_right disjunction ts k o s l r at = disjunction_right ts o r
    node_right exclusion (terms t (terms u no_terms)) k o s l r at = exclusion_right t u (right_as t true o.0 r.0) (right_as u true o.1.0 r.1.0)
    node_right equality (terms t (terms u no_terms)) k o s l r at = equality_right t u o.0 o.1 r (value_is a good [] t s.0)
    node_right less (terms t (terms u no_terms)) k o s l r at = less_right t u (right_as t false o.0 r.0) (right_as u false o.1.0 r.1.0)
    node_right at_most (terms t (terms u no_terms)) k o s l r at = at_most_right t u (right_as t false o.0 r.0) (right_as u false o.1.0 r.1.0)
    node_right (choice bool_sort) (terms c (terms t (terms u no_terms))) k o s l r at =
        choice_right c t u (right_as c true o.0 r.0) (right_as t true o.1.0 r.1.0) (right_as u true o.1.1.0 r.1.1.0)
    node_right (choice real_sort) (terms c (terms t (terms u no_terms))) k o s l r at =
        unit_right c t u (right_as c true o.0 r.0) (right_as t false o.1.0 r.1.0) (right_as u false o.1.1.0 r.1.1.0)
    node_right (sum n) ts k o s l r at = over_number n (apply (sum n) ts) (arithmetic_right (sum n) ts o r l tt)
    node_right (difference n) ts k o s l r at = over_number n (apply (difference n) ts) (arithmetic_right (difference n) ts o r l tt)
    node_right (product n) ts k o s l r at = over_number n (apply (product n) ts) (arithmetic_right (product n) ts o r l tt)
    node_right quotient ts k o s l r at = arithmetic_right quotient ts o r l tt
    node_right to_real (terms t no_terms) k o s l r at = arithmetic_right to_real (terms t no_terms) o r l tt
    node_right h ts k o s l r at = absurd k

    mutual
      right : (t : Term) → IsWellSorted [] t → is_linear t ≡ true → HasTakenHeads t → AreParts (post_order t) → IsRight t
      right (apply h ts) s l k within =
          let linear = and_parts (is_linear_node h (constant_values ts)) (are_linear ts) l in
          node_right h ts k.0 (operands_are h ts s.0) s.1 linear.0
          (all_right ts s.1 linear.1 k.1 (λ u at. within u (Contains-append_left (post_orders ts) (apply h ts ∷ []) u at)))
          (within (apply h ts) (Contains-push (post_orders ts) (apply h ts)))

      all_right : (ts : Terms) → AreWellSorted [] ts → are_linear ts ≡ true → HaveTakenHeads ts → AreParts (post_orders ts) → AreRight ts
      all_right no_terms s l k within = tt
      all_right (terms t ts) s l k within =
          let linear = and_parts (is_linear t) (are_linear ts) l in (
            right t s.0 linear.0 k.0 (λ u at. within u (Contains-append_left (post_order t) (post_orders ts) u at)),
            all_right ts s.1 linear.1 k.1 (λ u at. within u (Contains-append_right (post_order t) (post_orders ts) u at)),
          )

pub forced_terms_have_values : ForcedTermsHaveValues
forced_terms_have_values = record {
  truths = λ number a truths v t sign k good m e f.
      right_as number a truths v t true e (right number a truths v good (post_order t) m t k.sorted k.linear k.heads (λ u at. at)) sign f;
  numbers = λ number a truths v t k good m e f.
      =ℚ_sym (right_as number a truths v t false e (right number a truths v good (post_order t) m t k.sorted k.linear k.heads (λ u at. at)) f);
  once = forced_once;
}
