-- The normal term of a well sorted term is one of the gate table, or it holds a number.
use Rattle.std.proofs.Common.{◌≡◌, Bool, true, false, not, [], refl, sym, ap, ◌∙◌, true≢false}
use Rattle.std.specs.Prelude.{nat_lt}
use Rattle.std.proofs.lemmas.Bool.{and_parts, or_from, or_left, or_parts}
use Rattle.nz_spec.specs.terms.Term.{Sort, bool_sort, int_sort, real_sort, is_bool, is_int_sort, NumberSort, over_int, over_real, sort_over, Head, constant, integer, decimal_number, verum, falsum, negation, conjunction, disjunction, exclusion, equality, choice, less, at_most, sum, difference, product, quotient, integer_quotient, modulus, magnitude, to_real, to_int, is_int, head_sort, Term, apply, Terms, no_terms, terms, sort_of, is_numeric, holds_number, hold_number, is_integral, holds_integer, hold_integer}
use Rattle.nz_spec.specs.terms.Normal.{normal_of}
use Rattle.nz_spec.specs.terms.Operators.{Operator, at_most_operator, less_operator, has_sort, all_terms, term_count, takes, operands_of, operator_head}
use Rattle.nz_spec.specs.clauses.Gates.{IsRow, IsGated, AreGated}
use Rattle.nz_spec.specs.terms.WellSorted.{are_numbers, AreOperands, IsApplied, IsSortedHead, IsWellSorted, AreWellSorted, NormalTermsAreGated}
use Rattle.nz_spec.specs.terms.Taken.{IsTakenHead, HasTakenHeads, HaveTakenHeads}
use Rattle.nz_spec.proofs.NormalSorts.{of_sort, first_has, normal_stays_sorted}
use Rattle.nz_spec.proofs.NormalHeads.{normal_heads}

-- ---- What holds no number holds no unit of sort Int

plain_sort : (s : Sort) → not (is_bool s) ≡ false → is_int_sort s ≡ false
plain_sort bool_sort e = refl
plain_sort int_sort e = absurd (true≢false e)
plain_sort real_sort e = absurd (true≢false e)

plain_head : (h : Head) → is_numeric h ≡ false → is_integral h ≡ false
plain_head (constant c) e = plain_sort c.sort e
plain_head (choice s) e = plain_sort s e
plain_head integer_quotient e = absurd (true≢false e)
plain_head modulus e = absurd (true≢false e)
plain_head magnitude e = absurd (true≢false e)
plain_head to_int e = absurd (true≢false e)
plain_head is_int e = absurd (true≢false e)
plain_head h e = refl

mutual
  plain : (t : Term) → holds_number t ≡ false → holds_integer t ≡ false
  plain (apply h ts) e =
      let parts = or_parts (is_numeric h) (hold_number ts) e in
      or_from (is_integral h) (hold_integer ts) (plain_head h parts.0) (all_plain ts parts.1)

  all_plain : (ts : Terms) → hold_number ts ≡ false → hold_integer ts ≡ false
  all_plain no_terms e = refl
  all_plain (terms t ts) e =
      let parts = or_parts (holds_number t) (hold_number ts) e in
      or_from (holds_integer t) (hold_integer ts) (plain t parts.0) (all_plain ts parts.1)

-- ---- A comparison holds a number

numeric_head : (h : Head) → not (is_bool (head_sort h)) ≡ true → is_numeric h ≡ true
numeric_head is_int e = refl
numeric_head h e = e

number_holds : (t : Term) → not (is_bool (sort_of t)) ≡ true → holds_number t ≡ true
number_holds (apply h ts) e = or_left (is_numeric h) (hold_number ts) (numeric_head h e)

numbers_hold : (s : Sort) (ts : Terms) → nat_lt 1 (term_count ts) ≡ true → are_numbers s ts ≡ true → hold_number ts ≡ true
numbers_hold s no_terms n e = absurd (true≢false (sym n))
numbers_hold s (terms t ts) n e =
    let parts = and_parts (not (is_bool s)) (all_terms (has_sort s) (terms t ts)) e in
    or_left (holds_number t) (hold_number ts) (number_holds t (ap (λ (r : Sort). not (is_bool r)) (of_sort s t (first_has s t ts parts.1)) ∙ parts.0))

abbrev is_comparison : Head → Bool
is_comparison less = true
is_comparison at_most = true
is_comparison h = false

operator_holds : (o : Operator) (s : Sort) (ts : Terms) → is_comparison (operator_head o s) ≡ true → takes o (term_count ts) ≡ true
    → AreOperands (operands_of o) s ts → hold_number ts ≡ true
operator_holds at_most_operator s ts c n e = numbers_hold s ts n e
operator_holds less_operator s ts c n e = numbers_hold s ts n e
operator_holds o s ts c n e = absurd (true≢false (sym c))

comparison_holds : (h : Head) (ts : Terms) → is_comparison h ≡ true → IsApplied h ts → hold_number ts ≡ true
comparison_holds h ts c i = operator_holds i.operator i.sort ts (sym (ap is_comparison i.is) ∙ c) i.count i.operands

-- ---- Rows

boolean_sort : (s : Sort) → not (is_bool s) ≡ false → s ≡ bool_sort
boolean_sort bool_sort e = refl
boolean_sort int_sort e = absurd (true≢false e)
boolean_sort real_sort e = absurd (true≢false e)

numeric_over : (s : NumberSort) → not (is_bool (sort_over s)) ≡ true
numeric_over over_int = refl
numeric_over over_real = refl

row : (h : Head) (ts : Terms) → IsTakenHead h ts → IsSortedHead [] h ts → is_numeric h ≡ false → hold_number ts ≡ false → IsRow h ts
row (constant c) no_terms k i e f = boolean_sort c.sort e
row (integer n) no_terms k i e f = absurd (true≢false e)
row (decimal_number n places) no_terms k i e f = absurd (true≢false e)
row verum no_terms k i e f = tt
row falsum no_terms k i e f = tt
row negation (terms t no_terms) k i e f = tt
row conjunction ts k i e f = tt
row disjunction ts k i e f = tt
row exclusion (terms t (terms u no_terms)) k i e f = tt
row equality (terms t (terms u no_terms)) k i e f = tt
row less (terms t (terms u no_terms)) k i e f = absurd (true≢false (sym (comparison_holds less (terms t (terms u no_terms)) refl i) ∙ f))
row at_most (terms t (terms u no_terms)) k i e f = absurd (true≢false (sym (comparison_holds at_most (terms t (terms u no_terms)) refl i) ∙ f))
row (choice bool_sort) (terms c (terms t (terms u no_terms))) k i e f = tt
row (choice real_sort) (terms c (terms t (terms u no_terms))) k i e f = absurd (true≢false e)
row (sum s) ts k i e f = absurd (true≢false (sym (numeric_over s) ∙ e))
row (difference s) ts k i e f = absurd (true≢false (sym (numeric_over s) ∙ e))
row (product s) ts k i e f = absurd (true≢false (sym (numeric_over s) ∙ e))
row quotient ts k i e f = absurd (true≢false e)
row to_real (terms t no_terms) k i e f = absurd (true≢false e)
row h ts k i e f = absurd k

mutual
  pub gated : (t : Term) → IsWellSorted [] t → HasTakenHeads t → holds_number t ≡ false → IsGated t
  gated (apply h ts) w k e =
      let parts = or_parts (is_numeric h) (hold_number ts) e in
      (row h ts k.0 w.0 parts.0 parts.1, all_gated ts w.1 k.1 parts.1)

  all_gated : (ts : Terms) → AreWellSorted [] ts → HaveTakenHeads ts → hold_number ts ≡ false → AreGated ts
  all_gated no_terms w k e = tt
  all_gated (terms t ts) w k e =
      let parts = or_parts (holds_number t) (hold_number ts) e in
      (gated t w.0 k.0 parts.0, all_gated ts w.1 k.1 parts.1)

pub normal_terms_are_gated : NormalTermsAreGated
normal_terms_are_gated t w e = gated (normal_of t) (normal_stays_sorted [] t w).0 (normal_heads t w (plain (normal_of t) e)) e
