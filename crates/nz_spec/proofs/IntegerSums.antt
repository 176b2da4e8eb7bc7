-- Sums of integers: the bounds that they keep may be rounded.
use Rattle.std.proofs.Common.{◌≡◌, ℕ, zero, suc, ◌<◌, Bool, true, false, not, ◌&&◌, ◌||◌, inl, inr, List, [], ◌∷◌, map, ℤ, pos, negsuc, ◌+ℤ◌, ◌*ℤ◌, neg_ℤ, ◌≤ℤ◌, ◌<ℤ◌, unsigned_abs, Some, None, refl, sym, ap, subst, ◌∙◌, arith}
use Rattle.std.specs.Prelude.{if◌then◌else◌, int_div}
use Rattle.std.specs.List.{AllByRecursion}
use Rattle.std.proofs.lemmas.Bool.{and_parts}
use Rattle.std.proofs.lemmas.Int.{ints, by_lt_z}
use Rattle.std.specs.Int.{◌∣◌}
use Rattle.std.proofs.Math.Nat.{dvd_trans}
use Rattle.std.proofs.lemmas.Nat.Gcd.{dvd_refl}
use Rattle.nz_ints.proofs.Divisors.{gcd-dvd_left, gcd-dvd_right}
use Rattle.nz_ints.proofs.Products.{mul-one}
use Rattle.nz_ints.proofs.Ring.{Atom, Literal as Number, ◌⊕◌, ◌⊗◌, solve}
use Rattle.nz_ints.proofs.FloorDivision.{int_div-mul_cancel}
use Rattle.nz_fractions.specs.Fraction.{Fraction, denominator, over, whole, ◌=ℚ◌, ◌≤ℚ◌, ◌<ℚ◌, ◌+ℚ◌, neg_ℚ, ◌*ℚ◌, fraction_le, fraction_lt, floor, ceiling, outcome, Difference, Product}
use Rattle.nz_spec.specs.numbers.Computation.{operated, at_once, turned_into}
use Rattle.nz_spec.specs.terms.Term.{Sort, int_sort, are_same_sort, Term, sort_of, Value, truth, number, Assignment, number_of, value_of, IsOfSort}
use Rattle.nz_spec.specs.terms.Model.{IsAssignment, HasSort}
use Rattle.nz_spec.specs.terms.Form.{Part, unit_value, parts_value, parts_scaled, negated_part}
use Rattle.nz_spec.specs.clauses.Literal.{term_literal, is_at_most, is_below, is_literal_true, Clause, clause_of, IsClauseTrue}
use Rattle.nz_spec.specs.clauses.LinearLiteral.{is_whole, is_integral_part, are_integral, common_divisor, tight_multiplier, greatest_below, rounded, is_without_units, HaveSortedUnits, TightSaysAsMuch}
use Rattle.nz_spec.specs.clauses.Cuts.{BranchClausesAreTrue}
use Rattle.nz_fractions.proofs.Laws.{=ℚ_refl, =ℚ_sym, =ℚ_trans, =ℚ-from_same, ≤ℚ-from_eq, ≤ℚ_trans, <ℚ-≤ℚ_trans, ≤ℚ-<ℚ_trans, ≤ℚ_total, denominator-over, numerator-over}
use Rattle.nz_fractions.proofs.Order.{same-fraction_eq, lt_is, lt_is_not, le_is, le_is_not}
use Rattle.nz_fractions.proofs.Arithmetic.{Parts, sum_parts, product_parts, neg_parts, whole_parts, by_parts, +ℚ-same, *ℚ-same, neg_ℚ-same, outcome-difference, outcome-product}
use Rattle.nz_spec.proofs.FormValues.{parts-scaled, parts-negated}
use Rattle.nz_spec.proofs.FarkasSums.{found}
use Rattle.nz_spec.proofs.Literals.{or_first, together}
use Rattle.nz_fractions.proofs.FloorsAndCeilings.{rounds}
use Rattle.nz_fractions.proofs.Bounds.{times_le, times_lt}
use Rattle.nz_fractions.proofs.Identities.{one_times}
use Rattle.nz_spec.proofs.Sorted.{same_sorts}

-- ---- Integers as fractions

pub whole_sum : (m n : ℤ) → (whole m +ℚ whole n) =ℚ whole (m +ℤ n)
whole_sum m n =
    by_parts (sum_parts (whole_parts m) (whole_parts n)) (whole_parts (m +ℤ n))
    (solve (m ∷ n ∷ []) ((Atom 0 ⊗ Number (pos 1) ⊕ Atom 1 ⊗ Number (pos 1)) ⊗ Number (pos 1)) ((Atom 0 ⊕ Atom 1) ⊗ (Number (pos 1) ⊗ Number (pos 1))) refl)

pub whole_product : (m n : ℤ) → (whole m *ℚ whole n) =ℚ whole (m *ℤ n)
whole_product m n =
    by_parts (product_parts (whole_parts m) (whole_parts n)) (whole_parts (m *ℤ n))
    (solve (m ∷ n ∷ []) ((Atom 0 ⊗ Atom 1) ⊗ Number (pos 1)) ((Atom 0 ⊗ Atom 1) ⊗ (Number (pos 1) ⊗ Number (pos 1))) refl)

pub whole_negated : (n : ℤ) → neg_ℚ (whole n) =ℚ whole (neg_ℤ n)
whole_negated n =
    by_parts (neg_parts (whole_parts n)) (whole_parts (neg_ℤ n)) refl

pub whole_le : (m n : ℤ) → m ≤ℤ n → whole m ≤ℚ whole n
unfolding denominator
whole_le m n h = let one = mul-one m in let other = mul-one n in record { cross = omega (arith, ints, h, one, other) }

pub whole_lt : (m n : ℤ) → m <ℤ n → whole m <ℚ whole n
unfolding denominator
whole_lt m n h = let one = mul-one m in let other = mul-one n in record { cross = omega (arith, ints, h, one, other) }

pub from_whole_lt : (m n : ℤ) → whole m <ℚ whole n → m <ℤ n
unfolding denominator
from_whole_lt m n h = let one = mul-one m in let other = mul-one n in let c = h.cross in omega (arith, ints, c, one, other)

-- ---- Rounding

-- an integer is within a bound where it is within the rounded bound
floor_bounds : (n : ℤ) (b : Fraction) → whole n ≤ℚ b → whole n ≤ℚ whole (floor b)
floor_bounds n b h =
    let above = from_whole_lt n (floor b +ℤ pos 1) (≤ℚ-<ℚ_trans h (rounds b).0.greatest) in
    whole_le n (floor b) (omega (arith, ints, above))

ceiling_bounds : (n : ℤ) (b : Fraction) → whole n <ℚ b → whole n ≤ℚ whole (ceiling b +ℤ negsuc 0)
ceiling_bounds n b h =
    let above = from_whole_lt n (ceiling b) (<ℚ-≤ℚ_trans h (rounds b).1.at_least) in
    whole_le n (ceiling b +ℤ negsuc 0) (omega (arith, ints, above))

greatest_is : (b : Fraction) → (greatest_below b).result =ℚ whole (ceiling b +ℤ negsuc 0)
greatest_is b =
    =ℚ_trans (outcome-difference (whole (ceiling b)) (whole (pos 1)))
    (=ℚ_trans (+ℚ-same (=ℚ_refl (whole (ceiling b))) (whole_negated (pos 1))) (whole_sum (ceiling b) (negsuc 0)))

pub floored : (p b : Fraction) (n : ℤ) → p =ℚ whole n → p ≤ℚ b → p ≤ℚ whole (floor b)
floored p b n e h = ≤ℚ_trans (≤ℚ-from_eq e) (floor_bounds n b (≤ℚ_trans (≤ℚ-from_eq (=ℚ_sym e)) h))

pub put_below : (p b : Fraction) (n : ℤ) → p =ℚ whole n → p <ℚ b → p ≤ℚ (greatest_below b).result
put_below p b n e h =
    ≤ℚ_trans (≤ℚ-from_eq e)
    (≤ℚ_trans (ceiling_bounds n b (≤ℚ-<ℚ_trans (≤ℚ-from_eq (=ℚ_sym e)) h)) (≤ℚ-from_eq (=ℚ_sym (greatest_is b))))

greatest_lt : (b : Fraction) → (greatest_below b).result <ℚ b
greatest_lt b = ≤ℚ-<ℚ_trans (≤ℚ-from_eq (greatest_is b)) (rounds b).1.least

-- ---- Sums of integers

-- a value of sort Int is an integer
pub whole_value : (v : Value) → IsOfSort int_sort v → number_of v =ℚ whole (number_of v).numerator
unfolding denominator
whole_value (truth b) h = absurd h
whole_value (number q) h = record { cross = ap (λ (b : ℕ). q.numerator *ℤ pos (suc b)) (sym h) }

-- each of the integers is a multiple
abbrev AreDivided : ℕ → List Part → Type 0
AreDivided d ps = AllByRecursion (λ (p : Part). d ∣ unsigned_abs (floor p.coefficient)) ps

divided : (d : ℕ) (ps : List Part) → d ∣ common_divisor ps → AreDivided d ps
divided d [] h = tt
divided d (p ∷ ps) h =
    let n = unsigned_abs (floor p.coefficient) in
    let g = common_divisor ps in
    (dvd_trans d h (gcd-dvd_left n g), divided d ps (dvd_trans d h (gcd-dvd_right n g)))

-- of a multiple d*k of an integer and a multiple d*s
multiples : (d k v s : ℤ) → (k *ℤ d) *ℤ v +ℤ d *ℤ s ≡ d *ℤ (k *ℤ v +ℤ s)
multiples d k v s = solve (d ∷ k ∷ v ∷ s ∷ []) ((Atom 1 ⊗ Atom 0) ⊗ Atom 2 ⊕ Atom 0 ⊗ Atom 3) (Atom 0 ⊗ (Atom 1 ⊗ Atom 2 ⊕ Atom 3)) refl

module _ (a : Assignment) (good : IsAssignment a) where
  integer_unit : (u : Term) → HasSort (sort_of u) u → are_same_sort (sort_of u) int_sort ≡ true → unit_value a u =ℚ whole (unit_value a u).numerator
  integer_unit u h e = whole_value (value_of a u) (subst (λ (s : Sort). IsOfSort s (value_of a u)) (same_sorts (sort_of u) int_sort e) (h a good))

  -- the sum is an integer, and a multiple of what divides the coefficients
  pub multiple_of : (d : ℕ) (ps : List Part) → are_integral ps ≡ true → HaveSortedUnits ps → AreDivided d ps → (s : ℤ) × (parts_value a ps =ℚ whole (pos d *ℤ s))
  multiple_of d [] e h k = (pos 0, =ℚ-from_same (ap whole (sym (times_none d))))
    where
      times_none : (d : ℕ) → pos d *ℤ pos 0 ≡ pos 0
      times_none d = solve (pos d ∷ []) (Atom 0 ⊗ Number (pos 0)) (Number (pos 0)) refl
  multiple_of d (p ∷ ps) e h k =
      let both = and_parts (is_integral_part p) (are_integral ps) e in
      let own = and_parts (is_whole p.coefficient) (are_same_sort (sort_of p.unit) int_sort) both.0 in
      let c = floor p.coefficient in
      let v = (unit_value a p.unit).numerator in
      let i = int_div c (pos d) in
      let rest = multiple_of d ps both.1 h.1 k.1 in
      let first : (p.coefficient *ℚ unit_value a p.unit) =ℚ whole (c *ℤ v) =
      =ℚ_trans (*ℚ-same (same-fraction_eq p.coefficient (whole c) own.0) (integer_unit p.unit h.0 own.1)) (whole_product c v)
      in (
        i *ℤ v +ℤ rest.0,
        =ℚ_trans (+ℚ-same first rest.1)
            (=ℚ_trans (whole_sum (c *ℤ v) (pos d *ℤ rest.0))
            (=ℚ-from_same (ap whole
            (ap (λ (z : ℤ). z *ℤ v +ℤ pos d *ℤ rest.0) (sym (int_div-mul_cancel c d k.0)) ∙ multiples (pos d) i v rest.0)))),
      )

  -- the sum is an integer
  pub integer_of_sum : (ps : List Part) → are_integral ps ≡ true → HaveSortedUnits ps → (n : ℤ) × (parts_value a ps =ℚ whole n)
  integer_of_sum ps e h =
      let g = common_divisor ps in
      let m = multiple_of g ps e h (divided g ps (dvd_refl g)) in
      (pos g *ℤ m.0, m.1)

-- ---- Branches

turned_next : (n j : ℤ) → j <ℤ n → neg_ℤ n ≤ℤ (neg_ℤ j +ℤ negsuc 0)
turned_next n j h = omega (arith, ints, h)

next_is : (k : Fraction) (j : ℤ) → k =ℚ whole j → outcome Difference (neg_ℚ k) (whole (pos 1)) =ℚ whole (neg_ℤ j +ℤ negsuc 0)
next_is k j e =
    =ℚ_trans (outcome-difference (neg_ℚ k) (whole (pos 1)))
    (=ℚ_trans (+ℚ-same (=ℚ_trans (neg_ℚ-same e) (whole_negated j)) (whole_negated (pos 1))) (whole_sum (neg_ℤ j) (negsuc 0)))

-- an integer is at most another, or its negation at most the negation of the next
either_side : (p q k c : Fraction) (n j : ℤ) → p =ℚ whole n → q =ℚ neg_ℚ p → k =ℚ whole j → c =ℚ whole (neg_ℤ j +ℤ negsuc 0)
    → (fraction_le p k || (fraction_le q c || false)) ≡ true
either_side p q k c n j e f g h =
    by_lt_z j n
    (λ i. by_second (fraction_le p k) (fraction_le q c)
    (le_is q c
    (≤ℚ_trans (≤ℚ-from_eq (=ℚ_trans f (=ℚ_trans (neg_ℚ-same e) (whole_negated n))))
    (≤ℚ_trans (whole_le (neg_ℤ n) (neg_ℤ j +ℤ negsuc 0) (turned_next n j i)) (≤ℚ-from_eq (=ℚ_sym h))))))
    (λ i. or_first (fraction_le p k) (fraction_le q c || false) (le_is p k (≤ℚ_trans (≤ℚ-from_eq e) (≤ℚ_trans (whole_le n j i) (≤ℚ-from_eq (=ℚ_sym g))))))
  where
    by_second : (b c : Bool) → c ≡ true → (b || (c || false)) ≡ true
    by_second true c g = refl
    by_second false c g = or_first c false g

module _ (ps : List Part) (k : Fraction) (c : Clause) (units : HaveSortedUnits ps) (a : Assignment) (good : IsAssignment a) where
  branch_by : (b : Bool) → (are_integral ps && is_whole k) ≡ b
      → (if b then turned_into (λ d. Some (clause_of (is_at_most ps k ∷ is_at_most (map negated_part ps) d ∷ []))) (operated Difference (neg_ℚ k) (whole (pos 1))) else at_once None).result ≡ Some c
      → IsClauseTrue a c
  branch_by false e f = absurd (cc)
  branch_by true e f =
      let both = and_parts (are_integral ps) (is_whole k) e in
      let sum = integer_of_sum a good ps both.0 units in
      let d = outcome Difference (neg_ℚ k) (whole (pos 1)) in
      let whole_k = same-fraction_eq k (whole (floor k)) both.1 in
      subst (IsClauseTrue a) (found f)
      (together a (is_at_most ps k ∷ is_at_most (map negated_part ps) d ∷ [])
      ∙ either_side (parts_value a ps) (parts_value a (map negated_part ps)) k d sum.0 (floor k) sum.1 (parts-negated (λ t. 0) a ps) whole_k (next_is k (floor k) whole_k))

pub branches_are_true : BranchClausesAreTrue
branches_are_true ps k c units e a good = branch_by ps k c units a good (are_integral ps && is_whole k) refl e

-- ---- Tight literals

-- 1/g times a multiple of g is an integer
multiplied : (g : ℕ) (s : ℤ) → (n : ℤ) × ((over (pos 1) g *ℚ whole (pos g *ℤ s)) =ℚ whole n)
unfolding over
multiplied zero s = (pos 0 *ℤ s, one_times (whole (pos 0 *ℤ s)))
multiplied (suc d) s = (
  s,
  by_parts (product_parts (unit_fraction (suc d) (omega arith)) (whole_parts (pos (suc d) *ℤ s))) (whole_parts s)
      (solve (pos (suc d) ∷ s ∷ []) ((Number (pos 1) ⊗ (Atom 0 ⊗ Atom 1)) ⊗ Number (pos 1)) (Atom 1 ⊗ (Atom 0 ⊗ Number (pos 1))) refl),
)
  where
    unit_fraction : (g : ℕ) → 0 < g → Parts (over (pos 1) g) (pos 1) (pos g)
    unit_fraction g h = record { num = numerator-over (pos 1) g; den = ap pos (denominator-over (pos 1) g h) }

multiplier_positive : (g : ℕ) → whole (pos 0) <ℚ over (pos 1) g
unfolding over denominator
multiplier_positive g = record { cross = omega (arith, ints) }

-- tests that say the same
agree_le : (p b q c : Fraction) → (p ≤ℚ b → q ≤ℚ c) → (b <ℚ p → c <ℚ q) → fraction_le q c ≡ fraction_le p b
agree_le p b q c h k =
    elim (≤ℚ_total p b) [ inl i ↦ le_is q c (h i) ∙ sym (le_is p b i) | inr i ↦ le_is_not q c (k i) ∙ sym (le_is_not p b i) ]

agree_lt : (p b q c : Fraction) → (p <ℚ b → q ≤ℚ c) → (b ≤ℚ p → c <ℚ q) → fraction_le q c ≡ fraction_lt p b
agree_lt p b q c h k =
    elim (≤ℚ_total b p) [ inl i ↦ le_is_not q c (k i) ∙ sym (lt_is_not p b i) | inr i ↦ le_is q c (h i) ∙ sym (lt_is p b i) ]

module _ (a : Assignment) (good : IsAssignment a) (ps : List Part) (b : Fraction) (units : HaveSortedUnits ps) where
  abbrev m : Fraction
  m = tight_multiplier ps

  -- the parts and the bound, multiplied
  abbrev q : Fraction
  q = parts_value a (parts_scaled (λ c. operated Product m c) ps).result

  abbrev c : Fraction
  c = outcome Product m b

  q_is : q =ℚ (m *ℚ parts_value a ps)
  q_is = parts-scaled (λ t. 0) a (λ d. operated Product m d) m (outcome-product m) ps

  c_is : c =ℚ (m *ℚ b)
  c_is = outcome-product m b

  q_whole : are_integral ps ≡ true → (n : ℤ) × (q =ℚ whole n)
  q_whole e =
      let g = common_divisor ps in
      let s = multiple_of a good g ps e units (divided g ps (dvd_refl g)) in
      let n = multiplied g s.0 in
      (n.0, =ℚ_trans q_is (=ℚ_trans (*ℚ-same (=ℚ_refl m) s.1) n.1))

  le_scaled : parts_value a ps ≤ℚ b → q ≤ℚ c
  le_scaled h = ≤ℚ_trans (≤ℚ-from_eq q_is) (≤ℚ_trans (times_le m (parts_value a ps) b (multiplier_positive (common_divisor ps)) h) (≤ℚ-from_eq (=ℚ_sym c_is)))

  lt_scaled : parts_value a ps <ℚ b → q <ℚ c
  lt_scaled h = ≤ℚ-<ℚ_trans (≤ℚ-from_eq q_is) (<ℚ-≤ℚ_trans (times_lt m (parts_value a ps) b (multiplier_positive (common_divisor ps)) h) (≤ℚ-from_eq (=ℚ_sym c_is)))

  ge_scaled : b ≤ℚ parts_value a ps → c ≤ℚ q
  ge_scaled h = ≤ℚ_trans (≤ℚ-from_eq c_is) (≤ℚ_trans (times_le m b (parts_value a ps) (multiplier_positive (common_divisor ps)) h) (≤ℚ-from_eq (=ℚ_sym q_is)))

  gt_scaled : b <ℚ parts_value a ps → c <ℚ q
  gt_scaled h = ≤ℚ-<ℚ_trans (≤ℚ-from_eq c_is) (<ℚ-≤ℚ_trans (times_lt m b (parts_value a ps) (multiplier_positive (common_divisor ps)) h) (≤ℚ-from_eq (=ℚ_sym q_is)))

  at_most_tight : are_integral ps ≡ true → fraction_le q (whole (floor c)) ≡ fraction_le (parts_value a ps) b
  at_most_tight e =
      let n = q_whole e in
      agree_le (parts_value a ps) b q (whole (floor c)) (λ h. floored q c n.0 n.1 (le_scaled h)) (λ h. ≤ℚ-<ℚ_trans (rounds c).0.at_most (gt_scaled h))

  below_tight : are_integral ps ≡ true → fraction_le q (greatest_below c).result ≡ fraction_lt (parts_value a ps) b
  below_tight e =
      let n = q_whole e in
      agree_lt (parts_value a ps) b q (greatest_below c).result (λ h. put_below q c n.0 n.1 (lt_scaled h)) (λ h. <ℚ-≤ℚ_trans (greatest_lt c) (ge_scaled h))

  at_most_by : (test : Bool) → (test ≡ true → are_integral ps ≡ true)
      → is_literal_true a (if test then rounded m ps b (λ d. at_once (whole (floor d))) else at_once (is_at_most ps b)).result ≡ fraction_le (parts_value a ps) b
  at_most_by true e = at_most_tight (e refl)
  at_most_by false e = refl

  below_by : (test : Bool) → (test ≡ true → are_integral ps ≡ true)
      → is_literal_true a (if test then rounded m ps b greatest_below else at_once (is_below ps b)).result ≡ fraction_lt (parts_value a ps) b
  below_by true e = below_tight (e refl)
  below_by false e = refl

pub tight_says_as_much : TightSaysAsMuch
tight_says_as_much a good (term_literal t sign) units = refl
tight_says_as_much a good (is_at_most ps b) units =
    at_most_by a good ps b units (are_integral ps && not (is_without_units ps)) (λ e. (and_parts (are_integral ps) (not (is_without_units ps)) e).0)
tight_says_as_much a good (is_below ps b) units =
    below_by a good ps b units (are_integral ps && not (is_without_units ps)) (λ e. (and_parts (are_integral ps) (not (is_without_units ps)) e).0)
