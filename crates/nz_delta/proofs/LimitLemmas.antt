-- The limits of pairs: their divisors are not 0, and one more pair leaves the lesser of what was there and its limit.
use Rattle.std.proofs.Common.{◌≡◌, ℕ, Bool, true, false, refl, sym, ap, ◌∙◌, ℤ, pos, ◌*ℤ◌, List, [], ◌∷◌, ◌++◌, map, length, drop, Some, None, Ordering, Less, Equal, Greater, is_lt, int_lt, int_le, not, arith, if◌then◌else◌, append-nil, drop_of_length-le, ◌≤◌}
use Rattle.std.proofs.Math.IntN.{zero-*ℤ}
use Rattle.std.proofs.lemmas.Int.{ints}
use Rattle.nz_fractions.specs.Fraction.{Fraction, denominator, whole, ◌=ℚ◌, ◌<ℚ◌, ◌+ℚ◌, neg_ℚ, fraction_cmp, fraction_lt, fraction_le, fraction_min, outcome, Difference, Operation, first_wide}
use Rattle.nz_spec.specs.numbers.Infinitesimal.{Pair, is_limiting, limit, limits, limit_operations, least_from, chosen_delta, delta_operations}
use Rattle.nz_fractions.proofs.Laws.{=ℚ_sym, =ℚ_trans, <ℚ_irrefl, ≤ℚ-from_eq}
use Rattle.nz_fractions.proofs.Order.{fraction_ranked, fraction_cmp_is, lt-cmp}
use Rattle.nz_fractions.proofs.Arithmetic.{outcome-difference, +ℚ-neg, cmp-+ℚ}
use Rattle.nz_delta.specs.declared.delta.Delta.{Delta}
use Rattle.nz_delta.specs.Pairs.{pair_of}
use Rattle.nz_fractions.proofs.FirstOperations.{first_wide-none, first_wide-some}

zero_value : (q : Fraction) → q.numerator ≡ pos 0 → q =ℚ whole (pos 0)
zero_value q e =
    record {
      cross =
          ap (λ (z : ℤ). z *ℤ pos (denominator (whole (pos 0)))) e
          ∙ zero-*ℤ (pos (denominator (whole (pos 0))))
          ∙ sym (zero-*ℤ (pos (denominator q)));
    }

pub nonzero_difference : {p q : Fraction} → q <ℚ p → (outcome Difference p q).numerator ≡ pos 0 → ⊥
nonzero_difference {p} {q} h e =
    let none : (p +ℚ neg_ℚ q) =ℚ whole (pos 0) = =ℚ_trans (=ℚ_sym (outcome-difference p q)) (zero_value (outcome Difference p q) e) in
    let alike : (p +ℚ neg_ℚ q) =ℚ (q +ℚ neg_ℚ q) = =ℚ_trans none (=ℚ_sym (+ℚ-neg q)) in
    let same : Equal ≡ fraction_cmp p q = fraction_cmp_is (p +ℚ neg_ℚ q) (q +ℚ neg_ℚ q) Equal alike ∙ cmp-+ℚ p q (neg_ℚ q) in
    <ℚ_irrefl h (≤ℚ-from_eq (fraction_ranked p q Equal same))

-- ---- tests

pub below-from_cmp : (p q : Fraction) → true ≡ is_lt (fraction_cmp p q) → p <ℚ q
below-from_cmp p q e = by_order (fraction_cmp p q) refl e
  where
    by_order : (o : Ordering) → o ≡ fraction_cmp p q → true ≡ is_lt o → p <ℚ q
    by_order Less e t = fraction_ranked p q Less e
    by_order Equal e t = absurd (cc)
    by_order Greater e t = absurd (cc)

le-lt : (x y : ℤ) (b : Bool) → int_lt y x ≡ b → int_le x y ≡ not b
le-lt x y true h = let e : false ≡ int_le x y = omega (arith, ints) in sym e
le-lt x y false h = let e : true ≡ int_le x y = omega (arith, ints) in sym e

le-cmp : (p q : Fraction) → fraction_le p q ≡ not (fraction_lt q p)
unfolding fraction_le fraction_lt
le-cmp p q =
    le-lt (p.numerator *ℤ pos (denominator q)) (q.numerator *ℤ pos (denominator p)) (fraction_lt q p) refl

pub min_second : (a b : Fraction) → true ≡ is_lt (fraction_cmp b a) → b ≡ fraction_min a b
unfolding fraction_min
min_second a b h =
    sym (ap (λ (t : Bool). if t then a else b) (le-cmp a b ∙ ap not (lt-cmp b a ∙ sym h)))

pub min_first : (a b : Fraction) → false ≡ is_lt (fraction_cmp b a) → a ≡ fraction_min a b
unfolding fraction_min
min_first a b h =
    sym (ap (λ (t : Bool). if t then a else b) (le-cmp a b ∙ ap not (lt-cmp b a ∙ sym h)))

-- ---- one pair alone

limiting : (x : Pair) (b : Bool) → b ≡ is_lt (fraction_cmp x.1.coefficient x.0.coefficient) → is_limiting x ≡ b
unfolding is_limiting
limiting x b h = lt-cmp x.1.coefficient x.0.coefficient ∙ sym h

pub least-limited : (x : Pair) (e : Fraction) → true ≡ is_lt (fraction_cmp x.1.coefficient x.0.coefficient) → least_from e (limits (x ∷ [])) ≡ fraction_min e (limit x)
unfolding limits least_from
least-limited x e h =
    ap (λ (b : Bool). least_from e (if b then limit x ∷ [] else [])) (limiting x true h)

pub least-free : (x : Pair) (e : Fraction) → false ≡ is_lt (fraction_cmp x.1.coefficient x.0.coefficient) → least_from e (limits (x ∷ [])) ≡ e
unfolding limits least_from
least-free x e h =
    ap (λ (b : Bool). least_from e (if b then limit x ∷ [] else [])) (limiting x false h)

pub operations-limited : (x : Pair) → true ≡ is_lt (fraction_cmp x.1.coefficient x.0.coefficient) → first_wide (delta_operations (x ∷ [])) ≡ first_wide (limit_operations x)
unfolding delta_operations
operations-limited x h =
    ap (λ (b : Bool). first_wide (if b then limit_operations x ++ [] else [])) (limiting x true h)
    ∙ ap first_wide (append-nil (limit_operations x))

pub operations-free : (x : Pair) → false ≡ is_lt (fraction_cmp x.1.coefficient x.0.coefficient) → first_wide (delta_operations (x ∷ [])) ≡ None
unfolding delta_operations first_wide
operations-free x h =
    ap (λ (b : Bool). first_wide (if b then limit_operations x ++ [] else [])) (limiting x false h)

-- ---- one more pair

pub limits-cons : (x : Pair) (xs : List Pair) (e : Fraction) → least_from e (limits (x ∷ xs)) ≡ least_from (least_from e (limits (x ∷ []))) (limits xs)
unfolding limits least_from
limits-cons x xs e = by_test (is_limiting x)
  where
    by_test : (b : Bool) → least_from e (if b then limit x ∷ limits xs else limits xs) ≡ least_from (least_from e (if b then limit x ∷ [] else [])) (limits xs)
    by_test true = refl
    by_test false = refl

pub operations-cons_none : (x : Pair) (xs : List Pair) → first_wide (delta_operations (x ∷ [])) ≡ None → first_wide (delta_operations (x ∷ xs)) ≡ first_wide (delta_operations xs)
unfolding delta_operations
operations-cons_none x xs = by_test (is_limiting x)
  where
    by_test : (b : Bool) → first_wide (if b then limit_operations x ++ [] else []) ≡ None → first_wide (if b then limit_operations x ++ delta_operations xs else delta_operations xs) ≡ first_wide (delta_operations xs)
    by_test true e = first_wide-none (limit_operations x) (delta_operations xs) (ap first_wide (sym (append-nil (limit_operations x))) ∙ e)
    by_test false e = refl

pub operations-cons_some : (x : Pair) (xs : List Pair) (o : Operation) → first_wide (delta_operations (x ∷ [])) ≡ Some o → first_wide (delta_operations (x ∷ xs)) ≡ Some o
unfolding delta_operations first_wide
operations-cons_some x xs o = by_test (is_limiting x)
  where
    by_test : (b : Bool) → first_wide (if b then limit_operations x ++ [] else []) ≡ Some o → first_wide (if b then limit_operations x ++ delta_operations xs else delta_operations xs) ≡ Some o
    by_test true e = first_wide-some (limit_operations x) (delta_operations xs) o (ap first_wide (sym (append-nil (limit_operations x))) ∙ e)
    by_test false e = absurd (cc)

pub chosen_from : (ps : List Pair) {one : Fraction} → one ≡ whole (pos 1) → chosen_delta ps ≡ least_from one (limits ps)
unfolding chosen_delta
chosen_from ps {one} e = ap (λ (q : Fraction). least_from q (limits ps)) (sym e)

-- ---- no more pairs

pub ended : (ps : List (Delta × Delta)) (i : ℕ) (e : Fraction) → length ps ≤ i → least_from e (limits (map pair_of (drop i ps))) ≡ e
unfolding limits least_from
ended ps i e h = ap (λ (xs : List (Delta × Delta)). least_from e (limits (map pair_of xs))) (drop_of_length-le ps h)

pub ended_operations : (ps : List (Delta × Delta)) (i : ℕ) → length ps ≤ i → first_wide (delta_operations (map pair_of (drop i ps))) ≡ None
unfolding delta_operations first_wide
ended_operations ps i h = ap (λ (xs : List (Delta × Delta)). first_wide (delta_operations (map pair_of xs))) (drop_of_length-le ps h)

-- ---- whole numbers
