-- The tests that compare fractions: what each answer says, and the laws of `Eq` and `Ord`.
use Rattle.std.proofs.Common.{◌≡◌, Bool, true, false, cond, is_lt, int_lt, IsTrue, inl, inr, pos, ◌*ℤ◌, ◌<ℤ◌, refl, arith, sym, ◌∙◌, subst, true≢false, Ordering, Less, Equal, Greater}
use Rattle.std.proofs.lemmas.Int.{ints}
use Rattle.std.specs.Ordering.{MatchOrdering, eq_by_cmp, as_partial_cmp}
use Rattle.std.specs.Cmp.{IsPartialEquivalence, IsEquivalence, IsTotalOrder, IsPartialOrder, eq_by_cmp_equiv, partial_equiv_from_equiv, partial_order_from_agreeing_total, int_cmp_total, int_ranks, int_cmp_is, signed_Decides}
use Rattle.nz_fractions.specs.Fraction.{Fraction, denominator, ◌=ℚ◌, ◌≤ℚ◌, ◌<ℚ◌, fraction_eq, fraction_le, fraction_lt, fraction_cmp, reduce}
use Rattle.nz_fractions.proofs.Laws.{=ℚ_sym, =ℚ_trans, ≤ℚ-from_eq, <ℚ_trans, <ℚ-≤ℚ_trans, ≤ℚ-<ℚ_trans, ≤ℚ_total, reduce-alike}

crossed : (x y : Fraction) (o : Ordering) → MatchOrdering o ((x.numerator *ℤ pos (denominator y)) <ℤ (y.numerator *ℤ pos (denominator x))) (x.numerator *ℤ pos (denominator y) ≡ y.numerator *ℤ pos (denominator x)) ((y.numerator *ℤ pos (denominator x)) <ℤ (x.numerator *ℤ pos (denominator y))) → MatchOrdering o (x <ℚ y) (x =ℚ y) (y <ℚ x)
crossed x y Less h = record { cross = h }
crossed x y Equal h = record { cross = h }
crossed x y Greater h = record { cross = h }

uncrossed : (x y : Fraction) (o : Ordering) → MatchOrdering o (x <ℚ y) (x =ℚ y) (y <ℚ x) → MatchOrdering o ((x.numerator *ℤ pos (denominator y)) <ℤ (y.numerator *ℤ pos (denominator x))) (x.numerator *ℤ pos (denominator y) ≡ y.numerator *ℤ pos (denominator x)) ((y.numerator *ℤ pos (denominator x)) <ℤ (x.numerator *ℤ pos (denominator y)))
uncrossed x y Less h = h.cross
uncrossed x y Equal h = h.cross
uncrossed x y Greater h = h.cross

-- what an answer of `fraction_cmp` says
pub fraction_ranks : (x y : Fraction) → MatchOrdering (fraction_cmp x y) (x <ℚ y) (x =ℚ y) (y <ℚ x)
unfolding fraction_cmp
fraction_ranks x y = crossed x y (fraction_cmp x y) (int_ranks (x.numerator *ℤ pos (denominator y)) (y.numerator *ℤ pos (denominator x)))

pub fraction_ranked : (x y : Fraction) (o : Ordering) → o ≡ fraction_cmp x y → MatchOrdering o (x <ℚ y) (x =ℚ y) (y <ℚ x)
fraction_ranked x y o e = subst (λ (k : Ordering). MatchOrdering k (x <ℚ y) (x =ℚ y) (y <ℚ x)) (sym e) (fraction_ranks x y)

-- and the answer from what holds
pub fraction_cmp_is : (x y : Fraction) (o : Ordering) → MatchOrdering o (x <ℚ y) (x =ℚ y) (y <ℚ x) → o ≡ fraction_cmp x y
unfolding fraction_cmp
fraction_cmp_is x y o h = int_cmp_is (x.numerator *ℤ pos (denominator y)) (y.numerator *ℤ pos (denominator x)) o (uncrossed x y o h)

-- two tests tell the same
pub lt-cmp : (p q : Fraction) → fraction_lt p q ≡ is_lt (fraction_cmp p q)
unfolding fraction_lt fraction_cmp
lt-cmp p q = by_tests (int_lt (p.numerator *ℤ pos (denominator q)) (q.numerator *ℤ pos (denominator p))) (int_lt (q.numerator *ℤ pos (denominator p)) (p.numerator *ℤ pos (denominator q)))
  where
    by_tests : (a b : Bool) → a ≡ is_lt (cond a Less (cond b Greater Equal))
    by_tests true b = refl
    by_tests false true = refl
    by_tests false false = refl

moved : (x y z : Fraction) → x =ℚ y → (o : Ordering) → MatchOrdering o (y <ℚ z) (y =ℚ z) (z <ℚ y) → MatchOrdering o (x <ℚ z) (x =ℚ z) (z <ℚ x)
moved x y z e Less h = ≤ℚ-<ℚ_trans (≤ℚ-from_eq e) h
moved x y z e Equal h = =ℚ_trans e h
moved x y z e Greater h = <ℚ-≤ℚ_trans h (≤ℚ-from_eq (=ℚ_sym e))

pub fraction_cmp_total : IsTotalOrder fraction_cmp
unfolding fraction_cmp
fraction_cmp_total = record {
  antisymm = λ x y. int_cmp_total.antisymm (x.numerator *ℤ pos (denominator y)) (y.numerator *ℤ pos (denominator x));
  trans = λ x y z p q.
      sym (fraction_cmp_is x z Less (<ℚ_trans (fraction_ranked x y Less (sym p)) (fraction_ranked y z Less (sym q))));
  congr = λ x y z p.
      sym (fraction_cmp_is x z (fraction_cmp y z) (moved x y z (fraction_ranked x y Equal (sym p)) (fraction_cmp y z) (fraction_ranks y z)));
}

pub fraction_eq-cmp : (x y : Fraction) → fraction_eq x y ≡ eq_by_cmp fraction_cmp x y
unfolding fraction_eq fraction_cmp
fraction_eq-cmp x y = refl

pub fraction_eq_equiv : IsEquivalence fraction_eq
unfolding fraction_eq fraction_cmp
fraction_eq_equiv = eq_by_cmp_equiv fraction_cmp_total

pub fraction_eq_partial : IsPartialEquivalence fraction_eq
fraction_eq_partial = partial_equiv_from_equiv fraction_eq_equiv

pub fraction_cmp_partial : IsPartialOrder fraction_eq (as_partial_cmp fraction_cmp)
fraction_cmp_partial = partial_order_from_agreeing_total fraction_cmp fraction_cmp_total (λ x y. refl) fraction_eq-cmp

pub same-fraction_eq : (x y : Fraction) → IsTrue (fraction_eq x y) → x =ℚ y
unfolding fraction_eq
same-fraction_eq x y h =
    record { cross = (signed_Decides (x.numerator *ℤ pos (denominator y)) (y.numerator *ℤ pos (denominator x))).0 h }

pub fraction_eq-same : (x y : Fraction) → x =ℚ y → fraction_eq x y ≡ true
unfolding fraction_eq
fraction_eq-same x y h =
    (signed_Decides (x.numerator *ℤ pos (denominator y)) (y.numerator *ℤ pos (denominator x))).1 h.cross

pub reduce-fraction_eq : (x y : Fraction) → IsTrue (fraction_eq x y) → reduce x ≡ reduce y
reduce-fraction_eq x y h = reduce-alike (same-fraction_eq x y h)

-- ---- Less, and at most

pub lt_is : (p q : Fraction) → p <ℚ q → fraction_lt p q ≡ true
unfolding fraction_lt
lt_is p q h = let e : true ≡ fraction_lt p q = omega (arith, ints, h.cross) in sym e

pub lt_is_not : (p q : Fraction) → q ≤ℚ p → fraction_lt p q ≡ false
unfolding fraction_lt
lt_is_not p q h = let e : false ≡ fraction_lt p q = omega (arith, ints, h.cross) in sym e

pub le_is : (p q : Fraction) → p ≤ℚ q → fraction_le p q ≡ true
unfolding fraction_le
le_is p q h = let e : true ≡ fraction_le p q = omega (arith, ints, h.cross) in sym e

pub le_is_not : (p q : Fraction) → q <ℚ p → fraction_le p q ≡ false
unfolding fraction_le
le_is_not p q h = let e : false ≡ fraction_le p q = omega (arith, ints, h.cross) in sym e

pub le_from : (p q : Fraction) → fraction_le p q ≡ true → p ≤ℚ q
le_from p q e = elim (≤ℚ_total p q) [ inl h ↦ h | inr h ↦ absurd (true≢false (sym e ∙ le_is_not p q h)) ]

pub lt_from : (p q : Fraction) → fraction_lt p q ≡ true → p <ℚ q
lt_from p q e = elim (≤ℚ_total q p) [ inl h ↦ absurd (true≢false (sym e ∙ lt_is_not p q h)) | inr h ↦ h ]
