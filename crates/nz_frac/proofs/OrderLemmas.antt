-- How two numbers compare: by the numerators over one denominator, by the signs, and by products without signs.
use Rattle.std.proofs.Common.{◌≡◌, ℕ, suc, ◌*◌, ◌<◌, true, false, ℤ, pos, negsuc, ◌*ℤ◌, neg_ℤ, ◌<ℤ◌, unsigned_abs, int_lt, arith, sym, ap, ap₂, ◌∙◌, Ordering, Less, Equal, Greater, int_cmp, nat_cmp, nat_eq, eqb-true, eq-eqb, to_z, of_z}
use Rattle.std.specs.Ordering.{MatchOrdering}
use Rattle.std.specs.Cmp.{int_ranks, int_cmp_is, ranks, both_ways}
use Rattle.std.proofs.lemmas.Int.{ints}
use Rattle.std.specs.Int.{w128}
use Rattle.nz_ints.proofs.Sizes.{cast-back}
use Rattle.nz_ints.proofs.Products.{mul-lt-mul_pos}
use Rattle.nz_fractions.specs.Fraction.{Fraction, denominator, fraction_cmp, fraction_eq}
use Rattle.nz_fractions.proofs.Laws.{denominator_pos, IsLowest, lowest-same}
use Rattle.nz_fractions.proofs.Order.{same-fraction_eq, fraction_eq-same}
use Rattle.nz_frac.specs.Parts.{AreParts, value_of}
use Rattle.nz_frac.proofs.PartLemmas.{den_is, num_is, lowest-from_parts}

-- ---- one denominator

scaled : (a c : ℤ) (d : ℕ) → 0 < d → (o : Ordering) → MatchOrdering o (a <ℤ c) (a ≡ c) (c <ℤ a) → MatchOrdering o ((a *ℤ pos d) <ℤ (c *ℤ pos d)) (a *ℤ pos d ≡ c *ℤ pos d) ((c *ℤ pos d) <ℤ (a *ℤ pos d))
scaled a c d p Less h = mul-lt-mul_pos a c d p h
scaled a c d p Equal h = ap (λ (z : ℤ). z *ℤ pos d) h
scaled a c d p Greater h = mul-lt-mul_pos c a d p h

pub cmp-one_den : (p q : Fraction) → denominator p ≡ denominator q → int_cmp p.numerator q.numerator ≡ fraction_cmp p q
unfolding fraction_cmp
cmp-one_den p q e =
    int_cmp_is (p.numerator *ℤ pos (denominator q)) (q.numerator *ℤ pos (denominator q)) (int_cmp p.numerator q.numerator)
    (scaled p.numerator q.numerator (denominator q) (denominator_pos q) (int_cmp p.numerator q.numerator) (int_ranks p.numerator q.numerator))
    ∙ ap (λ (d : ℕ). int_cmp (p.numerator *ℤ pos (denominator q)) (q.numerator *ℤ pos d)) (sym e)

-- ---- by the signs

below_zero : (z : ℤ) → int_lt z (pos 0) ≡ true → z <ℤ pos 0
below_zero z h = omega (arith, ints)

signs_apart : (a c : ℤ) (b d : ℕ) → 0 < d → int_lt a (pos 0) ≡ true → int_lt c (pos 0) ≡ false → (a *ℤ pos d) <ℤ (c *ℤ pos b)
signs_apart (pos m) c b d p h k = absurd (omega (arith, ints))
signs_apart (negsuc m) (negsuc n) b d p h k = absurd (omega (arith, ints))
signs_apart (negsuc m) (pos n) b d p h k =
    let s : (negsuc m *ℤ pos d) <ℤ (pos 0 *ℤ pos d) = mul-lt-mul_pos (negsuc m) (pos 0) d p (below_zero (negsuc m) h) in
    omega (arith, ints, s)

pub cmp-less : (p q : Fraction) → int_lt p.numerator (pos 0) ≡ true → int_lt q.numerator (pos 0) ≡ false → Less ≡ fraction_cmp p q
unfolding fraction_cmp
cmp-less p q h k =
    int_cmp_is (p.numerator *ℤ pos (denominator q)) (q.numerator *ℤ pos (denominator p)) Less
    (signs_apart p.numerator q.numerator (denominator p) (denominator q) (denominator_pos q) h k)

pub cmp-greater : (p q : Fraction) → int_lt p.numerator (pos 0) ≡ false → int_lt q.numerator (pos 0) ≡ true → Greater ≡ fraction_cmp p q
unfolding fraction_cmp
cmp-greater p q h k =
    int_cmp_is (p.numerator *ℤ pos (denominator q)) (q.numerator *ℤ pos (denominator p)) Greater
    (signs_apart q.numerator p.numerator (denominator q) (denominator p) (denominator_pos p) k h)

-- ---- products without signs

naturals : (m n : ℕ) (o : Ordering) → MatchOrdering o (m < n) (m ≡ n) (n < m) → MatchOrdering o (pos m <ℤ pos n) (pos m ≡ pos n) (pos n <ℤ pos m)
naturals m n Less h = omega (arith, ints)
naturals m n Equal h = ap pos h
naturals m n Greater h = omega (arith, ints)

nat_cmp-pos : (m n : ℕ) → nat_cmp m n ≡ int_cmp (pos m) (pos n)
nat_cmp-pos m n = int_cmp_is (pos m) (pos n) (nat_cmp m n) (naturals m n (nat_cmp m n) (ranks m n))

turned : (m n : ℕ) (o : Ordering) → MatchOrdering o (m < n) (m ≡ n) (n < m) → MatchOrdering o (neg_ℤ (pos n) <ℤ neg_ℤ (pos m)) (neg_ℤ (pos n) ≡ neg_ℤ (pos m)) (neg_ℤ (pos m) <ℤ neg_ℤ (pos n))
turned m n Less h = omega (arith, ints)
turned m n Equal h = ap (λ (k : ℕ). neg_ℤ (pos k)) (sym h)
turned m n Greater h = omega (arith, ints)

nat_cmp-neg : (m n : ℕ) → nat_cmp m n ≡ int_cmp (neg_ℤ (pos n)) (neg_ℤ (pos m))
nat_cmp-neg m n = int_cmp_is (neg_ℤ (pos n)) (neg_ℤ (pos m)) (nat_cmp m n) (turned m n (nat_cmp m n) (ranks m n))

pos_cmp : (a c : ℤ) (b d : ℕ) → int_lt a (pos 0) ≡ false → int_lt c (pos 0) ≡ false → nat_cmp (unsigned_abs a * d) (unsigned_abs c * b) ≡ int_cmp (a *ℤ pos d) (c *ℤ pos b)
pos_cmp (pos m) (pos n) b d h k = nat_cmp-pos (m * d) (n * b)
pos_cmp (negsuc m) c b d h k = absurd (omega (arith, ints))
pos_cmp (pos m) (negsuc n) b d h k = absurd (omega (arith, ints))

neg_cmp : (a c : ℤ) (b d : ℕ) → int_lt a (pos 0) ≡ true → int_lt c (pos 0) ≡ true → nat_cmp (unsigned_abs c * b) (unsigned_abs a * d) ≡ int_cmp (a *ℤ pos d) (c *ℤ pos b)
neg_cmp (negsuc m) (negsuc n) b d h k = nat_cmp-neg (suc n * b) (suc m * d)
neg_cmp (pos m) c b d h k = absurd (omega (arith, ints))
neg_cmp (negsuc m) (pos n) b d h k = absurd (omega (arith, ints))

pub cmp-pos : (p q : Fraction) → int_lt p.numerator (pos 0) ≡ false → int_lt q.numerator (pos 0) ≡ false → nat_cmp (unsigned_abs p.numerator * denominator q) (unsigned_abs q.numerator * denominator p) ≡ fraction_cmp p q
unfolding fraction_cmp
cmp-pos p q h k = pos_cmp p.numerator q.numerator (denominator p) (denominator q) h k

pub cmp-neg : (p q : Fraction) → int_lt p.numerator (pos 0) ≡ true → int_lt q.numerator (pos 0) ≡ true → nat_cmp (unsigned_abs q.numerator * denominator p) (unsigned_abs p.numerator * denominator q) ≡ fraction_cmp p q
unfolding fraction_cmp
cmp-neg p q h k = neg_cmp p.numerator q.numerator (denominator p) (denominator q) h k

-- ---- equality of numbers

pub eq-one_num : (p q : Fraction) → IsLowest p → IsLowest q → p.numerator ≡ q.numerator → nat_eq (denominator p) (denominator q) ≡ fraction_eq p q
eq-one_num p q h k e =
    both_ways (nat_eq (denominator p) (denominator q)) (fraction_eq p q)
    (λ t. fraction_eq-same p q
    (record {
      cross = ap₂ (λ (n : ℤ) (d : ℕ). n *ℤ pos d) e (sym (eqb-true (denominator p) (denominator q) t));
    }))
    (λ t. eq-eqb (denominator p) (denominator q) (ap denominator (lowest-same (same-fraction_eq p q t) h k)))

pub eq-apart : (p q : Fraction) → IsLowest p → IsLowest q → (p.numerator ≡ q.numerator → ⊥) → false ≡ fraction_eq p q
eq-apart p q h k n =
    both_ways false (fraction_eq p q) (λ t. absurd (cc))
    (λ t. absurd (n (ap (λ (x : Fraction). x.numerator) (lowest-same (same-fraction_eq p q t) h k))))

-- ---- the numbers of the code

-- the parts of both, with the numerators read through their bits
pub record Both (p q : Fraction) (a c : ℤ) (b d : ℕ) : Type 0 where
  pub num_left : p.numerator ≡ to_z w128 (of_z w128 a)
  pub num_right : q.numerator ≡ to_z w128 (of_z w128 c)
  pub den_left : denominator p ≡ b
  pub den_right : denominator q ≡ d
  pub lowest_left : IsLowest p
  pub lowest_right : IsLowest q

pub both : {p q : Fraction} {a c : ℤ} {b d : ℕ} → AreParts a b → value_of a b ≡ p → AreParts c d → value_of c d ≡ q → Both p q a c b d
both {p} {q} {a} {c} {b} {d} s v t w = record {
  num_left = num_is a b p v ∙ sym (cast-back a s.num_fits);
  num_right = num_is c d q w ∙ sym (cast-back c t.num_fits);
  den_left = den_is a b p s v;
  den_right = den_is c d q t w;
  lowest_left = lowest-from_parts a b p s v;
  lowest_right = lowest-from_parts c d q t w;
}

pub order_one : {p q : Fraction} {a c : ℤ} {b d : ℕ} → AreParts a b → value_of a b ≡ p → AreParts c d → value_of c d ≡ q → b ≡ d → int_cmp a c ≡ fraction_cmp p q
order_one {p} {q} {a} {c} {b} {d} s v t w e =
    ap₂ (λ (x y : ℤ). int_cmp x y) (sym (num_is a b p v)) (sym (num_is c d q w))
    ∙ cmp-one_den p q (den_is a b p s v ∙ e ∙ sym (den_is c d q t w))

pub order_less : {p q : Fraction} {a c : ℤ} {b d : ℕ} → Both p q a c b d → int_lt (to_z w128 (of_z w128 a)) (pos 0) ≡ true → int_lt (to_z w128 (of_z w128 c)) (pos 0) ≡ false → Less ≡ fraction_cmp p q
order_less {p} {q} h i k =
    cmp-less p q (ap (λ (z : ℤ). int_lt z (pos 0)) h.num_left ∙ i) (ap (λ (z : ℤ). int_lt z (pos 0)) h.num_right ∙ k)

pub order_greater : {p q : Fraction} {a c : ℤ} {b d : ℕ} → Both p q a c b d → int_lt (to_z w128 (of_z w128 a)) (pos 0) ≡ false → int_lt (to_z w128 (of_z w128 c)) (pos 0) ≡ true → Greater ≡ fraction_cmp p q
order_greater {p} {q} h i k =
    cmp-greater p q (ap (λ (z : ℤ). int_lt z (pos 0)) h.num_left ∙ i) (ap (λ (z : ℤ). int_lt z (pos 0)) h.num_right ∙ k)

pub order_pos : {p q : Fraction} {a c : ℤ} {b d x y : ℕ} → Both p q a c b d → x ≡ unsigned_abs (to_z w128 (of_z w128 a)) → y ≡ unsigned_abs (to_z w128 (of_z w128 c)) → int_lt (to_z w128 (of_z w128 a)) (pos 0) ≡ false → int_lt (to_z w128 (of_z w128 c)) (pos 0) ≡ false → nat_cmp (x * d) (y * b) ≡ fraction_cmp p q
order_pos {p} {q} h ex ey i k =
    ap₂ (λ (m n : ℕ). nat_cmp m n)
    (ap₂ (λ (m n : ℕ). m * n) (ex ∙ ap unsigned_abs (sym h.num_left)) (sym h.den_right))
    (ap₂ (λ (m n : ℕ). m * n) (ey ∙ ap unsigned_abs (sym h.num_right)) (sym h.den_left))
    ∙ cmp-pos p q (ap (λ (z : ℤ). int_lt z (pos 0)) h.num_left ∙ i) (ap (λ (z : ℤ). int_lt z (pos 0)) h.num_right ∙ k)

pub order_neg : {p q : Fraction} {a c : ℤ} {b d x y : ℕ} → Both p q a c b d → x ≡ unsigned_abs (to_z w128 (of_z w128 a)) → y ≡ unsigned_abs (to_z w128 (of_z w128 c)) → int_lt (to_z w128 (of_z w128 a)) (pos 0) ≡ true → int_lt (to_z w128 (of_z w128 c)) (pos 0) ≡ true → nat_cmp (y * b) (x * d) ≡ fraction_cmp p q
order_neg {p} {q} h ex ey i k =
    ap₂ (λ (m n : ℕ). nat_cmp m n)
    (ap₂ (λ (m n : ℕ). m * n) (ey ∙ ap unsigned_abs (sym h.num_right)) (sym h.den_left))
    (ap₂ (λ (m n : ℕ). m * n) (ex ∙ ap unsigned_abs (sym h.num_left)) (sym h.den_right))
    ∙ cmp-neg p q (ap (λ (z : ℤ). int_lt z (pos 0)) h.num_left ∙ i) (ap (λ (z : ℤ). int_lt z (pos 0)) h.num_right ∙ k)

-- two numerators with the same bits are one, so the denominators decide
pub eq_bits : {p q : Fraction} {a c : ℤ} {b d : ℕ} → Both p q a c b d → of_z w128 a ≡ of_z w128 c → nat_eq b d ≡ fraction_eq p q
eq_bits {p} {q} h e =
    ap₂ (λ (m n : ℕ). nat_eq m n) (sym h.den_left) (sym h.den_right)
    ∙ eq-one_num p q h.lowest_left h.lowest_right (h.num_left ∙ ap (to_z w128) e ∙ sym h.num_right)

pub eq_other_bits : {p q : Fraction} {a c : ℤ} {b d : ℕ} → AreParts a b → value_of a b ≡ p → AreParts c d → value_of c d ≡ q → (of_z w128 a ≡ of_z w128 c → ⊥) → false ≡ fraction_eq p q
eq_other_bits {p} {q} {a} {c} {b} {d} s v t w n =
    let h = both s v t w in
    eq-apart p q h.lowest_left h.lowest_right
    (λ e. n (ap (of_z w128) (sym (num_is a b p v) ∙ e ∙ num_is c d q w)))
