-- Fractions by cross products: equality, order, lowest terms and arithmetic.
use Rattle.std.proofs.Common.{◌≡◌, ℕ, zero, suc, ◌*◌, ◌/◌, ◌<◌, ◌⊎◌, inl, inr, ℤ, pos, ◌*ℤ◌, ◌≤ℤ◌, ◌<ℤ◌, unsigned_abs, int_div, refl, arith, sym, ap, ap₂, ◌∙◌, subst}
use Rattle.std.proofs.Math.IntN.{*ℤ_comm}
use Rattle.std.proofs.Math.Nat.{div-mul_cancel}
use Rattle.std.proofs.lemmas.Int.{ints, unsigned_abs-mul, by_lt_z}
use Rattle.nz_ints.proofs.Sizes.{factor_pos}
use Rattle.nz_ints.proofs.Products as products
use Rattle.nz_ints.proofs.Divisors.{gcd-dvd_left, gcd-dvd_right, gcd_pos, coprime-rests, lowest-unique}
use Rattle.nz_ints.proofs.FloorDivision.{int_div-mul_cancel, unsigned_abs-int_div}
use Rattle.nz_fractions.specs.Fraction.{Fraction, denominator, over, ◌=ℚ◌, ◌≤ℚ◌, ◌<ℚ◌, gcd, reduce}

-- ---- the parts of a fraction

pub denominator_pos : (q : Fraction) → 0 < denominator q
unfolding denominator
denominator_pos q = omega arith

pub denominator-over : (n : ℤ) (d : ℕ) → 0 < d → denominator (over n d) ≡ d
unfolding denominator over
denominator-over n zero p = absurd (omega arith)
denominator-over n (suc d) p = refl

pub numerator-over : (n : ℤ) (d : ℕ) → (over n d).numerator ≡ n
unfolding over
numerator-over n d = refl

-- ---- equality and order

pub =ℚ_refl : (q : Fraction) → q =ℚ q
=ℚ_refl q = record { cross = refl }

pub =ℚ-from_same : {p q : Fraction} → p ≡ q → p =ℚ q
=ℚ-from_same {p} {q} e = subst (λ (x : Fraction). p =ℚ x) e (=ℚ_refl p)

pub =ℚ_sym : {p q : Fraction} → p =ℚ q → q =ℚ p
=ℚ_sym h = record { cross = sym h.cross }

-- a/b and c/d against e/f, each over all three denominators
step_left : (a : ℤ) (d f : ℕ) → (a *ℤ pos d) *ℤ pos f ≡ (a *ℤ pos f) *ℤ pos d
step_left a d f = products.mul_right_comm a (pos d) (pos f)

pub =ℚ_trans : {p q r : Fraction} → p =ℚ q → q =ℚ r → p =ℚ r
=ℚ_trans {p} {q} {r} h k = record {
  cross =
      products.mul_pos_cancel
      (p.numerator *ℤ pos (denominator r))
      (r.numerator *ℤ pos (denominator p))
      (denominator q)
      (denominator_pos q)
      (step_left p.numerator (denominator r) (denominator q)
      ∙ ap (λ (z : ℤ). z *ℤ pos (denominator r)) h.cross
      ∙ step_left q.numerator (denominator p) (denominator r)
      ∙ ap (λ (z : ℤ). z *ℤ pos (denominator p)) k.cross
      ∙ step_left r.numerator (denominator q) (denominator p));
}

pub ≤ℚ-from_eq : {p q : Fraction} → p =ℚ q → p ≤ℚ q
≤ℚ-from_eq h = record { cross = omega (arith, ints, h.cross) }

pub ≤ℚ_refl : (q : Fraction) → q ≤ℚ q
≤ℚ_refl q = ≤ℚ-from_eq (=ℚ_refl q)

pub ≤ℚ-from_lt : {p q : Fraction} → p <ℚ q → p ≤ℚ q
≤ℚ-from_lt h = record { cross = omega (arith, ints, h.cross) }

pub ≤ℚ_antisymm : {p q : Fraction} → p ≤ℚ q → q ≤ℚ p → p =ℚ q
≤ℚ_antisymm h k = record { cross = omega (arith, ints, h.cross, k.cross) }

pub ≤ℚ_trans : {p q r : Fraction} → p ≤ℚ q → q ≤ℚ r → p ≤ℚ r
≤ℚ_trans {p} {q} {r} h k =
    let m : (p.numerator *ℤ pos (denominator q) *ℤ pos (denominator r)) ≤ℤ (q.numerator *ℤ pos (denominator p) *ℤ pos (denominator r)) =
    products.mul-le-mul_pos _ _ (denominator r) h.cross
    in
    let n : (q.numerator *ℤ pos (denominator r) *ℤ pos (denominator p)) ≤ℤ (r.numerator *ℤ pos (denominator q) *ℤ pos (denominator p)) =
    products.mul-le-mul_pos _ _ (denominator p) k.cross
    in
    let e = step_left p.numerator (denominator r) (denominator q) in
    let f = step_left q.numerator (denominator p) (denominator r) in
    let g = step_left r.numerator (denominator q) (denominator p) in
    record {
      cross = products.le_of_mul-le-mul_pos _ _ (denominator q) (denominator_pos q) (chain m n e f g);
    }
  where
    chain : {a b c d x y : ℤ} → a ≤ℤ b → c ≤ℤ d → x ≡ a → b ≡ c → d ≡ y → x ≤ℤ y
    chain {a} {b} {c} {d} {x} {y} m n e f g = omega (arith, ints)

pub <ℚ-≤ℚ_trans : {p q r : Fraction} → p <ℚ q → q ≤ℚ r → p <ℚ r
<ℚ-≤ℚ_trans {p} {q} {r} h k =
    let m : (p.numerator *ℤ pos (denominator q) *ℤ pos (denominator r)) <ℤ (q.numerator *ℤ pos (denominator p) *ℤ pos (denominator r)) =
    products.mul-lt-mul_pos _ _ (denominator r) (denominator_pos r) h.cross
    in
    let n : (q.numerator *ℤ pos (denominator r) *ℤ pos (denominator p)) ≤ℤ (r.numerator *ℤ pos (denominator q) *ℤ pos (denominator p)) =
    products.mul-le-mul_pos _ _ (denominator p) k.cross
    in
    let e = step_left p.numerator (denominator r) (denominator q) in
    let f = step_left q.numerator (denominator p) (denominator r) in
    let g = step_left r.numerator (denominator q) (denominator p) in
    record { cross = products.lt_of_mul-lt-mul_pos _ _ (denominator q) (chain m n e f g) }
  where
    chain : {a b c d x y : ℤ} → a <ℤ b → c ≤ℤ d → x ≡ a → b ≡ c → d ≡ y → x <ℤ y
    chain {a} {b} {c} {d} {x} {y} m n e f g = omega (arith, ints)

pub ≤ℚ-<ℚ_trans : {p q r : Fraction} → p ≤ℚ q → q <ℚ r → p <ℚ r
≤ℚ-<ℚ_trans {p} {q} {r} h k =
    let m : (p.numerator *ℤ pos (denominator q) *ℤ pos (denominator r)) ≤ℤ (q.numerator *ℤ pos (denominator p) *ℤ pos (denominator r)) =
    products.mul-le-mul_pos _ _ (denominator r) h.cross
    in
    let n : (q.numerator *ℤ pos (denominator r) *ℤ pos (denominator p)) <ℤ (r.numerator *ℤ pos (denominator q) *ℤ pos (denominator p)) =
    products.mul-lt-mul_pos _ _ (denominator p) (denominator_pos p) k.cross
    in
    let e = step_left p.numerator (denominator r) (denominator q) in
    let f = step_left q.numerator (denominator p) (denominator r) in
    let g = step_left r.numerator (denominator q) (denominator p) in
    record { cross = products.lt_of_mul-lt-mul_pos _ _ (denominator q) (chain m n e f g) }
  where
    chain : {a b c d x y : ℤ} → a ≤ℤ b → c <ℤ d → x ≡ a → b ≡ c → d ≡ y → x <ℤ y
    chain {a} {b} {c} {d} {x} {y} m n e f g = omega (arith, ints)

pub <ℚ_trans : {p q r : Fraction} → p <ℚ q → q <ℚ r → p <ℚ r
<ℚ_trans h k = <ℚ-≤ℚ_trans h (≤ℚ-from_lt k)

pub <ℚ_irrefl : {p q : Fraction} → p <ℚ q → q ≤ℚ p → ⊥
<ℚ_irrefl {p} {q} h k = omega (arith, ints, h.cross, k.cross)

pub ≤ℚ_total : (p q : Fraction) → (p ≤ℚ q) ⊎ (q <ℚ p)
≤ℚ_total p q =
    by_lt_z (q.numerator *ℤ pos (denominator p)) (p.numerator *ℤ pos (denominator q))
    (λ h. inr (record { cross = h })) (λ h. inl (record { cross = h }))

-- ---- lowest terms

pub shared_pos : (q : Fraction) → 0 < gcd (unsigned_abs q.numerator) (denominator q)
shared_pos q = gcd_pos (unsigned_abs q.numerator) (denominator q) (denominator_pos q)

rest_pos : (q : Fraction) → 0 < denominator q / gcd (unsigned_abs q.numerator) (denominator q)
rest_pos q =
    let g = gcd (unsigned_abs q.numerator) (denominator q) in
    let e : denominator q / g * g ≡ denominator q = div-mul_cancel g (gcd-dvd_right (unsigned_abs q.numerator) (denominator q)) in
    factor_pos (denominator q / g) g (denominator q) e (denominator_pos q)

pub numerator-reduce : (q : Fraction) → (reduce q).numerator ≡ int_div q.numerator (pos (gcd (unsigned_abs q.numerator) (denominator q)))
unfolding reduce over
numerator-reduce q = refl

pub denominator-reduce : (q : Fraction) → denominator (reduce q) ≡ denominator q / gcd (unsigned_abs q.numerator) (denominator q)
unfolding reduce
denominator-reduce q = denominator-over (int_div q.numerator (pos (gcd (unsigned_abs q.numerator) (denominator q)))) (denominator q / gcd (unsigned_abs q.numerator) (denominator q)) (rest_pos q)

-- the value stays
pub reduce-same : (q : Fraction) → reduce q =ℚ q
reduce-same q =
    let g = gcd (unsigned_abs q.numerator) (denominator q) in
    let top = int_div q.numerator (pos g) in
    let bottom = denominator q / g in
    let e : top *ℤ pos g ≡ q.numerator = int_div-mul_cancel q.numerator g (gcd-dvd_left (unsigned_abs q.numerator) (denominator q)) in
    let f : pos bottom *ℤ pos g ≡ pos (denominator q) = ap pos (div-mul_cancel g (gcd-dvd_right (unsigned_abs q.numerator) (denominator q))) in
    record {
      cross =
          ap (λ (z : ℤ). z *ℤ pos (denominator q)) (numerator-reduce q)
          ∙ ap (λ (z : ℤ). top *ℤ z) (sym f)
          ∙ ap (λ (z : ℤ). top *ℤ z) (*ℤ_comm (pos bottom) (pos g))
          ∙ sym (products.mul_assoc top (pos g) (pos bottom))
          ∙ ap (λ (z : ℤ). z *ℤ pos bottom) e
          ∙ ap (λ (n : ℕ). q.numerator *ℤ pos n) (sym (denominator-reduce q));
    }

-- a fraction in lowest terms
pub record IsLowest (q : Fraction) : Type 0 where
  pub lowest : gcd (unsigned_abs q.numerator) (denominator q) ≡ 1

pub reduce-lowest : (q : Fraction) → IsLowest (reduce q)
reduce-lowest q =
    let g = gcd (unsigned_abs q.numerator) (denominator q) in
    record {
      lowest =
          ap₂
          (λ (m n : ℕ). gcd m n)
          (ap unsigned_abs (numerator-reduce q) ∙ unsigned_abs-int_div q.numerator g)
          (denominator-reduce q)
          ∙ coprime-rests (unsigned_abs q.numerator) (denominator q) (shared_pos q);
    }

same_below : (a b : ℕ) → suc a ≡ suc b → a ≡ b
same_below a b e = omega arith

fraction-same : {p q : Fraction} → p.numerator ≡ q.numerator → denominator p ≡ denominator q → p ≡ q
unfolding denominator
fraction-same {p} {q} e f =
    ap₂ (λ (n : ℤ) (b : ℕ). let r : Fraction = record { numerator = n; below = b } in r) e (same_below p.below q.below f)

-- one value has one form in lowest terms
pub lowest-same : {p q : Fraction} → p =ℚ q → IsLowest p → IsLowest q → p ≡ q
lowest-same {p} {q} h k l =
    let sizes : unsigned_abs p.numerator * denominator q ≡ unsigned_abs q.numerator * denominator p =
    sym (unsigned_abs-mul p.numerator (pos (denominator q)))
    ∙ ap unsigned_abs h.cross
    ∙ unsigned_abs-mul q.numerator (pos (denominator p))
    in
    let parts = lowest-unique (unsigned_abs p.numerator) (denominator p) (unsigned_abs q.numerator) (denominator q) k.lowest l.lowest sizes in
    let e : p.numerator *ℤ pos (denominator q) ≡ q.numerator *ℤ pos (denominator q) =
    h.cross ∙ ap (λ (n : ℕ). q.numerator *ℤ pos n) parts.1
    in
    fraction-same (products.mul_pos_cancel p.numerator q.numerator (denominator q) (denominator_pos q) e) parts.1

-- the form in lowest terms is the one that has the value
pub reduce-is : {p q : Fraction} → p =ℚ q → IsLowest q → reduce p ≡ q
reduce-is {p} {q} h l = lowest-same (=ℚ_trans (reduce-same p) h) (reduce-lowest p) l

pub reduce-alike : {p q : Fraction} → p =ℚ q → reduce p ≡ reduce q
reduce-alike {p} {q} h = reduce-is (=ℚ_trans h (=ℚ_sym (reduce-same q))) (reduce-lowest q)

pub reduce-lowest_is : (q : Fraction) → IsLowest q → reduce q ≡ q
reduce-lowest_is q l = reduce-is (=ℚ_refl q) l
