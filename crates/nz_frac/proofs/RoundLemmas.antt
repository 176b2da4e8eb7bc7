-- Rounding, and the reciprocal, from the parts that the code holds.
use Rattle.std.proofs.Common.{◌≡◌, ℕ, zero, suc, ◌-◌, ◌/◌, ◌<◌, ◌≤◌, Bool, true, false, ℤ, pos, negsuc, ◌-ℤ◌, neg_ℤ, unsigned_abs, int_lt, refl, arith, sym, ap, ap₂, ◌∙◌, to_z, of_z, le-ltb, div-one, div-le_self, le_trans}
use Rattle.std.specs.Int.{w128}
use Rattle.std.proofs.lemmas.Int.{ints}
use Rattle.nz_ints.proofs.Sizes.{abs_pos, cast-back, unsigned_abs-neg, zero_minus}
use Rattle.nz_ints.proofs.Divisors.{gcd-one, gcd_comm}
use Rattle.nz_fractions.specs.Fraction.{Fraction, denominator, over, whole, gcd, largest, neg_ℚ, floor_div, floor, ceiling, flipped, reciprocal}
use Rattle.nz_fractions.proofs.Laws.{denominator-over, numerator-over}
use Rattle.nz_frac.specs.Parts.{AreParts, value_of, with_sign}
use Rattle.nz_frac.proofs.PartLemmas.{cast_natural, unsigned_abs-with_sign, den_is, num_is, Answers, answers-from_over}

-- ---- integers

pub whole_parts : (n : ℤ) → unsigned_abs n ≤ largest → AreParts (to_z w128 (of_z w128 n)) 1
whole_parts n h =
    rw (cast-back n h)
    (record { lowest = gcd-one (unsigned_abs n); num_fits = h; den_positive = omega arith; den_fits = omega arith })

floor_div-one : (n : ℤ) → floor_div n 1 ≡ n
unfolding floor_div
floor_div-one (pos n) = ap pos (div-one n)
floor_div-one (negsuc n) = ap negsuc (div-one n)

floor-parts : {n : ℤ} {d : ℕ} {q : Fraction} → AreParts n d → value_of n d ≡ q → floor q ≡ floor_div n d
unfolding floor
floor-parts {n} {d} {q} s v = ap₂ (λ (x : ℤ) (y : ℕ). floor_div x y) (num_is n d q v) (den_is n d q s v)

-- an integer is its own floor
pub whole_value : {n : ℤ} {d : ℕ} {q : Fraction} → AreParts n d → value_of n d ≡ q → d ≡ 1 → value_of n d ≡ whole (floor q)
whole_value {n} {d} {q} s v e =
    ap (λ (x : ℕ). value_of n x) e
    ∙ ap whole (sym (floor-parts s v ∙ ap (λ (x : ℕ). floor_div n x) e ∙ floor_div-one n))

pub floor_value : {n m : ℤ} {d : ℕ} {q : Fraction} → AreParts n d → value_of n d ≡ q → m ≡ floor_div (to_z w128 (of_z w128 n)) d → unsigned_abs m ≤ largest → value_of (to_z w128 (of_z w128 m)) 1 ≡ whole (floor q)
floor_value {n} {m} {d} {q} s v e f =
    ap whole
    (cast-back m f ∙ e ∙ ap (λ (x : ℤ). floor_div x d) (cast-back n s.num_fits) ∙ sym (floor-parts s v))

pub ceiling_value : (q : Fraction) {below down up : Fraction} → below ≡ neg_ℚ q → down ≡ whole (floor below) → up ≡ neg_ℚ down → up ≡ whole (ceiling q)
unfolding ceiling neg_ℚ
ceiling_value q e f g = g ∙ ap neg_ℚ (f ∙ ap (λ (x : Fraction). whole (floor x)) e)

-- ---- rounding of the parts

pub floor_above : (n : ℤ) (d : ℕ) {q : ℕ} → int_lt n (pos 0) ≡ false → q ≡ unsigned_abs n / d → pos q ≡ floor_div n d
unfolding floor_div
floor_above (pos n) d h e = ap pos e
floor_above (negsuc n) d h e = absurd (omega (arith, ints))

less_one : (n : ℕ) → suc n - 1 ≡ n
less_one n = omega arith

pub floor_below : (n : ℤ) (d : ℕ) {q : ℕ} → int_lt n (pos 0) ≡ true → q ≡ (unsigned_abs n - 1) / d → negsuc q ≡ floor_div n d
unfolding floor_div
floor_below (pos n) d h e = absurd (omega (arith, ints))
floor_below (negsuc n) d h e = ap negsuc (e ∙ ap (λ (m : ℕ). m / d) (less_one n))

-- the same as the code computes it, in fields of 128 bits
pub rounded_above : (n : ℤ) (d : ℕ) {i q : ℕ} → unsigned_abs n ≤ largest → int_lt (to_z w128 (of_z w128 n)) (pos 0) ≡ false → i ≡ unsigned_abs (to_z w128 (of_z w128 n)) → q ≡ i / d → to_z w128 q ≡ floor_div n d
rounded_above n d {i} {q} f h ei eq =
    let back : to_z w128 (of_z w128 n) ≡ n = cast-back n f in
    let e : q ≡ unsigned_abs n / d = eq ∙ ap (λ (m : ℕ). m / d) (ei ∙ ap unsigned_abs back) in
    cast_natural q (rw e (le_trans (div-le_self (unsigned_abs n) d) f))
    ∙ floor_above n d (sym (ap (λ (z : ℤ). int_lt z (pos 0)) back) ∙ h) e

minus_and_one : (q : ℕ) → q < largest → to_z w128 (of_z w128 (to_z w128 (of_z w128 (pos 0 -ℤ to_z w128 q)) -ℤ pos 1)) ≡ negsuc q
minus_and_one q h =
    let e : pos 0 -ℤ to_z w128 q ≡ neg_ℤ (pos q) = ap (λ (z : ℤ). pos 0 -ℤ z) (cast_natural q (omega arith)) ∙ zero_minus (pos q) in
    let f : to_z w128 (of_z w128 (pos 0 -ℤ to_z w128 q)) ≡ neg_ℤ (pos q) =
    ap (λ (z : ℤ). to_z w128 (of_z w128 z)) e ∙ cast-back (neg_ℤ (pos q)) (rw (unsigned_abs-neg (pos q)) (omega arith))
    in
    ap (λ (z : ℤ). to_z w128 (of_z w128 (z -ℤ pos 1))) f
    ∙ ap (λ (z : ℤ). to_z w128 (of_z w128 z)) (one_less q)
    ∙ cast-back (negsuc q) h
  where
    one_less : (q : ℕ) → neg_ℤ (pos q) -ℤ pos 1 ≡ negsuc q
    one_less q = omega (arith, ints)

negative_pos : (n : ℤ) → int_lt n (pos 0) ≡ true → 0 < unsigned_abs n
negative_pos n h = omega (arith, ints)

pub rounded_below : (n : ℤ) (d : ℕ) {i q : ℕ} → unsigned_abs n ≤ largest → int_lt (to_z w128 (of_z w128 n)) (pos 0) ≡ true → i ≡ unsigned_abs (to_z w128 (of_z w128 n)) → q ≡ (i - 1) / d → to_z w128 (of_z w128 (to_z w128 (of_z w128 (pos 0 -ℤ to_z w128 q)) -ℤ pos 1)) ≡ floor_div n d
rounded_below n d {i} {q} f h ei eq =
    let back : to_z w128 (of_z w128 n) ≡ n = cast-back n f in
    let g : int_lt n (pos 0) ≡ true = sym (ap (λ (z : ℤ). int_lt z (pos 0)) back) ∙ h in
    let e : q ≡ (unsigned_abs n - 1) / d = eq ∙ ap (λ (m : ℕ). (m - 1) / d) (ei ∙ ap unsigned_abs back) in
    let small : q ≤ unsigned_abs n - 1 = rw e (div-le_self (unsigned_abs n - 1) d) in
    minus_and_one q (omega (arith, small, f, negative_pos n g)) ∙ floor_below n d g e

-- ---- the reciprocal

reciprocal-parts : (n : ℤ) (d : ℕ) → 0 < d → (n ≡ pos 0 → ⊥) → reciprocal (value_of n d) ≡ over (with_sign (int_lt n (pos 0)) d) (unsigned_abs n)
unfolding reciprocal flipped
reciprocal-parts n zero p h = absurd (omega arith)
reciprocal-parts (pos zero) (suc k) p h = absurd (h refl)
reciprocal-parts (pos (suc m)) (suc k) p h =
    ap (λ (b : Bool). over (with_sign b (suc k)) (suc m)) (sym (le-ltb (suc m) 0 (omega arith)))
reciprocal-parts (negsuc m) (suc k) p h = refl

pub reciprocal_answers : {n r : ℤ} {d i : ℕ} {q : Fraction} → AreParts n d → value_of n d ≡ q → (q.numerator ≡ pos 0 → ⊥) → i ≡ unsigned_abs (to_z w128 (of_z w128 n)) → r ≡ with_sign (int_lt (to_z w128 (of_z w128 n)) (pos 0)) d → Answers (reciprocal q) r i
reciprocal_answers {n} {r} {d} {i} {q} s v h ei er =
    let back : to_z w128 (of_z w128 n) ≡ n = cast-back n s.num_fits in
    let nonzero : n ≡ pos 0 → ⊥ = λ e. h (num_is n d q v ∙ e) in
    let e : reciprocal q ≡ over (with_sign (int_lt n (pos 0)) d) (unsigned_abs n) =
    ap reciprocal (sym v) ∙ reciprocal-parts n d s.den_positive nonzero
    in
    let p : 0 < unsigned_abs n = abs_pos n nonzero in
    answers-from_over (reciprocal q) (with_sign (int_lt n (pos 0)) d) (unsigned_abs n) r i
    (er ∙ ap (λ (x : ℤ). with_sign (int_lt x (pos 0)) d) back)
    (ei ∙ ap unsigned_abs back)
    e
    p
    (record {
      lowest =
          ap (λ (x : Fraction). gcd (unsigned_abs x.numerator) (denominator x)) e
          ∙ ap₂ (λ (x y : ℕ). gcd x y)
          (ap unsigned_abs (numerator-over (with_sign (int_lt n (pos 0)) d) (unsigned_abs n)) ∙ unsigned_abs-with_sign (int_lt n (pos 0)) d)
          (denominator-over (with_sign (int_lt n (pos 0)) d) (unsigned_abs n) p)
          ∙ gcd_comm d (unsigned_abs n)
          ∙ s.lowest;
    })
    (rw (unsigned_abs-with_sign (int_lt n (pos 0)) d) s.den_fits)
    s.num_fits
