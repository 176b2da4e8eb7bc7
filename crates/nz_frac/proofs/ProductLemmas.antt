-- The product with what each numerator shares with the other denominator taken out before, and n / d in lowest terms.
use Rattle.std.proofs.Common.{◌≡◌, ℕ, zero, suc, ◌*◌, ◌/◌, ◌<◌, ◌≤◌, Bool, true, false, ◌||◌, IsFalse, [], ◌∷◌, ℤ, pos, negsuc, ◌*ℤ◌, neg_ℤ, unsigned_abs, int_lt, int_div, refl, arith, sym, ap, ap₂, ◌∙◌, subst, mul-pos, le-ltb, div-one, to_z, of_z}
use Rattle.std.proofs.Math.Nat.{dvd-mul_left, zero-div}
use Rattle.std.specs.Int.{◌∣◌, w128}
use Rattle.std.proofs.lemmas.Int.{unsigned_abs-mul, ints}
use Rattle.std.proofs.lemmas.Bool.{or_from, or_parts}
use Rattle.nz_ints.proofs.Products.{mul-one}
use Rattle.nz_ints.proofs.Sizes.{abs_pos, cast-back, unsigned_abs-neg}
use Rattle.nz_ints.proofs.Ring.{Atom, ◌⊗◌, Minus, solve}
use Rattle.nz_ints.proofs.Divisors.{gcd-dvd_left, gcd-dvd_right, gcd_comm, gcd_pos, gcd-one, gcd-left, gcd-right, coprime-rests, coprime-mul, coprime-dvd}
use Rattle.nz_ints.proofs.FloorDivision.{int_div-mul_cancel, unsigned_abs-int_div}
use Rattle.nz_fractions.specs.Fraction.{Fraction, denominator, over, whole, gcd, largest, exceeds, ◌=ℚ◌, ◌*ℚ◌, ◌/ℚ◌, flipped, reciprocal, reduce, ratio, is_wide_product, outcome, exact, Product, IsNumber}
use Rattle.nz_fractions.proofs.Arithmetic.{numerator-product, denominator-product}
use Rattle.nz_fractions.proofs.Laws.{denominator_pos, denominator-over, numerator-over, reduce-is, reduce-lowest, IsLowest}
use Rattle.nz_frac.specs.Parts.{AreParts, value_of, with_sign, differ}
use Rattle.nz_frac.proofs.PartLemmas.{with_sign-div, unsigned_abs-with_sign, den_is, num_is, lowest-from_parts, number-from_parts, Answers, answers-from_over, div_pos}
use Rattle.nz_frac.proofs.SumLemmas.{within, exceeds-within, reduce-over}

-- ---- the parts of the product, as the code computes them

-- what the numerator of p shares with the denominator of q
abbrev pub across : Fraction → Fraction → ℕ
across p q = gcd (unsigned_abs p.numerator) (denominator q)

abbrev pub own_size : Fraction → Fraction → ℕ
own_size p q = unsigned_abs p.numerator / across p q

abbrev pub own_den : Fraction → Fraction → ℕ
own_den p q = denominator p / across q p

abbrev pub size : Fraction → Fraction → ℕ
size p q = own_size p q * own_size q p

abbrev pub den : Fraction → Fraction → ℕ
den p q = own_den p q * own_den q p

pub record Fits (p q : Fraction) : Type 0 where
  pub size_fits : size p q ≤ largest
  pub den_fits : den p q ≤ largest

-- ---- the value

abbrev factor : Fraction → Fraction → ℤ
factor p q = int_div p.numerator (pos (across p q))

across_pos : (p q : Fraction) → 0 < across p q
across_pos p q = gcd_pos (unsigned_abs p.numerator) (denominator q) (denominator_pos q)

pub own_den_pos : (p q : Fraction) → 0 < own_den p q
own_den_pos p q = rest_pos (own_den p q) (across q p) (denominator p) (gcd-right (unsigned_abs q.numerator) (denominator p)) (denominator_pos p)
  where
    rest_pos : (m g n : ℕ) → g * m ≡ n → 0 < n → 0 < m
    rest_pos zero g n e p = absurd (omega arith)
    rest_pos (suc m) g n e p = omega arith

pub den_pos : (p q : Fraction) → 0 < den p q
den_pos p q = mul-pos (own_den_pos p q) (own_den_pos q p)

-- a*l * (c*r) over r*b * (l*d) is a*c over b*d
product_cross : (a c : ℤ) (l r b d : ℕ) → ((a *ℤ pos l) *ℤ (c *ℤ pos r)) *ℤ pos (b * d) ≡ (a *ℤ c) *ℤ pos (r * b * (l * d))
product_cross a c l r b d =
    let x = Atom 0 in
    let z = Atom 1 in
    let i = Atom 2 in
    let j = Atom 3 in
    let m = Atom 4 in
    let n = Atom 5 in
    solve (a ∷ c ∷ pos l ∷ pos r ∷ pos b ∷ pos d ∷ []) (((x ⊗ i) ⊗ (z ⊗ j)) ⊗ (m ⊗ n)) ((x ⊗ z) ⊗ ((j ⊗ m) ⊗ (i ⊗ n))) refl

product_cross_at : (a c x y : ℤ) (l r b d e f : ℕ) → a *ℤ pos l ≡ x → c *ℤ pos r ≡ y → r * b ≡ e → l * d ≡ f → (x *ℤ y) *ℤ pos (b * d) ≡ (a *ℤ c) *ℤ pos (e * f)
product_cross_at a c x y l r b d e f p q s t = rw (← p, ← q, ← s, ← t) (product_cross a c l r b d)

product-same : (p q : Fraction) → (p *ℚ q) =ℚ over (factor p q *ℤ factor q p) (den p q)
product-same p q =
    let b = denominator p in
    let d = denominator q in
    record {
      cross =
          ap₂ (λ (x : ℤ) (y : ℕ). x *ℤ pos y) (numerator-product p q) (denominator-over (factor p q *ℤ factor q p) (den p q) (den_pos p q))
          ∙ product_cross_at (factor p q) (factor q p) p.numerator q.numerator (across p q) (across q p) (own_den p q) (own_den q p) b d
          (int_div-mul_cancel p.numerator (across p q) (gcd-dvd_left (unsigned_abs p.numerator) d))
          (int_div-mul_cancel q.numerator (across q p) (gcd-dvd_left (unsigned_abs q.numerator) b))
          (gcd-right (unsigned_abs q.numerator) b)
          (gcd-right (unsigned_abs p.numerator) d)
          ∙ ap₂ (λ (x : ℤ) (y : ℕ). x *ℤ pos y) (sym (numerator-over (factor p q *ℤ factor q p) (den p q))) (sym (denominator-product p q));
    }

abs-factors : (p q : Fraction) → unsigned_abs (factor p q *ℤ factor q p) ≡ size p q
abs-factors p q =
    unsigned_abs-mul (factor p q) (factor q p)
    ∙ ap₂ (λ (m n : ℕ). m * n) (unsigned_abs-int_div p.numerator (across p q)) (unsigned_abs-int_div q.numerator (across q p))

-- ---- lowest terms

-- both parts of a fraction keep nothing in common when they lose divisors
kept_apart : (a b m n : ℕ) → gcd a b ≡ 1 → m ∣ a → n ∣ b → gcd m n ≡ 1
kept_apart a b m n e h k =
    gcd_comm m n ∙ coprime-dvd b m n (gcd_comm b m ∙ coprime-dvd a b m e h) k

own_size-dvd : (p q : Fraction) → own_size p q ∣ unsigned_abs p.numerator
own_size-dvd p q =
    subst (λ (n : ℕ). own_size p q ∣ n) (gcd-left (unsigned_abs p.numerator) (denominator q)) (dvd-mul_left (own_size p q) (across p q))

own_den-dvd : (p q : Fraction) → own_den p q ∣ denominator p
own_den-dvd p q =
    subst (λ (n : ℕ). own_den p q ∣ n) (gcd-right (unsigned_abs q.numerator) (denominator p)) (dvd-mul_left (own_den p q) (across q p))

pub product-lowest : (p q : Fraction) → IsLowest p → IsLowest q → gcd (size p q) (den p q) ≡ 1
product-lowest p q h k =
    let x = own_size p q in
    let y = own_size q p in
    let b = own_den p q in
    let d = own_den q p in
    let xb : gcd x b ≡ 1 = kept_apart (unsigned_abs p.numerator) (denominator p) x b h.lowest (own_size-dvd p q) (own_den-dvd p q) in
    let yd : gcd y d ≡ 1 = kept_apart (unsigned_abs q.numerator) (denominator q) y d k.lowest (own_size-dvd q p) (own_den-dvd q p) in
    let xd : gcd x d ≡ 1 = coprime-rests (unsigned_abs p.numerator) (denominator q) (across_pos p q) in
    let yb : gcd y b ≡ 1 = coprime-rests (unsigned_abs q.numerator) (denominator p) (across_pos q p) in
    let with_b : gcd (x * y) b ≡ 1 = coprime-mul x y b xb yb in
    let with_d : gcd (x * y) d ≡ 1 = coprime-mul x y d xd yd in
    gcd_comm (x * y) (b * d) ∙ coprime-mul b d (x * y) (gcd_comm b (x * y) ∙ with_b) (gcd_comm d (x * y) ∙ with_d)

product-reduced : (p q : Fraction) → IsLowest p → IsLowest q → reduce (p *ℚ q) ≡ over (factor p q *ℤ factor q p) (den p q)
product-reduced p q h k =
    reduce-is (product-same p q)
    (record {
      lowest =
          ap₂ (λ (m n : ℕ). gcd m n)
          (ap unsigned_abs (numerator-over (factor p q *ℤ factor q p) (den p q)) ∙ abs-factors p q)
          (denominator-over (factor p q *ℤ factor q p) (den p q) (den_pos p q))
          ∙ product-lowest p q h k;
    })

-- ---- the sign

with_sign-mul : (s t : Bool) (m n : ℕ) → with_sign (differ s t) (m * n) ≡ with_sign s m *ℤ with_sign t n
with_sign-mul true true m n = both_turned (pos m) (pos n)
  where
    both_turned : (a b : ℤ) → a *ℤ b ≡ neg_ℤ a *ℤ neg_ℤ b
    both_turned a b = solve (a ∷ b ∷ []) (Atom 0 ⊗ Atom 1) (Minus (Atom 0) ⊗ Minus (Atom 1)) refl
with_sign-mul true false m n = solve (pos m ∷ pos n ∷ []) (Minus (Atom 0 ⊗ Atom 1)) (Minus (Atom 0) ⊗ Atom 1) refl
with_sign-mul false true m n = solve (pos m ∷ pos n ∷ []) (Minus (Atom 0 ⊗ Atom 1)) (Atom 0 ⊗ Minus (Atom 1)) refl
with_sign-mul false false m n = refl

-- what the product answers
pub product-outcome : (p q : Fraction) → IsLowest p → IsLowest q → outcome Product p q ≡ over (with_sign (differ (int_lt p.numerator (pos 0)) (int_lt q.numerator (pos 0))) (size p q)) (den p q)
unfolding outcome exact
product-outcome p q h k =
    product-reduced p q h k
    ∙ ap (λ (n : ℤ). over n (den p q))
    (sym
    (with_sign-mul (int_lt p.numerator (pos 0)) (int_lt q.numerator (pos 0)) (own_size p q) (own_size q p)
    ∙ ap₂ (λ (x y : ℤ). x *ℤ y) (with_sign-div p.numerator (across p q)) (with_sign-div q.numerator (across q p))))

-- ---- Wide

wide_is : (p q : Fraction) → IsLowest p → IsLowest q → is_wide_product p q ≡ (exceeds (size p q) || exceeds (den p q))
unfolding is_wide_product
wide_is p q h k =
    let n = factor p q *ℤ factor q p in
    ap (λ (x : Fraction). exceeds (unsigned_abs x.numerator) || exceeds (denominator x)) (product-reduced p q h k)
    ∙ ap₂ (λ (x y : ℕ). exceeds x || exceeds y) (ap unsigned_abs (numerator-over n (den p q)) ∙ abs-factors p q) (denominator-over n (den p q) (den_pos p q))

pub fits-from_wide : (p q : Fraction) → IsLowest p → IsLowest q → IsFalse (is_wide_product p q) → Fits p q
fits-from_wide p q h k w =
    let all : (exceeds (size p q) || exceeds (den p q)) ≡ false = sym (wide_is p q h k) ∙ w in
    record {
      size_fits = within (size p q) (or_parts (exceeds (size p q)) (exceeds (den p q)) all).0;
      den_fits = within (den p q) (or_parts (exceeds (size p q)) (exceeds (den p q)) all).1;
    }

pub wide-from_fits : (p q : Fraction) → IsLowest p → IsLowest q → Fits p q → IsFalse (is_wide_product p q)
wide-from_fits p q h k f =
    wide_is p q h k
    ∙ or_from (exceeds (size p q)) (exceeds (den p q)) (exceeds-within (size p q) f.size_fits) (exceeds-within (den p q) f.den_fits)

-- ---- n / d in lowest terms

whole-product : (n m : ℤ) (d : ℕ) → 0 < d → whole n *ℚ over m d ≡ over (n *ℤ m) d
unfolding ◌*ℚ◌ over denominator
whole-product n m zero p = absurd (omega arith)
whole-product n m (suc d) p = ap (λ (k : ℕ). over (n *ℤ m) k) (one_times (suc d))
  where
    one_times : (k : ℕ) → 1 * k ≡ k
    one_times k = omega arith

times_minus_one : (n : ℤ) → n *ℤ negsuc 0 ≡ neg_ℤ n
times_minus_one n = omega (arith, ints)

quotient_pos : (n : ℤ) (k : ℕ) → whole n /ℚ whole (pos (suc k)) ≡ over n (suc k)
unfolding ◌/ℚ◌ reciprocal flipped
quotient_pos n k =
    whole-product n (pos 1) (suc k) (omega arith) ∙ ap (λ (m : ℤ). over m (suc k)) (mul-one n)

quotient_neg : (n : ℤ) (k : ℕ) → whole n /ℚ whole (negsuc k) ≡ over (neg_ℤ n) (suc k)
unfolding ◌/ℚ◌ reciprocal flipped
quotient_neg n k =
    whole-product n (negsuc 0) (suc k) (omega arith) ∙ ap (λ (m : ℤ). over m (suc k)) (times_minus_one n)

int_div-neg : (n : ℤ) (g : ℕ) → int_div (neg_ℤ n) (pos g) ≡ with_sign (differ (int_lt n (pos 0)) true) (unsigned_abs n / g)
int_div-neg (pos zero) g = ap (λ (m : ℕ). pos m) (zero-div g) ∙ ap (λ (m : ℕ). neg_ℤ (pos m)) (sym (zero-div g))
int_div-neg (pos (suc n)) g =
    ap (λ (b : Bool). with_sign (differ b true) (suc n / g)) (sym (le-ltb (suc n) 0 (omega arith)))
int_div-neg (negsuc n) g = refl

plain : (b : Bool) → differ b false ≡ b
plain true = refl
plain false = refl

-- n / d in lowest terms, as the code computes it
pub ratio-parts : (n d : ℤ) → (d ≡ pos 0 → ⊥) → ratio n d ≡ over (with_sign (differ (int_lt n (pos 0)) (int_lt d (pos 0))) (unsigned_abs n / gcd (unsigned_abs n) (unsigned_abs d))) (unsigned_abs d / gcd (unsigned_abs n) (unsigned_abs d))
unfolding ratio
ratio-parts n (pos zero) h = absurd (h refl)
ratio-parts n (pos (suc k)) h =
    let g = gcd (unsigned_abs n) (suc k) in
    ap reduce (quotient_pos n k)
    ∙ reduce-over n (suc k) (omega arith)
    ∙ ap (λ (m : ℤ). over m (suc k / g)) (sym (with_sign-div n g))
    ∙ ap (λ (b : Bool). over (with_sign b (unsigned_abs n / g)) (suc k / g))
    (sym (ap (λ (b : Bool). differ (int_lt n (pos 0)) b) (le-ltb (suc k) 0 (omega arith)) ∙ plain (int_lt n (pos 0))))
ratio-parts n (negsuc k) h =
    ap reduce (quotient_neg n k)
    ∙ reduce-over (neg_ℤ n) (suc k) (omega arith)
    ∙ ap (λ (m : ℕ). over (int_div (neg_ℤ n) (pos (gcd m (suc k)))) (suc k / gcd m (suc k))) (unsigned_abs-neg n)
    ∙ ap (λ (m : ℤ). over m (suc k / gcd (unsigned_abs n) (suc k))) (int_div-neg n (gcd (unsigned_abs n) (suc k)))

-- ---- the numbers of the code

-- x and y are what is left of the sizes, b and d of the denominators
pub record At (p q : Fraction) (x y b d : ℕ) (negative : Bool) : Type 0 where
  pub lowest_left : IsLowest p
  pub lowest_right : IsLowest q
  pub size_is : x * y ≡ size p q
  pub den_is_product : b * d ≡ den p q
  pub sign_is : negative ≡ differ (int_lt p.numerator (pos 0)) (int_lt q.numerator (pos 0))

pub at : {p q : Fraction} {a c : ℤ} {b d i j l r x y m n : ℕ} {negative : Bool} → AreParts a b → value_of a b ≡ p → AreParts c d → value_of c d ≡ q → i ≡ unsigned_abs (to_z w128 (of_z w128 a)) → j ≡ unsigned_abs (to_z w128 (of_z w128 c)) → l ≡ gcd i d → r ≡ gcd j b → x ≡ i / l → y ≡ j / r → m ≡ b / r → n ≡ d / l → negative ≡ differ (int_lt (to_z w128 (of_z w128 a)) (pos 0)) (int_lt (to_z w128 (of_z w128 c)) (pos 0)) → At p q x y m n negative
at {p} {q} {a} {c} {b} {d} {i} {j} {l} {r} {x} {y} {m} {n} {negative} s v t w ei ej el er ex ey em en es =
    let na : to_z w128 (of_z w128 a) ≡ p.numerator = cast-back a s.num_fits ∙ sym (num_is a b p v) in
    let nc : to_z w128 (of_z w128 c) ≡ q.numerator = cast-back c t.num_fits ∙ sym (num_is c d q w) in
    let db : b ≡ denominator p = sym (den_is a b p s v) in
    let dd : d ≡ denominator q = sym (den_is c d q t w) in
    let fi : i ≡ unsigned_abs p.numerator = ei ∙ ap unsigned_abs na in
    let fj : j ≡ unsigned_abs q.numerator = ej ∙ ap unsigned_abs nc in
    let fl : l ≡ across p q = el ∙ ap₂ (λ (u v : ℕ). gcd u v) fi dd in
    let fr : r ≡ across q p = er ∙ ap₂ (λ (u v : ℕ). gcd u v) fj db in
    record {
      lowest_left = lowest-from_parts a b p s v;
      lowest_right = lowest-from_parts c d q t w;
      size_is =
          ap₂ (λ (u v : ℕ). u * v) (ex ∙ ap₂ (λ (u v : ℕ). u / v) fi fl) (ey ∙ ap₂ (λ (u v : ℕ). u / v) fj fr);
      den_is_product =
          ap₂ (λ (u v : ℕ). u * v) (em ∙ ap₂ (λ (u v : ℕ). u / v) db fr) (en ∙ ap₂ (λ (u v : ℕ). u / v) dd fl);
      sign_is = es ∙ ap₂ (λ (u v : ℤ). differ (int_lt u (pos 0)) (int_lt v (pos 0))) na nc;
    }

-- whole numbers share nothing with the denominators
pub at_whole : {p q : Fraction} {a c : ℤ} {b d i j : ℕ} {negative : Bool} → AreParts a b → value_of a b ≡ p → AreParts c d → value_of c d ≡ q → b ≡ 1 → d ≡ 1 → i ≡ unsigned_abs (to_z w128 (of_z w128 a)) → j ≡ unsigned_abs (to_z w128 (of_z w128 c)) → negative ≡ differ (int_lt (to_z w128 (of_z w128 a)) (pos 0)) (int_lt (to_z w128 (of_z w128 c)) (pos 0)) → At p q i j 1 1 negative
at_whole {p} {q} {a} {c} {b} {d} {i} {j} s v t w eb ed ei ej es =
    at s v t w ei ej refl refl (alone i d ed) (alone j b eb) (one_left j b eb) (one_left i d ed) es
  where
    alone : (i d : ℕ) → d ≡ 1 → i ≡ i / gcd i d
    alone i d e = sym (ap (λ (u : ℕ). i / gcd i u) e ∙ ap (λ (u : ℕ). i / u) (gcd-one i) ∙ div-one i)

    one_left : (i d : ℕ) → d ≡ 1 → 1 ≡ d / gcd i d
    one_left i d e = sym (ap (λ (u : ℕ). u / gcd i u) e ∙ ap (λ (u : ℕ). 1 / u) (gcd-one i))

pub gcd_is_pos : (i : ℕ) {d g : ℕ} → 0 < d → g ≡ gcd i d → 0 < g
gcd_is_pos i {d} {g} p e = rw e (gcd_pos i d p)

pub no_size : {p q : Fraction} {x y b d : ℕ} {negative : Bool} → At p q x y b d negative → (x * y ≤ largest → ⊥) → IsFalse (is_wide_product p q) → ⊥
no_size {p} {q} h none f = none (rw h.size_is (fits-from_wide p q h.lowest_left h.lowest_right f).size_fits)

pub no_den : {p q : Fraction} {x y b d : ℕ} {negative : Bool} → At p q x y b d negative → (b * d ≤ largest → ⊥) → IsFalse (is_wide_product p q) → ⊥
no_den {p} {q} h none f = none (rw h.den_is_product (fits-from_wide p q h.lowest_left h.lowest_right f).den_fits)

pub not_wide : {p q : Fraction} {x y b d : ℕ} {negative : Bool} → At p q x y b d negative → x * y ≤ largest → b * d ≤ largest → IsFalse (is_wide_product p q)
not_wide {p} {q} h i k =
    wide-from_fits p q h.lowest_left h.lowest_right
    (record { size_fits = rw (← h.size_is) i; den_fits = rw (← h.den_is_product) k })

outcome-lowest : (p q : Fraction) → IsLowest (outcome Product p q)
unfolding outcome
outcome-lowest p q = reduce-lowest (exact Product p q)

-- what the code answers
pub product_answers : {p q : Fraction} {x y b d : ℕ} {negative : Bool} → At p q x y b d negative → (n : ℤ) (s e : ℕ) → x * y ≤ largest → s ≡ x * y → b * d ≤ largest → e ≡ b * d → n ≡ with_sign negative s → Answers (outcome Product p q) n e
product_answers {p} {q} h n s e fs es fe ee en =
    let sign = differ (int_lt p.numerator (pos 0)) (int_lt q.numerator (pos 0)) in
    answers-from_over (outcome Product p q) (with_sign sign (size p q)) (den p q) n e
    (en ∙ ap₂ (λ (u : Bool) (v : ℕ). with_sign u v) h.sign_is (es ∙ h.size_is))
    (ee ∙ h.den_is_product)
    (product-outcome p q h.lowest_left h.lowest_right)
    (den_pos p q)
    (outcome-lowest p q)
    (rw (unsigned_abs-with_sign sign (size p q)) (rw (← h.size_is) fs))
    (rw (← h.den_is_product) fe)

-- ---- the constructor

-- n and d are not reduced yet: g is their common divisor, s and e what it leaves
pub record Ratio (n d : ℤ) (s e : ℕ) : Type 0 where
  pub value : ratio n d ≡ over (with_sign (differ (int_lt n (pos 0)) (int_lt d (pos 0))) s) e
  pub positive : 0 < e

pub ratio_at : (n d : ℤ) {i j g s e : ℕ} → (d ≡ pos 0 → ⊥) → i ≡ unsigned_abs n → j ≡ unsigned_abs d → g ≡ gcd i j → s ≡ i / g → e ≡ j / g → Ratio n d s e
ratio_at n d {i} {j} {g} {s} {e} h ei ej eg es ee =
    let eu : g ≡ gcd (unsigned_abs n) (unsigned_abs d) = eg ∙ ap₂ (λ (u v : ℕ). gcd u v) ei ej in
    let fs : s ≡ unsigned_abs n / gcd (unsigned_abs n) (unsigned_abs d) = es ∙ ap₂ (λ (u v : ℕ). u / v) ei eu in
    let fe : e ≡ unsigned_abs d / gcd (unsigned_abs n) (unsigned_abs d) = ee ∙ ap₂ (λ (u v : ℕ). u / v) ej eu in
    record {
      value =
          ratio-parts n d h
          ∙ ap₂ (λ (u v : ℕ). over (with_sign (differ (int_lt n (pos 0)) (int_lt d (pos 0))) u) v) (sym fs) (sym fe);
      positive = rw fe (div_pos (unsigned_abs d) (gcd (unsigned_abs n) (unsigned_abs d)) (gcd-dvd_right (unsigned_abs n) (unsigned_abs d)) (abs_pos d h));
    }

pub divisor_pos : (d : ℤ) (i j g : ℕ) → (d ≡ pos 0 → ⊥) → j ≡ unsigned_abs d → g ≡ gcd i j → 0 < g
divisor_pos (pos zero) i j g h ej eg = absurd (h refl)
divisor_pos (pos (suc k)) i j g h ej eg = rw eg (gcd_pos i j (omega (arith, ej)))
divisor_pos (negsuc k) i j g h ej eg = rw eg (gcd_pos i j (omega (arith, ej)))

ratio-lowest : (n d : ℤ) → IsLowest (ratio n d)
unfolding ratio
ratio-lowest n d = reduce-lowest (whole n /ℚ whole d)

pub size-from_number : {n d : ℤ} {s e : ℕ} → Ratio n d s e → IsNumber (ratio n d) → s ≤ largest
size-from_number {n} {d} {s} {e} h k =
    let sign = differ (int_lt n (pos 0)) (int_lt d (pos 0)) in
    rw (← unsigned_abs-with_sign sign s, ← numerator-over (with_sign sign s) e, ← h.value) k.numerator_fits

pub den-from_number : {n d : ℤ} {s e : ℕ} → Ratio n d s e → IsNumber (ratio n d) → e ≤ largest
den-from_number {n} {d} {s} {e} h k =
    let sign = differ (int_lt n (pos 0)) (int_lt d (pos 0)) in
    rw (← denominator-over (with_sign sign s) e h.positive, ← h.value) k.denominator_fits

pub ratio_answers : {n d : ℤ} {s e : ℕ} → Ratio n d s e → (m : ℤ) (negative : Bool) → negative ≡ differ (int_lt n (pos 0)) (int_lt d (pos 0)) → m ≡ with_sign negative s → s ≤ largest → e ≤ largest → Answers (ratio n d) m e
ratio_answers {n} {d} {s} {e} h m negative eb em fs fe =
    let sign = differ (int_lt n (pos 0)) (int_lt d (pos 0)) in
    answers-from_over (ratio n d) (with_sign sign s) e m e
    (em ∙ ap (λ (u : Bool). with_sign u s) eb)
    refl
    h.value
    h.positive
    (ratio-lowest n d)
    (rw (unsigned_abs-with_sign sign s) fs)
    fe

pub number-from_answers : {y : Fraction} {n : ℤ} {d : ℕ} → Answers y n d → IsNumber y
number-from_answers {y} {n} {d} h = number-from_parts _ d y h.parts h.value
