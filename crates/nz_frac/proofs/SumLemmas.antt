-- The sum over the least common multiple of the denominators, in lowest terms once a common divisor of the two is taken out.
use Rattle.std.proofs.Common.{◌≡◌, ℕ, zero, suc, ◌*◌, ◌/◌, ◌<◌, ◌≤◌, false, ◌||◌, IsFalse, [], ◌∷◌, ℤ, pos, ◌+ℤ◌, ◌-ℤ◌, ◌*ℤ◌, neg_ℤ, unsigned_abs, int_div, refl, arith, sym, ap, ap₂, ◌∙◌, subst, mul_comm, mul-pos, ltb-false, le-ltb, le_trans, div-le_self, div-one, negsuc, to_z, of_z}
use Rattle.std.proofs.Math.Nat.{dvd-mul_left, dvd-mul_left_of_dvd, eq-one_of_dvd-one}
use Rattle.std.specs.Int.{◌∣◌, w128}
use Rattle.std.proofs.lemmas.Int.{unsigned_abs-mul, ints}
use Rattle.std.proofs.lemmas.Bool.{or_from, or_parts}
use Rattle.nz_ints.proofs.Products.{mul-one}
use Rattle.nz_ints.proofs.Sizes.{cast-back}
use Rattle.nz_ints.proofs.Ring.{Atom, ◌⊕◌, ◌⊗◌, Minus, solve}
use Rattle.nz_ints.proofs.Divisors.{gcd-dvd_left, gcd-dvd_right, dvd-gcd, gcd_comm, gcd_pos, gcd-one, gcd-left, gcd-right, coprime-rests, coprime-mul, coprime-dvd, gcd-mul_coprime}
use Rattle.nz_ints.proofs.Multiples.{lcm-div_left, lcm-div_right}
use Rattle.nz_ints.proofs.FloorDivision.{int_div-mul_cancel, unsigned_abs-int_div}
use Rattle.nz_fractions.specs.Fraction.{Fraction, denominator, over, gcd, lcm, largest, exceeds, ◌=ℚ◌, ◌+ℚ◌, reduce, is_wide_sum, outcome, exact, Sum}
use Rattle.nz_fractions.proofs.Arithmetic.{numerator-sum, denominator-sum}
use Rattle.nz_fractions.proofs.Laws.{denominator_pos, denominator-over, numerator-over, reduce-alike, reduce-lowest, IsLowest}
use Rattle.nz_frac.specs.Parts.{AreParts, value_of}
use Rattle.nz_frac.proofs.PartLemmas.{den_is, num_is, lowest-from_parts, Answers, answers-from_over, div_pos}

-- ---- the parts of the sum, as the code computes them

abbrev pub own : Fraction → Fraction → ℕ
own p q = denominator p / gcd (denominator p) (denominator q)

abbrev pub others : Fraction → Fraction → ℕ
others p q = denominator q / gcd (denominator p) (denominator q)

abbrev pub multiple : Fraction → Fraction → ℕ
multiple p q = own p q * denominator q

abbrev pub left : Fraction → Fraction → ℤ
left p q = p.numerator *ℤ pos (others p q)

abbrev pub right : Fraction → Fraction → ℤ
right p q = q.numerator *ℤ pos (own p q)

abbrev pub top : Fraction → Fraction → ℤ
top p q = left p q +ℤ right p q

-- none of the four is beyond M
pub record Fits (p q : Fraction) : Type 0 where
  pub multiple_fits : multiple p q ≤ largest
  pub left_fits : unsigned_abs (left p q) ≤ largest
  pub right_fits : unsigned_abs (right p q) ≤ largest
  pub top_fits : unsigned_abs (top p q) ≤ largest

-- ---- Wide

wide_is : (p q : Fraction) → is_wide_sum p q ≡ (exceeds (multiple p q) || exceeds (unsigned_abs (left p q)) || exceeds (unsigned_abs (right p q)) || exceeds (unsigned_abs (top p q)))
unfolding is_wide_sum lcm
wide_is p q =
    let b = denominator p in
    let d = denominator q in
    let e : lcm b d / b ≡ others p q = lcm-div_left b d (denominator_pos p) in
    let f : lcm b d / d ≡ own p q = lcm-div_right b d (denominator_pos q) in
    ap₂
    (λ (x y : ℕ).
    exceeds (multiple p q)
    || exceeds (unsigned_abs (p.numerator *ℤ pos x))
    || exceeds (unsigned_abs (q.numerator *ℤ pos y))
    || exceeds (unsigned_abs (p.numerator *ℤ pos x +ℤ q.numerator *ℤ pos y)))
    e
    f

pub within : (n : ℕ) → exceeds n ≡ false → n ≤ largest
within n h = ltb-false largest n h

pub exceeds-within : (n : ℕ) → n ≤ largest → exceeds n ≡ false
exceeds-within n h = le-ltb largest n h

pub fits-from_wide : (p q : Fraction) → IsFalse (is_wide_sum p q) → Fits p q
fits-from_wide p q h =
    let m = exceeds (multiple p q) in
    let l = exceeds (unsigned_abs (left p q)) in
    let r = exceeds (unsigned_abs (right p q)) in
    let t = exceeds (unsigned_abs (top p q)) in
    let all : (m || l || r || t) ≡ false = sym (wide_is p q) ∙ h in
    let last = or_parts (m || l || r) t all in
    let three = or_parts (m || l) r last.0 in
    let two = or_parts m l three.0 in
    record {
      multiple_fits = within (multiple p q) two.0;
      left_fits = within (unsigned_abs (left p q)) two.1;
      right_fits = within (unsigned_abs (right p q)) three.1;
      top_fits = within (unsigned_abs (top p q)) last.1;
    }

pub wide-from_fits : (p q : Fraction) → Fits p q → IsFalse (is_wide_sum p q)
wide-from_fits p q h =
    let m = exceeds (multiple p q) in
    let l = exceeds (unsigned_abs (left p q)) in
    let r = exceeds (unsigned_abs (right p q)) in
    let t = exceeds (unsigned_abs (top p q)) in
    wide_is p q
    ∙ or_from (m || l || r) t
    (or_from (m || l) r
    (or_from m l (exceeds-within (multiple p q) h.multiple_fits) (exceeds-within (unsigned_abs (left p q)) h.left_fits))
    (exceeds-within (unsigned_abs (right p q)) h.right_fits))
    (exceeds-within (unsigned_abs (top p q)) h.top_fits)

-- ---- the value

sum_cross : (a c : ℤ) (g m n : ℕ) → (a *ℤ pos (g * n) +ℤ c *ℤ pos (g * m)) *ℤ pos (m * (g * n)) ≡ (a *ℤ pos n +ℤ c *ℤ pos m) *ℤ pos (g * m * (g * n))
sum_cross a c g m n =
    let x = Atom 0 in
    let z = Atom 1 in
    let k = Atom 2 in
    let i = Atom 3 in
    let j = Atom 4 in
    solve
    (a ∷ c ∷ pos g ∷ pos m ∷ pos n ∷ [])
    ((x ⊗ (k ⊗ j) ⊕ z ⊗ (k ⊗ i)) ⊗ (i ⊗ (k ⊗ j)))
    ((x ⊗ j ⊕ z ⊗ i) ⊗ ((k ⊗ i) ⊗ (k ⊗ j)))
    refl

sum_cross_at : (a c : ℤ) (g m n b d : ℕ) → g * m ≡ b → g * n ≡ d → (a *ℤ pos d +ℤ c *ℤ pos b) *ℤ pos (m * d) ≡ (a *ℤ pos n +ℤ c *ℤ pos m) *ℤ pos (b * d)
sum_cross_at a c g m n b d e f = rw (← e, ← f) (sum_cross a c g m n)

pub multiple_pos : (p q : Fraction) → 0 < multiple p q
multiple_pos p q =
    let g = gcd (denominator p) (denominator q) in
    product_pos g (own p q) (denominator p) (denominator q) (gcd-left (denominator p) (denominator q)) (denominator_pos p) (denominator_pos q)
  where
    product_pos : (g m b d : ℕ) → g * m ≡ b → 0 < b → 0 < d → 0 < m * d
    product_pos g zero b d e p q = absurd (omega arith)
    product_pos g (suc m) b d e p q = mul-pos {m = suc m} {n = d} (omega arith) q

pub sum-same : (p q : Fraction) → (p +ℚ q) =ℚ over (top p q) (multiple p q)
sum-same p q =
    let b = denominator p in
    let d = denominator q in
    let g = gcd b d in
    record {
      cross =
          ap₂ (λ (x : ℤ) (y : ℕ). x *ℤ pos y) (numerator-sum p q) (denominator-over (top p q) (multiple p q) (multiple_pos p q))
          ∙ sum_cross_at p.numerator q.numerator g (own p q) (others p q) b d (gcd-left b d) (gcd-right b d)
          ∙ ap₂ (λ (x : ℤ) (y : ℕ). x *ℤ pos y) (sym (numerator-over (top p q) (multiple p q))) (sym (denominator-sum p q));
    }

-- ---- lowest terms

-- what divides a sum and one of its parts divides the other
dvd-abs-part : (e : ℕ) (x y : ℤ) → e ∣ unsigned_abs (x +ℤ y) → e ∣ unsigned_abs y → e ∣ unsigned_abs x
dvd-abs-part e x y h k =
    let i = int_div (x +ℤ y) (pos e) in
    let j = int_div y (pos e) in
    let f : x +ℤ y ≡ i *ℤ pos e = sym (int_div-mul_cancel (x +ℤ y) e h) in
    let g : y ≡ j *ℤ pos e = sym (int_div-mul_cancel y e k) in
    let s : (i -ℤ j) *ℤ pos e ≡ i *ℤ pos e -ℤ j *ℤ pos e =
    solve (i ∷ j ∷ pos e ∷ []) ((Atom 0 ⊕ Minus (Atom 1)) ⊗ Atom 2) (Atom 0 ⊗ Atom 2 ⊕ Minus (Atom 1 ⊗ Atom 2)) refl
    in
    let m : x ≡ (i -ℤ j) *ℤ pos e = minus x y (i *ℤ pos e) (j *ℤ pos e) f g ∙ sym s in
    subst (λ (n : ℕ). e ∣ n) (sym (ap unsigned_abs m ∙ unsigned_abs-mul (i -ℤ j) (pos e))) (dvd-mul_left e (unsigned_abs (i -ℤ j)))
  where
    minus : (x y u v : ℤ) → x +ℤ y ≡ u → y ≡ v → x ≡ u -ℤ v
    minus x y u v e f = omega (arith, ints)

-- a*n + c*m shares nothing with m where neither a nor n does
top-apart : (a c : ℤ) (m n : ℕ) → gcd (unsigned_abs a) m ≡ 1 → gcd n m ≡ 1 → gcd (unsigned_abs (a *ℤ pos n +ℤ c *ℤ pos m)) m ≡ 1
top-apart a c m n h k =
    let t = a *ℤ pos n +ℤ c *ℤ pos m in
    let e = gcd (unsigned_abs t) m in
    let in_m : e ∣ m = gcd-dvd_right (unsigned_abs t) m in
    let in_right : e ∣ unsigned_abs (c *ℤ pos m) =
    subst (λ (i : ℕ). e ∣ i) (sym (unsigned_abs-mul c (pos m))) (dvd-mul_left_of_dvd e in_m (unsigned_abs c))
    in
    let in_left : e ∣ unsigned_abs a * n =
    subst (λ (i : ℕ). e ∣ i) (unsigned_abs-mul a (pos n)) (dvd-abs-part e (a *ℤ pos n) (c *ℤ pos m) (gcd-dvd_left (unsigned_abs t) m) in_right)
    in
    eq-one_of_dvd-one
    (subst (λ (i : ℕ). e ∣ i) (coprime-mul (unsigned_abs a) n m h k) (dvd-gcd e (unsigned_abs a * n) m in_left in_m))

-- so all that the sum shares with the multiple is what it shares with the common divisor of the denominators
shared_at : (a c : ℤ) (g m n b d : ℕ) → g * m ≡ b → g * n ≡ d → gcd m n ≡ 1 → gcd (unsigned_abs a) b ≡ 1 → gcd (unsigned_abs c) d ≡ 1 → gcd (unsigned_abs (a *ℤ pos n +ℤ c *ℤ pos m)) (m * d) ≡ gcd (unsigned_abs (a *ℤ pos n +ℤ c *ℤ pos m)) g
shared_at a c g m n b d e f h k l =
    let t = a *ℤ pos n +ℤ c *ℤ pos m in
    let m_in : m ∣ b = subst (λ (i : ℕ). m ∣ i) e (dvd-mul_left m g) in
    let n_in : n ∣ d = subst (λ (i : ℕ). n ∣ i) f (dvd-mul_left n g) in
    let apart_m : gcd (unsigned_abs t) m ≡ 1 =
    top-apart a c m n
    (gcd_comm (unsigned_abs a) m ∙ coprime-dvd b (unsigned_abs a) m (gcd_comm b (unsigned_abs a) ∙ k) m_in)
    (gcd_comm n m ∙ h)
    in
    let turned : unsigned_abs (c *ℤ pos m +ℤ a *ℤ pos n) ≡ unsigned_abs t = ap unsigned_abs (turn (c *ℤ pos m) (a *ℤ pos n)) in
    let apart_n : gcd (unsigned_abs t) n ≡ 1 =
    ap (λ (i : ℕ). gcd i n) (sym turned)
    ∙ top-apart c a n m
    (gcd_comm (unsigned_abs c) n ∙ coprime-dvd d (unsigned_abs c) n (gcd_comm d (unsigned_abs c) ∙ l) n_in)
    h
    in
    ap (λ (i : ℕ). gcd (unsigned_abs t) (m * i)) (sym f ∙ mul_comm g n)
    ∙ gcd-mul_coprime (unsigned_abs t) m (n * g) apart_m
    ∙ gcd-mul_coprime (unsigned_abs t) n g apart_n
  where
    turn : (x y : ℤ) → x +ℤ y ≡ y +ℤ x
    turn x y = omega (arith, ints)

pub shared_is : (p q : Fraction) → IsLowest p → IsLowest q → gcd (unsigned_abs (top p q)) (multiple p q) ≡ gcd (unsigned_abs (top p q)) (gcd (denominator p) (denominator q))
shared_is p q h k =
    let b = denominator p in
    let d = denominator q in
    shared_at p.numerator q.numerator (gcd b d) (own p q) (others p q) b d (gcd-left b d) (gcd-right b d)
    (coprime-rests b d (gcd_pos b d (denominator_pos q)))
    h.lowest
    k.lowest

pub reduce-over : (n : ℤ) (d : ℕ) → 0 < d → reduce (over n d) ≡ over (int_div n (pos (gcd (unsigned_abs n) d))) (d / gcd (unsigned_abs n) d)
unfolding reduce
reduce-over n d p =
    ap₂
    (λ (x : ℤ) (y : ℕ). let g = gcd (unsigned_abs x) y in over (int_div x (pos g)) (y / g))
    (numerator-over n d)
    (denominator-over n d p)

-- what the sum answers
pub sum-outcome : (p q : Fraction) → IsLowest p → IsLowest q → outcome Sum p q ≡ over (int_div (top p q) (pos (gcd (unsigned_abs (top p q)) (gcd (denominator p) (denominator q))))) (multiple p q / gcd (unsigned_abs (top p q)) (gcd (denominator p) (denominator q)))
unfolding outcome exact
sum-outcome p q h k =
    let t = top p q in
    let m = multiple p q in
    reduce-alike (sum-same p q)
    ∙ reduce-over t m (multiple_pos p q)
    ∙ ap (λ (g : ℕ). over (int_div t (pos g)) (m / g)) (shared_is p q h k)

-- ---- the numbers of the code

-- a and c are the numerators, read through their bits, d the second denominator, g the common divisor, m and n what it leaves
pub record At (p q : Fraction) (a c : ℤ) (d g m n : ℕ) : Type 0 where
  pub lowest_left : IsLowest p
  pub lowest_right : IsLowest q
  pub num_left : a ≡ p.numerator
  pub num_right : c ≡ q.numerator
  pub den_right : d ≡ denominator q
  pub common : g ≡ gcd (denominator p) (denominator q)
  pub own_is : m ≡ own p q
  pub others_is : n ≡ others p q

pub at : {p q : Fraction} {a c : ℤ} {b d g m n : ℕ} → AreParts a b → value_of a b ≡ p → AreParts c d → value_of c d ≡ q → g ≡ gcd b d → m ≡ b / g → n ≡ d / g → At p q (to_z w128 (of_z w128 a)) (to_z w128 (of_z w128 c)) d g m n
at {p} {q} {a} {c} {b} {d} {g} {m} {n} s v t w eg em en =
    let eb : denominator p ≡ b = den_is a b p s v in
    let ed : denominator q ≡ d = den_is c d q t w in
    let eh : g ≡ gcd (denominator p) (denominator q) = eg ∙ ap₂ (λ (i j : ℕ). gcd i j) (sym eb) (sym ed) in
    record {
      lowest_left = lowest-from_parts a b p s v;
      lowest_right = lowest-from_parts c d q t w;
      num_left = cast-back a s.num_fits ∙ sym (num_is a b p v);
      num_right = cast-back c t.num_fits ∙ sym (num_is c d q w);
      den_right = sym ed;
      common = eh;
      own_is = em ∙ ap₂ (λ (i j : ℕ). i / j) (sym eb) eh;
      others_is = en ∙ ap₂ (λ (i j : ℕ). i / j) (sym ed) eh;
    }

pub common_pos : (b : ℕ) {c : ℤ} {d g : ℕ} → AreParts c d → g ≡ gcd b d → 0 < g
common_pos b {c} {d} {g} t e = rw e (gcd_pos b d t.den_positive)

multiple_at : {p q : Fraction} {a c : ℤ} {d g m n : ℕ} → At p q a c d g m n → m * d ≡ multiple p q
multiple_at h = ap₂ (λ (i j : ℕ). i * j) h.own_is h.den_right

left_at : {p q : Fraction} {a c : ℤ} {d g m n : ℕ} → At p q a c d g m n → a *ℤ pos n ≡ left p q
left_at h = ap₂ (λ (i : ℤ) (j : ℕ). i *ℤ pos j) h.num_left h.others_is

right_at : {p q : Fraction} {a c : ℤ} {d g m n : ℕ} → At p q a c d g m n → c *ℤ pos m ≡ right p q
right_at h = ap₂ (λ (i : ℤ) (j : ℕ). i *ℤ pos j) h.num_right h.own_is

pub no_multiple : {p q : Fraction} {a c : ℤ} {d g m n : ℕ} → At p q a c d g m n → (m * d ≤ largest → ⊥) → IsFalse (is_wide_sum p q) → ⊥
no_multiple {p} {q} h none f = none (rw (multiple_at h) (fits-from_wide p q f).multiple_fits)

pub no_left : {p q : Fraction} {a c : ℤ} {d g m n : ℕ} → At p q a c d g m n → (unsigned_abs (a *ℤ pos n) ≤ largest → ⊥) → IsFalse (is_wide_sum p q) → ⊥
no_left {p} {q} h none f = none (rw (left_at h) (fits-from_wide p q f).left_fits)

pub no_right : {p q : Fraction} {a c : ℤ} {d g m n : ℕ} → At p q a c d g m n → (unsigned_abs (c *ℤ pos m) ≤ largest → ⊥) → IsFalse (is_wide_sum p q) → ⊥
no_right {p} {q} h none f = none (rw (right_at h) (fits-from_wide p q f).right_fits)

-- both parts as they come from the code: x fits and is a*n, y fits and is c*m
top_at : {p q : Fraction} {a c : ℤ} {d g m n : ℕ} → At p q a c d g m n → (x y : ℤ) → (unsigned_abs (a *ℤ pos n) ≤ largest) × (x ≡ a *ℤ pos n) → (unsigned_abs (c *ℤ pos m) ≤ largest) × (y ≡ c *ℤ pos m) → to_z w128 (of_z w128 x) +ℤ to_z w128 (of_z w128 y) ≡ top p q
top_at h x y l r =
    ap₂ (λ (i j : ℤ). i +ℤ j)
    (cast-back x (rw l.1 l.0) ∙ l.1 ∙ left_at h)
    (cast-back y (rw r.1 r.0) ∙ r.1 ∙ right_at h)

pub no_top : {p q : Fraction} {a c : ℤ} {d g m n : ℕ} → At p q a c d g m n → (x y : ℤ) → (unsigned_abs (a *ℤ pos n) ≤ largest) × (x ≡ a *ℤ pos n) → (unsigned_abs (c *ℤ pos m) ≤ largest) × (y ≡ c *ℤ pos m) → (unsigned_abs (to_z w128 (of_z w128 x) +ℤ to_z w128 (of_z w128 y)) ≤ largest → ⊥) → IsFalse (is_wide_sum p q) → ⊥
no_top {p} {q} h x y l r none f = none (rw (top_at h x y l r) (fits-from_wide p q f).top_fits)

-- all four fit: t is the sum over the multiple k
pub record FoundSum (p q : Fraction) (t : ℤ) (k : ℕ) : Type 0 where
  pub fits : Fits p q
  pub top_is : t ≡ top p q
  pub multiple_is : k ≡ multiple p q

pub found : {p q : Fraction} {a c : ℤ} {d g m n : ℕ} → At p q a c d g m n → (k : ℕ) (x y t : ℤ) → (m * d ≤ largest) × (k ≡ m * d) → (unsigned_abs (a *ℤ pos n) ≤ largest) × (x ≡ a *ℤ pos n) → (unsigned_abs (c *ℤ pos m) ≤ largest) × (y ≡ c *ℤ pos m) → (unsigned_abs (to_z w128 (of_z w128 x) +ℤ to_z w128 (of_z w128 y)) ≤ largest) × (t ≡ to_z w128 (of_z w128 x) +ℤ to_z w128 (of_z w128 y)) → FoundSum p q t k
found h k x y t i l r s = record {
  fits = record {
    multiple_fits = rw (← multiple_at h) i.0;
    left_fits = rw (← left_at h) l.0;
    right_fits = rw (← right_at h) r.0;
    top_fits = rw (← top_at h x y l r) s.0;
  };
  top_is = s.1 ∙ top_at h x y l r;
  multiple_is = i.1 ∙ multiple_at h;
}

outcome-lowest : (p q : Fraction) → IsLowest (outcome Sum p q)
unfolding outcome
outcome-lowest p q = reduce-lowest (exact Sum p q)

-- what the code answers after it took out s
pub sum_answers : {p q : Fraction} {a c : ℤ} {d g m n : ℕ} → At p q a c d g m n → (t : ℤ) (k s : ℕ) (r : ℤ) (e : ℕ) → FoundSum p q t k → s ≡ gcd (unsigned_abs t) g → r ≡ int_div t (pos s) → e ≡ k / s → Answers (outcome Sum p q) r e
sum_answers {p} {q} {a} {c} {d} {g} h t k s r e f es er ee =
    let i = top p q in
    let j = multiple p q in
    let u = gcd (unsigned_abs i) (gcd (denominator p) (denominator q)) in
    let eu : s ≡ u = es ∙ ap₂ (λ (x : ℤ) (y : ℕ). gcd (unsigned_abs x) y) f.top_is h.common in
    let in_multiple : u ∣ j =
    subst (λ (x : ℕ). x ∣ j) (shared_is p q h.lowest_left h.lowest_right) (gcd-dvd_right (unsigned_abs i) j)
    in
    let size : unsigned_abs (int_div i (pos u)) ≤ largest =
    rw (unsigned_abs-int_div i u) (le_trans (div-le_self (unsigned_abs i) u) f.fits.top_fits)
    in
    answers-from_over (outcome Sum p q) (int_div i (pos u)) (j / u) r e
    (er ∙ ap₂ (λ (x : ℤ) (y : ℕ). int_div x (pos y)) f.top_is eu)
    (ee ∙ ap₂ (λ (x y : ℕ). x / y) f.multiple_is eu)
    (sum-outcome p q h.lowest_left h.lowest_right)
    (div_pos j u in_multiple (multiple_pos p q))
    (outcome-lowest p q)
    size
    (le_trans (div-le_self j u) f.fits.multiple_fits)

int_div-one : (z : ℤ) → int_div z (pos 1) ≡ z
int_div-one (pos n) = ap pos (div-one n)
int_div-one (negsuc n) = ap (λ (m : ℕ). neg_ℤ (pos m)) (div-one (suc n))

-- with nothing in common there is nothing to take out
pub sum_answers_apart : {p q : Fraction} {a c : ℤ} {d g m n : ℕ} → At p q a c d g m n → (t : ℤ) (k : ℕ) → FoundSum p q t k → g ≡ 1 → Answers (outcome Sum p q) t k
sum_answers_apart h t k f one =
    sum_answers h t k 1 t k f
    (sym (gcd-one (unsigned_abs t)) ∙ ap (λ (x : ℕ). gcd (unsigned_abs t) x) (sym one))
    (sym (int_div-one t))
    (sym (div-one k))

pub top_back : {p q : Fraction} (t : ℤ) {k : ℕ} → FoundSum p q t k → to_z w128 (of_z w128 t) ≡ t
top_back t f = cast-back t (rw f.top_is f.fits.top_fits)

pub top_fits_back : {p q : Fraction} (t : ℤ) {k : ℕ} → FoundSum p q t k → unsigned_abs (to_z w128 (of_z w128 t)) ≤ largest
top_fits_back t f = rw (top_back t f) (rw f.top_is f.fits.top_fits)

-- the same where the code reads t through its bits
pub sum_answers_back : {p q : Fraction} {a c : ℤ} {d g m n : ℕ} → At p q a c d g m n → (t : ℤ) (k i s : ℕ) (r : ℤ) (e : ℕ) → FoundSum p q t k → i ≡ unsigned_abs (to_z w128 (of_z w128 t)) → s ≡ gcd i g → r ≡ int_div (to_z w128 (of_z w128 t)) (pos s) → e ≡ k / s → Answers (outcome Sum p q) r e
sum_answers_back {p} {q} {a} {c} {d} {g} h t k i s r e f ei es er ee =
    sum_answers h t k s r e f
    (es ∙ ap (λ (x : ℕ). gcd x g) (ei ∙ ap unsigned_abs (top_back t f)))
    (er ∙ ap (λ (x : ℤ). int_div x (pos s)) (top_back t f))
    ee

-- what is taken out is above 0
pub shared_pos : (i g s : ℕ) → 0 < g → s ≡ gcd i g → 0 < s
shared_pos i g s p e = rw e (gcd_pos i g p)

-- ---- whole numbers

pub found_whole : {p q : Fraction} {a c : ℤ} {b d : ℕ} → AreParts a b → value_of a b ≡ p → AreParts c d → value_of c d ≡ q → b ≡ 1 → d ≡ 1 → At p q (to_z w128 (of_z w128 a)) (to_z w128 (of_z w128 c)) d 1 1 1
found_whole {p} {q} {a} {c} {b} {d} s v t w eb ed =
    let one : 1 ≡ gcd b d = sym (ap₂ (λ (i j : ℕ). gcd i j) eb ed ∙ gcd-one 1) in
    at s v t w one (ap (λ (i : ℕ). i / 1) (sym eb)) (ap (λ (i : ℕ). i / 1) (sym ed))

-- the sum of the numerators is all there is to it
pub whole_top : {p q : Fraction} {a c : ℤ} {d : ℕ} → At p q a c d 1 1 1 → a +ℤ c ≡ top p q
whole_top {p} {q} {a} {c} h =
    ap₂ (λ (i j : ℤ). i +ℤ j) (sym (mul-one a) ∙ left_at h) (sym (mul-one c) ∙ right_at h)

pub no_whole_top : {p q : Fraction} {a c : ℤ} {d : ℕ} → At p q a c d 1 1 1 → (unsigned_abs (a +ℤ c) ≤ largest → ⊥) → IsFalse (is_wide_sum p q) → ⊥
no_whole_top {p} {q} h none f = none (rw (whole_top h) (fits-from_wide p q f).top_fits)

pub found_top : {p q : Fraction} {a c : ℤ} {d : ℕ} → At p q a c d 1 1 1 → d ≡ 1 → unsigned_abs a ≤ largest → unsigned_abs c ≤ largest → (t : ℤ) → (unsigned_abs (a +ℤ c) ≤ largest) × (t ≡ a +ℤ c) → FoundSum p q t 1
found_top {p} {q} {a} {c} {d} h ed fa fc t s =
    let k : 1 ≡ multiple p q = ap (λ (i : ℕ). 1 * i) (sym ed) ∙ multiple_at h in
    record {
      fits = record {
        multiple_fits = rw (← k) (omega arith);
        left_fits = rw (← left_at h) (rw (mul-one a) fa);
        right_fits = rw (← right_at h) (rw (mul-one c) fc);
        top_fits = rw (← whole_top h) s.0;
      };
      top_is = s.1 ∙ whole_top h;
      multiple_is = k;
    }

pub cast_fits : {a : ℤ} {b : ℕ} → AreParts a b → unsigned_abs (to_z w128 (of_z w128 a)) ≤ largest
cast_fits {a} s = rw (cast-back a s.num_fits) s.num_fits
