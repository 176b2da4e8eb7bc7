-- Products of integers: they are associative, distribute over sums and keep or turn the order.
use Rattle.std.proofs.Common.{sym, ◌∙◌, ◌≡◌, ℕ, ◌+◌, ◌*◌, ◌<◌, ◌≤◌, ℤ, pos, negsuc, ◌+ℤ◌, ◌*ℤ◌, neg_ℤ, ◌≤ℤ◌, ◌<ℤ◌, arith, ap, mul-lt-mul_of_pos_right, lt_of_mul-lt-mul_right, le_of_mul-le-mul_right}
use Rattle.std.proofs.Math.Nat.{mul-le-mul_right as nat-le-mul_right, eq_of_mul-eq-mul_right}
use Rattle.std.proofs.Math.IntN.{*ℤ_comm}
use Rattle.std.proofs.lemmas.Int.{ints}
use borrow.Author.Differences.{up, down, same_in, same_out, sum_is_lem, product_is, neg_is, below_in, at_most_in, lt_out, le_out}

-- ---- the ring

pub mul_assoc : (a b c : ℤ) → (a *ℤ b) *ℤ c ≡ a *ℤ (b *ℤ c)
mul_assoc a b c =
    let f = ap (λ (n : ℕ). n * up c) (product_is a b).0 in
    let g = ap (λ (n : ℕ). n * down c) (product_is a b).0 in
    let h = ap (λ (n : ℕ). n * up c) (product_is a b).1 in
    let i = ap (λ (n : ℕ). n * down c) (product_is a b).1 in
    let k = ap (λ (n : ℕ). up a * n) (product_is b c).0 in
    let l = ap (λ (n : ℕ). down a * n) (product_is b c).0 in
    let m = ap (λ (n : ℕ). up a * n) (product_is b c).1 in
    let o = ap (λ (n : ℕ). down a * n) (product_is b c).1 in
    same_in _ _ (omega (arith, product_is (a *ℤ b) c, product_is a (b *ℤ c)))

pub mul-add : (a b c : ℤ) → a *ℤ (b +ℤ c) ≡ a *ℤ b +ℤ a *ℤ c
mul-add a b c =
    let f = ap (λ (n : ℕ). up a * n) (sum_is_lem b c) in
    let g = ap (λ (n : ℕ). down a * n) (sum_is_lem b c) in
    same_in _ _
    (omega (arith, product_is a (b +ℤ c), product_is a b, product_is a c, sum_is_lem (a *ℤ b) (a *ℤ c)))

pub add-mul : (a b c : ℤ) → (a +ℤ b) *ℤ c ≡ a *ℤ c +ℤ b *ℤ c
add-mul a b c = rw (*ℤ_comm (a +ℤ b) c, *ℤ_comm a c, *ℤ_comm b c) (mul-add c a b)

pub mul-one : (a : ℤ) → a *ℤ pos 1 ≡ a
mul-one a = omega (arith, ints)

pub one-mul : (a : ℤ) → pos 1 *ℤ a ≡ a
one-mul a = omega (arith, ints)

pub minus_one-mul : (a : ℤ) → negsuc 0 *ℤ a ≡ neg_ℤ a
minus_one-mul a = omega (arith, ints)

-- the last two factors change places
pub mul_right_comm : (a b c : ℤ) → (a *ℤ b) *ℤ c ≡ (a *ℤ c) *ℤ b
mul_right_comm a b c = mul_assoc a b c ∙ ap (λ (z : ℤ). a *ℤ z) (*ℤ_comm b c) ∙ sym (mul_assoc a c b)

-- ---- order

-- products with a natural number
pub mul-le-mul_pos : (a b : ℤ) (n : ℕ) → a ≤ℤ b → (a *ℤ pos n) ≤ℤ (b *ℤ pos n)
mul-le-mul_pos a b n h =
    let m : (up a + down b) * n ≤ (up b + down a) * n = nat-le-mul_right n (le_out a b h) in
    at_most_in _ _ (omega (arith, product_is a (pos n), product_is b (pos n)))

pub mul-lt-mul_pos : (a b : ℤ) (n : ℕ) → 0 < n → a <ℤ b → (a *ℤ pos n) <ℤ (b *ℤ pos n)
mul-lt-mul_pos a b n p h =
    let m : (up a + down b) * n < (up b + down a) * n = mul-lt-mul_of_pos_right (lt_out a b h) p in
    below_in _ _ (omega (arith, product_is a (pos n), product_is b (pos n)))

pub le_of_mul-le-mul_pos : (a b : ℤ) (n : ℕ) → 0 < n → (a *ℤ pos n) ≤ℤ (b *ℤ pos n) → a ≤ℤ b
le_of_mul-le-mul_pos a b n p h =
    let m = le_out _ _ h in
    let e : (up a + down b) * n ≤ (up b + down a) * n = omega (arith, product_is a (pos n), product_is b (pos n)) in
    at_most_in _ _ (le_of_mul-le-mul_right e p)

pub lt_of_mul-lt-mul_pos : (a b : ℤ) (n : ℕ) → (a *ℤ pos n) <ℤ (b *ℤ pos n) → a <ℤ b
lt_of_mul-lt-mul_pos a b n h =
    let m = lt_out _ _ h in
    let e : (up a + down b) * n < (up b + down a) * n = omega (arith, product_is a (pos n), product_is b (pos n)) in
    below_in _ _ (lt_of_mul-lt-mul_right n e)

pub mul_pos_cancel : (a b : ℤ) (n : ℕ) → 0 < n → a *ℤ pos n ≡ b *ℤ pos n → a ≡ b
mul_pos_cancel a b n p e =
    let m = same_out _ _ e in
    let f : (up a + down b) * n ≡ (up b + down a) * n = omega (arith, product_is a (pos n), product_is b (pos n)) in
    same_in _ _ (eq_of_mul-eq-mul_right n p (up a + down b) (up b + down a) f)

-- products with an integer, by its sign
pub mul-le-mul_right : (a b c : ℤ) → pos 0 ≤ℤ c → a ≤ℤ b → (a *ℤ c) ≤ℤ (b *ℤ c)
mul-le-mul_right a b (pos n) p h = mul-le-mul_pos a b n h
mul-le-mul_right a b (negsuc n) p h = absurd p.le

pub mul-lt-mul_right : (a b c : ℤ) → pos 0 <ℤ c → a <ℤ b → (a *ℤ c) <ℤ (b *ℤ c)
mul-lt-mul_right a b (pos n) p h = mul-lt-mul_pos a b n (omega (arith, ints)) h
mul-lt-mul_right a b (negsuc n) p h = absurd p.lt

pub mul-neg : (a b : ℤ) → a *ℤ neg_ℤ b ≡ neg_ℤ (a *ℤ b)
mul-neg a b =
    let f = ap (λ (n : ℕ). up a * n) (neg_is b).0 in
    let g = ap (λ (n : ℕ). down a * n) (neg_is b).0 in
    let h = ap (λ (n : ℕ). up a * n) (neg_is b).1 in
    let i = ap (λ (n : ℕ). down a * n) (neg_is b).1 in
    same_in _ _ (omega (arith, product_is a (neg_ℤ b), product_is a b, neg_is (a *ℤ b)))

pub neg-mul : (a b : ℤ) → neg_ℤ a *ℤ b ≡ neg_ℤ (a *ℤ b)
neg-mul a b = rw (*ℤ_comm (neg_ℤ a) b, *ℤ_comm a b) (mul-neg b a)

pub mul-lt-mul_neg : (a b c : ℤ) → c <ℤ pos 0 → a <ℤ b → (b *ℤ c) <ℤ (a *ℤ c)
mul-lt-mul_neg a b c n h =
    let q : pos 0 <ℤ neg_ℤ c = omega (arith, ints) in
    let m = mul-lt-mul_right a b (neg_ℤ c) q h in
    let s : neg_ℤ (a *ℤ c) <ℤ neg_ℤ (b *ℤ c) = rw (← mul-neg a c, ← mul-neg b c) m in
    omega (arith, ints)
